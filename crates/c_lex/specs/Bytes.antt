-- The classes of bytes that tokens are made of (C11 5.2.1).
use Rattle.std.specs.Prelude.{ℕ, Bool, false, ◌||◌, ◌&&◌, ◌==◌, nat_le, List, [], ◌∷◌, codes}
use Prim.Native.Char.{code}
use Rattle.std.specs.Char.{is_ascii_digit, is_ascii_alphabetic}

-- some bytes of a source
abbrev pub Bytes : Type 0
Bytes = List ℕ

-- the byte is one of these
abbrev pub is_one_of : Bytes → ℕ → Bool
is_one_of [] b = false
is_one_of (c ∷ []) b = b == c
is_one_of (c ∷ d ∷ w) b = b == c || is_one_of (d ∷ w) b

-- white space: space, tab, line feed, vertical tab, form feed or carriage return
abbrev pub is_space : ℕ → Bool
is_space b = b == code " " || (nat_le (code "\t") b && nat_le b (code "\r"))

-- a letter or `_`
abbrev pub is_letter : ℕ → Bool
is_letter b = is_ascii_alphabetic b || b == code "_"

-- a letter, `_` or a digit
abbrev pub is_word : ℕ → Bool
is_word b = is_letter b || is_ascii_digit b

-- `+` or `-`
abbrev pub is_sign : ℕ → Bool
is_sign b = is_one_of (codes "+-") b

-- `e`, `E`, `p` or `P`
abbrev pub is_exponent : ℕ → Bool
is_exponent b = is_one_of (codes "eEpP") b
