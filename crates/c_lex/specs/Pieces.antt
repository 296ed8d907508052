-- The pieces that a text is cut into: its preprocessing tokens (C11 6.4).
use Rattle.std.specs.Prelude.{◌≡◌, ℕ, Bool, true, false, ◌||◌, ◌&&◌, ◌==◌, ◌≤◌, [], ◌∷◌, ◌++◌, length}
use Prim.Native.Char.{code}
use Rattle.std.specs.Char.{is_ascii_digit}
use Rattle.c_lex.specs.declared.token.Punct.{Punct}
use Rattle.c_lex.specs.Bytes.{Bytes, is_letter, is_word, is_sign, is_exponent}
use Rattle.c_lex.specs.Spellings.{punct_spelling}

-- in a word, a letter, `_` or digit follows whatever byte
abbrev pub goes_on_word : ℕ → ℕ → Bool
goes_on_word before b = is_word b

-- in a number, a letter, `_`, digit or `.` follows whatever byte, and a sign follows e, E, p or P
abbrev pub goes_on_number : ℕ → ℕ → Bool
goes_on_number before b = is_word b || b == code "." || (is_sign b && is_exponent before)

-- after the byte `before`, each byte may follow the one before it
abbrev pub is_chain : (ℕ → ℕ → Bool) → ℕ → Bytes → Bool
is_chain goes_on before [] = true
is_chain goes_on before (b ∷ w) = goes_on before b && is_chain goes_on b w

-- an identifier or a keyword: a letter or `_`, and what goes on a word (C11 6.4.2.1)
abbrev pub is_identifier : Bytes → Bool
is_identifier [] = false
is_identifier (b ∷ w) = is_letter b && is_chain goes_on_word b w

-- a preprocessing number that begins with a digit (C11 6.4.8)
abbrev pub is_number : Bytes → Bool
is_number [] = false
is_number (b ∷ w) = is_ascii_digit b && is_chain goes_on_number b w

-- some bytes that can be a piece of a text
pub data IsPiece : Bytes → Type 0 where
  identifier : {w : Bytes} → is_identifier w ≡ true → IsPiece w
  number : {w : Bytes} → is_number w ≡ true → IsPiece w
  punctuator : {w : Bytes} (p : Punct) → w ≡ punct_spelling p → IsPiece w

-- w is the longest piece that stands at the start of w ++ rest (C11 6.4p4)
pub record IsLongest (w rest : Bytes) : Type 0 where
  pub piece : IsPiece w
  pub longest : (v z : Bytes) → w ++ rest ≡ v ++ z → IsPiece v → length v ≤ length w
