-- The formats of `printf` (C11 7.21.6.1) and `scanf` (C11 7.21.6.2), as far as they are supported.
use Rattle.std.specs.Prelude.{ℕ, suc, ◌||◌, nat_eq, List, [], ◌∷◌, Option, Some, None, if◌then◌else◌, codes}
use Rattle.std.specs.Str.{bytes_eq}

-- the first byte of a text
abbrev pub byte : List ℕ → ℕ
byte [] = 0
byte (b ∷ bs) = b

-- one conversion more
abbrev pub one_more : Option ℕ → Option ℕ
one_more None = None
one_more (Some n) = Some (suc n)

-- How many conversions a format of `printf` has: `%d` and `%c` are one each, and `%%` is none. A format
-- with a zero byte or another `%` has no number.
abbrev mutual
  pub conversions : List ℕ → Option ℕ
  conversions [] = Some 0
  conversions (b ∷ bs) =
      if nat_eq b 0 then None
      else (if nat_eq b (byte (codes "%")) then after_percent bs else conversions bs)

  -- the same of what follows a `%`
  pub after_percent : List ℕ → Option ℕ
  after_percent [] = None
  after_percent (b ∷ bs) =
      if nat_eq b (byte (codes "d")) || nat_eq b (byte (codes "c"))
      then one_more (conversions bs)
      else (if nat_eq b (byte (codes "%")) then conversions bs else None)

-- how many conversions a format of `scanf` has: the one supported format is `%d`
abbrev pub scan_conversions : List ℕ → Option ℕ
scan_conversions text = if bytes_eq text (codes "%d") then Some 1 else None
