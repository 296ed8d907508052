-- A test under way.
use Rattle.std.specs.Prelude.{ℕ, ℤ, pos, negsuc, List, [], ◌∷◌}

-- a test under way: the bytes that are unread, and the bytes that have still to be written
pub record Io : Type 0 where
  pub input : List ℕ
  pub expected : List ℕ

-- the next byte of an input, or -1 at its end (C11 7.21.7.6)
abbrev pub next_byte : List ℕ → ℤ
next_byte [] = negsuc 0
next_byte (byte ∷ input) = pos byte
