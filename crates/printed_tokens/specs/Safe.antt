-- Texts that hold no trigraph and no line splice, and make none with what follows them.
use Rattle.std.specs.Prelude.{◌≡◌, ◌≤◌, true, length}
use Rattle.c_lex.specs.Bytes.{Bytes}
use Rattle.c_lex.specs.Places.{IsNowhere, is_refused}
use Rattle.c_splice.specs.Edges.{is_calm}

-- a text is safe that isn't empty, holds no trigraph and no line splice, and makes none with what
-- follows it
pub record IsSafe (x : Bytes) : Type 0 where
  pub clean : IsNowhere is_refused x
  pub calm : is_calm x ≡ true
  pub some : 1 ≤ length x
