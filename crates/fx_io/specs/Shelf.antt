-- What contracts see of files and of a sink in memory.
use Rattle.std.specs.Prelude.{ℕ, List, Option}
use Rattle.fx_io.specs.Plan.{Plan}

-- the files with their names, the chosen one and the place in it, the most bytes of a read, and the plan of failures
pub record Shelf : Type 0 where
  pub files : List (List ℕ × List ℕ)
  pub at : Option (List ℕ × ℕ)
  pub chunk : ℕ
  pub plan : Plan

-- the bytes so far, how many more there is room for, the most bytes of a write, and the plan of failures
pub record Tray : Type 0 where
  pub written : List ℕ
  pub room : ℕ
  pub chunk : ℕ
  pub plan : Plan
