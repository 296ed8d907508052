-- What contracts see of the files of the host.
use Rattle.std.specs.Prelude.{ℕ, Bool}

-- how many failures there were, and whether a file is chosen
pub record Desk : Type 0 where
  pub faults : ℕ
  pub is_chosen : Bool
