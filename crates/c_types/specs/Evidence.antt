-- What is known of a checked program.
use Rattle.std.specs.Prelude.{◌≡◌, ℕ, List, []}
use Rattle.c_tree.specs.Order.{ProgramIn}
use Rattle.c_tree.specs.Tree.{Outer}
use Rattle.c_types.specs.Programs.{program_faults}
use Rattle.c_types.specs.Slots.{resolved}

-- a program without a fault, whatever the length of its source, in which each name has the slot of the
-- variable that it denotes; its parts need not stand in a text
pub record IsChecked (p : List Outer) : Type 0 where
  pub faultless : (end : ℕ) → program_faults p end ≡ []
  pub is_resolved : resolved p ≡ p

-- a program whose parts stand in text order, in a source of some length
pub record IsOrdered (p : List Outer) : Type 0 where
  pub end : ℕ
  pub placed : ProgramIn 0 end p
