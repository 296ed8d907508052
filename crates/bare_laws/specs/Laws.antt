-- Laws of programs that are the same but for spans, slots and the spelling of constants.
use Rattle.std.specs.Prelude.{◌≡◌, ℕ, List, [], map}
use Rattle.c_tree.specs.Tree.{Outer, bare_program}
use Rattle.c_types.specs.declared.fault.Fault.{Fault}
use Rattle.c_types.specs.declared.fault.FaultKind.{FaultKind}
use Rattle.c_types.specs.Evidence.{IsChecked}
use Rattle.c_types.specs.Programs.{program_faults}
use Rattle.c_types.specs.Slots.{resolved}
use Rattle.bare_laws.specs.Plain.{plain_program}

-- the kinds of faults, without their places
abbrev pub kinds_of : List Fault → List FaultKind
kinds_of = map (λ f. f.kind)

-- they have faults of the same kinds, in the same order, whatever the lengths of their sources
abbrev pub SameFaults : Type 0
SameFaults = (p q : List Outer) (m n : ℕ) → bare_program p ≡ bare_program q
    → kinds_of (program_faults p m) ≡ kinds_of (program_faults q n)

-- so where one has none, neither has the other
abbrev pub FaultlessAlike : Type 0
FaultlessAlike = (p q : List Outer) (m n : ℕ) → bare_program p ≡ bare_program q
    → program_faults p m ≡ [] → program_faults q n ≡ []

-- checked programs that are the same but for these have the same slots
abbrev pub SlotsAlike : Type 0
SlotsAlike = (p q : List Outer) → IsChecked p → IsChecked q → bare_program p ≡ bare_program q
    → plain_program p ≡ plain_program q

-- the program has no fault, and resolved it is a checked program, which is q but for spans and the
-- spelling of constants
pub record ChecksAs (q p : List Outer) : Type 0 where
  pub faultless : (end : ℕ) → program_faults p end ≡ []
  pub checked : IsChecked (resolved p)
  pub is_same : plain_program (resolved p) ≡ plain_program q

-- so it is with each program that is the same as a checked one
abbrev pub CheckedAlike : Type 0
CheckedAlike =
    (q p : List Outer) → IsChecked q → bare_program p ≡ bare_program q → ChecksAs q p
