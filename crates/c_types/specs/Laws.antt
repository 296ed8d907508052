-- Laws of scopes and kinds.
use Rattle.std.specs.Prelude.{◌≡◌, ℕ, List, []}
use Rattle.std.specs.List.{All}
use Rattle.c_tree.specs.declared.expr.BinOp.{BinOp}
use Rattle.c_tree.specs.declared.place.Span.{Span}
use Rattle.c_tree.specs.Order.{ProgramIn}
use Rattle.c_tree.specs.Tree.{Tree, binary, Outer, bare_program}
use Rattle.c_types.specs.Alike.{TypedAlike}
use Rattle.c_types.specs.Evidence.{IsChecked}
use Rattle.c_types.specs.Programs.{program_faults}
use Rattle.c_types.specs.Slots.{resolved}
use Rattle.c_types.specs.Unresolved.{unresolved}
use Rattle.c_types.specs.Uses.{uses, IsResolved}

-- resolving a program changes its slots and nothing else
abbrev pub ResolvingChangesSlots : Type 0
ResolvingChangesSlots = (p : List Outer) → unresolved (resolved p) ≡ unresolved p

-- so the spans stay in text order
abbrev pub ResolvingKeepsOrder : Type 0
ResolvingKeepsOrder = (from to : ℕ) (p : List Outer) → ProgramIn from to p
    → ProgramIn from to (resolved p)

-- and without spans, slots and the spelling of constants the program is the same
abbrev pub ResolvingKeepsBare : Type 0
ResolvingKeepsBare = (p : List Outer) → bare_program (resolved p) ≡ bare_program p

-- the slots that a program had before don't matter
abbrev pub ResolvingIgnoresSlots : Type 0
ResolvingIgnoresSlots = (p : List Outer) → resolved (unresolved p) ≡ resolved p

-- so resolving it again changes nothing
abbrev pub ResolvingAgain : Type 0
ResolvingAgain = (p : List Outer) → resolved (resolved p) ≡ resolved p

-- the faults of a program are the same whatever its slots
abbrev pub FaultsIgnoreSlots : Type 0
FaultsIgnoreSlots = (p : List Outer) (end : ℕ)
    → program_faults (unresolved p) end ≡ program_faults p end

-- so resolving it changes none
abbrev pub ResolvingKeepsFaults : Type 0
ResolvingKeepsFaults = (p : List Outer) (end : ℕ)
    → program_faults (resolved p) end ≡ program_faults p end

-- a program without a fault, resolved, is a checked one
abbrev pub ResolvedIsChecked : Type 0
ResolvedIsChecked = (p : List Outer) (end : ℕ) → program_faults p end ≡ [] → IsChecked (resolved p)

-- in a checked program each name in an expression has the slot of a variable that is in scope there
abbrev pub NamesAreResolved : Type 0
NamesAreResolved = (p : List Outer) → IsChecked p → All IsResolved (uses p)

-- an expression with another operator between the same operands is typed alike
abbrev pub OperatorsAreTypedAlike : Type 0
OperatorsAreTypedAlike = (old new : BinOp) (l r : Tree) (s : Span)
    → TypedAlike (binary old l r s) (binary new l r s)
