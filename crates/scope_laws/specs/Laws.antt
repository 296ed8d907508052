-- The two definitions of scope agree: by the text, and by the declarations that are handed down the tree.
use Rattle.std.specs.Prelude.{◌≡◌, ◌≢◌, ℕ, ◌<◌, ◌≤◌, List, [], Option, Some, Contains, if◌then◌else◌}
use Rattle.std.specs.List.{All}
use Rattle.c_tree.specs.declared.place.Span.{Span}
use Rattle.c_tree.specs.Order.{ProgramIn}
use Rattle.c_tree.specs.Tree.{name, Outer}
use Rattle.c_types.specs.declared.kinds.Kind.TheVariants.{Number, Array}
use Rattle.c_types.specs.declared.scope.Declaration.{Declaration}
use Rattle.c_types.specs.declared.visible.Visible.{Visible}
use Rattle.c_types.specs.Expressions.{faults}
use Rattle.c_types.specs.Kinds.{kind}
use Rattle.c_types.specs.Programs.{program_faults}
use Rattle.c_types.specs.Slots.{resolved_tree}
use Rattle.c_types.specs.Uses.{uses}
use Rattle.c_types.specs.Visible.{visible_at}
use Rattle.scope_laws.specs.Seen.{visible_in, usable, IsMeant}
use Rattle.scope_laws.specs.Spots.{Spot, spots}

-- What is visible by the text is at a place of a program what these declarations make visible, in the same
-- order. So each variable that is visible there is the one that its word denotes, and each variable that a
-- word denotes is visible there; in a scalar's initialiser all but the one with that word.
pub record Sees (file : List Outer) (place : ℕ) (ds : List Declaration)
    (initialised : Option (List ℕ)) : Type 0 where
  pub same : visible_at place file ≡ usable initialised (visible_in ds)
  pub meant : All (IsMeant ds) (visible_at place file)
  pub complete : (v : Visible) → IsMeant ds v → initialised ≢ Some v.word
      → Contains (visible_at place file) v

-- a text that isn't empty, at each place of which the two agree
pub record SeesScope (file : List Outer) (u : Spot) : Type 0 where
  pub covers : u.text.from < u.text.to
  pub sees : (place : ℕ) → u.text.from ≤ place → place < u.text.to
      → Sees file place u.scope u.initialised

-- in a program in text order without a fault they agree where its expressions and statements stand
abbrev pub ScopesAgree : Type 0
ScopesAgree = (file : List Outer) (from to end : ℕ) → ProgramIn from to file
    → program_faults file end ≡ [] → All (SeesScope file) (spots file)

-- and so they do at each name in its expressions
abbrev pub UsesAgree : Type 0
UsesAgree = (file : List Outer) (from to end : ℕ) → ProgramIn from to file
    → program_faults file end ≡ [] → All (λ u. Sees file u.place u.scope u.initialised) (uses file)

-- the name of a variable that is what its word denotes: its kind, and no fault; it keeps its slot
pub record NameFits (ds : List Declaration) (v : Visible) (s : Span) : Type 0 where
  pub its_kind : kind ds (name v.word v.slot s) ≡ (if v.array then Array v.ty else Number)
  pub no_fault : faults ds (name v.word v.slot s) ≡ []
  pub its_slot : resolved_tree ds (name v.word v.slot s) ≡ name v.word v.slot s

-- the name of each variable that is visible fits where these declarations are in scope
abbrev pub NamesFit : Type 0
NamesFit = (ds : List Declaration) (v : Visible) → IsMeant ds v → (s : Span) → NameFits ds v s

-- the variables that declarations make visible are those that words denote
abbrev pub VisibleAreMeant : Type 0
VisibleAreMeant = (ds : List Declaration) → All (IsMeant ds) (visible_in ds)

abbrev pub MeantAreVisible : Type 0
MeantAreVisible = (ds : List Declaration) (v : Visible) → IsMeant ds v → Contains (visible_in ds) v
