-- The laws of locations, for programs whose spans are in text order.
use Rattle.std.specs.Prelude.{◌≡◌, ℕ, List}
use Rattle.std.specs.List.{Contains}
use Rattle.c_tree.specs.declared.place.Loc.{Loc}
use Rattle.c_tree.specs.Order.{ProgramIn}
use Rattle.c_tree.specs.Tree.{Outer}
use Rattle.c_location.specs.Locations.{locations}
use Rattle.c_location.specs.Rewrites.{Rewrite, rewritten}
use Rattle.c_location.specs.OnePlace.{NamesOnePlace, Rising}

-- locations rise strictly in their first bytes
abbrev pub LocationsRise : Type 0
LocationsRise = (from to : ℕ) (p : List Outer) → ProgramIn from to p → Rising (locations p)

-- each location names one place
abbrev pub EachNamesOnePlace : Type 0
EachNamesOnePlace = (from to : ℕ) (p : List Outer) (l : Loc) → ProgramIn from to p →
    Contains (locations p) l → NamesOnePlace l p

-- two locations that begin at the same byte are the same
abbrev pub OneAtEachByte : Type 0
OneAtEachByte = (from to : ℕ) (p : List Outer) (a b : Loc) → ProgramIn from to p
    → Contains (locations p) a → Contains (locations p) b → a.at.from ≡ b.at.from → a ≡ b

-- nothing changes at what is no location of the program, in whatever order its spans are
abbrev pub NothingElsewhere : Type 0
NothingElsewhere =
    (p : List Outer) (l : Loc) (r : Rewrite) → ¬ Contains (locations p) l → rewritten l r p ≡ p
