-- Laws of checked programs with a hole at a location.
use Rattle.std.specs.Prelude.{◌≡◌, ℕ, ℤ, Bool, true, List, All, Contains, Option, Some}
use Rattle.c_tree.specs.declared.place.Loc.{Loc}
use Rattle.c_tree.specs.declared.stmt.Ty.{Ty}
use Rattle.c_tree.specs.Tree.{Outer}
use Rattle.c_types.specs.declared.scope.Entity.TheVariants.{Variable}
use Rattle.c_types.specs.declared.visible.Visible.{Visible}
use Rattle.c_types.specs.Evidence.{IsChecked, IsOrdered}
use Rattle.c_types.specs.Scopes.{denoted}
use Rattle.c_types.specs.Uses.{Use}
use Rattle.c_types.specs.Visible.{visible_at}
use Rattle.c_location.specs.Locations.{locations}
use Rattle.c_stdio.specs.declared.test.Test.{Test}
use Rattle.c_meaning.specs.Filled.{holed, holed_at, filled}
use Rattle.c_meaning.specs.Laws.{FitsWorld}
use Rattle.c_meaning.specs.Meaning.{Filling, run_program}
use Rattle.c_meaning.specs.World.{World, waiting}
use Rattle.run_laws.specs.Laws.{ShowsVariable}
use Rattle.run_laws.specs.Typed.{IsSteady, KeepsNumbers}
use Rattle.hole_laws.specs.Places.{part_uses, HoleStands}

-- a checked program with a hole at a location, or with none, is a checked program
abbrev pub HoledIsChecked : Type 0
HoledIsChecked = (p : List Outer) → IsChecked p → (l : Option Loc) → IsChecked (holed_at l p)

-- in a checked program in text order the hole at a location stands where the location does
abbrev pub HolesStand : Type 0
HolesStand = (p : List Outer) → IsChecked p → IsOrdered p
    → (l : Loc) → Contains (locations p) l → HoleStands p l

-- the variable that a name denotes has its object, with values of its type alone; it is an array
-- where an element is meant
pub record ShowsName (w : World) (u : Use) : Type 0 where
  pub ty : Ty
  pub array : Bool
  pub denotes : denoted u.scope u.word ≡ Some (Variable u.slot ty array)
  pub shows : ShowsVariable w u.slot ty array
  pub indexed : u.element ≡ true → array ≡ true

-- a state has an object for each variable that is visible at a location, and for each that what
-- stands there names, of that variable's type, and of one cell unless it is an array; and each
-- number in it is a value of that type
pub record ShowsLocation (p : List Outer) (l : Loc) (w : World) : Type 0 where
  pub visible : All (λ (v : Visible). ShowsVariable w v.slot v.ty v.array) (visible_at l.at.from p)
  pub hole : HoleStands p l
  pub named : All (ShowsName w)
      (part_uses hole.scope hole.stands.initialised hole.stands.part)

-- so it is wherever a run of such a program with a hole at a location waits, whatever the holes did
-- before, as long as they left the variables their objects and their numbers values of their types
abbrev pub WaitingRunsShowLocations : Type 0
WaitingRunsShowLocations = (p : List Outer) → IsChecked p → IsOrdered p
    → (l : Loc) → Contains (locations p) l
    → (filling : Filling) → IsSteady filling → KeepsNumbers filling
    → (old : Option ℤ) (w x : World) → FitsWorld w
    → run_program filling (holed l p) w ≡ waiting old x → ShowsLocation p l x

-- and so it is where the hole is given answers, as many as there are, and the run waits after them
abbrev pub FilledRunsShowLocations : Type 0
FilledRunsShowLocations = (p : List Outer) → IsChecked p → IsOrdered p
    → (l : Loc) → Contains (locations p) l
    → (t : Test) (limit : ℕ) (answers : List (Option ℤ)) (old : Option ℤ) (x : World)
    → filled p (Some l) t limit answers ≡ waiting old x → ShowsLocation p l x
