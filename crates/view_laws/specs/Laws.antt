-- What a view shows where a machine says that a hole is due.
use Rattle.std.specs.Prelude.{◌≡◌, ℕ, ℤ, Bool, true, false, List, length, All, Contains, Option, Some, IsSome, IsSomeAnd}
use Rattle.c_tree.specs.declared.place.Loc.{Loc}
use Rattle.c_tree.specs.declared.stmt.Slot.{Slot}
use Rattle.c_tree.specs.declared.stmt.Ty.{Ty}
use Rattle.c_tree.specs.Tree.{Outer}
use Rattle.c_types.specs.declared.scope.Entity.TheVariants.{Variable}
use Rattle.c_types.specs.declared.visible.Visible.{Visible}
use Rattle.c_types.specs.Evidence.{IsChecked, IsOrdered}
use Rattle.c_types.specs.Reads.{Object, element_at}
use Rattle.c_types.specs.Scopes.{denoted}
use Rattle.c_types.specs.Uses.{Use}
use Rattle.c_types.specs.Visible.{visible_at}
use Rattle.c_location.specs.Locations.{locations}
use Rattle.c_stdio.specs.declared.test.Test.{Test}
use Rattle.c_meaning.specs.Laws.{FitsCell}
use Rattle.c_meaning.specs.World.{World}
use Rattle.hole_laws.specs.Laws.{ShowsLocation}
use Rattle.hole_laws.specs.Places.{part_uses, HoleStands}
use Rattle.interp_code.specs.Shown.{Flat, StandsFor}
use Rattle.interp.specs.declared.machine.Event.TheVariants.{Hole}
use Rattle.interp.specs.declared.machine.Machine.{Machine}
use Rattle.interp.specs.declared.machine.View.{View}
use Rattle.interp.specs.Future.{next_event, next_state, Follows}
use Rattle.interp.specs.Seen.{seen, cells_in}

-- A machine that has had some answers runs code of a checked program in text order with a hole at
-- one of its locations, and what it says next is that the hole is due.
pub record ComesToHole (m : Machine) (p : List Outer) (l : Loc) : Type 0 where
  pub code : Flat
  pub test : Test
  pub limit : ℕ
  pub given : List (Option ℤ)
  pub follows : Follows m code test limit given
  pub stands : StandsFor code (Some l) p
  pub checked : IsChecked p
  pub ordered : IsOrdered p
  pub location : Contains (locations p) l
  pub old : Option ℤ
  pub due : next_event m ≡ Hole old

-- Its state is then one that has an object for each variable that is visible at the location, and
-- for each that what stands there names, with values of the variable's type alone.
abbrev pub StatesShowLocations : Type 0
StatesShowLocations = (m : Machine) (p : List Outer) (l : Loc) → ComesToHole m p l →
    ShowsLocation p l (next_state m)

-- a variable can be read in a state
pub record IsReadable (w : World) (slot : Slot) (ty : Ty) (array : Bool) : Type 0 where
  -- it has cells, one unless it is an array, each uninitialised or with a value of its type
  pub cells : Object
  pub shown : cells_in slot w ≡ Some cells
  pub single : array ≡ false → length cells ≡ 1
  pub values : All (FitsCell ty) cells
  -- so there is what `scalar` and `element` of `Reads` ask for
  pub scalar : array ≡ false → IsSomeAnd (cells_in slot w) (λ object. length object ≡ 1)
  pub element : IsSome (cells_in slot w)
  -- and they give nothing or a value of its type
  pub fits : (index : ℤ) → FitsCell ty (element_at (cells_in slot w) index)

-- so can the variable that a name denotes; it is an array where an element is meant
pub record IsReadableName (w : World) (u : Use) : Type 0 where
  pub ty : Ty
  pub array : Bool
  pub denotes : denoted u.scope u.word ≡ Some (Variable u.slot ty array)
  pub readable : IsReadable w u.slot ty array
  pub indexed : u.element ≡ true → array ≡ true

-- so can each variable that is visible at a location, and each that what stands there names
pub record ReadsLocation (p : List Outer) (l : Loc) (w : World) : Type 0 where
  pub visible : All (λ (v : Visible). IsReadable w v.slot v.ty v.array) (visible_at l.at.from p)
  pub hole : HoleStands p l
  pub named : All (IsReadableName w)
      (part_uses hole.scope hole.stands.initialised hole.stands.part)

-- All of these can be read in a view of the machine once it has said that the hole is due.
abbrev pub ViewsReadLocations : Type 0
ViewsReadLocations = (m : Machine) (p : List Outer) (l : Loc) → ComesToHole m p l →
    (view : View) → seen view ≡ next_state m → ReadsLocation p l (seen view)
