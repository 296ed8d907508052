-- Laws of the runs of checked programs. A program with a hole may be one, though no text is that
-- program.
use Rattle.std.specs.Prelude.{⊤, ◌≡◌, ℕ, ℤ, Bool, true, List, [], ◌++◌, All, Contains, Option, Some, if◌then◌else◌}
use Rattle.c_tree.specs.declared.stmt.Slot.{Slot}
use Rattle.c_tree.specs.declared.stmt.Ty.{Ty}
use Rattle.c_tree.specs.Tree.{Tree, Code, Outer}
use Rattle.c_types.specs.declared.scope.Entity.TheVariants.{Variable}
use Rattle.c_types.specs.Evidence.{IsChecked, IsOrdered}
use Rattle.c_types.specs.Formats as kinds
use Rattle.c_types.specs.Scopes.{denoted}
use Rattle.c_types.specs.Slots.{resolved_tree, resolved_code}
use Rattle.c_types.specs.Statements.{code_faults}
use Rattle.c_types.specs.Expressions.{as_number, as_void, faults}
use Rattle.c_types.specs.Found.{code_found}
use Rattle.c_types.specs.Uses.{Use, uses}
use Rattle.c_stdio.specs.Formats as printing
use Rattle.c_meaning.specs.World.{World, Out, going, over, waiting}
use Rattle.c_meaning.specs.Meaning.{Filling, exec, calls, run_program}
use Rattle.c_meaning.specs.Laws.{FitsCell, FitsWorld}
use Rattle.run_laws.specs.Typed.{HasObject, IsTypedBy, IsSteady, KeepsNumbers}
use Rattle.run_laws.specs.Holes.{Names, holes, of_holes}
use Rattle.run_laws.specs.Places.{file_scope, IsThere, IsScopeIn}
use Rattle.run_laws.specs.Reads.{Finds}
use Rattle.run_laws.specs.Bodies.{in_calls, RunFinds}
use Rattle.run_laws.specs.Passing.{PassesByName, written_calls}

-- a state is typed by one of these scopes
pub record IsTypedByOne (scopes : List Names) (w : World) : Type 0 where
  pub scope : Names
  pub is_scope : Contains scopes scope
  pub typed : IsTypedBy scope w

-- Wherever a run of a checked program waits for a hole, each variable that is in scope at the hole
-- has its object, whatever the holes did before, as long as they left the variables their objects.
-- Where the program has one hole, the scope is that hole's.
abbrev pub HolesAreTyped : Type 0
HolesAreTyped = (p : List Outer) → IsChecked p → (filling : Filling) → IsSteady filling
    → (old : Option ℤ) (w x : World) → run_program filling p w ≡ waiting old x
    → IsTypedByOne (holes p) x

-- and each number in a cell is a value of the cell's type there
abbrev pub HolesFit : Type 0
HolesFit = (p : List Outer) (filling : Filling) → KeepsNumbers filling
    → (old : Option ℤ) (w x : World) → FitsWorld w → run_program filling p w ≡ waiting old x
    → FitsWorld x

-- the slot of a name names an object of the variable that its word denotes: of its type, and of one
-- cell unless it is an array, as it is where an element is meant
pub record NameHasObject (u : Use) (w : World) : Type 0 where
  pub ty : Ty
  pub array : Bool
  pub denotes : denoted u.scope u.word ≡ Some (Variable u.slot ty array)
  pub has : HasObject w u.slot ty array
  pub indexed : u.element ≡ true → array ≡ true

-- in a state that is typed by the scope of a name, the slot of the name names an object
abbrev pub NamesHaveObjects : Type 0
NamesHaveObjects = (p : List Outer) → IsChecked p
    → All (λ (u : Use). (w : World) → IsTypedBy u.scope w → NameHasObject u w) (uses p)

-- a variable has its object, and each number in a cell of it is a value of the variable's type
pub record ShowsVariable (w : World) (slot : Slot) (ty : Ty) (array : Bool) : Type 0 where
  pub has : HasObject w slot ty array
  pub values : All (FitsCell ty) has.object.cells

-- a state that is typed by a scope shows each variable that is visible there (C11 6.2.1p4)
abbrev pub TypedStatesShowVariables : Type 0
TypedStatesShowVariables = (ds : Names) (w : World) → IsTypedBy ds w → FitsWorld w
    → (word : List ℕ) (slot : Slot) (ty : Ty) (array : Bool)
    → denoted ds word ≡ Some (Variable slot ty array) → ShowsVariable w slot ty array

-- a part of a run ends in a state that is typed by a scope, or waits in one that is typed by the
-- scope of a hole
abbrev pub EndsTyped : {A : Type 0} → List Names → Names → Out A → Type 0
EndsTyped scopes ds (going a x) = IsTypedBy ds x
EndsTyped scopes ds (over e x) = ⊤
EndsTyped scopes ds (waiting old x) = IsTypedByOne scopes x

-- A statement without a fault, resolved, run in such a program from a state that is typed by its
-- scope and that of the file, ends in a state that is typed by its scope.
abbrev pub StatementsKeepTypes : Type 0
StatementsKeepTypes = (p : List Outer) → IsChecked p → (filling : Filling) → IsSteady filling
    → (left n : ℕ) (ds : Names) → IsScopeIn p n ds
    → (ret : Option Ty) (in_loop : Bool) (c : Code) → code_faults ret ds in_loop c ≡ []
    → resolved_code ds n c ≡ c
    → (w : World) → IsTypedBy ds w → IsTypedBy (file_scope p) w
    → EndsTyped (code_found of_holes ds c ++ holes p) ds (exec filling p (calls filling p left) c w)

-- An expression without a fault, which is a number, or where its value isn't wanted perhaps a call
-- without a result, in which each name has its slot, evaluated in such a program from a state that
-- is typed by its scope and that of the file: each slot that is read, written or passed then names
-- a live object, which has one cell where a number is meant, what is called is there and takes its
-- arguments, and so it is in the functions that it calls.
abbrev pub ExpressionsFindObjects : Type 0
ExpressionsFindObjects = (p : List Outer) → IsChecked p → (filling : Filling) → IsSteady filling
    → (left n : ℕ) (ds : Names) → IsScopeIn p n ds → All (IsThere p) ds
    → (wanted : Bool) (e : Tree) → (if wanted then as_number ds e else as_void ds e) ≡ []
    → faults ds e ≡ [] → resolved_tree ds e ≡ e
    → (w : World) → IsTypedBy ds w → IsTypedBy (file_scope p) w
    → Finds filling p (calls filling p left) (in_calls filling p left) wanted e w

-- In a run of such a program each slot that is read, written or passed names a live object, which
-- has one cell where a number is meant, what is called is there and takes its arguments, an object
-- has a cell for each of its initialisers, and control leaves a function's body as it may: in
-- whatever state the run begins, and whatever its holes do, as long as they leave the variables
-- their objects.
abbrev pub RunsFindObjects : Type 0
RunsFindObjects = (p : List Outer) → IsChecked p → (filling : Filling) → IsSteady filling
    → (w : World) → RunFinds filling p w

-- In each call that is written in a checked program, what stands at an array parameter of the
-- definition that is called is the name of an array of the parameter's type (C11 6.7.6.3p7).
abbrev pub ArraysArePassedByName : Type 0
ArraysArePassedByName = (p : List Outer) → IsChecked p → All (PassesByName p) (written_calls p)

-- a program whose parts stand in text order, as those of a parsed source do, has no hole
abbrev pub OrderedProgramsHaveNoHole : Type 0
OrderedProgramsHaveNoHole = (p : List Outer) → IsOrdered p → holes p ≡ []

-- where such a program has no hole, none is met in its run: whatever holes do, the run is the same
abbrev pub NoHoleIsMet : Type 0
NoHoleIsMet = (p : List Outer) → IsChecked p → holes p ≡ []
    → (f g : Filling) (w : World) → run_program f p w ≡ run_program g p w

-- the rules of kinds and the printing count the conversions of a format alike (C11 7.21.6.1)
abbrev pub FormatsAgree : Type 0
FormatsAgree = (text : List ℕ) → kinds.conversions text ≡ printing.conversions text
