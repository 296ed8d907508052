-- States in which the variables that are in scope have their objects.
use Rattle.std.specs.Prelude.{⊤, ◌≡◌, ℕ, ℤ, List, length, All, slice_get, Option, Some, Bool, false}
use Rattle.c_tree.specs.declared.stmt.Slot.{Slot}
use Rattle.c_tree.specs.declared.stmt.Ty.{Ty}
use Rattle.c_types.specs.declared.scope.Declaration.{Declaration}
use Rattle.c_types.specs.declared.scope.Entity.{Entity}
use Rattle.c_types.specs.declared.scope.Entity.TheVariants.{Variable, Function, Library, Printf, Scanf}
use Rattle.c_meaning.specs.World.{Object, World, Out, going, over, waiting}
use Rattle.c_meaning.specs.Steps.{number_of}
use Rattle.c_meaning.specs.Meaning.{Filling}
use Rattle.c_meaning.specs.Laws.{FitsWorld, FitsOut}

-- the slot of a variable names a live object of the variable's type (C11 6.2.4); it has one cell,
-- unless the variable is an array
pub record HasObject (w : World) (slot : Slot) (ty : Ty) (array : Bool) : Type 0 where
  pub number : ℕ
  pub object : Object
  pub names : number_of slot w ≡ Some number
  pub lives : slice_get w.objects number ≡ Some object
  pub typed : object.ty ≡ ty
  pub single : array ≡ false → length object.cells ≡ 1

-- the slot of a variable names a live object of so many cells
pub record HasCells (w : World) (slot : Slot) (count : ℕ) : Type 0 where
  pub number : ℕ
  pub object : Object
  pub names : number_of slot w ≡ Some number
  pub lives : slice_get w.objects number ≡ Some object
  pub many : length object.cells ≡ count

-- what a name denotes has its object, if it is a variable
abbrev pub EntityHasObject : World → Entity → Type 0
EntityHasObject w (Variable slot ty array) = HasObject w slot ty array
EntityHasObject w (Function ret params body defined) = ⊤
EntityHasObject w (Library ret params) = ⊤
EntityHasObject w Printf = ⊤
EntityHasObject w Scanf = ⊤

-- each variable that is declared in a scope or around it has its object
abbrev pub IsTypedBy : List Declaration → World → Type 0
IsTypedBy ds w = All (λ (d : Declaration). EntityHasObject w d.entity) ds

-- an object is still live, with the same type and as many cells
pub record LivesOn (x : World) (number : ℕ) (old : Object) : Type 0 where
  pub object : Object
  pub lives : slice_get x.objects number ≡ Some object
  pub same_type : object.ty ≡ old.ty
  pub same_length : length object.cells ≡ length old.cells

-- from one state to another these slots name what they named, and each object lives on; values may
-- change, and objects may be made
pub record Keeps (slots : Slot → Type 0) (w x : World) : Type 0 where
  pub names : (slot : Slot) → slots slot → number_of slot x ≡ number_of slot w
  pub lives : (number : ℕ) (object : Object) → slice_get w.objects number ≡ Some object →
      LivesOn x number object

-- every slot
abbrev pub every_slot : Slot → Type 0
every_slot slot = ⊤

-- what is done from a state leaves each variable its object, where the run goes on, and where it
-- waits
abbrev pub KeepsObjects : {A : Type 0} → World → Out A → Type 0
KeepsObjects w (going a x) = Keeps every_slot w x
KeepsObjects w (over e x) = ⊤
KeepsObjects w (waiting old x) = Keeps every_slot w x

-- what holes do leaves each variable its object
pub record IsSteady (filling : Filling) : Type 0 where
  pub by : (old : Option ℤ) (w : World) → KeepsObjects w (filling old w)

-- what holes do keeps each number in a cell a value of the cell's type
pub record KeepsNumbers (filling : Filling) : Type 0 where
  pub by : (old : Option ℤ) (w : World) → FitsWorld w → FitsOut (filling old w)
