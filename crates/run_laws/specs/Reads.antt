-- In the evaluation of an expression the slot of each name that is read, written or passed names a
-- live object, which has one cell where a number is meant, what is written to is a place, and each
-- function that is called is there, takes the arguments, and has a result where one is wanted.
use Rattle.std.specs.Prelude.{⊤, ◌≡◌, ◌≢◌, ℕ, ℤ, pos, List, [], ◌∷◌, map, length, slice_get, codes, Some, None, Bool, true, false}
use Rattle.c_tree.specs.declared.place.Span.{Span}
use Rattle.c_tree.specs.declared.program.Param.{Param}
use Rattle.c_tree.specs.declared.stmt.Slot.{Slot}
use Rattle.c_tree.specs.declared.stmt.Ty.{Ty}
use Rattle.c_tree.specs.declared.stmt.Ty.TheVariants.{Int}
use Rattle.c_tree.specs.Tree.{Tree, constant, name, index, call, unary, cast, binary, choice, assign, bump, comma, hole, hole_after, Args, no_args, value, format, address, Body, Function, Outer}
use Rattle.c_arith.specs.Arith.{is_zero}
use Rattle.c_types.specs.Library as names
use Rattle.c_types.specs.Scopes.{is_declared}
use Rattle.c_stdio.specs.Formats.{conversions}
use Rattle.c_meaning.specs.declared.argument.Argument.{Argument}
use Rattle.c_meaning.specs.declared.argument.Argument.TheVariants.{Number, Array, Format, Place}
use Rattle.c_meaning.specs.World.{Object, World, Out, going, over, waiting, used}
use Rattle.c_meaning.specs.Meaning.{Filling, Called, decided, slot_of, definition, params_of, takes_array, rest_of, passed, eval, index_of, evals}
use Rattle.run_laws.specs.Typed.{HasObject}

-- what holds after a part of a run, if it goes on
abbrev pub Then : {A : Type 0} → Out A → (A → World → Type 0) → Type 0
Then (going a x) f = f a x
Then (over e x) f = ⊤
Then (waiting old x) f = ⊤

-- the one or the other
abbrev pub Chosen : Bool → Type 0 → Type 0 → Type 0
Chosen true P Q = P
Chosen false P Q = Q

-- ---- objects and places

-- a slot names a live object, which has one cell where no array is meant
pub record FindsObject (w : World) (slot : Slot) (array : Bool) : Type 0 where
  pub ty : Ty
  pub has : HasObject w slot ty array

-- a slot names the object of a number, which has exactly one cell
abbrev pub FindsScalar : World → Slot → Type 0
FindsScalar w slot = FindsObject w slot false

-- a slot names a live object, which may have as many cells as an array
abbrev pub FindsArray : World → Slot → Type 0
FindsArray w slot = FindsObject w slot true

-- a place is a name or an element, and its variable has its object, which has one cell where the
-- place is a name
abbrev pub FindsPlace : Tree → World → Type 0
FindsPlace (name word slot s) w = FindsScalar w slot
FindsPlace (index word slot e s) w = FindsArray w slot
FindsPlace (constant n word s) w = ⊥
FindsPlace (call word args s) w = ⊥
FindsPlace (unary op e s) w = ⊥
FindsPlace (cast ty e s) w = ⊥
FindsPlace (binary op l r s) w = ⊥
FindsPlace (choice t a b s) w = ⊥
FindsPlace (assign op place e s) w = ⊥
FindsPlace (bump pre up place s) w = ⊥
FindsPlace (comma l r s) w = ⊥
FindsPlace hole w = ⊥
FindsPlace (hole_after e) w = ⊥

-- ---- calls

-- a live object of that type
pub record IsLive (w : World) (number : ℕ) (ty : Ty) : Type 0 where
  pub object : Object
  pub lives : slice_get w.objects number ≡ Some object
  pub typed : object.ty ≡ ty

-- a parameter takes an argument: a number, or where it is an array, a live object of its type
abbrev pub Takes : Param → Argument → World → Type 0
Takes p (Number v) w = p.array ≡ false
Takes p (Array n) w = (p.array ≡ true) × IsLive w n p.ty
Takes p (Format f) w = ⊥
Takes p (Place slot i) w = ⊥

-- there are as many arguments as parameters, and each takes its own
abbrev pub TakesAll : List Param → List Argument → World → Type 0
TakesAll [] [] w = ⊤
TakesAll [] (a ∷ gs) w = ⊥
TakesAll (p ∷ ps) [] w = ⊥
TakesAll (p ∷ ps) (a ∷ gs) w = Takes p a w × TakesAll ps gs w

-- the program defines a function of that word, which takes the arguments
pub record IsDefinedFor (program : List Outer) (word : List ℕ) (gs : List Argument) (w : World) :
    Type 0 where
  pub function : Function
  pub is : definition word program ≡ Some function
  pub body : Body
  pub has_body : function.body ≡ Some body
  pub takes : TakesAll function.params gs w

-- an expression is an element of an array
abbrev pub is_element : Tree → Bool
is_element (index word slot e s) = true
is_element e = false

-- what is called is there, and takes what its arguments come to: a function of the library, or one
-- that the program defines. `scanf` takes the place of an `int`, whose index is 0 where it is no
-- element
pub data IsCallable (program : List Outer) (w : World) :
    List ℕ → Args → List Argument → Type 0 where
  getchar : (args : Args) → IsCallable program w (codes "getchar") args []
  putchar : (args : Args) (v : ℤ)
      → IsCallable program w (codes "putchar") args (Number v ∷ [])
  abs : (args : Args) (v : ℤ) → IsCallable program w (codes "abs") args (Number v ∷ [])
  exit : (args : Args) (v : ℤ) → IsCallable program w (codes "exit") args (Number v ∷ [])
  printf : (args : Args) (f : List ℕ) (vs : List ℤ) → conversions f ≡ Some (length vs)
      → IsCallable program w (codes "printf") args (Format f ∷ map (λ v. Number v) vs)
  scanf : (s : Span) (e : Tree) (i : ℤ) → HasObject w (slot_of e) Int (is_element e)
      → (is_element e ≡ false → i ≡ pos 0)
      → IsCallable program w (codes "scanf") (format (codes "%d") s (address e no_args))
      (Format (codes "%d") ∷ (Place (slot_of e) i ∷ []))
  own : (word : List ℕ) (args : Args) (gs : List Argument)
      → is_declared names.library word ≡ false → IsDefinedFor program word gs w
      → IsCallable program w word args gs

-- a function that the program defines by that word has a result
abbrev pub GivesValue : List Outer → List ℕ → Type 0
GivesValue program word = (f : Function) → definition word program ≡ Some f → f.ret ≢ None

-- what holds in a call of a function, by the called word and the arguments
abbrev pub Inside : Type 1
Inside = List ℕ → List Argument → World → Type 0

module _ (filling : Filling) (program : List Outer) (called : Called) (inside : Inside) where
  abbrev mutual
    -- it is so in the evaluation of an expression from a state, and in the functions that it calls;
    -- a call whose value is wanted has one
    pub Finds : Bool → Tree → World → Type 0
    Finds wanted (constant n word s) w = ⊤
    Finds wanted (name word slot s) w = FindsScalar w slot
    Finds wanted (index word slot e s) w =
        Finds true e w × Then (used (eval filling program called e) w) (λ i x. FindsArray x slot)
    Finds wanted (call word args s) w =
        FindsArgs (params_of (definition word program)) args w
        × Then (evals filling program called (params_of (definition word program)) args w)
        (λ gs x.
        IsCallable program x word args gs
        × (wanted ≡ true → GivesValue program word)
        × inside word gs x)
    Finds wanted (unary op e s) w = Finds true e w
    Finds wanted (cast ty e s) w = Finds true e w
    Finds wanted (binary op l r s) w =
        Finds true l w
        × Then (used (eval filling program called l) w)
        (λ a x. decided op a ≡ None → Finds true r x)
    Finds wanted (choice t a b s) w =
        Finds true t w
        × Then (used (eval filling program called t) w)
        (λ v x. Chosen (is_zero v) (Finds true b x) (Finds true a x))
    Finds wanted (assign op place e s) w =
        FindsIndex place w
        × Then (index_of filling program called place w) (λ i x.
        Finds true e x × Then (used (eval filling program called e) x) (λ v y. FindsPlace place y))
    Finds wanted (bump pre up place s) w =
        FindsIndex place w
        × Then (index_of filling program called place w) (λ i x. FindsPlace place x)
    Finds wanted (comma l r s) w =
        Finds false l w × Then (eval filling program called l w) (λ o x. Finds true r x)
    Finds wanted hole w = ⊤
    Finds wanted (hole_after e) w = Finds true e w

    -- the same of the index of a place, which is a name or an element
    pub FindsIndex : Tree → World → Type 0
    FindsIndex (index word slot e s) w = Finds true e w
    FindsIndex (name word slot s) w = ⊤
    FindsIndex (constant n word s) w = ⊥
    FindsIndex (call word args s) w = ⊥
    FindsIndex (unary op e s) w = ⊥
    FindsIndex (cast ty e s) w = ⊥
    FindsIndex (binary op l r s) w = ⊥
    FindsIndex (choice t a b s) w = ⊥
    FindsIndex (assign op place e s) w = ⊥
    FindsIndex (bump pre up place s) w = ⊥
    FindsIndex (comma l r s) w = ⊥
    FindsIndex hole w = ⊥
    FindsIndex (hole_after e) w = ⊥

    -- the same of arguments for these parameters: an array is passed as its object
    pub FindsArgs : List Param → Args → World → Type 0
    FindsArgs ps no_args w = ⊤
    FindsArgs ps (value e rest) w =
        Chosen (takes_array ps) (FindsArray w (slot_of e)) (Finds true e w)
        × Then (passed (takes_array ps) (slot_of e) (used (eval filling program called e)) w)
        (λ a x. FindsArgs (rest_of ps) rest x)
    FindsArgs ps (format text s rest) w = FindsArgs (rest_of ps) rest w
    FindsArgs ps (address e rest) w =
        FindsIndex e w
        × Then (index_of filling program called e w) (λ i x.
        FindsPlace e x × FindsArgs (rest_of ps) rest x)
