-- What the run of a part of a program needs of it: each call gets arrays where the called function takes them, each
-- hole stands in a known scope, and where what is called is there, a name is one of a number, and a call is one that
-- can be made. The trees are those before the slots are set; the slots are counted along.
use Rattle.std.specs.Prelude.{⊤, ◌≡◌, ℕ, zero, suc, ◌+◌, ℤ, pos, List, [], ◌∷◌, ◌++◌, length, codes, Contains, Option, Some, None, Bool, true, false}
use Rattle.c_tree.specs.declared.place.Span.{Span}
use Rattle.c_tree.specs.declared.program.Param.{Param}
use Rattle.c_tree.specs.declared.stmt.Slot.{Slot}
use Rattle.c_tree.specs.declared.stmt.Ty.{Ty}
use Rattle.c_tree.specs.declared.stmt.Ty.TheVariants.{Int}
use Rattle.c_tree.specs.Tree.{Tree, constant, name, index, call, unary, cast, binary, choice, assign, bump, comma, hole, hole_after, Args, no_args, value, format, address, Initial, bare_start, one_start, list_start, Variable, First, no_first, first_act, first_vars, Code, empty, act, block, if_then, if_else, while, do_while, for, give, break, continue, Body, done, next, vars, Function, Outer}
use Rattle.c_types.specs.declared.scope.Entity.TheVariants.{Variable as VariableEntity}
use Rattle.c_types.specs.declared.scope.Storage.TheVariants.{Automatic}
use Rattle.c_types.specs.declared.scope.Storage.{Storage}
use Rattle.c_types.specs.Arguments.{is_place}
use Rattle.c_types.specs.Formats.{conversions}
use Rattle.c_types.specs.Library.{library}
use Rattle.c_types.specs.Scopes.{denoted, is_declared}
use Rattle.c_types.specs.Slots.{first_count, code_count, slot_in, numbered_variable, numbered, numbered_first, resolved_tree, resolved_args, resolved_initial}
use Rattle.c_types.specs.Statements.{variable_declaration, declared, first_declared}
use Rattle.c_meaning.specs.World.{World}
use Rattle.c_meaning.specs.Meaning.{slot_of, definition, params_of, takes_array, rest_of}
use Rattle.c_meaning.specs.declared.argument.Argument.{Argument}
use Rattle.c_meaning.specs.declared.argument.Argument.TheVariants.{Number, Array, Format, Place}
use Rattle.run_laws.specs.Holes.{Names}
use Rattle.run_laws.specs.Reads.{IsLive, is_element, GivesValue}
use Rattle.run_laws.specs.Bodies.{HoldsList}
use Rattle.run_laws.specs.Passing.{IsArrayName}

-- the type of the first parameter
abbrev pub first_ty : List Param → Ty
first_ty [] = Int
first_ty (p ∷ ps) = p.ty

-- a word denotes a variable: an array or a number
pub record IsNameOf (ds : Names) (word : List ℕ) (array : Bool) : Type 0 where
  pub slot : Slot
  pub ty : Ty
  pub denotes : denoted ds word ≡ Some (VariableEntity slot ty array)

-- an array is given where one is taken, and it is of the type that is taken
abbrev pub SuitsOne : Bool → Ty → Argument → World → Type 0
SuitsOne array ty (Number v) w = ⊤
SuitsOne array ty (Array n) w = (array ≡ true) × IsLive w n ty
SuitsOne array ty (Format f) w = ⊤
SuitsOne array ty (Place slot i) w = ⊤

-- the same of all arguments
abbrev pub Suits : List Param → List Argument → World → Type 0
Suits ps [] w = ⊤
Suits ps (a ∷ gs) w = SuitsOne (takes_array ps) (first_ty ps) a w × Suits (rest_of ps) gs w

-- an argument is an array where one is taken, and else a number
abbrev pub ShapedOne : Bool → Ty → Argument → World → Type 0
ShapedOne true ty (Number v) w = ⊥
ShapedOne true ty (Array n) w = IsLive w n ty
ShapedOne true ty (Format f) w = ⊥
ShapedOne true ty (Place slot i) w = ⊥
ShapedOne false ty (Number v) w = ⊤
ShapedOne false ty (Array n) w = ⊥
ShapedOne false ty (Format f) w = ⊥
ShapedOne false ty (Place slot i) w = ⊥

-- the index of a place that is a name is 0
abbrev pub IndexIs : Tree → ℤ → Type 0
IndexIs (name word slot s) i = i ≡ pos 0
IndexIs e i = ⊤

-- arguments are those that such expressions give for these parameters
abbrev pub Shaped : List Param → Args → List Argument → World → Type 0
Shaped ps no_args [] w = ⊤
Shaped ps no_args (g ∷ gs) w = ⊥
Shaped ps (value e rest) [] w = ⊥
Shaped ps (value e rest) (g ∷ gs) w = ShapedOne (takes_array ps) (first_ty ps) g w × Shaped (rest_of ps) rest gs w
Shaped ps (format f s rest) [] w = ⊥
Shaped ps (format f s rest) (g ∷ gs) w = (g ≡ Format f) × Shaped (rest_of ps) rest gs w
Shaped ps (address e rest) [] w = ⊥
Shaped ps (address e rest) (g ∷ gs) w = ((i : ℤ) × (g ≡ Place (slot_of e) i) × IndexIs e i) × Shaped (rest_of ps) rest gs w

-- so many arguments, each a value
abbrev pub AllValues : ℕ → Args → Type 0
AllValues zero no_args = ⊤
AllValues zero (value e rest) = ⊥
AllValues zero (format f s rest) = ⊥
AllValues zero (address e rest) = ⊥
AllValues (suc n) no_args = ⊥
AllValues (suc n) (value e rest) = AllValues n rest
AllValues (suc n) (format f s rest) = ⊥
AllValues (suc n) (address e rest) = ⊥

-- a place of an `int`
pub record IsIntPlace (ds : Names) (e : Tree) : Type 0 where
  pub word : List ℕ
  pub slot : Slot
  pub denotes : denoted ds word ≡ Some (VariableEntity slot Int (is_element e))
  pub is_slot : slot_of e ≡ slot
  pub single : (i : ℤ) → IndexIs e i → is_element e ≡ false → i ≡ pos 0

-- what is called is there, and its arguments are those that it takes
pub data IsCall (program : List Outer) (ds : Names) : List ℕ → Args → Type 0 where
  getchar : IsCall program ds (codes "getchar") no_args
  putchar : (e : Tree) → definition (codes "putchar") program ≡ None → IsCall program ds (codes "putchar") (value e no_args)
  abs : (e : Tree) → definition (codes "abs") program ≡ None → IsCall program ds (codes "abs") (value e no_args)
  exit : (e : Tree) → definition (codes "exit") program ≡ None → IsCall program ds (codes "exit") (value e no_args)
  printf : (f : List ℕ) (s : Span) (rest : Args) (n : ℕ) → conversions f ≡ Some n → AllValues n rest → definition (codes "printf") program ≡ None → IsCall program ds (codes "printf") (format f s rest)
  scanf : (s : Span) (e : Tree) → IsIntPlace ds e → IsCall program ds (codes "scanf") (format (codes "%d") s (address e no_args))
  own : (word : List ℕ) (args : Args) (f : Function) (body : Body) → is_declared library word ≡ false → definition word program ≡ Some f → f.body ≡ Some body → AllValues (length f.params) args → IsCall program ds word args

-- the scopes of the holes; whether what is called is known to be there, and whether calls may stand there
module _ (program : List Outer) (scopes : List Names) (there : Type 0) (may_call : Type 0) where
  module _ (ds : Names) where
    abbrev mutual
      pub Well : Bool → Tree → Type 0
      Well wanted (constant n word s) = ⊤
      Well wanted (name word slot s) = there → IsNameOf ds word false
      Well wanted (index word slot e s) = IsNameOf ds word true × Well true e
      Well wanted (call word args s) =
          may_call × WellArgs (params_of (definition word program)) args × (there → IsCall program ds word (resolved_args ds args) × (wanted ≡ true → GivesValue program word))
      Well wanted (unary op e s) = Well true e
      Well wanted (cast ty e s) = Well true e
      Well wanted (binary op l r s) = Well true l × Well true r
      Well wanted (choice t a b s) = Well true t × (Well true a × Well true b)
      Well wanted (assign op place e s) = (is_place place ≡ true) × (Well true place × Well true e)
      Well wanted (bump pre up place s) = (is_place place ≡ true) × Well true place
      Well wanted (comma l r s) = Well false l × Well true r
      Well wanted hole = Contains scopes ds
      Well wanted (hole_after e) = Well true e × Contains scopes ds

      pub WellArgs : List Param → Args → Type 0
      WellArgs ps no_args = ⊤
      WellArgs ps (value e rest) =
          (takes_array ps ≡ true → IsArrayName ds (first_ty ps) (resolved_tree ds e))
          × ((takes_array ps ≡ false → Well true e) × WellArgs (rest_of ps) rest)
      WellArgs ps (format text s rest) = WellArgs (rest_of ps) rest
      WellArgs ps (address e rest) = (is_place e ≡ true) × (Well true e × WellArgs (rest_of ps) rest)

    abbrev pub WellOption : Bool → Option Tree → Type 0
    WellOption wanted None = ⊤
    WellOption wanted (Some e) = Well wanted e

    abbrev pub WellList : List Tree → Type 0
    WellList [] = ⊤
    WellList (e ∷ es) = Well true e × WellList es

    abbrev pub WellInitial : Initial → Type 0
    WellInitial bare_start = ⊤
    WellInitial (one_start e) = Well true e
    WellInitial (list_start es) = WellList es

  abbrev pub WellVariables : Storage → Names → Names → ℕ → Ty → List Variable → Type 0
  WellVariables storage here around n ty [] = ⊤
  WellVariables storage here around n ty (v ∷ vs) =
      WellInitial (variable_declaration ty (numbered_variable (slot_in storage n) v) ∷ (here ++ around)) v.start
      × WellVariables storage (variable_declaration ty (numbered_variable (slot_in storage n) v) ∷ here) around (suc n) ty vs
      × HoldsList v.shape (resolved_initial (variable_declaration ty (numbered_variable (slot_in storage n) v) ∷ (here ++ around)) v.start)

  abbrev pub WellFirst : Names → ℕ → First → Type 0
  WellFirst ds n no_first = ⊤
  WellFirst ds n (first_act e) = Well ds false e
  WellFirst ds n (first_vars ty vs) = WellVariables Automatic [] ds n ty vs

  abbrev mutual
    pub WellCode : Names → ℕ → Code → Type 0
    WellCode ds n (empty s) = ⊤
    WellCode ds n (act e s) = Well ds false e
    WellCode ds n (block body s) = WellBody [] ds n body
    WellCode ds n (if_then t a s) = Well ds true t × WellCode ds n a
    WellCode ds n (if_else t a b s) = Well ds true t × (WellCode ds n a × WellCode ds (n + code_count a) b)
    WellCode ds n (while t a s) = Well ds true t × WellCode ds n a
    WellCode ds n (do_while a t s) = WellCode ds n a × Well ds true t
    WellCode ds n (for i t u a s) =
        WellFirst ds n i
        × (WellOption (first_declared (numbered_first n i) ++ ds) true t
        × (WellOption (first_declared (numbered_first n i) ++ ds) false u
        × WellCode (first_declared (numbered_first n i) ++ ds) (n + first_count i) a))
    WellCode ds n (give e s) = WellOption ds true e
    WellCode ds n (break s) = ⊤
    WellCode ds n (continue s) = ⊤

    pub WellBody : Names → Names → ℕ → Body → Type 0
    WellBody here around n done = ⊤
    WellBody here around n (next c rest) =
        WellCode (here ++ around) n c × WellBody here around (n + code_count c) rest
    WellBody here around n (vars ty vs rest) =
        WellVariables Automatic here around n ty vs
        × WellBody (declared ty (numbered (slot_in Automatic) n vs) here) around (n + length vs) rest

  abbrev pub WellDefinition : Names → Names → ℕ → Option Body → Type 0
  WellDefinition here around n None = ⊤
  WellDefinition here around n (Some body) = WellBody here around n body
