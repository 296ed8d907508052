-- The variable that each name denotes (C11 6.2.1): each declarator and parameter has a slot of its own,
-- and each name the slot of the declaration that is visible there.
use Rattle.std.specs.Prelude.{ℕ, suc, ◌+◌, List, [], ◌∷◌, ◌++◌, map, length, Option, Some, None}
use Rattle.c_tree.specs.declared.program.Param.{Param}
use Rattle.c_tree.specs.declared.stmt.Slot.{Slot}
use Rattle.c_tree.specs.declared.stmt.Slot.TheVariants.{Unset, Global, Local}
use Rattle.c_tree.specs.declared.stmt.Ty.{Ty}
use Rattle.c_tree.specs.Tree.{Tree, constant, name, index, call, unary, cast, binary, choice, assign, bump, comma, hole, hole_after, Args, no_args, value, format, address, Initial, bare_start, one_start, list_start, Variable, First, no_first, first_act, first_vars, Code, empty, act, block, if_then, if_else, while, do_while, for, give, break, continue, Body, done, next, vars, Function, Outer, outer_vars, outer_func}
use Rattle.c_types.specs.declared.scope.Declaration.{Declaration}
use Rattle.c_types.specs.declared.scope.Entity.{Entity}
use Rattle.c_types.specs.declared.scope.Entity.TheVariants.{Variable as VariableEntity, Function as FunctionEntity, Library, Printf, Scanf}
use Rattle.c_types.specs.declared.scope.Storage.{Storage}
use Rattle.c_types.specs.declared.scope.Storage.TheVariants.{Static, Automatic}
use Rattle.c_types.specs.Library.{library}
use Rattle.c_types.specs.Programs.{params_declared, function_declaration}
use Rattle.c_types.specs.Scopes.{denoted}
use Rattle.c_types.specs.Statements.{declared, first_declared, variable_declaration}

-- how many variables the first clause of a `for` declares
abbrev pub first_count : First → ℕ
first_count no_first = 0
first_count (first_act e) = 0
first_count (first_vars ty vs) = length vs

-- how many variables a statement declares, in all its parts
abbrev mutual
  pub code_count : Code → ℕ
  code_count (empty s) = 0
  code_count (act e s) = 0
  code_count (block body s) = body_count body
  code_count (if_then t a s) = code_count a
  code_count (if_else t a b s) = code_count a + code_count b
  code_count (while t a s) = code_count a
  code_count (do_while a t s) = code_count a
  code_count (for i t u a s) = first_count i + code_count a
  code_count (give e s) = 0
  code_count (break s) = 0
  code_count (continue s) = 0

  -- the same of the items of a block
  pub body_count : Body → ℕ
  body_count done = 0
  body_count (next c rest) = code_count c + body_count rest
  body_count (vars ty vs rest) = length vs + body_count rest

-- the slot with a number: at file scope, or in a function
abbrev pub slot_in : Storage → ℕ → Slot
slot_in Static n = Global n
slot_in Automatic n = Local n

-- a declarator with its slot
abbrev pub numbered_variable : Slot → Variable → Variable
numbered_variable slot v = record v { slot = slot }

-- declarators with the slots from number n on
abbrev pub numbered : (ℕ → Slot) → ℕ → List Variable → List Variable
numbered slot n [] = []
numbered slot n (v ∷ vs) = numbered_variable (slot n) v ∷ numbered slot (suc n) vs

-- a parameter with its slot
abbrev pub numbered_param : ℕ → Param → Param
numbered_param n p = record p { slot = Local n }

-- parameters with the slots from number n on
abbrev pub numbered_params : ℕ → List Param → List Param
numbered_params n [] = []
numbered_params n (p ∷ ps) = numbered_param n p ∷ numbered_params (suc n) ps

-- the slot of the variable that a name denotes; a name of no variable has none
abbrev pub entity_slot : Option Entity → Slot
entity_slot None = Unset
entity_slot (Some (VariableEntity slot ty array)) = slot
entity_slot (Some (FunctionEntity ret params body defined)) = Unset
entity_slot (Some (Library ret params)) = Unset
entity_slot (Some Printf) = Unset
entity_slot (Some Scanf) = Unset

module _ (ds : List Declaration) where
  -- an expression in which each name has its slot, where these declarations are in scope
  abbrev mutual
    pub resolved_tree : Tree → Tree
    resolved_tree (constant n word s) = constant n word s
    resolved_tree (name word slot s) = name word (entity_slot (denoted ds word)) s
    resolved_tree (index word slot e s) =
        index word (entity_slot (denoted ds word)) (resolved_tree e) s
    resolved_tree (call word args s) = call word (resolved_args args) s
    resolved_tree (unary op e s) = unary op (resolved_tree e) s
    resolved_tree (cast ty e s) = cast ty (resolved_tree e) s
    resolved_tree (binary op l r s) = binary op (resolved_tree l) (resolved_tree r) s
    resolved_tree (choice t a b s) =
        choice (resolved_tree t) (resolved_tree a) (resolved_tree b) s
    resolved_tree (assign op place e s) = assign op (resolved_tree place) (resolved_tree e) s
    resolved_tree (bump before up place s) = bump before up (resolved_tree place) s
    resolved_tree (comma l r s) = comma (resolved_tree l) (resolved_tree r) s
    resolved_tree hole = hole
    resolved_tree (hole_after e) = hole_after (resolved_tree e)

    -- the same of arguments
    pub resolved_args : Args → Args
    resolved_args no_args = no_args
    resolved_args (value e rest) = value (resolved_tree e) (resolved_args rest)
    resolved_args (format text s rest) = format text s (resolved_args rest)
    resolved_args (address e rest) = address (resolved_tree e) (resolved_args rest)

  -- the same of an expression that may be absent
  abbrev pub resolved_option : Option Tree → Option Tree
  resolved_option None = None
  resolved_option (Some e) = Some (resolved_tree e)

  -- the same of an initialiser
  abbrev pub resolved_initial : Initial → Initial
  resolved_initial bare_start = bare_start
  resolved_initial (one_start e) = one_start (resolved_tree e)
  resolved_initial (list_start es) = list_start (map resolved_tree es)

-- a declarator in whose initialiser each name has its slot; it is in scope there itself
abbrev pub resolved_variable :
    List Declaration → List Declaration → Ty → Variable → Variable
resolved_variable here around ty v = record v {
  start = resolved_initial (variable_declaration ty v ∷ (here ++ around)) v.start;
}

-- declarators, one after another
abbrev pub resolved_variables :
    List Declaration → List Declaration → Ty → List Variable → List Variable
resolved_variables here around ty [] = []
resolved_variables here around ty (v ∷ vs) =
    resolved_variable here around ty v
    ∷ resolved_variables (variable_declaration ty v ∷ here) around ty vs

-- the first clause of a `for`, with the slots of what it declares from number n on
abbrev pub numbered_first : ℕ → First → First
numbered_first n no_first = no_first
numbered_first n (first_act e) = first_act e
numbered_first n (first_vars ty vs) = first_vars ty (numbered (slot_in Automatic) n vs)

-- the same clause, in which each name has its slot
abbrev pub resolved_first : List Declaration → First → First
resolved_first ds no_first = no_first
resolved_first ds (first_act e) = first_act (resolved_tree ds e)
resolved_first ds (first_vars ty vs) = first_vars ty (resolved_variables [] ds ty vs)

-- A statement in which the declarators have the slots from number n on, in text order, and each name has
-- the slot of its variable.
abbrev mutual
  pub resolved_code : List Declaration → ℕ → Code → Code
  resolved_code ds n (empty s) = empty s
  resolved_code ds n (act e s) = act (resolved_tree ds e) s
  resolved_code ds n (block body s) = block (resolved_body [] ds n body) s
  resolved_code ds n (if_then t a s) = if_then (resolved_tree ds t) (resolved_code ds n a) s
  resolved_code ds n (if_else t a b s) =
      if_else (resolved_tree ds t) (resolved_code ds n a)
      (resolved_code ds (n + code_count a) b) s
  resolved_code ds n (while t a s) = while (resolved_tree ds t) (resolved_code ds n a) s
  resolved_code ds n (do_while a t s) = do_while (resolved_code ds n a) (resolved_tree ds t) s
  resolved_code ds n (for i t u a s) =
      for (resolved_first ds (numbered_first n i))
      (resolved_option (first_declared (numbered_first n i) ++ ds) t)
      (resolved_option (first_declared (numbered_first n i) ++ ds) u)
      (resolved_code (first_declared (numbered_first n i) ++ ds) (n + first_count i) a) s
  resolved_code ds n (give e s) = give (resolved_option ds e) s
  resolved_code ds n (break s) = break s
  resolved_code ds n (continue s) = continue s

  -- the same of the items of a block, where some names are declared in it before them, and some in the
  -- scopes around it
  pub resolved_body : List Declaration → List Declaration → ℕ → Body → Body
  resolved_body here around n done = done
  resolved_body here around n (next c rest) =
      next (resolved_code (here ++ around) n c)
      (resolved_body here around (n + code_count c) rest)
  resolved_body here around n (vars ty vs rest) =
      vars ty (resolved_variables here around ty (numbered (slot_in Automatic) n vs))
      (resolved_body (declared ty (numbered (slot_in Automatic) n vs) here) around
      (n + length vs) rest)

-- the same of a body that may be absent
abbrev pub resolved_definition :
    List Declaration → List Declaration → ℕ → Option Body → Option Body
resolved_definition here around n None = None
resolved_definition here around n (Some body) = Some (resolved_body here around n body)

-- a function, around which these declarations are in scope, its own among them: its parameters and
-- local variables have the slots from number 0 on
abbrev pub resolved_function : List Declaration → Function → Function
resolved_function around f = record f {
  params = numbered_params 0 f.params;
  body = resolved_definition (params_declared (numbered_params 0 f.params) []) around
      (length f.params) f.body;
}

module _ (file : List Outer) where
  -- the declarations at file scope after the name of a function, where one stands there
  abbrev pub with_function : Outer → List Declaration → List Declaration
  with_function (outer_vars ty vs) here = here
  with_function (outer_func f) here = function_declaration file f ∷ here

  -- what stands at file scope, where some names are declared there before; its variables have the slots
  -- from number n on
  abbrev pub resolved_outers : List Declaration → ℕ → List Outer → List Outer
  resolved_outers here n [] = []
  resolved_outers here n (outer_vars ty vs ∷ rest) =
      outer_vars ty (resolved_variables here [] ty (numbered (slot_in Static) n vs))
      ∷ resolved_outers (declared ty (numbered (slot_in Static) n vs) here) (n + length vs) rest
  resolved_outers here n (outer_func f ∷ rest) =
      outer_func (resolved_function (function_declaration file f ∷ here) f)
      ∷ resolved_outers (function_declaration file f ∷ here) n rest

-- the program in which each name has the slot of the variable that it denotes
abbrev pub resolved : List Outer → List Outer
resolved file = resolved_outers file library 0 file
