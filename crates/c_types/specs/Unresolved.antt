-- A program without its slots: the same in every other part.
use Rattle.std.specs.Prelude.{List, map, Option, Some, None}
use Rattle.c_tree.specs.declared.program.Param.{Param}
use Rattle.c_tree.specs.declared.stmt.Slot.TheVariants.{Unset}
use Rattle.c_tree.specs.Tree.{Tree, constant, name, index, call, unary, cast, binary, choice, assign, bump, comma, hole, hole_after, Args, no_args, value, format, address, Initial, bare_start, one_start, list_start, Variable, First, no_first, first_act, first_vars, Code, empty, act, block, if_then, if_else, while, do_while, for, give, break, continue, Body, done, next, vars, Function, Outer, outer_vars, outer_func}

-- an expression without its slots
abbrev mutual
  pub unresolved_tree : Tree → Tree
  unresolved_tree (constant n word s) = constant n word s
  unresolved_tree (name word slot s) = name word Unset s
  unresolved_tree (index word slot e s) = index word Unset (unresolved_tree e) s
  unresolved_tree (call word args s) = call word (unresolved_args args) s
  unresolved_tree (unary op e s) = unary op (unresolved_tree e) s
  unresolved_tree (cast ty e s) = cast ty (unresolved_tree e) s
  unresolved_tree (binary op l r s) = binary op (unresolved_tree l) (unresolved_tree r) s
  unresolved_tree (choice t a b s) =
      choice (unresolved_tree t) (unresolved_tree a) (unresolved_tree b) s
  unresolved_tree (assign op place e s) = assign op (unresolved_tree place) (unresolved_tree e) s
  unresolved_tree (bump before up place s) = bump before up (unresolved_tree place) s
  unresolved_tree (comma l r s) = comma (unresolved_tree l) (unresolved_tree r) s
  unresolved_tree hole = hole
  unresolved_tree (hole_after e) = hole_after (unresolved_tree e)

  -- the same of arguments
  pub unresolved_args : Args → Args
  unresolved_args no_args = no_args
  unresolved_args (value e rest) = value (unresolved_tree e) (unresolved_args rest)
  unresolved_args (format text s rest) = format text s (unresolved_args rest)
  unresolved_args (address e rest) = address (unresolved_tree e) (unresolved_args rest)

-- the same of an expression that may be absent
abbrev pub unresolved_option : Option Tree → Option Tree
unresolved_option None = None
unresolved_option (Some e) = Some (unresolved_tree e)

-- the same of an initialiser
abbrev pub unresolved_initial : Initial → Initial
unresolved_initial bare_start = bare_start
unresolved_initial (one_start e) = one_start (unresolved_tree e)
unresolved_initial (list_start es) = list_start (map unresolved_tree es)

-- the same of a declared variable
abbrev pub unresolved_variable : Variable → Variable
unresolved_variable v = record v { slot = Unset; start = unresolved_initial v.start }

-- the same of the first clause of a `for`
abbrev pub unresolved_first : First → First
unresolved_first no_first = no_first
unresolved_first (first_act e) = first_act (unresolved_tree e)
unresolved_first (first_vars ty vs) = first_vars ty (map unresolved_variable vs)

-- a statement without its slots
abbrev mutual
  pub unresolved_code : Code → Code
  unresolved_code (empty s) = empty s
  unresolved_code (act e s) = act (unresolved_tree e) s
  unresolved_code (block body s) = block (unresolved_body body) s
  unresolved_code (if_then t a s) = if_then (unresolved_tree t) (unresolved_code a) s
  unresolved_code (if_else t a b s) =
      if_else (unresolved_tree t) (unresolved_code a) (unresolved_code b) s
  unresolved_code (while t a s) = while (unresolved_tree t) (unresolved_code a) s
  unresolved_code (do_while a t s) = do_while (unresolved_code a) (unresolved_tree t) s
  unresolved_code (for i t u a s) =
      for (unresolved_first i) (unresolved_option t) (unresolved_option u) (unresolved_code a) s
  unresolved_code (give e s) = give (unresolved_option e) s
  unresolved_code (break s) = break s
  unresolved_code (continue s) = continue s

  -- the same of the items of a block
  pub unresolved_body : Body → Body
  unresolved_body done = done
  unresolved_body (next c rest) = next (unresolved_code c) (unresolved_body rest)
  unresolved_body (vars ty vs rest) =
      vars ty (map unresolved_variable vs) (unresolved_body rest)

-- the same of a body that may be absent
abbrev pub unresolved_definition : Option Body → Option Body
unresolved_definition None = None
unresolved_definition (Some body) = Some (unresolved_body body)

-- the same of a parameter
abbrev pub unresolved_param : Param → Param
unresolved_param p = record p { slot = Unset }

-- the same of a function
abbrev pub unresolved_function : Function → Function
unresolved_function f = record f {
  params = map unresolved_param f.params;
  body = unresolved_definition f.body;
}

-- the same of what stands at file scope
abbrev pub unresolved_outer : Outer → Outer
unresolved_outer (outer_vars ty vs) = outer_vars ty (map unresolved_variable vs)
unresolved_outer (outer_func f) = outer_func (unresolved_function f)

-- a program without its slots
abbrev pub unresolved : List Outer → List Outer
unresolved = map unresolved_outer
