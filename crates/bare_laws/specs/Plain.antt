-- Programs without spans and the spelling of constants, but with their slots: all that a run looks
-- at.
use Rattle.std.specs.Prelude.{List, [], map, Option, Some, None}
use Rattle.c_tree.specs.declared.program.Param.{Param}
use Rattle.c_tree.specs.Tree.{Tree, constant, name, index, call, unary, cast, binary, choice, assign, bump, comma, hole, hole_after, Args, no_args, value, format, address, Initial, bare_start, one_start, list_start, Variable, First, no_first, first_act, first_vars, Code, empty, act, block, if_then, if_else, while, do_while, for, give, break, continue, Body, done, next, vars, Function, Outer, outer_vars, outer_func, no_span}

-- an expression without spans and the spelling of constants
abbrev mutual
  pub plain : Tree → Tree
  plain (constant n word s) = constant n [] no_span
  plain (name word slot s) = name word slot no_span
  plain (index word slot e s) = index word slot (plain e) no_span
  plain (call word x s) = call word (plain_args x) no_span
  plain (unary op e s) = unary op (plain e) no_span
  plain (cast ty e s) = cast ty (plain e) no_span
  plain (binary op l r s) = binary op (plain l) (plain r) no_span
  plain (choice t a b s) = choice (plain t) (plain a) (plain b) no_span
  plain (assign op place e s) = assign op (plain place) (plain e) no_span
  plain (bump before up place s) = bump before up (plain place) no_span
  plain (comma l r s) = comma (plain l) (plain r) no_span
  plain hole = hole
  plain (hole_after e) = hole_after (plain e)

  -- the same of arguments
  pub plain_args : Args → Args
  plain_args no_args = no_args
  plain_args (value e rest) = value (plain e) (plain_args rest)
  plain_args (format f s rest) = format f no_span (plain_args rest)
  plain_args (address e rest) = address (plain e) (plain_args rest)

-- the same of an expression that may be absent
abbrev pub plain_option : Option Tree → Option Tree
plain_option None = None
plain_option (Some e) = Some (plain e)

-- the same of an initialiser
abbrev pub plain_initial : Initial → Initial
plain_initial bare_start = bare_start
plain_initial (one_start e) = one_start (plain e)
plain_initial (list_start es) = list_start (map plain es)

-- the same of a declared variable
abbrev pub plain_variable : Variable → Variable
plain_variable v = record {
  word = v.word;
  slot = v.slot;
  span = no_span;
  shape = v.shape;
  start = plain_initial v.start;
}

-- the same of the first clause of a `for`
abbrev pub plain_first : First → First
plain_first no_first = no_first
plain_first (first_act e) = first_act (plain e)
plain_first (first_vars ty vs) = first_vars ty (map plain_variable vs)

-- statements without spans and the spelling of constants
abbrev mutual
  pub plain_code : Code → Code
  plain_code (empty s) = empty no_span
  plain_code (act e s) = act (plain e) no_span
  plain_code (block body s) = block (plain_body body) no_span
  plain_code (if_then t a s) = if_then (plain t) (plain_code a) no_span
  plain_code (if_else t a b s) = if_else (plain t) (plain_code a) (plain_code b) no_span
  plain_code (while t a s) = while (plain t) (plain_code a) no_span
  plain_code (do_while a t s) = do_while (plain_code a) (plain t) no_span
  plain_code (for f t u a s) =
      for (plain_first f) (plain_option t) (plain_option u) (plain_code a) no_span
  plain_code (give e s) = give (plain_option e) no_span
  plain_code (break s) = break no_span
  plain_code (continue s) = continue no_span

  -- the same of the items of a block
  pub plain_body : Body → Body
  plain_body done = done
  plain_body (next c rest) = next (plain_code c) (plain_body rest)
  plain_body (vars ty vs rest) = vars ty (map plain_variable vs) (plain_body rest)

-- the same of a parameter
abbrev pub plain_param : Param → Param
plain_param p = record {
  word = p.word;
  slot = p.slot;
  span = no_span;
  ty = p.ty;
  array = p.array;
}

-- the same of a body that may be absent
abbrev pub plain_maybe : Option Body → Option Body
plain_maybe None = None
plain_maybe (Some body) = Some (plain_body body)

-- the same of a function
abbrev pub plain_function : Function → Function
plain_function f = record {
  word = f.word;
  span = no_span;
  ret = f.ret;
  params = map plain_param f.params;
  body = plain_maybe f.body;
}

-- the same of what stands at file scope
abbrev pub plain_outer : Outer → Outer
plain_outer (outer_vars ty vs) = outer_vars ty (map plain_variable vs)
plain_outer (outer_func f) = outer_func (plain_function f)

-- a program without spans and the spelling of constants
abbrev pub plain_program : List Outer → List Outer
plain_program = map plain_outer
