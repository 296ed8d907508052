-- A program with the part at one location rewritten: one walk for patched programs, for programs
-- with a hole, and for any other change at one place.
use Rattle.std.specs.Prelude.{if◌then◌else◌, List, map, Option, Some, None}
use Rattle.c_tree.specs.declared.expr.BinOp.{BinOp}
use Rattle.c_tree.specs.declared.place.Loc.{Loc}
use Rattle.c_tree.specs.declared.place.LocKind.{LocKind}
use Rattle.c_tree.specs.declared.place.LocKind.TheVariants.{Guard, Cond, Right}
use Rattle.c_tree.specs.Parts.{span_of, span_of_code}
use Rattle.c_tree.specs.Tree.{Tree, constant, name, index, call, unary, cast, binary, choice, assign, bump, comma, hole, hole_after, Args, no_args, value, format, address, Initial, bare_start, one_start, list_start, Variable, First, no_first, first_act, first_vars, Code, empty, act, block, if_then, if_else, while, do_while, for, give, break, continue, Body, done, next, vars, Outer, outer_vars, outer_func}
use Rattle.c_location.specs.Locations.{Part, expression, statement, stands}

-- what becomes of a condition or a right side, and of a statement
pub record Rewrite : Type 0 where
  pub tree : Tree → Tree
  pub code : Code → Code

-- what becomes of a part
abbrev pub rewrite : Rewrite → Part → Part
rewrite r (expression e) = expression (r.tree e)
rewrite r (statement c) = statement (r.code c)

module _ (l : Loc) (r : Rewrite) where
  -- an expression of that kind: rewritten where it is the location, and else what it is with its
  -- parts looked at
  abbrev pub at_tree : LocKind → Tree → Tree → Tree
  at_tree kind e inside = if stands l kind (span_of e) then r.tree e else inside

  -- the value of an assignment, which is a location where the assignment has no operator
  abbrev pub at_assigned : Option BinOp → Tree → Tree → Tree
  at_assigned None e inside = at_tree Right e inside
  at_assigned (Some op) e inside = inside

  -- a statement: rewritten where it is the location, and else what it is with its parts looked at
  abbrev pub at_code : Code → Code → Code
  at_code c inside = if stands l Guard (span_of_code c) then r.code c else inside

  -- an expression, with the right sides of its assignments looked at
  abbrev mutual
    pub to_tree : Tree → Tree
    to_tree (constant n w s) = constant n w s
    to_tree (name w v s) = name w v s
    to_tree (index w v e s) = index w v (to_tree e) s
    to_tree (call w x s) = call w (to_args x) s
    to_tree (unary f e s) = unary f (to_tree e) s
    to_tree (cast ty e s) = cast ty (to_tree e) s
    to_tree (binary f a b s) = binary f (to_tree a) (to_tree b) s
    to_tree (choice t a b s) = choice (to_tree t) (to_tree a) (to_tree b) s
    to_tree (assign f place e s) = assign f (to_tree place) (at_assigned f e (to_tree e)) s
    to_tree (bump before up e s) = bump before up (to_tree e) s
    to_tree (comma a b s) = comma (to_tree a) (to_tree b) s
    to_tree hole = hole
    to_tree (hole_after e) = hole_after (to_tree e)

    -- the same of the arguments of a call
    pub to_args : Args → Args
    to_args no_args = no_args
    to_args (value e x) = value (to_tree e) (to_args x)
    to_args (format f s x) = format f s (to_args x)
    to_args (address e x) = address (to_tree e) (to_args x)

  -- a condition
  abbrev pub to_condition : Tree → Tree
  to_condition e = at_tree Cond e (to_tree e)

  -- a right side
  abbrev pub to_right_side : Tree → Tree
  to_right_side e = at_tree Right e (to_tree e)

  -- the condition of a `for`, if it has one
  abbrev pub to_test : Option Tree → Option Tree
  to_test None = None
  to_test (Some e) = Some (to_condition e)

  -- the step of a `for`, if it has one
  abbrev pub to_step : Option Tree → Option Tree
  to_step None = None
  to_step (Some e) = Some (to_tree e)

  -- the value of a `return`, if it has one
  abbrev pub to_value : Option Tree → Option Tree
  to_value None = None
  to_value (Some e) = Some (to_right_side e)

  -- an initialiser
  abbrev pub to_initial : Initial → Initial
  to_initial bare_start = bare_start
  to_initial (one_start e) = one_start (to_right_side e)
  to_initial (list_start es) = list_start (map to_tree es)

  -- a declared variable
  abbrev pub to_variable : Variable → Variable
  to_variable v = record v { start = to_initial v.start }

  -- the first clause of a `for`
  abbrev pub to_first : First → First
  to_first no_first = no_first
  to_first (first_act e) = first_act (to_tree e)
  to_first (first_vars ty vs) = first_vars ty (map to_variable vs)

  -- a statement
  abbrev mutual
    pub to_code : Code → Code
    to_code (empty s) = empty s
    to_code (act e s) = at_code (act e s) (act (to_tree e) s)
    to_code (block body s) = block (to_body body) s
    to_code (if_then t a s) = if_then (to_condition t) (to_code a) s
    to_code (if_else t a b s) = if_else (to_condition t) (to_code a) (to_code b) s
    to_code (while t a s) = while (to_condition t) (to_code a) s
    to_code (do_while a t s) = do_while (to_code a) (to_condition t) s
    to_code (for i t u a s) = for (to_first i) (to_test t) (to_step u) (to_code a) s
    to_code (give e s) = at_code (give e s) (give (to_value e) s)
    to_code (break s) = at_code (break s) (break s)
    to_code (continue s) = at_code (continue s) (continue s)

    -- the same of the items of a block
    pub to_body : Body → Body
    to_body done = done
    to_body (next c rest) = next (to_code c) (to_body rest)
    to_body (vars ty vs rest) = vars ty (map to_variable vs) (to_body rest)

  -- a body that may be absent
  abbrev pub to_definition : Option Body → Option Body
  to_definition None = None
  to_definition (Some body) = Some (to_body body)

  -- what stands at file scope, where variables have no locations
  abbrev pub to_outer : Outer → Outer
  to_outer (outer_vars ty vs) = outer_vars ty vs
  to_outer (outer_func f) = outer_func (record f { body = to_definition f.body })

  -- the program with the part at the location rewritten
  abbrev pub rewritten : List Outer → List Outer
  rewritten = map to_outer
