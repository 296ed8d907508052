-- The locations of a program, in text order, each with the part that stands there: the places that
-- a patch can change.
use Rattle.std.specs.Prelude.{◌&&◌, Bool, true, false, List, [], ◌∷◌, ◌++◌, map, Option, Some, None, option_map}
use Rattle.std.specs.List.{flat_map, find}
use Rattle.c_tree.specs.declared.expr.BinOp.{BinOp}
use Rattle.c_tree.specs.declared.place.Loc.{Loc}
use Rattle.c_tree.specs.declared.place.LocKind.{LocKind}
use Rattle.c_tree.specs.declared.place.LocKind.TheVariants.{Guard, Cond, Right}
use Rattle.c_tree.specs.declared.place.Span.{Span}
use Rattle.c_tree.specs.Parts.{span_of, span_of_code, same_span}
use Rattle.c_tree.specs.Tree.{Tree, constant, name, index, call, unary, cast, binary, choice, assign, bump, comma, hole, hole_after, Args, no_args, value, format, address, Initial, bare_start, one_start, list_start, Variable, First, no_first, first_act, first_vars, Code, empty, act, block, if_then, if_else, while, do_while, for, give, break, continue, Body, done, next, vars, Outer, outer_vars, outer_func}

-- what stands at a location
pub data Part : Type 0 where
  expression : Tree → Part
  statement : Code → Part

-- a location, and what stands there
pub record Located : Type 0 where
  pub loc : Loc
  pub part : Part

-- a statement that an `if` can be put round
abbrev pub guard : Code → Located
guard c = record { loc = record { kind = Guard; at = span_of_code c }; part = statement c }

-- a condition
abbrev pub condition : Tree → Located
condition e = record { loc = record { kind = Cond; at = span_of e }; part = expression e }

-- the right side of an assignment, an initialiser or the value of a `return`
abbrev pub right_side : Tree → Located
right_side e = record { loc = record { kind = Right; at = span_of e }; part = expression e }

-- the right side of a plain assignment; one with an operator has none
abbrev pub assigned : Option BinOp → Tree → List Located
assigned None e = right_side e ∷ []
assigned (Some op) e = []

-- the locations in an expression: the right sides of its plain assignments
abbrev mutual
  pub in_tree : Tree → List Located
  in_tree (constant n word s) = []
  in_tree (name word slot s) = []
  in_tree (index word slot e s) = in_tree e
  in_tree (call word args s) = in_args args
  in_tree (unary op e s) = in_tree e
  in_tree (cast ty e s) = in_tree e
  in_tree (binary op l r s) = in_tree l ++ in_tree r
  in_tree (choice t a b s) = in_tree t ++ in_tree a ++ in_tree b
  in_tree (assign op place e s) = in_tree place ++ assigned op e ++ in_tree e
  in_tree (bump before up place s) = in_tree place
  in_tree (comma l r s) = in_tree l ++ in_tree r
  in_tree hole = []
  in_tree (hole_after e) = in_tree e

  -- the same of the arguments of a call
  pub in_args : Args → List Located
  in_args no_args = []
  in_args (value e rest) = in_tree e ++ in_args rest
  in_args (format f s rest) = in_args rest
  in_args (address e rest) = in_tree e ++ in_args rest

-- a condition, and what is inside it
abbrev pub in_condition : Tree → List Located
in_condition e = condition e ∷ in_tree e

-- a right side, and what is inside it
abbrev pub in_right_side : Tree → List Located
in_right_side e = right_side e ∷ in_tree e

-- the locations in the condition of a `for`, if it has one
abbrev pub in_test : Option Tree → List Located
in_test None = []
in_test (Some e) = in_condition e

-- the locations in the step of a `for`, if it has one
abbrev pub in_step : Option Tree → List Located
in_step None = []
in_step (Some e) = in_tree e

-- the locations in the value of a `return`, if it has one
abbrev pub in_value : Option Tree → List Located
in_value None = []
in_value (Some e) = in_right_side e

-- the locations in an initialiser: a scalar's own, and the assignments in a list's elements
abbrev pub in_initial : Initial → List Located
in_initial bare_start = []
in_initial (one_start e) = in_right_side e
in_initial (list_start es) = flat_map in_tree es

-- the locations in the declarations of a block
abbrev pub in_variables : List Variable → List Located
in_variables = flat_map (λ v. in_initial v.start)

-- the locations in the first clause of a `for`
abbrev pub in_first : First → List Located
in_first no_first = []
in_first (first_act e) = in_tree e
in_first (first_vars ty vs) = in_variables vs

-- the locations in a statement
abbrev mutual
  pub in_code : Code → List Located
  in_code (empty s) = []
  in_code (act e s) = guard (act e s) ∷ in_tree e
  in_code (block body s) = in_body body
  in_code (if_then t a s) = in_condition t ++ in_code a
  in_code (if_else t a b s) = in_condition t ++ in_code a ++ in_code b
  in_code (while t a s) = in_condition t ++ in_code a
  in_code (do_while a t s) = in_code a ++ in_condition t
  in_code (for i t u a s) = in_first i ++ in_test t ++ in_step u ++ in_code a
  in_code (give e s) = guard (give e s) ∷ in_value e
  in_code (break s) = guard (break s) ∷ []
  in_code (continue s) = guard (continue s) ∷ []

  -- the same of the items of a block
  pub in_body : Body → List Located
  in_body done = []
  in_body (next c rest) = in_code c ++ in_body rest
  in_body (vars ty vs rest) = in_variables vs ++ in_body rest

-- the locations in a function, if it has a body
abbrev pub in_definition : Option Body → List Located
in_definition None = []
in_definition (Some body) = in_body body

-- the locations at file scope are those in its functions
abbrev pub in_outer : Outer → List Located
in_outer (outer_vars ty vs) = []
in_outer (outer_func f) = in_definition f.body

-- the locations of a program, with what stands there
abbrev pub located : List Outer → List Located
located = flat_map in_outer

-- the locations of a program
abbrev pub locations : List Outer → List Loc
locations p = map (λ x. x.loc) (located p)

-- the same kind of location
abbrev pub same_kind : LocKind → LocKind → Bool
same_kind Guard Guard = true
same_kind Cond Cond = true
same_kind Right Right = true
same_kind _ _ = false

-- the location is the text s, as a location of that kind
abbrev pub stands : Loc → LocKind → Span → Bool
stands l kind s = same_kind l.kind kind && same_span s l.at

-- the location is this one
abbrev pub is_at : Loc → Located → Bool
is_at l x = stands l x.loc.kind x.loc.at

-- what stands at a location of a program, if it is one
abbrev pub part_at : Loc → List Outer → Option Part
part_at l p = option_map (λ x. x.part) (find (is_at l) (located p))
