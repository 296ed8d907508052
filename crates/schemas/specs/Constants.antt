-- The constants in the body of a function, in text order, each as it is spelled: numbers, character constants and the names
-- of macros. The lengths of arrays and the formats of calls have none.
use Rattle.std.specs.Prelude.{ℕ, ℤ, Bool, nat_le, nat_lt, ◌&&◌, if◌then◌else◌, List, [], ◌∷◌, ◌++◌, Option, Some, None}
use Rattle.std.specs.List.{flat_map}
use Rattle.c_tree.specs.declared.place.Span.{Span}
use Rattle.c_tree.specs.Tree.{Tree, constant, name, index, call, unary, cast, binary, choice, assign, bump, comma, hole, hole_after, Args, no_args, value, format, address, Initial, bare_start, one_start, list_start, Variable, First, no_first, first_act, first_vars, Code, empty, act, block, if_then, if_else, while, do_while, for, give, break, continue, Body, done, next, vars, Outer, outer_vars, outer_func}

-- a constant: its value, and how it is spelled
pub record Constant : Type 0 where
  pub value : ℤ
  pub word : List ℕ

-- the constants in an expression
abbrev mutual
  pub constants_in : Tree → List Constant
  constants_in (constant n word s) = record { value = n; word = word } ∷ []
  constants_in (name word slot s) = []
  constants_in (index word slot e s) = constants_in e
  constants_in (call word args s) = constants_in_args args
  constants_in (unary op e s) = constants_in e
  constants_in (cast ty e s) = constants_in e
  constants_in (binary op l r s) = constants_in l ++ constants_in r
  constants_in (choice t a b s) = constants_in t ++ constants_in a ++ constants_in b
  constants_in (assign op place e s) = constants_in place ++ constants_in e
  constants_in (bump before up place s) = constants_in place
  constants_in (comma l r s) = constants_in l ++ constants_in r
  constants_in hole = []
  constants_in (hole_after e) = constants_in e

  -- the same of the arguments of a call
  pub constants_in_args : Args → List Constant
  constants_in_args no_args = []
  constants_in_args (value e rest) = constants_in e ++ constants_in_args rest
  constants_in_args (format text s rest) = constants_in_args rest
  constants_in_args (address e rest) = constants_in e ++ constants_in_args rest

-- the same of an expression that may be absent
abbrev pub constants_in_option : Option Tree → List Constant
constants_in_option None = []
constants_in_option (Some e) = constants_in e

-- the same of an initialiser
abbrev pub constants_in_initial : Initial → List Constant
constants_in_initial bare_start = []
constants_in_initial (one_start e) = constants_in e
constants_in_initial (list_start es) = flat_map constants_in es

-- the same of declared variables
abbrev pub constants_in_variables : List Variable → List Constant
constants_in_variables = flat_map (λ v. constants_in_initial v.start)

-- the same of the first clause of a `for`
abbrev pub constants_in_first : First → List Constant
constants_in_first no_first = []
constants_in_first (first_act e) = constants_in e
constants_in_first (first_vars ty vs) = constants_in_variables vs

-- the same of a statement
abbrev mutual
  pub constants_in_code : Code → List Constant
  constants_in_code (empty s) = []
  constants_in_code (act e s) = constants_in e
  constants_in_code (block body s) = constants_in_body body
  constants_in_code (if_then t a s) = constants_in t ++ constants_in_code a
  constants_in_code (if_else t a b s) = constants_in t ++ constants_in_code a ++ constants_in_code b
  constants_in_code (while t a s) = constants_in t ++ constants_in_code a
  constants_in_code (do_while a t s) = constants_in_code a ++ constants_in t
  constants_in_code (for i t u a s) =
      constants_in_first i ++ constants_in_option t ++ constants_in_option u ++ constants_in_code a
  constants_in_code (give e s) = constants_in_option e
  constants_in_code (break s) = []
  constants_in_code (continue s) = []

  -- the same of the items of a block
  pub constants_in_body : Body → List Constant
  constants_in_body done = []
  constants_in_body (next c rest) = constants_in_code c ++ constants_in_body rest
  constants_in_body (vars ty vs rest) = constants_in_variables vs ++ constants_in_body rest

-- the same of a body that may be absent
abbrev pub constants_in_definition : Option Body → List Constant
constants_in_definition None = []
constants_in_definition (Some body) = constants_in_body body

-- whether a text has a place in it
abbrev pub has_place : Span → ℕ → Bool
has_place s place = nat_le s.from place && nat_lt place s.to

-- the constants in the body of a function, if its text has the place
abbrev pub constants_around : ℕ → Outer → List Constant
constants_around place (outer_vars ty vs) = []
constants_around place (outer_func f) = if has_place f.span place then constants_in_definition f.body else []

-- the constants in the body of the function whose text has the place; there is one such function at most
abbrev pub constants_at : ℕ → List Outer → List Constant
constants_at place = flat_map (constants_around place)
