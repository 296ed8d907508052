-- Where the expressions and the statements of a program stand, each with the declarations that are in
-- scope there.
use Rattle.std.specs.Prelude.{ℕ, suc, List, [], ◌∷◌, ◌++◌, Option, Some, None}
use Rattle.std.specs.List.{flat_map}
use Rattle.c_tree.specs.declared.place.Span.{Span}
use Rattle.c_tree.specs.declared.stmt.Ty.{Ty}
use Rattle.c_tree.specs.Tree.{Tree, constant, name, index, call, unary, cast, binary, choice, assign, bump, comma, hole, hole_after, Args, no_args, value, format, address, Initial, bare_start, one_start, list_start, Variable, First, no_first, first_act, first_vars, Code, empty, act, block, if_then, if_else, while, do_while, for, give, break, continue, Body, done, next, vars, Outer, outer_vars, outer_func}
use Rattle.c_types.specs.declared.scope.Declaration.{Declaration}
use Rattle.c_types.specs.Library.{library}
use Rattle.c_types.specs.Programs.{function_declaration, params_declared}
use Rattle.c_types.specs.Statements.{variable_declaration, declared, first_declared}

-- A text of which all places have the same declarations in scope, of which the latest comes first. In the
-- initialiser of a scalar also the word that is being initialised.
pub record Spot : Type 0 where
  pub text : Span
  pub scope : List Declaration
  pub initialised : Option (List ℕ)

module _ (ds : List Declaration) (initialised : Option (List ℕ)) where
  -- a text where these declarations are in scope
  abbrev pub spot : Span → Spot
  spot s = record { text = s; scope = ds; initialised = initialised }

  -- an expression and the expressions in it
  abbrev mutual
    pub tree_spots : Tree → List Spot
    tree_spots (constant n word s) = spot s ∷ []
    tree_spots (name word slot s) = spot s ∷ []
    tree_spots (index word slot e s) = spot s ∷ tree_spots e
    tree_spots (call word args s) = spot s ∷ args_spots args
    tree_spots (unary op e s) = spot s ∷ tree_spots e
    tree_spots (cast ty e s) = spot s ∷ tree_spots e
    tree_spots (binary op l r s) = spot s ∷ (tree_spots l ++ tree_spots r)
    tree_spots (choice t a b s) = spot s ∷ (tree_spots t ++ (tree_spots a ++ tree_spots b))
    tree_spots (assign op place e s) = spot s ∷ (tree_spots place ++ tree_spots e)
    tree_spots (bump before up place s) = spot s ∷ tree_spots place
    tree_spots (comma l r s) = spot s ∷ (tree_spots l ++ tree_spots r)
    tree_spots hole = []
    tree_spots (hole_after e) = tree_spots e

    -- the same of arguments
    pub args_spots : Args → List Spot
    args_spots no_args = []
    args_spots (value e rest) = tree_spots e ++ args_spots rest
    args_spots (format text s rest) = args_spots rest
    args_spots (address e rest) = tree_spots e ++ args_spots rest

-- the first byte of a statement with statements in it, which may declare names
abbrev pub first_byte : Span → Span
first_byte s = record { from = s.from; to = suc s.from }

module _ (ds : List Declaration) where
  -- the same of an expression that may be absent
  abbrev pub option_spots : Option Tree → List Spot
  option_spots None = []
  option_spots (Some e) = tree_spots ds None e

  -- the same of the initialiser of a variable with that word
  abbrev pub initial_spots : List ℕ → Initial → List Spot
  initial_spots word bare_start = []
  initial_spots word (one_start e) = tree_spots ds (Some word) e
  initial_spots word (list_start es) = flat_map (tree_spots ds None) es

-- the same of declarators, one after another; each declarator is in scope in its initialiser
abbrev pub variables_spots :
    List Declaration → List Declaration → Ty → List Variable → List Spot
variables_spots here around ty [] = []
variables_spots here around ty (v ∷ vs) =
    initial_spots (variable_declaration ty v ∷ (here ++ around)) v.word v.start
    ++ variables_spots (variable_declaration ty v ∷ here) around ty vs

-- the same of the first clause of a `for`
abbrev pub first_spots : List Declaration → First → List Spot
first_spots ds no_first = []
first_spots ds (first_act e) = tree_spots ds None e
first_spots ds (first_vars ty vs) = variables_spots [] ds ty vs

-- a statement and what stands in it, where these declarations are in scope
abbrev mutual
  pub code_spots : List Declaration → Code → List Spot
  code_spots ds (empty s) = spot ds None s ∷ []
  code_spots ds (act e s) = spot ds None s ∷ tree_spots ds None e
  code_spots ds (block body s) = spot ds None (first_byte s) ∷ body_spots [] ds body
  code_spots ds (if_then t a s) =
      spot ds None (first_byte s) ∷ (tree_spots ds None t ++ code_spots ds a)
  code_spots ds (if_else t a b s) =
      spot ds None (first_byte s)
      ∷ (tree_spots ds None t ++ (code_spots ds a ++ code_spots ds b))
  code_spots ds (while t a s) =
      spot ds None (first_byte s) ∷ (tree_spots ds None t ++ code_spots ds a)
  code_spots ds (do_while a t s) =
      spot ds None (first_byte s) ∷ (code_spots ds a ++ tree_spots ds None t)
  code_spots ds (for i t u a s) =
      spot ds None (first_byte s)
      ∷ (first_spots ds i
      ++ (option_spots (first_declared i ++ ds) t
      ++ (option_spots (first_declared i ++ ds) u
      ++ code_spots (first_declared i ++ ds) a)))
  code_spots ds (give e s) = spot ds None s ∷ option_spots ds e
  code_spots ds (break s) = spot ds None s ∷ []
  code_spots ds (continue s) = spot ds None s ∷ []

  -- the same of the items of a block, where some names are declared in it before them, and some in the
  -- scopes around it
  pub body_spots : List Declaration → List Declaration → Body → List Spot
  body_spots here around done = []
  body_spots here around (next c rest) =
      code_spots (here ++ around) c ++ body_spots here around rest
  body_spots here around (vars ty vs rest) =
      variables_spots here around ty vs ++ body_spots (declared ty vs here) around rest

-- the same of a body that may be absent
abbrev pub definition_spots :
    List Declaration → List Declaration → Option Body → List Spot
definition_spots here around None = []
definition_spots here around (Some body) = body_spots here around body

module _ (file : List Outer) where
  -- the same of what stands at file scope, where some names are declared there before
  abbrev pub outers_spots : List Declaration → List Outer → List Spot
  outers_spots here [] = []
  outers_spots here (outer_vars ty vs ∷ rest) =
      variables_spots here [] ty vs ++ outers_spots (declared ty vs here) rest
  outers_spots here (outer_func f ∷ rest) =
      definition_spots (params_declared f.params []) (function_declaration file f ∷ here) f.body
      ++ outers_spots (function_declaration file f ∷ here) rest

-- where the expressions and the statements of a program stand
abbrev pub spots : List Outer → List Spot
spots file = outers_spots file library file
