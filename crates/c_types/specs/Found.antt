-- What is found in the expressions of a program. Each full expression is searched with the declarations
-- that are in scope there, the latest first. In the initialiser of a scalar the search is told the word
-- that is being initialised as well.
use Rattle.std.specs.Prelude.{List, [], ◌∷◌, ◌++◌, ℕ, Option, Some, None}
use Rattle.std.specs.List.{flat_map}
use Rattle.c_tree.specs.declared.stmt.Ty.{Ty}
use Rattle.c_tree.specs.Tree.{Tree, Initial, bare_start, one_start, list_start, Variable, First, no_first, first_act, first_vars, Code, empty, act, block, if_then, if_else, while, do_while, for, give, break, continue, Body, done, next, vars, Outer, outer_vars, outer_func}
use Rattle.c_types.specs.declared.scope.Declaration.{Declaration}
use Rattle.c_types.specs.Library.{library}
use Rattle.c_types.specs.Programs.{function_declaration, params_declared}
use Rattle.c_types.specs.Statements.{variable_declaration, declared, first_declared}

module _ {A : Type 0} (in_tree : List Declaration → Option (List ℕ) → Tree → List A) where
  module _ (ds : List Declaration) where
    -- what is found in an expression that may be absent
    abbrev pub option_found : Option Tree → List A
    option_found None = []
    option_found (Some e) = in_tree ds None e

    -- the same of the initialiser of a variable with that word
    abbrev pub initial_found : List ℕ → Initial → List A
    initial_found word bare_start = []
    initial_found word (one_start e) = in_tree ds (Some word) e
    initial_found word (list_start es) = flat_map (in_tree ds None) es

  -- what is found in declarators, one after another; each declarator is in scope in its initialiser
  abbrev pub variables_found : List Declaration → List Declaration → Ty → List Variable → List A
  variables_found here around ty [] = []
  variables_found here around ty (v ∷ vs) =
      initial_found (variable_declaration ty v ∷ (here ++ around)) v.word v.start
      ++ variables_found (variable_declaration ty v ∷ here) around ty vs

  -- what is found in the first clause of a `for`
  abbrev pub first_found : List Declaration → First → List A
  first_found ds no_first = []
  first_found ds (first_act e) = in_tree ds None e
  first_found ds (first_vars ty vs) = variables_found [] ds ty vs

  -- what is found in a statement, where these declarations are in scope
  abbrev mutual
    pub code_found : List Declaration → Code → List A
    code_found ds (empty s) = []
    code_found ds (act e s) = in_tree ds None e
    code_found ds (block body s) = body_found [] ds body
    code_found ds (if_then t a s) = in_tree ds None t ++ code_found ds a
    code_found ds (if_else t a b s) = in_tree ds None t ++ (code_found ds a ++ code_found ds b)
    code_found ds (while t a s) = in_tree ds None t ++ code_found ds a
    code_found ds (do_while a t s) = code_found ds a ++ in_tree ds None t
    code_found ds (for i t u a s) =
        first_found ds i
        ++ (option_found (first_declared i ++ ds) t
        ++ (option_found (first_declared i ++ ds) u
        ++ code_found (first_declared i ++ ds) a))
    code_found ds (give e s) = option_found ds e
    code_found ds (break s) = []
    code_found ds (continue s) = []

    -- the same of the items of a block, where some names are declared in it before them, and some in the
    -- scopes around it
    pub body_found : List Declaration → List Declaration → Body → List A
    body_found here around done = []
    body_found here around (next c rest) = code_found (here ++ around) c ++ body_found here around rest
    body_found here around (vars ty vs rest) =
        variables_found here around ty vs ++ body_found (declared ty vs here) around rest

  -- the same of a body that may be absent
  abbrev pub definition_found : List Declaration → List Declaration → Option Body → List A
  definition_found here around None = []
  definition_found here around (Some body) = body_found here around body

  module _ (file : List Outer) where
    -- the same of what stands at file scope, where some names are declared there before
    abbrev pub outers_found : List Declaration → List Outer → List A
    outers_found here [] = []
    outers_found here (outer_vars ty vs ∷ rest) =
        variables_found here [] ty vs ++ outers_found (declared ty vs here) rest
    outers_found here (outer_func f ∷ rest) =
        definition_found (params_declared f.params []) (function_declaration file f ∷ here) f.body
        ++ outers_found (function_declaration file f ∷ here) rest

  -- what is found in a program
  abbrev pub found : List Outer → List A
  found file = outers_found file library file
