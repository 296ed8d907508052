-- The calls in the expressions of a program, each with the declarations that are in scope there, and
-- arrays as their arguments: what stands at an array parameter is the name of an array.
use Rattle.std.specs.Prelude.{⊤, ◌≡◌, ℕ, true, false, List, [], ◌∷◌, ◌++◌, Option, Some}
use Rattle.c_tree.specs.declared.program.Param.{Param}
use Rattle.c_tree.specs.declared.stmt.Ty.{Ty}
use Rattle.c_tree.specs.Tree.{Tree, constant, name, index, call, unary, cast, binary, choice, assign, bump, comma, hole, hole_after, Args, no_args, value, format, address, Outer}
use Rattle.c_types.specs.declared.scope.Entity.TheVariants.{Variable as VariableEntity}
use Rattle.c_types.specs.Found.{found}
use Rattle.c_types.specs.Scopes.{denoted}
use Rattle.c_meaning.specs.Meaning.{definition, params_of}
use Rattle.run_laws.specs.Holes.{Names}

-- ---- arrays

-- an expression is the name of an array of that type, with its slot
abbrev pub IsArrayName : Names → Ty → Tree → Type 0
IsArrayName ds ty (name word slot s) = denoted ds word ≡ Some (VariableEntity slot ty true)
IsArrayName ds ty (constant n word s) = ⊥
IsArrayName ds ty (index word slot e s) = ⊥
IsArrayName ds ty (call word args s) = ⊥
IsArrayName ds ty (unary op e s) = ⊥
IsArrayName ds ty (cast tz e s) = ⊥
IsArrayName ds ty (binary op l r s) = ⊥
IsArrayName ds ty (choice t a b s) = ⊥
IsArrayName ds ty (assign op place e s) = ⊥
IsArrayName ds ty (bump before up place s) = ⊥
IsArrayName ds ty (comma l r s) = ⊥
IsArrayName ds ty hole = ⊥
IsArrayName ds ty (hole_after e) = ⊥

-- each argument that stands at an array parameter is the name of an array of the parameter's type; a
-- format or a place stands at none
abbrev pub PassesArrays : Names → List Param → Args → Type 0
PassesArrays ds [] args = ⊤
PassesArrays ds (p ∷ ps) no_args = ⊤
PassesArrays ds (p ∷ ps) (value e rest) =
    (p.array ≡ true → IsArrayName ds p.ty e) × PassesArrays ds ps rest
PassesArrays ds (p ∷ ps) (format text s rest) = (p.array ≡ false) × PassesArrays ds ps rest
PassesArrays ds (p ∷ ps) (address e rest) = (p.array ≡ false) × PassesArrays ds ps rest

-- ---- calls

-- a call: the called word, the arguments, and the declarations in scope, the latest first
pub record Call : Type 0 where
  pub word : List ℕ
  pub args : Args
  pub scope : Names

-- a call passes arrays to the definition of its word by their names; a function of the library, of
-- which the program has no definition, takes none
abbrev pub PassesByName : List Outer → Call → Type 0
PassesByName program c = PassesArrays c.scope (params_of (definition c.word program)) c.args

module _ (ds : Names) where
  -- the calls in an expression, where these declarations are in scope
  abbrev mutual
    pub tree_calls : Tree → List Call
    tree_calls (constant n word s) = []
    tree_calls (name word slot s) = []
    tree_calls (index word slot e s) = tree_calls e
    tree_calls (call word args s) =
        record { word = word; args = args; scope = ds } ∷ args_calls args
    tree_calls (unary op e s) = tree_calls e
    tree_calls (cast ty e s) = tree_calls e
    tree_calls (binary op l r s) = tree_calls l ++ tree_calls r
    tree_calls (choice t a b s) = tree_calls t ++ (tree_calls a ++ tree_calls b)
    tree_calls (assign op place e s) = tree_calls place ++ tree_calls e
    tree_calls (bump before up place s) = tree_calls place
    tree_calls (comma l r s) = tree_calls l ++ tree_calls r
    tree_calls hole = []
    tree_calls (hole_after e) = tree_calls e

    -- the same of arguments
    pub args_calls : Args → List Call
    args_calls no_args = []
    args_calls (value e rest) = tree_calls e ++ args_calls rest
    args_calls (format text s rest) = args_calls rest
    args_calls (address e rest) = tree_calls e ++ args_calls rest

-- the same, whatever is being initialised
abbrev pub of_calls : Names → Option (List ℕ) → Tree → List Call
of_calls ds initialised e = tree_calls ds e

-- the calls that are written in a program
abbrev pub written_calls : List Outer → List Call
written_calls = found of_calls
