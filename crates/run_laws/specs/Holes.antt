-- The scopes in which the holes of a program stand.
use Rattle.std.specs.Prelude.{ℕ, List, [], ◌∷◌, ◌++◌, Option}
use Rattle.c_tree.specs.Tree.{Tree, constant, name, index, call, unary, cast, binary, choice, assign, bump, comma, hole, hole_after, Args, no_args, value, format, address, Outer}
use Rattle.c_types.specs.declared.scope.Declaration.{Declaration}
use Rattle.c_types.specs.Found.{found}

-- the declarations that are in scope at a place, the latest first
abbrev pub Names : Type 0
Names = List Declaration

module _ (ds : Names) where
  -- the scopes of the holes in an expression, where these declarations are in scope
  abbrev mutual
    pub tree_holes : Tree → List Names
    tree_holes (constant n word s) = []
    tree_holes (name word slot s) = []
    tree_holes (index word slot e s) = tree_holes e
    tree_holes (call word args s) = args_holes args
    tree_holes (unary op e s) = tree_holes e
    tree_holes (cast ty e s) = tree_holes e
    tree_holes (binary op l r s) = tree_holes l ++ tree_holes r
    tree_holes (choice t a b s) = tree_holes t ++ (tree_holes a ++ tree_holes b)
    tree_holes (assign op place e s) = tree_holes place ++ tree_holes e
    tree_holes (bump before up place s) = tree_holes place
    tree_holes (comma l r s) = tree_holes l ++ tree_holes r
    tree_holes hole = ds ∷ []
    tree_holes (hole_after e) = tree_holes e ++ ds ∷ []

    -- the same of arguments
    pub args_holes : Args → List Names
    args_holes no_args = []
    args_holes (value e rest) = tree_holes e ++ args_holes rest
    args_holes (format text s rest) = args_holes rest
    args_holes (address e rest) = tree_holes e ++ args_holes rest

-- the same, whatever is being initialised
abbrev pub of_holes : Names → Option (List ℕ) → Tree → List Names
of_holes ds initialised e = tree_holes ds e

-- the scopes of the holes of a program
abbrev pub holes : List Outer → List Names
holes = found of_holes
