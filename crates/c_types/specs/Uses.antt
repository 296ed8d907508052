-- The names in the expressions of a program, each with the declarations that are in scope there.
use Rattle.std.specs.Prelude.{◌≡◌, ◌≢◌, ℕ, Bool, true, false, List, [], ◌∷◌, ◌++◌, Option, Some}
use Rattle.c_tree.specs.declared.stmt.Slot.{Slot}
use Rattle.c_tree.specs.declared.stmt.Slot.TheVariants.{Unset}
use Rattle.c_tree.specs.declared.stmt.Ty.{Ty}
use Rattle.c_tree.specs.Tree.{Tree, constant, name, index, call, unary, cast, binary, choice, assign, bump, comma, hole, hole_after, Args, no_args, value, format, address, Outer}
use Rattle.c_types.specs.declared.scope.Declaration.{Declaration}
use Rattle.c_types.specs.declared.scope.Entity.TheVariants.{Variable as VariableEntity}
use Rattle.c_types.specs.Found.{found}
use Rattle.c_types.specs.Scopes.{denoted}

-- A name, or the name of an array before `[`: its word, its slot, its first byte, and the declarations in
-- scope, the latest first. In the initialiser of a scalar also the word that is being initialised.
pub record Use : Type 0 where
  pub word : List ℕ
  pub slot : Slot
  pub element : Bool
  pub place : ℕ
  pub scope : List Declaration
  pub initialised : Option (List ℕ)

module _ (ds : List Declaration) (initialised : Option (List ℕ)) where
  -- the names in an expression, where these declarations are in scope
  abbrev mutual
    pub tree_uses : Tree → List Use
    tree_uses (constant n word s) = []
    tree_uses (name word slot s) = record {
      word = word;
      slot = slot;
      element = false;
      place = s.from;
      scope = ds;
      initialised = initialised;
    } ∷ []
    tree_uses (index word slot e s) = record {
      word = word;
      slot = slot;
      element = true;
      place = s.from;
      scope = ds;
      initialised = initialised;
    } ∷ tree_uses e
    tree_uses (call word args s) = args_uses args
    tree_uses (unary op e s) = tree_uses e
    tree_uses (cast ty e s) = tree_uses e
    tree_uses (binary op l r s) = tree_uses l ++ tree_uses r
    tree_uses (choice t a b s) = tree_uses t ++ (tree_uses a ++ tree_uses b)
    tree_uses (assign op place e s) = tree_uses place ++ tree_uses e
    tree_uses (bump before up place s) = tree_uses place
    tree_uses (comma l r s) = tree_uses l ++ tree_uses r
    tree_uses hole = []
    tree_uses (hole_after e) = tree_uses e

    -- the same of arguments
    pub args_uses : Args → List Use
    args_uses no_args = []
    args_uses (value e rest) = tree_uses e ++ args_uses rest
    args_uses (format text s rest) = args_uses rest
    args_uses (address e rest) = tree_uses e ++ args_uses rest

-- the names in the expressions of a program
abbrev pub uses : List Outer → List Use
uses = found tree_uses

-- a name has the slot of the variable that it denotes, an array where an element is meant
pub record IsResolved (u : Use) : Type 0 where
  pub ty : Ty
  pub array : Bool
  pub denotes : denoted u.scope u.word ≡ Some (VariableEntity u.slot ty array)
  pub set : u.slot ≢ Unset
  pub indexed : u.element ≡ true → array ≡ true
