-- Where what stands at a location stands: its text, the declarations in scope there, and the names
-- in it.
use Rattle.std.specs.Prelude.{◌≡◌, ℕ, List, [], ◌∷◌, All, Contains, Option, Some}
use Rattle.c_tree.specs.declared.place.Loc.{Loc}
use Rattle.c_tree.specs.Tree.{Outer}
use Rattle.c_types.specs.Found.{code_found}
use Rattle.c_types.specs.Uses.{Use, tree_uses, uses}
use Rattle.c_location.specs.Locations.{Part, expression, statement, part_at}
use Rattle.c_meaning.specs.Filled.{holed}
use Rattle.scope_laws.specs.Laws.{Sees}
use Rattle.scope_laws.specs.Spots.{spots}
use Rattle.run_laws.specs.Holes.{Names, holes}

-- the names in what stands at a location, where these declarations are in scope
abbrev pub part_uses : Names → Option (List ℕ) → Part → List Use
part_uses ds initialised (expression e) = tree_uses ds initialised e
part_uses ds initialised (statement c) = code_found tree_uses ds c

-- A location is a place of a program where these declarations are in scope: its text is that of an
-- expression or a statement there, and the names in that are names of the program in that scope. In
-- the initialiser of a scalar also the word that is being initialised.
pub record StandsIn (p : List Outer) (l : Loc) (ds : Names) : Type 0 where
  pub initialised : Option (List ℕ)
  pub spot : Contains (spots p) (record { text = l.at; scope = ds; initialised = initialised })
  pub part : Part
  pub found : part_at l p ≡ Some part
  pub names : All (Contains (uses p)) (part_uses ds initialised part)
  pub in_scope : All (λ (u : Use). u.scope ≡ ds) (part_uses ds initialised part)

-- A program with a hole at a location has that hole alone. In scope at the hole is what was in scope
-- at the location, and that makes visible what is visible there by the text, in the same order: but
-- in the initialiser of a scalar neither that variable nor one that it hides.
pub record HoleStands (p : List Outer) (l : Loc) : Type 0 where
  pub scope : Names
  pub one : holes (holed l p) ≡ scope ∷ []
  pub stands : StandsIn p l scope
  pub sees : Sees p l.at.from scope stands.initialised
