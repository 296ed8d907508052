-- The variables that are visible by the declarations in scope (C11 6.2.1p4).
use Rattle.std.specs.Prelude.{◌≡◌, ℕ, List, [], ◌∷◌, Option, Some, None}
use Rattle.c_types.specs.declared.scope.Declaration.{Declaration}
use Rattle.c_types.specs.declared.scope.Entity.{Entity}
use Rattle.c_types.specs.declared.scope.Entity.TheVariants.{Variable, Function, Library, Printf, Scanf}
use Rattle.c_types.specs.declared.visible.Visible.{Visible}
use Rattle.c_types.specs.Scopes.{denoted}
use Rattle.c_types.specs.Visible.{others}

-- what is visible of an entity with that word, before other variables; of a function nothing is
abbrev pub onto : List ℕ → Entity → List Visible → List Visible
onto word (Variable slot ty array) rest =
    record { word = word; slot = slot; ty = ty; array = array } ∷ rest
onto word (Function ret params body defined) rest = rest
onto word (Library ret params) rest = rest
onto word Printf rest = rest
onto word Scanf rest = rest

-- The variables that are visible where these declarations are in scope, of which the latest comes first.
-- Each declaration hides those of its name that come after it.
abbrev pub visible_in : List Declaration → List Visible
visible_in [] = []
visible_in (d ∷ ds) = onto d.word d.entity (others d.word (visible_in ds))

-- The usable ones of them. In the initialiser of a scalar with a word neither the new name is nor one that
-- it hides, since its value isn't set.
abbrev pub usable : Option (List ℕ) → List Visible → List Visible
usable None vs = vs
usable (Some word) vs = others word vs

-- a variable is what its word denotes where these declarations are in scope
abbrev pub IsMeant : List Declaration → Visible → Type 0
IsMeant ds v = denoted ds v.word ≡ Some (Variable v.slot v.ty v.array)
