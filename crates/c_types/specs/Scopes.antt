-- The names that are in scope at a place, and what they denote (C11 6.2.1).
use Rattle.std.specs.Prelude.{ℕ, Bool, List, [], ◌∷◌, ◌++◌, reverse, Option, Some, None, is_some, if◌then◌else◌}
use Rattle.std.specs.Str.{bytes_eq}
use Rattle.c_types.specs.declared.scope.Declaration.{Declaration}
use Rattle.c_types.specs.declared.scope.Entity.{Entity}
use Rattle.c_types.specs.declared.scope.Scope.{Scope}
use Rattle.c_types.specs.declared.scope.Scope.TheBlock.{struct-Scope, None', Some'}

-- What a word denotes among declarations of which the latest comes first. Those of inner scopes come
-- before those of outer ones, so an inner name hides an outer one (C11 6.2.1p4).
abbrev pub denoted : List Declaration → List ℕ → Option Entity
denoted [] word = None
denoted (d ∷ ds) word = if bytes_eq d.word word then Some d.entity else denoted ds word

-- whether a word is declared among these
abbrev pub is_declared : List Declaration → List ℕ → Bool
is_declared ds word = is_some (denoted ds word)

-- the declarations in a scope so far, the latest first
abbrev pub here : Scope → List Declaration
here (struct-Scope ds around) = reverse ds.items

-- the declarations in the scopes around it, the innermost scope first
abbrev pub outside : Scope → List Declaration
outside (struct-Scope ds None') = []
outside (struct-Scope ds (Some' r s)) = here s ++ outside s

-- all declarations that are in scope
abbrev pub in_scope : Scope → List Declaration
in_scope s = here s ++ outside s
