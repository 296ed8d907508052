-- The functions of the library, which are declared at file scope from the start, with or without the
-- headers that declare them (C11 7.21.6, 7.21.7, 7.22.4.4, 7.22.6.1).
use Rattle.std.specs.Prelude.{ℕ, false, List, [], ◌∷◌, Some, None, codes}
use Rattle.c_tree.specs.declared.stmt.Ty.TheVariants.{Int}
use Rattle.c_types.specs.declared.scope.Declaration.{Declaration}
use Rattle.c_types.specs.declared.scope.Entity.{Entity}
use Rattle.c_types.specs.declared.scope.Entity.TheVariants.{Library, Printf, Scanf}
use Rattle.c_types.specs.declared.scope.ParamType.{ParamType}

-- a parameter of type `int`
abbrev pub int_param : ParamType
int_param = record { ty = Int; array = false }

-- a name of the library
abbrev pub library_name : List ℕ → Entity → Declaration
library_name word entity = record { word = word; entity = entity }

-- `getchar` has no parameter; `putchar`, `exit` and `abs` have one `int`; `exit` alone has no result
abbrev pub library : List Declaration
library =
    library_name (codes "getchar") (Library (Some Int) [])
    ∷ (library_name (codes "putchar") (Library (Some Int) (int_param ∷ []))
    ∷ (library_name (codes "printf") Printf
    ∷ (library_name (codes "scanf") Scanf
    ∷ (library_name (codes "exit") (Library None (int_param ∷ []))
    ∷ (library_name (codes "abs") (Library (Some Int) (int_param ∷ [])) ∷ [])))))
