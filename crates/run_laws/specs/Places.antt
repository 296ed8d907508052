-- The scopes in which the parts of a program's functions stand.
use Rattle.std.specs.Prelude.{⊤, ◌≡◌, ◌<◌, ℕ, true, false, List, [], ◌∷◌, map, All, Some, is_some}
use Rattle.std.specs.Str.{bytes_eq}
use Rattle.c_tree.specs.declared.stmt.Slot.{Slot}
use Rattle.c_tree.specs.declared.stmt.Slot.TheVariants.{Unset, Global, Local}
use Rattle.c_tree.specs.Tree.{Function, Outer, outer_vars, outer_func}
use Rattle.c_types.specs.declared.scope.Declaration.{Declaration}
use Rattle.c_types.specs.declared.scope.Entity.{Entity}
use Rattle.c_types.specs.declared.scope.Entity.TheVariants.{Variable as VariableEntity, Function as FunctionEntity, Library, Printf, Scanf}
use Rattle.c_types.specs.Library.{library}
use Rattle.c_types.specs.Programs.{param_type, function_declaration}
use Rattle.c_types.specs.Scopes.{denoted, is_declared}
use Rattle.c_types.specs.Statements.{declared}
use Rattle.c_meaning.specs.Meaning.{definition}
use Rattle.run_laws.specs.Holes.{Names}

-- what is declared at file scope after all of these, where some names are declared there before
abbrev pub outers_declared : List Outer → Names → List Outer → Names
outers_declared file here [] = here
outers_declared file here (outer_vars ty vs ∷ rest) =
    outers_declared file (declared ty vs here) rest
outers_declared file here (outer_func f ∷ rest) =
    outers_declared file (function_declaration file f ∷ here) rest

-- what is declared at file scope at the end of a program
abbrev pub file_scope : List Outer → Names
file_scope file = outers_declared file library file

-- the slots of a function before number n, and all slots of file scope
abbrev pub below : ℕ → Slot → Type 0
below n (Local at) = at < n
below n (Global at) = ⊤
below n Unset = ⊤

-- what a name denotes has one of these slots, if it is a variable
abbrev pub HasSlotIn : (Slot → Type 0) → Entity → Type 0
HasSlotIn slots (VariableEntity slot ty array) = slots slot
HasSlotIn slots (FunctionEntity ret params body defined) = ⊤
HasSlotIn slots (Library ret params) = ⊤
HasSlotIn slots Printf = ⊤
HasSlotIn slots Scanf = ⊤

-- what a name denotes agrees with the definition of a function of that name: it has the same
-- parameters (C11 6.7.6.3p15), or it hides the function
abbrev pub AgreesWith : Function → Entity → Type 0
AgreesWith f (VariableEntity slot ty array) = ⊤
AgreesWith f (FunctionEntity ret params body defined) = params ≡ map param_type f.params
AgreesWith f (Library ret params) = ⊥
AgreesWith f Printf = ⊥
AgreesWith f Scanf = ⊥

-- a name agrees with the definition of that name in a program, if there is one
abbrev pub Agrees : List Outer → Declaration → Type 0
Agrees program d = (word : List ℕ) (f : Function) → bytes_eq d.word word ≡ true
    → definition word program ≡ Some f → AgreesWith f d.entity

-- what is called by a word is there: a function of a file is none of the library's, where it is
-- said to be defined, the program has its definition, and that has the same result; another
-- function is the library's of that word
abbrev pub IsThereAs : List Outer → List ℕ → Entity → Type 0
IsThereAs program word (VariableEntity slot ty array) = ⊤
IsThereAs program word (FunctionEntity ret params body defined) =
    (is_declared library word ≡ false)
    × (defined ≡ true → is_some (definition word program) ≡ true)
    × ((f : Function) → definition word program ≡ Some f → f.ret ≡ ret)
IsThereAs program word (Library ret params) = denoted library word ≡ Some (Library ret params)
IsThereAs program word Printf = denoted library word ≡ Some Printf
IsThereAs program word Scanf = denoted library word ≡ Some Scanf

-- what is called by the name of a declaration is there
abbrev pub IsThere : List Outer → Declaration → Type 0
IsThere program d = IsThereAs program d.word d.entity

-- declarations are those that can be in scope in a function of a program, at a place before which
-- the function has n variables
pub record IsScopeIn (program : List Outer) (n : ℕ) (ds : Names) : Type 0 where
  pub slots : All (λ (d : Declaration). HasSlotIn (below n) d.entity) ds
  pub agrees : All (Agrees program) ds
