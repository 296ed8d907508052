-- The faults of functions and of whole programs (C11 6.9, 6.2.7, 5.1.2.2.1).
use Rattle.std.specs.Prelude.{ℕ, Bool, true, false, not, ◌||◌, ◌&&◌, nat_eq, List, [], ◌∷◌, ◌++◌, map, length, Option, Some, None, is_some, if◌then◌else◌, codes}
use Rattle.std.specs.Str.{bytes_eq}
use Rattle.c_tree.specs.declared.program.Param.{Param}
use Rattle.c_tree.specs.declared.stmt.Ty.{Ty}
use Rattle.c_tree.specs.declared.stmt.Ty.TheVariants.{Int}
use Rattle.c_tree.specs.Tree.{Body, Function, Outer, outer_vars, outer_func}
use Rattle.c_types.specs.declared.fault.Fault.{Fault}
use Rattle.c_types.specs.declared.fault.FaultKind.TheVariants.{Twice, WrongKind, WrongCount, NoMain}
use Rattle.c_types.specs.declared.scope.Declaration.{Declaration}
use Rattle.c_types.specs.declared.scope.Entity.{Entity}
use Rattle.c_types.specs.declared.scope.Entity.TheVariants.{Variable as VariableEntity, Function as FunctionEntity, Library, Printf, Scanf}
use Rattle.c_types.specs.declared.scope.ParamType.{ParamType}
use Rattle.c_types.specs.declared.scope.Storage.TheVariants.{Static}
use Rattle.c_types.specs.Kinds.{same_ty}
use Rattle.c_types.specs.Least.{fault, fault_if}
use Rattle.c_types.specs.Library.{library}
use Rattle.c_types.specs.Scopes.{is_declared}
use Rattle.c_types.specs.Statements.{declared, variables_faults, body_faults}

-- whether the file has a definition of a function of that name
abbrev pub is_defined : List Outer → List ℕ → Bool
is_defined [] word = false
is_defined (outer_vars ty vs ∷ rest) word = is_defined rest word
is_defined (outer_func f ∷ rest) word =
    (is_some f.body && bytes_eq f.word word) || is_defined rest word

-- the type of a parameter
abbrev pub param_type : Param → ParamType
param_type p = record { ty = p.ty; array = p.array }

-- the declaration that a parameter makes
abbrev pub param_declaration : Param → Declaration
param_declaration p = record { word = p.word; entity = VariableEntity p.slot p.ty p.array }

-- the declaration that a prototype or a definition makes in a file; a name of the library needs no
-- definition there
abbrev pub function_declaration : List Outer → Function → Declaration
function_declaration file f = record {
  word = f.word;
  entity = FunctionEntity f.ret (map param_type f.params) (is_some f.body)
      (is_declared library f.word || is_defined file f.word);
}

-- the declarations in a scope after these parameters, the latest first
abbrev pub params_declared : List Param → List Declaration → List Declaration
params_declared [] here = here
params_declared (p ∷ ps) here = params_declared ps (param_declaration p ∷ here)

-- the faults of parameters: two have the same name (C11 6.2.1p4, 6.7p3)
abbrev pub params_faults : List Declaration → List Param → List Fault
params_faults here [] = []
params_faults here (p ∷ ps) =
    fault_if (is_declared here p.word) Twice p.span
    ++ params_faults (param_declaration p ∷ here) ps

-- whether two results are the same
abbrev pub same_result : Option Ty → Option Ty → Bool
same_result None None = true
same_result None (Some b) = false
same_result (Some a) None = false
same_result (Some a) (Some b) = same_ty a b

-- whether two parameters have the same type
abbrev pub same_param : ParamType → ParamType → Bool
same_param a b = same_ty a.ty b.ty && (if a.array then b.array else not b.array)

-- whether parameters of the same number in both lists have
abbrev pub same_params : List ParamType → List ParamType → Bool
same_params [] bs = true
same_params (a ∷ as_) [] = true
same_params (a ∷ as_) (b ∷ bs) = same_param a b && same_params as_ bs

-- A function's name is declared again: it denotes no variable and no function of the library, of two
-- definitions the later is one too many (C11 6.9p5), and the result, the types of the parameters and
-- their number are those of the earlier declaration (C11 6.7p4, 6.7.6.3p15).
abbrev pub redeclared_faults : Entity → Function → List Fault
redeclared_faults (VariableEntity slot ty array) f = fault Twice f.span
redeclared_faults (FunctionEntity ret params body defined) f =
    fault_if (body && is_some f.body) Twice f.span
    ++ (fault_if
    (not (same_result ret f.ret && same_params params (map param_type f.params)))
    WrongKind f.span
    ++ fault_if (not (nat_eq (length params) (length f.params))) WrongCount f.span)
redeclared_faults (Library ret params) f = fault Twice f.span
redeclared_faults Printf f = fault Twice f.span
redeclared_faults Scanf f = fault Twice f.span

-- the faults of a function's name against each earlier declaration of it
abbrev pub name_faults : List Declaration → Function → List Fault
name_faults [] f = []
name_faults (d ∷ ds) f =
    (if bytes_eq d.word f.word then redeclared_faults d.entity f else []) ++ name_faults ds f

-- the faults of a body that may be absent, of a function with that result
abbrev pub definition_faults :
    Option Ty → List Declaration → List Declaration → Option Body → List Fault
definition_faults ret here around None = []
definition_faults ret here around (Some body) = body_faults ret here around false body

module _ (file : List Outer) where
  -- The faults of a prototype or a definition, where some names are declared at file scope before it.
  -- Its own name is in scope in its body (C11 6.2.1p7), and its parameters are declared in the scope of
  -- its body's block (C11 6.9.1p9).
  abbrev pub function_faults : List Declaration → Function → List Fault
  function_faults here f =
      name_faults here f
      ++ (params_faults [] f.params
      ++ definition_faults f.ret (params_declared f.params [])
      (function_declaration file f ∷ here) f.body)

  -- the faults of what stands at file scope, where some names are declared there before
  abbrev pub outers_faults : List Declaration → List Outer → List Fault
  outers_faults here [] = []
  outers_faults here (outer_vars ty vs ∷ rest) =
      variables_faults Static here [] ty vs ++ outers_faults (declared ty vs here) rest
  outers_faults here (outer_func f ∷ rest) =
      function_faults here f ++ outers_faults (function_declaration file f ∷ here) rest

-- whether there are no parameters
abbrev pub has_no_params : List Param → Bool
has_no_params [] = true
has_no_params (p ∷ ps) = false

-- whether a function is a definition of `main` with result `int` and no parameters (C11 5.1.2.2.1p1)
abbrev pub is_main : Function → Bool
is_main f =
    bytes_eq f.word (codes "main")
    && (same_result f.ret (Some Int) && (has_no_params f.params && is_some f.body))

-- whether the file has one
abbrev pub has_main : List Outer → Bool
has_main [] = false
has_main (outer_vars ty vs ∷ rest) = has_main rest
has_main (outer_func f ∷ rest) = is_main f || has_main rest

-- a program without `main` has a fault at the end of the source
abbrev pub main_faults : List Outer → ℕ → List Fault
main_faults file end = fault_if (not (has_main file)) NoMain (record { from = end; to = end })

-- the faults of a whole program, in a source of that length
abbrev pub program_faults : List Outer → ℕ → List Fault
program_faults file end = outers_faults file library file ++ main_faults file end
