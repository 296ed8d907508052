-- What a function declares depends on no span, no slot and no spelling of a constant.
use Rattle.std.proofs.Common.{◌≡◌, ℕ, ◌||◌, ◌&&◌, List, [], ◌∷◌, map, Option, Some, None, is_some, refl, ap, ap₂}
use Rattle.std.specs.Str.{bytes_eq}
use Rattle.c_tree.specs.declared.program.Param.{Param}
use Rattle.c_tree.specs.Tree.{constant, Body, Function, Outer, outer_vars, outer_func, bare_param, bare_maybe, bare_function, bare_program}
use Rattle.c_types.specs.declared.scope.Entity.TheVariants.{Function as FunctionEntity}
use Rattle.c_types.specs.Library.{library}
use Rattle.c_types.specs.Programs.{is_defined, param_type, function_declaration}
use Rattle.c_types.specs.Scopes.{is_declared}

-- parameters have the same types
pub types-same : (ps : List Param) → map param_type (map bare_param ps) ≡ map param_type ps
types-same [] = refl
types-same (p ∷ ps) = ap (λ ts. param_type p ∷ ts) (types-same ps)

-- a body is there or not
pub body_there-same : (b : Option Body) → is_some (bare_maybe b) ≡ is_some b
body_there-same None = refl
body_there-same (Some body) = refl

-- the same functions are defined
defined-same : (file : List Outer) (w : List ℕ)
    → is_defined (bare_program file) w ≡ is_defined file w
defined-same [] w = refl
defined-same (outer_vars ty vs ∷ rest) w = defined-same rest w
defined-same (outer_func f ∷ rest) w =
    ap₂ (λ a b. (a && bytes_eq f.word w) || b) (body_there-same f.body) (defined-same rest w)

-- a function makes the same declaration
pub function_declaration-same : (file : List Outer) (f : Function)
    → function_declaration (bare_program file) (bare_function f) ≡ function_declaration file f
function_declaration-same file f =
    λ i. record {
      word = f.word;
      entity = FunctionEntity f.ret (types-same f.params i) (body_there-same f.body i)
          (is_declared library f.word || defined-same file f.word i);
    }
