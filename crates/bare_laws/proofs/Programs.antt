-- The kinds of the faults of a program depend on no span, no slot and no spelling of a constant.
use Rattle.std.proofs.Common.{◌≡◌, ℕ, Bool, true, false, not, ◌||◌, ◌&&◌, nat_eq, if◌then◌else◌, List, [], ◌∷◌, map, length, Option, Some, None, is_some, refl, sym, ap, ap₂, ◌∙◌, codes}
use Rattle.std.specs.Str.{bytes_eq}
use Rattle.std.proofs.lemmas.List.{length-map}
use Rattle.c_tree.specs.declared.program.Param.{Param}
use Rattle.c_tree.specs.declared.stmt.Ty.{Ty}
use Rattle.c_tree.specs.declared.stmt.Ty.TheVariants.{Int}
use Rattle.c_tree.specs.Tree.{Body, Function, Outer, outer_vars, outer_func, no_span, bare_param, bare_maybe, bare_function, bare_program}
use Rattle.c_types.specs.declared.fault.Fault.{Fault}
use Rattle.c_types.specs.declared.fault.FaultKind.TheVariants.{Twice, WrongKind, WrongCount, NoMain}
use Rattle.c_types.specs.declared.scope.Declaration.{Declaration}
use Rattle.c_types.specs.declared.scope.Entity.{Entity}
use Rattle.c_types.specs.declared.scope.Entity.TheVariants.{Variable as VariableEntity, Function as FunctionEntity, Library, Printf, Scanf}
use Rattle.c_types.specs.declared.scope.Storage.TheVariants.{Static}
use Rattle.c_types.specs.Evidence.{IsChecked}
use Rattle.c_types.specs.Laws.{ResolvingKeepsBare, ResolvedIsChecked}
use Rattle.c_types.specs.Least.{fault_if}
use Rattle.c_types.specs.Library.{library}
use Rattle.c_types.specs.Programs.{param_type, param_declaration, function_declaration, params_declared, params_faults, same_result, same_params, redeclared_faults, name_faults, definition_faults, function_faults, outers_faults, has_no_params, is_main, has_main, program_faults}
use Rattle.c_types.specs.Scopes.{is_declared}
use Rattle.c_types.specs.Slots.{resolved}
use Rattle.c_types.specs.Statements.{declared}
use Rattle.bare_laws.specs.Laws.{kinds_of, ChecksAs, FaultlessAlike}
use Rattle.bare_laws.proofs.Declared.{types-same, body_there-same, function_declaration-same}
use Rattle.bare_laws.proofs.Resolved.{plain-alike}
use Rattle.bare_laws.proofs.SameKinds.{SameKinds, none, one, test, both, but_equal}
use Rattle.bare_laws.proofs.Scopes.{plain, slotless, declared-same}
use Rattle.bare_laws.proofs.Statements.{declared_all-same, variables-alike, body-alike}

-- ---- functions

params_declared-same : (ps : List Param) (here : List Declaration)
    → params_declared (map bare_param ps) (map slotless here)
    ≡ map slotless (params_declared ps here)
params_declared-same [] here = refl
params_declared-same (p ∷ ps) here = params_declared-same ps (param_declaration p ∷ here)

params-alike : (here : List Declaration) (ps : List Param)
    → SameKinds (params_faults (map slotless here) (map bare_param ps)) (params_faults here ps)
params-alike here [] = none
params-alike here (p ∷ ps) =
    both
    (but_equal (ap (λ b. fault_if b Twice no_span) (declared-same here p.word))
    (test (is_declared here p.word) Twice no_span p.span))
    (params-alike (param_declaration p ∷ here) ps)

redeclared-alike : (e : Entity) (f : Function)
    → SameKinds (redeclared_faults (plain e) (bare_function f)) (redeclared_faults e f)
redeclared-alike (VariableEntity slot ty array) f = one Twice no_span f.span
redeclared-alike (FunctionEntity ret params body defined) f =
    both
    (but_equal (ap (λ b. fault_if (body && b) Twice no_span) (body_there-same f.body))
    (test (body && is_some f.body) Twice no_span f.span))
    (both
    (but_equal
    (ap (λ ts. fault_if (not (same_result ret f.ret && same_params params ts)) WrongKind no_span)
    (types-same f.params))
    (test (not (same_result ret f.ret && same_params params (map param_type f.params))) WrongKind no_span f.span))
    (but_equal
    (ap (λ n. fault_if (not (nat_eq (length params) n)) WrongCount no_span) (length-map f.params bare_param))
    (test (not (nat_eq (length params) (length f.params))) WrongCount no_span f.span)))
redeclared-alike (Library ret params) f = one Twice no_span f.span
redeclared-alike Printf f = one Twice no_span f.span
redeclared-alike Scanf f = one Twice no_span f.span

-- where a word is the function's
where_same : (b : Bool) {fs gs : List Fault} → SameKinds fs gs
    → SameKinds (if b then fs else []) (if b then gs else [])
where_same true a = a
where_same false a = none

name-alike : (here : List Declaration) (f : Function)
    → SameKinds (name_faults (map slotless here) (bare_function f)) (name_faults here f)
name-alike [] f = none
name-alike (d ∷ ds) f =
    both (where_same (bytes_eq d.word f.word) (redeclared-alike d.entity f)) (name-alike ds f)

definition-alike : (ret : Option Ty) (here around : List Declaration) (b : Option Body)
    → SameKinds (definition_faults ret (map slotless here) (map slotless around) (bare_maybe b))
    (definition_faults ret here around b)
definition-alike ret here around None = none
definition-alike ret here around (Some body) = body-alike ret here around false body

-- ---- programs

module _ (file : List Outer) where
  -- the function's own name
  own-same : (f : Function) (here : List Declaration)
      → function_declaration (bare_program file) (bare_function f) ∷ map slotless here
      ≡ map slotless (function_declaration file f ∷ here)
  own-same f here = ap (λ d. d ∷ map slotless here) (function_declaration-same file f)

  function-alike : (here : List Declaration) (f : Function)
      → SameKinds (function_faults (bare_program file) (map slotless here) (bare_function f))
      (function_faults file here f)
  function-alike here f =
      both (name-alike here f)
      (both (params-alike [] f.params)
      (but_equal
      (ap₂ (λ hs os. definition_faults f.ret hs os (bare_maybe f.body))
      (params_declared-same f.params []) (own-same f here))
      (definition-alike f.ret (params_declared f.params []) (function_declaration file f ∷ here) f.body)))

  outers-alike : (here : List Declaration) (p : List Outer)
      → SameKinds (outers_faults (bare_program file) (map slotless here) (bare_program p))
      (outers_faults file here p)
  outers-alike here [] = none
  outers-alike here (outer_vars ty vs ∷ rest) =
      both (variables-alike Static here [] ty vs)
      (but_equal
      (ap (λ hs. outers_faults (bare_program file) hs (bare_program rest)) (declared_all-same ty vs here))
      (outers-alike (declared ty vs here) rest))
  outers-alike here (outer_func f ∷ rest) =
      both (function-alike here f)
      (but_equal
      (ap (λ hs. outers_faults (bare_program file) hs (bare_program rest)) (own-same f here))
      (outers-alike (function_declaration file f ∷ here) rest))

no_params-same : (ps : List Param) → has_no_params (map bare_param ps) ≡ has_no_params ps
no_params-same [] = refl
no_params-same (p ∷ ps) = refl

is_main-same : (f : Function) → is_main (bare_function f) ≡ is_main f
is_main-same f =
    λ i. bytes_eq f.word (codes "main")
    && (same_result f.ret (Some Int) && (no_params-same f.params i && body_there-same f.body i))

main-same : (p : List Outer) → has_main (bare_program p) ≡ has_main p
main-same [] = refl
main-same (outer_vars ty vs ∷ rest) = main-same rest
main-same (outer_func f ∷ rest) = ap₂ (λ a b. a || b) (is_main-same f) (main-same rest)

-- the faults of a program are of the kinds of those of the bare program
bare-alike : (p : List Outer) (m n : ℕ)
    → SameKinds (program_faults (bare_program p) m) (program_faults p n)
bare-alike p m n =
    both (outers-alike p library p)
    (but_equal
    (ap (λ b. fault_if (not b) NoMain (record { from = m; to = m })) (main-same p))
    (test (not (has_main p)) NoMain (record { from = m; to = m }) (record { from = n; to = n })))

-- programs that are the same without spans, slots and the spelling of constants have faults of the
-- same kinds
pub same_faults : (p q : List Outer) (m n : ℕ) → bare_program p ≡ bare_program q
    → kinds_of (program_faults p m) ≡ kinds_of (program_faults q n)
same_faults p q m n e =
    sym (bare-alike p m m).same ∙ ap (λ x. kinds_of (program_faults x m)) e ∙ (bare-alike q m n).same

-- faults of no kinds are none
no_kinds : (fs : List Fault) → kinds_of fs ≡ [] → fs ≡ []
no_kinds [] e = refl
no_kinds (f ∷ fs) e = absurd (cc)

-- so where one has none, neither has the other
pub faultless : (p q : List Outer) (m n : ℕ) → bare_program p ≡ bare_program q
    → program_faults p m ≡ [] → program_faults q n ≡ []
faultless p q m n e none =
    no_kinds (program_faults q n) (sym (same_faults p q m n e) ∙ ap kinds_of none)

-- a program that is the same as a checked one
pub checked : FaultlessAlike → ResolvedIsChecked → ResolvingKeepsBare → (q p : List Outer)
    → IsChecked q → bare_program p ≡ bare_program q → ChecksAs q p
checked alike resolves keeps q p c e = record {
  faultless = λ end. alike q p 0 end (sym e) (c.faultless 0);
  checked = resolves p 0 (alike q p 0 0 (sym e) (c.faultless 0));
  is_same =
      plain-alike (resolved p) q (resolves p 0 (alike q p 0 0 (sym e) (c.faultless 0))) c (keeps p ∙ e);
}
