-- Parameters, earlier declarations of a function, and what stands at file scope, one by one.
use Rattle.std.proofs.Common.{◌≡◌, ℕ, suc, ◌+◌, ◌-◌, ◌<◌, ◌≤◌, List, [], ◌∷◌, ◌++◌, get_or, length, take, drop, map, refl, sym, ap, ◌∙◌, add-one, drop-cons, arith, Option, Some, None, Vec, Global}
use Rattle.c_tree.specs.declared.stmt.Item.{Item}
use Rattle.std.specs.Prelude.{is_some, reverse, true, if◌then◌else◌}
use Rattle.std.specs.Str.{bytes_eq}
use Rattle.std.proofs.lemmas.Grind.{common_steps}
use Rattle.std.proofs.lemmas.List.{append-nil}
use Rattle.c_tree.specs.declared.program.Param.{Param}
use Rattle.c_tree.specs.declared.program.External.{External}
use Rattle.c_tree.specs.Tree.{Function, Outer}
use Rattle.c_tree.specs.Views.{outer, body_option}
use denote.Hole.Carrier
use Rattle.c_types.specs.declared.fault.Fault.{Fault}
use Rattle.c_types.specs.declared.fault.FaultKind.TheVariants.{Twice}
use Rattle.c_types.specs.declared.scope.Declaration.{Declaration}
use Rattle.c_types.specs.declared.scope.ParamType.{ParamType}
use Rattle.c_types.specs.Least.{fault_if, least, earlier}
use Rattle.c_types.specs.Programs.{param_declaration, function_declaration, params_declared, params_faults, same_params, redeclared_faults, name_faults, definition_faults, function_faults, outers_faults}
use Rattle.c_types.specs.Scopes.{is_declared, here}
use Rattle.c_types.specs.declared.scope.Scope.{Scope}
use Rattle.c_types.specs.declared.scope.Scope.TheBlock.{struct-Scope}
use Rattle.c_types.specs.declared.scope.Scope.TheViews.{out-Scope}
use Rattle.c_types.proofs.LeastLemmas.{earlier_assoc, more_from, step_by, joined}

-- where one list of parameters has ended, the rest of the other doesn't matter
pub same_params_nil : (xs : List ParamType) → same_params xs [] ≡ true
same_params_nil [] = refl
same_params_nil (x ∷ xs) = refl

-- one more parameter was looked at
pub params_more : (old next : List Declaration) (ps : List Param) (i : ℕ) (p : Param) (all before now after : Option Fault)
    → i < length ps → p ≡ get_or ps i p → now ≡ least (fault_if (is_declared old p.word) Twice p.span) → next ≡ param_declaration p ∷ old → after ≡ earlier before now
    → all ≡ earlier before (least (params_faults old (drop i ps))) → all ≡ earlier after (least (params_faults next (drop (i + 1) ps)))
params_more old next ps i p all before now after lt is now_is next_is joined_is so_far =
    more_from (λ (xs : List Param). least (params_faults old xs)) (λ (xs : List Param). least (params_faults next xs)) ps i p all before now after lt is
    (step_by (fault_if (is_declared old p.word) Twice p.span) (params_faults (param_declaration p ∷ old) (drop (suc i) ps)) now now_is
    ∙ ap (λ (ks : List Declaration). earlier now (least (params_faults ks (drop (suc i) ps)))) (sym next_is)) joined_is so_far

pub params_declared_more : (all old next : List Declaration) (ps : List Param) (i : ℕ) (p : Param) → i < length ps → p ≡ get_or ps i p → next ≡ param_declaration p ∷ old
    → all ≡ params_declared (drop i ps) old → all ≡ params_declared (drop (i + 1) ps) next
params_declared_more all old next ps i p lt is next_is so_far =
    let front : drop i ps ≡ p ∷ drop (suc i) ps = drop-cons ps i p lt ∙ ap (λ (z : Param). z ∷ drop (suc i) ps) (sym is) in
    rw add-one (so_far ∙ ap (λ (xs : List Param). params_declared xs old) front ∙ ap (params_declared (drop (suc i) ps)) (sym next_is))

-- the last of the first i elements comes first in the other direction
pub last_first : {X : Type 0} (xs : List X) (i : ℕ) (x : X) → 0 < i → i ≤ length xs → x ≡ get_or xs (i - 1) x → reverse (take i xs) ≡ x ∷ reverse (take (i - 1) xs)
last_first {X} xs i x pos le is = grind (arith, common_steps)

-- one more earlier declaration was looked at
pub name_more : (ks : List Declaration) (i : ℕ) (k : Declaration) (f : Function) (all before now after : Option Fault) → 0 < i → i ≤ length ks → k ≡ get_or ks (i - 1) k
    → now ≡ least (if bytes_eq k.word f.word then redeclared_faults k.entity f else []) → after ≡ earlier before now
    → all ≡ earlier before (least (name_faults (reverse (take i ks)) f)) → all ≡ earlier after (least (name_faults (reverse (take (i - 1) ks)) f))
name_more ks i k f all before now after pos le is now_is joined_is so_far =
    let rest = name_faults (reverse (take (i - 1) ks)) f in
    so_far ∙ ap (λ (xs : List Declaration). earlier before (least (name_faults xs f))) (last_first ks i k pos le is)
    ∙ ap (earlier before) (step_by (if bytes_eq k.word f.word then redeclared_faults k.entity f else []) rest now now_is)
    ∙ sym (earlier_assoc before now (least rest)) ∙ ap (λ (x : Option Fault). earlier x (least rest)) (sym joined_is)

-- the faults of a function are those of its name, its parameters and its body
pub function_joined : (file : List Outer) (old next outside inner at : List Declaration) (f : Function) (a b c bc r : Option Fault)
    → next ≡ function_declaration file f ∷ old → outside ≡ [] → inner ≡ params_declared f.params [] → at ≡ next ++ outside
    → a ≡ least (name_faults old f) → b ≡ least (params_faults [] f.params) → c ≡ least (definition_faults f.ret inner at f.body)
    → bc ≡ earlier b c → r ≡ earlier a bc → r ≡ least (function_faults file old f)
function_joined file old next outside inner at f a b c bc r next_is none inner_is at_is a_is b_is c_is bc_is r_is =
    let C = definition_faults f.ret (params_declared f.params []) (function_declaration file f ∷ old) f.body in
    let around : at ≡ function_declaration file f ∷ old = at_is ∙ ap (λ (ks : List Declaration). ks ++ outside) next_is ∙ ap (λ (ks : List Declaration). function_declaration file f ∷ (old ++ ks)) none ∙ append-nil (function_declaration file f ∷ old) in
    let c_in : c ≡ least C = c_is ∙ ap (λ (ks : List Declaration). least (definition_faults f.ret ks at f.body)) inner_is ∙ ap (λ (ks : List Declaration). least (definition_faults f.ret (params_declared f.params []) ks f.body)) around in
    joined (name_faults old f) (params_faults [] f.params ++ C) a bc r r_is a_is (joined (params_faults [] f.params) C b c bc bc_is b_is c_in)

-- one more part of the file was looked at
pub outers_more : (file : List Outer) (old next : List Declaration) (es : List External) (i : ℕ) (e : External) (all before now after : Option Fault)
    → i < length es → e ≡ get_or es i e
    → ((rest : List Outer) → least (outers_faults file old (outer e ∷ rest)) ≡ earlier now (least (outers_faults file next rest)))
    → after ≡ earlier before now
    → all ≡ earlier before (least (outers_faults file old (map outer (drop i es)))) → all ≡ earlier after (least (outers_faults file next (map outer (drop (i + 1) es))))
outers_more file old next es i e all before now after lt is step joined_is so_far =
    more_from (λ (xs : List External). least (outers_faults file old (map outer xs))) (λ (xs : List External). least (outers_faults file next (map outer xs))) es i e all before now after lt is (step (map outer (drop (suc i) es))) joined_is so_far

-- the declarations of a scope are its list, the latest first
pub here_out : (s : Scope) → here s ≡ reverse (out-Scope s).here.items
unfolding out-Scope denote.Hole.Carrier.out
here_out (struct-Scope ks around) = refl

-- whether there is a body
pub is_some_body : (body : Option (Vec Item Global)) → is_some (body_option body) ≡ is_some body
is_some_body None = refl
is_some_body (Some items) = refl
