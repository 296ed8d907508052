use Rattle.std.proofs.Common.{◌≡◌, List, ℕ, sym, ap, ◌∙◌, arith, take}
use Rattle.std.specs.Prelude.{reverse}
use Rattle.std.proofs.lemmas.List.{take_all}
use Rattle.c_tree.specs.Views.{function}
use Rattle.c_types.specs.declared.scope.Declaration.{Declaration}
use Rattle.c_types.specs.declared.scope.Scope.TheViews.{out-Scope}
use Rattle.c_types.specs.Least.{least, earlier}
use Rattle.c_types.specs.Programs.{name_faults}
use Rattle.c_types.specs.Scopes.{here}
use Rattle.c_types.proofs.LeastLemmas.{none_before, none_after}
use Rattle.c_types.proofs.ProgramLemmas.{name_more, here_out}
use Rattle.c_types.proofs.program.name_faults.Goals as goal

pub loop-i-init : goal.loop-i-init
loop-i-init c =
    let items = (out-Scope c.args.scope.now).here.items in
    let all : take c.len-i.result items ≡ items = take_all c.len-i.result items (omega (arith, c.len-i.ensures, (out-Scope c.args.scope.now).here.ok.0)) in
    none_before c.none-found.result.fault (least (name_faults (here c.args.scope.now) (function c.args.f.now))) c.none-found.ensures
    ∙ ap (λ (ks : List Declaration). earlier c.none-found.result.fault (least (name_faults ks (function c.args.f.now)))) (here_out c.args.scope.now ∙ ap reverse (sym all))

pub loop-i-preserved : goal.loop-i-preserved
loop-i-preserved c =
    name_more (out-Scope c.args.scope.now).here.items c.loop-i.i c.index.result.now (function c.args.f.now) _ c.loop-i.found.fault c.earlier_faults.result.fault c.and-found.result.fault (omega arith) (omega (arith, c.len-i.ensures, (out-Scope c.args.scope.now).here.ok.0)) c.index.ensures c.earlier_faults.ensures c.and-found.ensures c.loop-i.invariant

pub returns : goal.returns
returns c =
    let zero : c.loop-i.i ≡ 0 = omega arith in
    none_after _ c.loop-i.found.fault (c.loop-i.invariant ∙ ap (λ (i : ℕ). earlier c.loop-i.found.fault (least (name_faults (reverse (take i (out-Scope c.args.scope.now).here.items)) (function c.args.f.now)))) zero)
