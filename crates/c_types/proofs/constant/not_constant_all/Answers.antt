use Rattle.std.proofs.Common.{◌≡◌, List, [], refl, arith, drop}
use Rattle.std.proofs.lemmas.Grind.{common_steps}
use Rattle.c_tree.specs.declared.expr.Expr.{Expr}
use Rattle.c_tree.specs.Views.{tree, trees}
use Rattle.c_types.specs.Constants.{not_constant, not_constant_all}
use Rattle.c_types.specs.Least.{least}
use Rattle.c_types.proofs.LeastLemmas.{none_before, one_more, all_done, step_by}
use Rattle.c_types.proofs.constant.not_constant_all.Goals as goal

pub loop-e-init : goal.loop-e-init
loop-e-init c = none_before _ _ c.none-faults.ensures

pub loop-e-preserved : goal.loop-e-preserved
loop-e-preserved c =
    one_more (λ (xs : List Expr). least (not_constant_all (trees xs))) c.args.es.now c.loop-e.e-index c.e-item.result _ c.loop-e.faults.fault c.not_constant.result.fault c.and-faults.result.fault (omega arith) c.e-item.is (step_by (not_constant (tree c.e-item.result)) _ _ c.not_constant.ensures) c.and-faults.ensures c.loop-e.invariant

pub returns : goal.returns
returns c =
    let none : drop c.loop-e.e-index c.args.es.now ≡ [] = grind (arith, common_steps) in
    all_done (λ (xs : List Expr). least (not_constant_all (trees xs))) c.args.es.now c.loop-e.e-index _ c.loop-e.faults.fault none refl c.loop-e.invariant
