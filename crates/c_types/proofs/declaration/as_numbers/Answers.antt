use Rattle.std.proofs.Common.{◌≡◌, ◌++◌, List, [], refl, arith, drop}
use Rattle.std.proofs.lemmas.Grind.{common_steps}
use Rattle.c_tree.specs.declared.expr.Expr.{Expr}
use Rattle.c_tree.specs.Views.{tree, trees}
use Rattle.c_types.specs.Expressions.{as_number, faults}
use Rattle.c_types.specs.Least.{least}
use Rattle.c_types.specs.Scopes.{in_scope}
use Rattle.c_types.specs.Statements.{as_numbers}
use Rattle.c_types.proofs.LeastLemmas.{none_before, one_more, all_done, step_by}
use Rattle.c_types.proofs.declaration.as_numbers.Goals as goal

pub loop-e-init : goal.loop-e-init
loop-e-init c = none_before _ _ c.none-found.ensures

pub loop-e-preserved : goal.loop-e-preserved
loop-e-preserved c =
    let t = tree c.e-item.result in let ks = in_scope c.args.scope.now in
    one_more (λ (xs : List Expr). least (as_numbers ks (trees xs))) c.args.es.now c.loop-e.e-index c.e-item.result _ c.loop-e.found.fault c.number.result.fault c.and-found.result.fault (omega arith) c.e-item.is
    (step_by (as_number ks t ++ faults ks t) _ _ c.number.ensures) c.and-found.ensures c.loop-e.invariant

pub returns : goal.returns
returns c =
    let none : drop c.loop-e.e-index c.args.es.now ≡ [] = grind (arith, common_steps) in
    all_done (λ (xs : List Expr). least (as_numbers (in_scope c.args.scope.now) (trees xs))) c.args.es.now c.loop-e.e-index _ c.loop-e.found.fault none refl c.loop-e.invariant
