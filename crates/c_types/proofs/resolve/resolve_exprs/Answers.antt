use Rattle.std.proofs.Common.{◌∷◌, map, refl, ap, arith}
use Rattle.c_tree.specs.Views.{tree}
use Rattle.c_types.specs.Scopes.{in_scope}
use Rattle.c_types.specs.Slots.{resolved_tree}
use Rattle.c_types.proofs.ResolveLemmas.{listed_more, listed_all}
use Rattle.c_types.proofs.resolve.resolve_exprs.Goals as goal

pub loop-e-preserved : goal.loop-e-preserved
loop-e-preserved c =
    let change = map (resolved_tree (in_scope c.args.scope.now)) in
    listed_more tree change change c.loop-e.e-items c.loop-e.e-index c.e-item.result c.resolve_expr.new.e _ (omega arith) (λ rest. ap (λ z. z ∷ change rest) c.resolve_expr.ensures) c.loop-e.invariant

pub returns : goal.returns
returns c = listed_all tree (map (resolved_tree (in_scope c.args.scope.now))) refl c.loop-e.e-items c.loop-e.e-index _ (omega arith) c.loop-e.invariant
