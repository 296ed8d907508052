use Rattle.std.proofs.Common.{◌∷◌, [], sym, subst, arith}
use Rattle.c_tree.specs.declared.program.External.{External}
use Rattle.c_tree.specs.Views.{outer}
use Rattle.interp_code.specs.Compile.{plan_main, plan_outers}
use Rattle.interp_code.specs.Flat.{plan_at, Grown}
use Rattle.interp_code.specs.Holed.{heads, outers}
use Rattle.interp_code.proofs.Starts.{outer_more}
use Rattle.interp_code.proofs.program.flat_start.Goals as goal

pub each-preserved : goal.each-preserved
each-preserved c =
    let x = c.args.context.now in
    let made = subst (λ (z : External). Grown c.each.nodes c.flat_outer.new.nodes c.in_ok-at-2.at (plan_outers (heads x) (outer z ∷ []) (plan_at c.each.nodes c.each.at))) (sym c.index-context-left.is) c.in_ok-at-2.ensures in
    record {
      left = omega arith;
      grown = outer_more (heads x) c.args.nodes.now c.each.nodes c.flat_outer.new.nodes x.externals.now c.each.left c.each.at c.in_ok-at-2.at c.index-context-left.result (plan_main (outers x)) (omega arith) c.each.invariant.left c.index-context-left.is c.each.invariant.grown made;
    }
