use Rattle.std.proofs.Common.{arith}
use Rattle.interp_code.specs.Flat.{plan_at}
use Rattle.interp_code.proofs.Lists.{declarator_more}
use Rattle.interp_code.proofs.declarations.flat_declaration.Goals as goal

pub each-preserved : goal.each-preserved
each-preserved c = record {
  left = omega arith;
  grown = declarator_more c.args.context.now c.args.nodes.now c.each.nodes c.flat_declarator.new.nodes c.args.scope c.args.ty c.args.declarators.now c.each.left c.each.at c.in_ok-at.at c.index-declarators-left.result (plan_at c.args.nodes.now c.args.next) (omega arith) c.each.invariant.left c.index-declarators-left.is c.each.invariant.grown c.in_ok-at.ensures;
}
