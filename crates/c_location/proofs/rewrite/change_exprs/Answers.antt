use Rattle.std.proofs.Common.{arith}
use Rattle.c_tree.specs.Views.{tree}
use Rattle.c_location.specs.Changes.{rewrite_of}
use Rattle.c_location.specs.Rewrites.{to_tree}
use Rattle.c_location.proofs.ChangeLemmas.{listed_more, listed_all}
use Rattle.c_location.proofs.rewrite.change_exprs.Goals as goal

pub loop-e-preserved : goal.loop-e-preserved
loop-e-preserved c =
    listed_more tree (to_tree c.args.l.now (rewrite_of c.args.change.now)) c.loop-e.e-items c.loop-e.e-index c.e-item.result c.change_expr.new.e _ (omega arith) c.in_ok-change_expr.ensures c.loop-e.invariant

pub returns : goal.returns
returns c = listed_all tree (to_tree c.args.l.now (rewrite_of c.args.change.now)) c.loop-e.e-items c.loop-e.e-index _ (omega arith) c.loop-e.invariant
