use Rattle.std.proofs.Common.{arith}
use Rattle.c_tree.specs.Views.{outer}
use Rattle.c_location.specs.Changes.{rewrite_of}
use Rattle.c_location.specs.Rewrites.{to_outer}
use Rattle.c_location.proofs.ChangeLemmas.{listed_more, listed_all}
use Rattle.c_location.proofs.rewrite.change_externals.Goals as goal

pub loop-external-preserved : goal.loop-external-preserved
loop-external-preserved c =
    listed_more outer (to_outer c.args.l.now (rewrite_of c.args.change.now)) c.loop-external.external-items c.loop-external.external-index c.external-item.result c.change_external.new.external _ (omega arith) c.in_ok-change_external.ensures c.loop-external.invariant

pub returns : goal.returns
returns c = listed_all outer (to_outer c.args.l.now (rewrite_of c.args.change.now)) c.loop-external.external-items c.loop-external.external-index _ (omega arith) c.loop-external.invariant
