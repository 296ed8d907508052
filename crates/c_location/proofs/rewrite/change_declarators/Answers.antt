use Rattle.std.proofs.Common.{arith}
use Rattle.c_tree.specs.Views.{variable}
use Rattle.c_location.specs.Changes.{rewrite_of}
use Rattle.c_location.specs.Rewrites.{to_variable}
use Rattle.c_location.proofs.ChangeLemmas.{listed_more, listed_all}
use Rattle.c_location.proofs.rewrite.change_declarators.Goals as goal

pub loop-declarator-preserved : goal.loop-declarator-preserved
loop-declarator-preserved c =
    listed_more variable (to_variable c.args.l.now (rewrite_of c.args.change.now)) c.loop-declarator.declarator-items c.loop-declarator.declarator-index c.declarator-item.result c.change_declarator.new.declarator _ (omega arith) c.in_ok-change_declarator.ensures c.loop-declarator.invariant

pub returns : goal.returns
returns c = listed_all variable (to_variable c.args.l.now (rewrite_of c.args.change.now)) c.loop-declarator.declarator-items c.loop-declarator.declarator-index _ (omega arith) c.loop-declarator.invariant
