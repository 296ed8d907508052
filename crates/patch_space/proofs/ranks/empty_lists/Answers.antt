use Rattle.patch_space.proofs.RankLemmas.{empties_more}
use Rattle.patch_space.proofs.ranks.empty_lists.Goals as goal

pub loop-preserved : goal.loop-preserved
loop-preserved c = empties_more c.loop.at.items c.push.new.self.items c.new.result c.loop.counter c.in_ok-push.ensures.items c.loop.invariant.0 c.new.ensures.items c.loop.invariant.1
