use Rattle.std.proofs.Common.{ap, arith, sym}
use Rattle.patch_space.proofs.RankLemmas.{rank_more}
use Rattle.patch_space.proofs.ranks.ranks_by_location.Goals as goal

pub loop-i-preserved : goal.loop-i-preserved
loop-i-preserved c = λ k lt. rank_more k c.loop-i.i _ c.args.patches.now c.index-patches-i.result _ _ _ (omega arith) (sym (ap (λ p. p.loc) c.index-patches-i.is)) (c.in_ok-add_rank.ensures k) (c.loop-i.invariant k lt)
