use Rattle.std.proofs.Common.{arith}
use Rattle.patch_space.proofs.RankLemmas.{rank_added, rank_left}
use Rattle.patch_space.proofs.ranks.add_rank.Goals as goal

pub returns-in_ok-push : goal.returns-in_ok-push
returns-in_ok-push c =
    rank_added c.args.at.now.items c.args.l c.args.rank c.push.new.self c.index_mut.result.now (omega arith) c.index_mut.ensures.value c.in_ok-push.ensures.items

pub returns-else-l-len : goal.returns-else-l-len
returns-else-l-len c = rank_left c.args.at.now.items c.args.l c.args.rank (omega arith)
