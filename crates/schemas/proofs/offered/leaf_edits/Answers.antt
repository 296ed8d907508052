use Rattle.std.proofs.Common.{arith}
use Rattle.schemas.specs.Candidates.{leaf_edits}
use Rattle.schemas.proofs.CandidateLemmas.{leaves_more}
use Rattle.schemas.proofs.offered.leaf_edits.Goals as goal

pub loop-k-preserved : goal.loop-k-preserved
loop-k-preserved c =
    leaves_more c.args.atoms.now c.loop-k.k c.args.count (leaf_edits c.args.atoms.now 0 c.args.count) c.loop-k.edits.items c.add_leaf.new.edits.items (omega arith) c.in_ok-add_leaf.ensures c.loop-k.invariant
