use Rattle.std.proofs.Common.{◌∙◌}
use Rattle.c_meaning.proofs.Objects.{clear_more}
use Rattle.c_meaning.proofs.bind.store_zeros.Goals as goal

pub loop-at-preserved : goal.loop-at-preserved
loop-at-preserved c = c.loop-at.invariant ∙ clear_more c.args.slot c.loop-at.at c.args.to _ c.loop-at.state c.store_at.new.self c.loop-at-test.true c.in_ok-store_at.ensures
