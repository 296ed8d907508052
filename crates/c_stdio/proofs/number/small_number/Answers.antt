-- One more digit.
use Rattle.c_stdio.proofs.Digits.{one_more}
use Rattle.c_stdio.proofs.number.small_number.Goals as goal

pub loop-digit-preserved : goal.loop-digit-preserved
loop-digit-preserved c = one_more c.args.digits.now c.loop-digit.digit-index c.loop-digit.number c.with_digit-number.result c.loop-digit-test.true c.loop-digit.invariant c.with_digit-number.ensures
