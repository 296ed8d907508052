use Rattle.c_arith.proofs.Words.{or_word}
use Rattle.c_arith.proofs.bits.bit_or.Goals as goal

pub returns : goal.returns
returns c = or_word c.args.left c.args.right c.ranges.left c.ranges.right
