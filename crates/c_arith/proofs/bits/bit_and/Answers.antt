use Rattle.c_arith.proofs.Words.{and_word}
use Rattle.c_arith.proofs.bits.bit_and.Goals as goal

pub returns : goal.returns
returns c = and_word c.args.left c.args.right c.ranges.left c.ranges.right
