use Rattle.c_arith.proofs.Words.{xor_word}
use Rattle.c_arith.proofs.bits.bit_xor.Goals as goal

pub returns : goal.returns
returns c = xor_word c.args.left c.args.right c.ranges.left c.ranges.right
