use Rattle.c_arith.proofs.TwosComplement.{bits_are_those}
use Rattle.c_arith.proofs.laws.bits_are_those.Goals as goal

pub returns : goal.returns
returns c = bits_are_those
