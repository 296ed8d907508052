-- The digits of a text are digits.
use Rattle.c_stdio.proofs.Digits.{digits_are}
use Rattle.c_stdio.proofs.scan.read.Goals as goal

pub small_number-requires : goal.small_number-requires
small_number-requires c = digits_are c.args.text.now c.args.digits.now c.requires
