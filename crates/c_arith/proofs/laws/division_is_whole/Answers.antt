use Rattle.c_arith.proofs.Remainders.{division_whole, remainders_less}
use Rattle.c_arith.proofs.laws.division_is_whole.Goals as goal

pub returns : goal.returns
returns c = record { whole = division_whole; less = remainders_less }
