use Rattle.c_types.proofs.Resolving.{program-anew}
use Rattle.c_types.proofs.Checked.{resolved_again}
use Rattle.c_types.proofs.laws.resolving_ignores_slots.Goals as goal

pub returns : goal.returns
returns c = record { before = program-anew; again = resolved_again }
