use Rattle.c_types.proofs.Checked.{resolved_faults}
use Rattle.c_types.proofs.SlotlessFaults.{program-same}
use Rattle.c_types.proofs.laws.faults_ignore_slots.Goals as goal

pub returns : goal.returns
returns c = record { before = program-same; resolved = resolved_faults }
