use Rattle.c_types.proofs.Resolving.{program-kept}
use Rattle.c_types.proofs.ResolvedOrder.{program-order}
use Rattle.c_types.proofs.SlotlessBare.{program-bare}
use Rattle.c_types.proofs.laws.resolving_changes_slots.Goals as goal

pub returns : goal.returns
returns c = record { slots = program-kept; order = program-order; bare = program-bare }
