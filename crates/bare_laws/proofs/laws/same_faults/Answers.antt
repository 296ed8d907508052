use Rattle.bare_laws.proofs.Programs.{same_faults, faultless}
use Rattle.bare_laws.proofs.laws.same_faults.Goals as goal

pub returns : goal.returns
returns c = record { kinds = same_faults; none = faultless }
