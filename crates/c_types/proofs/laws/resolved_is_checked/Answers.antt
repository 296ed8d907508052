use Rattle.c_types.proofs.Checked.{checked}
use Rattle.c_types.proofs.laws.resolved_is_checked.Goals as goal

pub returns : goal.returns
returns c = checked
