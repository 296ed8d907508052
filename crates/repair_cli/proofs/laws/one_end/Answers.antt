use Rattle.repair_cli.proofs.Agreeing.{one_end}
use Rattle.repair_cli.proofs.laws.one_end.Goals as goal

pub returns : goal.returns
returns c = one_end
