use Rattle.repair_cli.proofs.Agreeing.{accepted_are_answered}
use Rattle.repair_cli.proofs.laws.accepted_are_answered.Goals as goal

pub returns : goal.returns
returns c = accepted_are_answered
