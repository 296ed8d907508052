use Rattle.interp_code.proofs.Right.{plans_do}
use Rattle.interp_code.proofs.laws.plans_are_right.Goals as goal

pub returns : goal.returns
returns c = plans_do
