use Rattle.c_types.proofs.Operators.{operators_alike}
use Rattle.c_types.proofs.laws.operators_are_typed_alike.Goals as goal

pub returns : goal.returns
returns c = operators_alike
