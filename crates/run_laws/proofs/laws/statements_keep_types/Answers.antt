use Rattle.run_laws.proofs.Programs.{statements-keep}
use Rattle.run_laws.proofs.laws.statements_keep_types.Goals as goal

pub returns : goal.returns
returns c = statements-keep
