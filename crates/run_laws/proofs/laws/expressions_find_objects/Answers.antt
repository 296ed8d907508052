use Rattle.run_laws.proofs.Programs.{expressions-find}
use Rattle.run_laws.proofs.laws.expressions_find_objects.Goals as goal

pub returns : goal.returns
returns c = expressions-find
