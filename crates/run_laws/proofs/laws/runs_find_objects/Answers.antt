use Rattle.run_laws.proofs.Programs.{runs-find}
use Rattle.run_laws.proofs.laws.runs_find_objects.Goals as goal

pub returns : goal.returns
returns c = runs-find
