use Rattle.bare_runs.proofs.Runs.{run-alike}
use Rattle.bare_runs.proofs.laws.runs_alike.Goals as goal

pub returns : goal.returns
returns c = run-alike
