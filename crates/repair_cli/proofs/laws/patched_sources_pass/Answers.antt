use Rattle.repair_cli.proofs.Passing.{sources_pass}
use Rattle.repair_cli.proofs.laws.patched_sources_pass.Goals as goal

pub returns : goal.returns
returns c = sources_pass c.patches_read_again.ensures c.runs_alike.ensures
