use Rattle.run_laws.proofs.Programs.{names-have}
use Rattle.run_laws.proofs.laws.names_have_objects.Goals as goal

pub returns : goal.returns
returns c = names-have
