use Rattle.c_types.proofs.NamesResolved.{names-resolved}
use Rattle.c_types.proofs.laws.names_are_resolved.Goals as goal

pub returns : goal.returns
returns c = names-resolved
