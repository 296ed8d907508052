use Rattle.bare_laws.proofs.Resolved.{plain-alike}
use Rattle.bare_laws.proofs.laws.slots_alike.Goals as goal

pub returns : goal.returns
returns c = plain-alike
