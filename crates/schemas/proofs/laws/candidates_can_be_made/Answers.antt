use Rattle.schemas.proofs.Makeable.{candidates_made}
use Rattle.schemas.proofs.laws.candidates_can_be_made.Goals as goal

pub returns : goal.returns
returns c = candidates_made
