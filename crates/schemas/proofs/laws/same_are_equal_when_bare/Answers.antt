use Rattle.schemas.proofs.SameLemmas.{same-Decides}
use Rattle.schemas.proofs.laws.same_are_equal_when_bare.Goals as goal

pub returns : goal.returns
returns c = same-Decides
