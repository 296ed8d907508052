use Rattle.c_location.specs.Locations.{located}
use Rattle.c_location.proofs.Places.{nowhere}
use Rattle.c_location.proofs.Elsewhere.{program-off}
use Rattle.c_location.proofs.laws.nothing_elsewhere.Goals as goal

pub returns : goal.returns
returns c = λ p l r h. program-off l r p (nowhere l (located p) h)
