use Rattle.hole_laws.proofs.Fits.{holed_checked}
use Rattle.hole_laws.proofs.laws.holed_is_checked.Goals as goal

pub returns : goal.returns
returns c = holed_checked c.rewritten_is_checked.ensures
