use Rattle.interp.proofs.Whole.{ends_without_hole}
use Rattle.interp.proofs.laws.ends_without_hole.Goals as goal

pub returns : goal.returns
returns c = ends_without_hole
