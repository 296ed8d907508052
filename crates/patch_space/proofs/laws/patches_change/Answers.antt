use Rattle.patch_space.proofs.EachPatch.{all_change}
use Rattle.patch_space.proofs.laws.patches_change.Goals as goal

pub returns : goal.returns
returns c = all_change c.candidates_can_be_made.ensures
