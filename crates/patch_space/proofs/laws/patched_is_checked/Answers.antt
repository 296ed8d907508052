use Rattle.patch_space.proofs.PatchedChecked.{patched_checked}
use Rattle.patch_space.proofs.laws.patched_is_checked.Goals as goal

pub returns : goal.returns
returns c = patched_checked c.each_names_one_place.ensures c.scopes_agree.ensures.spots
