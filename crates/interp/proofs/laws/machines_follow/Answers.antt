use Rattle.interp.proofs.Following.{machines_follow}
use Rattle.interp.proofs.laws.machines_follow.Goals as goal

pub returns : goal.returns
returns c = machines_follow
