use Rattle.rewrite_laws.proofs.Rewritten.{rewritten_checked}
use Rattle.rewrite_laws.proofs.laws.rewritten_is_checked.Goals as goal

pub returns : goal.returns
returns c = rewritten_checked
