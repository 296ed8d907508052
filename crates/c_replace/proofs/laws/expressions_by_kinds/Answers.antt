use Rattle.c_replace.proofs.Owned.{owned}
use Rattle.c_replace.proofs.laws.expressions_by_kinds.Goals as goal

pub returns : goal.returns
returns c = λ N r m a b t d. owned d
