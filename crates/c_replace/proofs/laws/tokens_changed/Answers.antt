use Rattle.c_replace.proofs.Replaced.{replaced_by}
use Rattle.c_replace.proofs.laws.tokens_changed.Goals as goal

pub returns : goal.returns
returns c = replaced_by
