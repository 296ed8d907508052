-- Something stands at each place.
use Rattle.c_lex.proofs.Outcomes.{each_has_outcome}
use Rattle.c_lex.proofs.reading.some_outcome.Goals as goal

pub returns : goal.returns
returns c = each_has_outcome
