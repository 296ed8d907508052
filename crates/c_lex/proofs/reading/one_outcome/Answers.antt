-- At each place one thing stands at most.
use Rattle.c_lex.proofs.Cutting.{one_outcome}
use Rattle.c_lex.proofs.reading.one_outcome.Goals as goal

pub returns : goal.returns
returns c = one_outcome
