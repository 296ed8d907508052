use Rattle.printed_tokens.proofs.Sourced.{printable}
use Rattle.printed_tokens.proofs.laws.pure_prints.Goals as goal

pub returns : goal.returns
returns c = λ m t p h. printable m t p h
