use Rattle.printed_tokens.proofs.Safe.{safe}
use Rattle.printed_tokens.proofs.laws.makes_no_trigraph.Goals as goal

pub returns : goal.returns
returns c = λ m t h. safe m t h
