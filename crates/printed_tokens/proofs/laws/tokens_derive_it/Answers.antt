use Rattle.printed_tokens.proofs.Derived.{read}
use Rattle.printed_tokens.proofs.laws.tokens_derive_it.Goals as goal

pub returns : goal.returns
returns c = λ m t h. read m t h
