use Rattle.printed_tokens.proofs.Sourced.{zero_word, one_word}
use Rattle.printed_tokens.proofs.laws.zero_and_one.Goals as goal

pub returns : goal.returns
returns c = record { zero = zero_word; one = one_word }
