use Rattle.printed_tokens.proofs.Tight.{tight}
use Rattle.printed_tokens.proofs.laws.cut_into_its_tokens.Goals as goal

pub returns : goal.returns
returns c = λ m t h. tight m t h
