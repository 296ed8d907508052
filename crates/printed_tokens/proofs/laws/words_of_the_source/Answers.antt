use Rattle.printed_tokens.proofs.Sourced.{sourced}
use Rattle.printed_tokens.proofs.SourcedProgram.{program_sourced}
use Rattle.printed_tokens.proofs.laws.words_of_the_source.Goals as goal

pub returns : goal.returns
returns c = record {
  expressions = λ m N r q a b t d h. (sourced m d h).0;
  programs = λ m r a p d h. program_sourced m d h;
}
