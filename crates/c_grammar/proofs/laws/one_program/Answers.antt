use Rattle.c_grammar.proofs.Verdicts.{one}
use Rattle.c_grammar.proofs.laws.one_program.Goals as goal

pub returns : goal.returns
returns c = record { one = one }
