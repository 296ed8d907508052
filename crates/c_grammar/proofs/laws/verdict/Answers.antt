-- The descent comes to a verdict that the grammar admits.
use Rattle.c_grammar.specs.Judge.{judge}
use Rattle.c_grammar.proofs.Verdicts.{judge_ok}
use Rattle.c_grammar.proofs.laws.verdict.Goals as goal

pub returns : goal.returns
returns c = record { some = λ r a. (judge r a, judge_ok r a) }
