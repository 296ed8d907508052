-- Each verdict that the grammar admits is what the descent comes to.
use Rattle.std.proofs.Common.{sym, ◌∙◌}
use Rattle.c_grammar.proofs.Verdicts.{judge_is}
use Rattle.c_grammar.proofs.laws.exact.Goals as goal

pub returns : goal.returns
returns c = record { one = λ r a v w x y. sym (judge_is r a v x) ∙ judge_is r a w y }
