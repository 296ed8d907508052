use Rattle.c_meaning.proofs.Falls.{looping-turn}
use Rattle.c_meaning.proofs.Turns.{while_turn, do_turn, for_turn}
use Rattle.c_meaning.proofs.laws.loops_turn.Goals as goal

pub returns : goal.returns
returns c = record {
  of_while = λ program n test body s w. looping-turn _ (while_turn program n test body) w;
  of_do = λ program n test body s w. looping-turn _ (do_turn program n body test) w;
  of_for = λ program n test step body w. looping-turn _ (for_turn program n test step body) w;
}
