-- The turns of a loop of a program.
use Rattle.std.proofs.Common.{◌≡◌, ℕ, List, Option, Some, None, Err, ap, ◌∙◌}
use Rattle.c_tree.specs.Tree.{Tree, Code, Outer}
use Rattle.c_meaning.specs.declared.stop.End.{End}
use Rattle.c_meaning.specs.declared.stop.Flow.{Flow}
use Rattle.c_meaning.specs.declared.stop.Stop.{Stop}
use Rattle.c_meaning.specs.declared.stop.Stop.TheVariants.{Over, Memory}
use Rattle.c_meaning.specs.World.{World, going, over, Run, pure, used, and_then, Gives}
use Rattle.c_meaning.specs.Meaning.{turn_of_while, turn_test_first, turn_body_first, or_again, looping, eval, exec, test_of, step_of, calls, no_hole}
use Rattle.c_meaning.proofs.Related.{own_value, own_test, own_step, own_exec}
use Rattle.c_meaning.proofs.Falls.{Turn, Falls, falls, looping-turn, test_turn, body_turn, pure_falls}

-- after a turn that another follows, the loop goes on
pub loop_goes : (turn : Run (Option Flow)) → Turn turn → (w x : World) → turn w ≡ going None x → looping turn w ≡ looping turn x
loop_goes turn t w x e = looping-turn turn t w ∙ ap (λ o. and_then o (λ r. or_again r (looping turn))) e

-- after the last turn it leads where that leads
pub loop_ends : (turn : Run (Option Flow)) → Turn turn → (w x : World) (f : Flow) → turn w ≡ going (Some f) x → looping turn w ≡ going f x
loop_ends turn t w x f e = looping-turn turn t w ∙ ap (λ o. and_then o (λ r. or_again r (looping turn))) e

-- where a turn ends the run, the loop does
pub loop_over : (turn : Run (Option Flow)) → Turn turn → (w x : World) (d : End) → turn w ≡ over d x → looping turn w ≡ over d x
loop_over turn t w x d e = looping-turn turn t w ∙ ap (λ o. and_then o (λ r. or_again r (looping turn))) e

module _ (program : List Outer) (n : ℕ) where
  -- the turns of the loops of a program
  pub while_turn : (test : Tree) (body : Code) → Turn (turn_of_while (used (eval no_hole program (calls no_hole program n) test)) (exec no_hole program (calls no_hole program n) body))
  while_turn test body = test_turn _ _ (pure tt) (own_value (λ A m k. Falls m) falls program n test) (own_exec (λ A m k. Falls m) falls program n body) (pure_falls tt)

  pub do_turn : (body : Code) (test : Tree) → Turn (turn_body_first (exec no_hole program (calls no_hole program n) body) (used (eval no_hole program (calls no_hole program n) test)))
  do_turn body test = body_turn _ _ (own_exec (λ A m k. Falls m) falls program n body) (own_value (λ A m k. Falls m) falls program n test)

  pub for_turn : (test step : Option Tree) (body : Code) → Turn (turn_test_first (test_of no_hole program (calls no_hole program n) test) (exec no_hole program (calls no_hole program n) body) (step_of no_hole program (calls no_hole program n) step))
  for_turn test step body = test_turn _ _ _ (own_test (λ A m k. Falls m) falls program n test) (own_exec (λ A m k. Falls m) falls program n body) (own_step (λ A m k. Falls m) falls program n step)

-- where a turn has no value, the loop has none
pub loop_err : (turn : Run (Option Flow)) → Turn turn → (w x : World) (s : Stop) → Gives {X = Option Flow} (λ o. o) (Err s) x (turn w) → Gives {X = Flow} (λ f. f) (Err s) x (looping turn w)
loop_err turn t w x (Over d) h = loop_over turn t w x d h
loop_err turn t w x (Memory a) h = tt
