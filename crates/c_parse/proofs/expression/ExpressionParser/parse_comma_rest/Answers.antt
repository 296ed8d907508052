use Rattle.std.proofs.Common.{rules, ◌≡◌, true, false, ap, ◌∙◌}
use Rattle.std.proofs.lemmas.Result.{err_from_is_err_and}
use Rattle.c_tree.specs.Views.{tree}
use Rattle.c_grammar.specs.Grammar.{followed}
use Rattle.c_grammar.specs.Terminals.{lookahead, is_comma}
use Rattle.c_parse.proofs.Turns.{comma_absent, comma_unopened, right_fails, right_goes, commas_end}
use Rattle.c_parse.proofs.expression.ExpressionParser.parse_comma_rest.Goals as goal

pub returns-then-not-is_at_comma : goal.returns-then-not-is_at_comma
returns-then-not-is_at_comma g c =
    let k : is_comma (lookahead c.loop-turn.cursor.rest.now) ≡ false = search rules in
    comma_absent _ c.loop-turn._turn c.loop-turn-test.true c.loop-turn.invariant k

pub returns-in_err-open : goal.returns-in_err-open
returns-in_err-open g c =
    let k : is_comma (lookahead c.loop-turn.cursor.rest.now) ≡ true = search rules in
    let p = err_from_is_err_and c.from_residual-in_err-open.result c.from_residual-in_err-open.ensures.1 in
    rw (p.1, p.2)
    (λ h.
    comma_unopened _ c.loop-turn._turn c.loop-turn-test.true c.loop-turn.invariant c.in_err-open.field-0.0 c.open.new.self.rest.now k
    (c.in_err-open.ensures h))

pub returns-in_err-right : goal.returns-in_err-right
returns-in_err-right g c =
    let k : is_comma (lookahead c.loop-turn.cursor.rest.now) ≡ true = search rules in
    let p = err_from_is_err_and c.from_residual-in_err-right.result c.from_residual-in_err-right.ensures.1 in
    rw (p.1, p.2)
    (λ h.
    right_fails _ c.loop-turn._turn c.loop-turn-test.true c.loop-turn.invariant c.in_err-right.field-0.0
    c.parse_nested.new.cursor.rest.now k c.in_ok-open.ensures
    (c.in_err-right.ensures h))

pub loop-turn-preserved : goal.loop-turn-preserved
loop-turn-preserved g c =
    let k : is_comma (lookahead c.loop-turn.cursor.rest.now) ≡ true = search rules in
    right_goes _ c.loop-turn._turn c.loop-turn-test.true c.loop-turn.invariant k c.in_ok-open.ensures c.in_ok-right.ensures
    (c.in_ok-left.ensures ∙ ap (λ t. followed t (tree c.in_ok-right.right)) c.in_ok-held.ensures)

pub returns : goal.returns
returns g c = λ h. commas_end _ c.loop-turn._turn c.loop-turn-test.false c.loop-turn.invariant
