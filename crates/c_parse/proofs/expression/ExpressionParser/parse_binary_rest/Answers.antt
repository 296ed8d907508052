use Rattle.std.proofs.Common.{rules, arith, ◌≡◌, ◌+◌, suc, Some, None, sym, ap, ◌∙◌}
use Rattle.std.proofs.lemmas.Result.{err_from_is_err_and}
use Rattle.c_tree.specs.Views.{tree}
use Rattle.c_grammar.specs.Grammar.{joined}
use Rattle.c_grammar.specs.Terminals.{lookahead, operator_at}
use Rattle.c_parse.proofs.Turns.{operator_absent, operator_fails, operand_fails, operator_goes, operators_end}
use Rattle.c_parse.proofs.expression.ExpressionParser.parse_binary_rest.Goals as goal

pub returns-in_default : goal.returns-in_default
returns-in_default g c =
    let k : operator_at (suc c.args.below) (lookahead c.loop-turn.cursor.rest.now) ≡ None = search rules in
    operator_absent _ c.loop-turn._turn c.loop-turn-test.true c.loop-turn.invariant k

pub returns-in_err-open : goal.returns-in_err-open
returns-in_err-open g c =
    let one : suc c.args.below ≡ c.args.below + 1 = omega arith in
    let k : operator_at (suc c.args.below) (lookahead c.loop-turn.cursor.rest.now) ≡ Some c.in-Some.op = ap
    (λ n. operator_at n (lookahead c.loop-turn.cursor.rest.now)) one ∙ sym c.in-Some.ensures in
    let p = err_from_is_err_and c.from_residual-in_err-open.result c.from_residual-in_err-open.ensures.1 in
    rw (p.1, p.2)
    (λ h.
    operator_fails _ c.loop-turn._turn c.loop-turn-test.true c.loop-turn.invariant c.in-Some.op c.in_err-open.field-0.0 c.open.new.self.rest.now k
    (c.in_err-open.ensures h))

pub returns-in_err-right : goal.returns-in_err-right
returns-in_err-right g c =
    let one : suc c.args.below ≡ c.args.below + 1 = omega arith in
    let k : operator_at (suc c.args.below) (lookahead c.loop-turn.cursor.rest.now) ≡ Some c.in-Some.op = ap
    (λ n. operator_at n (lookahead c.loop-turn.cursor.rest.now)) one ∙ sym c.in-Some.ensures in
    let p = err_from_is_err_and c.from_residual-in_err-right.result c.from_residual-in_err-right.ensures.1 in
    rw (p.1, p.2)
    (λ h.
    operand_fails _ c.loop-turn._turn c.loop-turn-test.true c.loop-turn.invariant c.in-Some.op c.in_err-right.field-0.0
    c.parse_nested.new.cursor.rest.now k
    c.in_ok-open.ensures (c.in_err-right.ensures h))

pub loop-turn-preserved : goal.loop-turn-preserved
loop-turn-preserved g c =
    let one : suc c.args.below ≡ c.args.below + 1 = omega arith in
    let k : operator_at (suc c.args.below) (lookahead c.loop-turn.cursor.rest.now) ≡ Some c.in-Some.op = ap
    (λ n. operator_at n (lookahead c.loop-turn.cursor.rest.now)) one ∙ sym c.in-Some.ensures in
    operator_goes _ c.loop-turn._turn c.loop-turn-test.true c.loop-turn.invariant c.in-Some.op k c.in_ok-open.ensures c.in_ok-right.ensures
    (c.in_ok-left.ensures ∙ ap (λ t. joined c.in-Some.op t (tree c.in_ok-right.right)) c.in_ok-held.ensures)

pub returns : goal.returns
returns g c = λ h. operators_end _ c.loop-turn._turn c.loop-turn-test.false c.loop-turn.invariant
