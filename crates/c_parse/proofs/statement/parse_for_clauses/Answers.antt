use Rattle.std.proofs.lemmas.Result.{err_from_is_err_and}
use Rattle.c_parse.proofs.Clauses.{test_fails, step_fails, clauses_found}
use Rattle.c_parse.proofs.statement.parse_for_clauses.Goals as goal

pub returns-in_err-test : goal.returns-in_err-test
returns-in_err-test c =
    let p = err_from_is_err_and c.from_residual-in_err-test.result c.from_residual-in_err-test.ensures.1 in
    rw (p.1, p.2)
    (λ h.
    test_fails c.args.cursor.now.room c.args.cursor.now.rest.now c.in_err-test.field-0.0 c.parse_for_test.new.cursor.rest.now
    c.in_ok-expect_open_paren.ensures c.in_ok-init.ensures
    (c.in_err-test.ensures h))

pub returns-in_err-step : goal.returns-in_err-step
returns-in_err-step c =
    let p = err_from_is_err_and c.from_residual-in_err-step.result c.from_residual-in_err-step.ensures.1 in
    rw (p.1, p.2)
    (λ h.
    step_fails c.args.cursor.now.room c.args.cursor.now.rest.now c.in_err-step.field-0.0 c.parse_for_step.new.cursor.rest.now
    c.in_ok-expect_open_paren.ensures c.in_ok-init.ensures c.in_ok-test.ensures
    (c.in_err-step.ensures h))

pub returns : goal.returns
returns c =
    clauses_found c.args.cursor.now.room c.args.cursor.now.rest.now c.in_ok-expect_open_paren.ensures c.in_ok-init.ensures c.in_ok-test.ensures
    c.in_ok-step.ensures
