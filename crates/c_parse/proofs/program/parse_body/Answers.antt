use Rattle.std.proofs.lemmas.Result.{err_from_is_err_and}
use Rattle.c_parse.proofs.Steps.{body_fails, body_unclosed, body_found}
use Rattle.c_parse.proofs.program.parse_body.Goals as goal

pub returns-in_err-items : goal.returns-in_err-items
returns-in_err-items c =
    let p = err_from_is_err_and c.from_residual-in_err-items.result c.from_residual-in_err-items.ensures.1 in
    rw (p.1, p.2)
    (λ h.
    body_fails c.args.cursor.now.room c.args.cursor.now.rest.now c.in_err-items.field-0.0 c.parse_block_items.new.cursor.rest.now
    c.in_ok-expect_open_brace.ensures
    (c.in_err-items.ensures h))

pub returns-in_err-to : goal.returns-in_err-to
returns-in_err-to c =
    let p = err_from_is_err_and c.from_residual-in_err-to.result c.from_residual-in_err-to.ensures.1 in
    rw (p.1, p.2)
    (λ h.
    body_unclosed c.args.cursor.now.room c.args.cursor.now.rest.now c.in_err-to.field-0.0 c.expect_close_brace.new.self.rest.now
    c.in_ok-expect_open_brace.ensures
    c.in_ok-items.ensures (c.in_err-to.ensures h))

pub returns : goal.returns
returns c = body_found c.args.cursor.now.room c.args.cursor.now.rest.now c.in_ok-expect_open_brace.ensures c.in_ok-items.ensures c.in_ok-to.ensures
