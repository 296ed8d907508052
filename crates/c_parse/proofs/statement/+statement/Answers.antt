use Rattle.std.proofs.Common.{rules, arith, ◌≡◌, ◌<◌, true, false, sym, ap, ◌∙◌, subst}
use Rattle.std.proofs.lemmas.Result.{err_from_is_err_and}
use Rattle.c_tree.specs.Views.{code, body_of}
use Rattle.c_grammar.specs.Terminals.{lookahead, is_close_brace, is_else}
use Rattle.c_grammar.specs.Descent.{found}
use Rattle.c_parse.specs.Gives.{Gives}
use Rattle.c_parse.proofs.Shapes.{body_of-push}
use Rattle.c_parse.proofs.Turns.{items_begin, items_end, item_fails, item_goes, block_ends}
use Rattle.c_parse.proofs.Steps.{under-suc, block_fails, block_unclosed, block_found, branch_fails}
use Rattle.c_parse.proofs.statement.+statement.Goals as goal

pub parse_block-returns-in_err-items : goal.parse_block-returns-in_err-items
parse_block-returns-in_err-items t c =
    let p = err_from_is_err_and c.from_residual-in_err-items.result c.from_residual-in_err-items.ensures.1 in
    rw (p.1, p.2)
    (λ h.
    block_fails c.args.cursor.now.room c.args.cursor.now.rest.now c.in_err-items.field-0.0 c.parse_block_items.new.cursor.rest.now
    c.in_ok-from.ensures
    (c.in_err-items.ensures h))

pub parse_block-returns-in_err-to : goal.parse_block-returns-in_err-to
parse_block-returns-in_err-to t c =
    let p = err_from_is_err_and c.from_residual-in_err-to.result c.from_residual-in_err-to.ensures.1 in
    rw (p.1, p.2)
    (λ h.
    block_unclosed c.args.cursor.now.room c.args.cursor.now.rest.now c.in_err-to.field-0.0 c.expect_close_brace.new.self.rest.now c.in_ok-from.ensures
    c.in_ok-items.ensures (c.in_err-to.ensures h))

pub parse_block-returns : goal.parse_block-returns
parse_block-returns t c =
    block_found c.args.cursor.now.room c.args.cursor.now.rest.now c.in_ok-from.ensures c.in_ok-items.ensures c.in_ok-to.ensures
    ∙ ap (λ x. found x c.expect_close_brace.new.self.room c.expect_close_brace.new.self.rest.now) (sym c.block_stmt.ensures)

pub parse_if-returns-in_err-no : goal.parse_if-returns-in_err-no
parse_if-returns-in_err-no t c =
    let k : is_else (lookahead c.parse_boxed_statement.new.cursor.rest.now) ≡ true = search rules in
    let p = err_from_is_err_and c.from_residual-in_err-no.result c.from_residual-in_err-no.ensures.1 in
    rw (p.1, p.2)
    (λ h.
    branch_fails c.args.cursor.now.room c.args.cursor.now.rest.now c.in_err-no.field-0.0 c.parse_boxed_statement-2.new.cursor.rest.now
    c.in_ok-from.ensures
    c.in_ok-test.ensures c.in_ok-yes.ensures k c.in_ok-advance.ensures
    (c.in_err-no.ensures h))

pub parse_inner_statement-returns : goal.parse_inner_statement-returns
parse_inner_statement-returns t c =
    let some : 0 < c.args.outside = omega arith in
    subst (λ o. Gives code o c.parse_statement.result c.parse_statement.new.cursor.room c.parse_statement.new.cursor.rest.now)
    (sym (under-suc c.args.outside c.args.cursor.now.rest.now some)) c.parse_statement.ensures

pub parse_block_items-loop-turn-init : goal.parse_block_items-loop-turn-init
parse_block_items-loop-turn-init t c = items_begin (ap body_of c.new-items.ensures.items) (omega arith)

pub parse_block_items-returns-then-is_at_close_brace : goal.parse_block_items-returns-then-is_at_close_brace
parse_block_items-returns-then-is_at_close_brace t c =
    let k : is_close_brace (lookahead c.loop-turn.cursor.rest.now) ≡ true = search rules in
    items_end _ c.loop-turn._turn c.loop-turn-test.true c.loop-turn.invariant k

pub parse_block_items-returns-in_err-next : goal.parse_block_items-returns-in_err-next
parse_block_items-returns-in_err-next t c =
    let k : is_close_brace (lookahead c.loop-turn.cursor.rest.now) ≡ false = search rules in
    let p = err_from_is_err_and c.from_residual.result c.from_residual.ensures.1 in
    rw (p.1, p.2)
    (λ h.
    item_fails _ c.loop-turn._turn c.loop-turn-test.true c.loop-turn.invariant c.in_err-next.field-0.0
    c.parse_block_item.new.cursor.rest.now k (c.in_err-next.ensures h))

pub parse_block_items-loop-turn-preserved : goal.parse_block_items-loop-turn-preserved
parse_block_items-loop-turn-preserved t c =
    let k : is_close_brace (lookahead c.loop-turn.cursor.rest.now) ≡ false = search rules in
    item_goes _ c.loop-turn._turn c.loop-turn-test.true c.loop-turn.invariant k c.in_ok-next.ensures
    (ap body_of c.in_ok-push.ensures.items ∙ body_of-push _ _)

pub parse_block_items-returns : goal.parse_block_items-returns
parse_block_items-returns t c = λ h. block_ends _ c.loop-turn._turn c.loop-turn-test.false c.loop-turn.invariant
