use Rattle.std.proofs.Common.{rules, arith, ◌≡◌, true, false, ap, map}
use Rattle.std.proofs.lemmas.Result.{err_from_is_err_and}
use Rattle.c_tree.specs.Views.{outer}
use Rattle.c_grammar.specs.Terminals.{lookahead, is_end}
use Rattle.c_parse.proofs.Shapes.{map-push}
use Rattle.c_parse.proofs.Turns.{externals_begin, external_fails, external_ends, external_goes, externals_end}
use Rattle.c_parse.proofs.program.parse_externals.Goals as goal

pub loop-turn-init : goal.loop-turn-init
loop-turn-init c = externals_begin (ap (map outer) c.new-externals.ensures.items) (omega arith)

pub returns-in_err-next : goal.returns-in_err-next
returns-in_err-next c =
    let p = err_from_is_err_and c.from_residual.result c.from_residual.ensures.1 in
    rw (p.1, p.2)
    (λ h.
    external_fails _ c.loop-turn._turn c.loop-turn-test.true c.loop-turn.invariant c.in_err-next.field-0.0 c.parse_external.new.cursor.rest.now
    (c.in_err-next.ensures h))

pub returns-then-is_at_end : goal.returns-then-is_at_end
returns-then-is_at_end c =
    let k : is_end (lookahead c.parse_external.new.cursor.rest.now) ≡ true = search rules in
    external_ends _ c.loop-turn._turn c.loop-turn-test.true c.loop-turn.invariant c.in_ok-next.ensures k
    (map-push outer _ _ _ c.in_ok-push.ensures.items)

pub loop-turn-preserved : goal.loop-turn-preserved
loop-turn-preserved c =
    let k : is_end (lookahead c.parse_external.new.cursor.rest.now) ≡ false = search rules in
    external_goes _ c.loop-turn._turn c.loop-turn-test.true c.loop-turn.invariant c.in_ok-next.ensures k
    (map-push outer _ _ _ c.in_ok-push.ensures.items)

pub returns : goal.returns
returns c = λ h. externals_end _ c.loop-turn._turn c.loop-turn-test.false c.loop-turn.invariant
