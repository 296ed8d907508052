use Rattle.std.proofs.Common.{rules, arith, ◌≡◌, true, false, refl, ap, map}
use Rattle.std.proofs.lemmas.Result.{err_from_is_err_and}
use Rattle.c_tree.specs.Views.{variable}
use Rattle.c_grammar.specs.Terminals.{lookahead, is_comma}
use Rattle.c_parse.proofs.Shapes.{map-push}
use Rattle.c_parse.proofs.Turns.{list_begins, part_fails, part_ends, comma_fails, comma_goes, list_ends}
use Rattle.c_parse.proofs.declaration.parse_declarator_list.Goals as goal

pub loop-turn-init : goal.loop-turn-init
loop-turn-init c = list_begins (ap (map variable) c.new-variables.ensures.items) (omega arith)

pub returns-in_err-next : goal.returns-in_err-next
returns-in_err-next c =
    let p = err_from_is_err_and c.from_residual.result c.from_residual.ensures.1 in
    rw (p.1, p.2)
    (λ h.
    part_fails _ c.loop-turn._turn c.loop-turn-test.true c.loop-turn.invariant c.in_err-next.field-0.0 c.parse_declarator.new.cursor.rest.now
    (c.in_err-next.ensures h))

pub returns-then-not-is_at_comma : goal.returns-then-not-is_at_comma
returns-then-not-is_at_comma c =
    let k : is_comma (lookahead c.parse_declarator.new.cursor.rest.now) ≡ false = search rules in
    part_ends _ c.loop-turn._turn c.loop-turn-test.true c.loop-turn.invariant c.in_ok-next.ensures k
    (map-push variable _ _ _ c.in_ok-push.ensures.items)

pub returns-in_err-advance : goal.returns-in_err-advance
returns-in_err-advance c =
    let k : is_comma (lookahead c.parse_declarator.new.cursor.rest.now) ≡ true = search rules in
    let p = err_from_is_err_and c.from_residual-in_err-advance.result c.from_residual-in_err-advance.ensures.1 in
    rw (p.1, p.2)
    (λ h.
    comma_fails _ c.loop-turn._turn c.loop-turn-test.true c.loop-turn.invariant c.in_err-advance.field-0.0 c.advance.new.self.rest.now
    c.in_ok-next.ensures k
    (c.in_err-advance.ensures h))

pub loop-turn-preserved : goal.loop-turn-preserved
loop-turn-preserved c =
    let k : is_comma (lookahead c.parse_declarator.new.cursor.rest.now) ≡ true = search rules in
    comma_goes _ c.loop-turn._turn c.loop-turn-test.true c.loop-turn.invariant c.in_ok-next.ensures k c.in_ok-advance.ensures refl
    (map-push variable _ _ _ c.in_ok-push.ensures.items)

pub returns : goal.returns
returns c = λ h. list_ends _ c.loop-turn._turn c.loop-turn-test.false c.loop-turn.invariant
