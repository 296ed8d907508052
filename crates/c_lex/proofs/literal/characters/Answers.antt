-- One character more is read, or the bytes are no list of characters.
use Rattle.std.proofs.Common.{◌≡◌, ◌+◌, ◌∙◌, drop, ap, sym, subst, Some, None, arith}
use Rattle.std.proofs.lemmas.List.{take_rest, length-drop}
use Rattle.c_lex.specs.Constants.{Characters}
use Rattle.c_lex.specs.LiteralReading.{first_character}
use Rattle.c_lex.proofs.Characters.{IsReadTo, first_is, read_more, read_all, read_stops}
use Rattle.c_lex.proofs.literal.characters.Goals as goal

pub returns-in-None : goal.returns-in-None
returns-in-None c =
    let body = c.between_quotes-body.result.now in
    let at = c.loop-at.at in
    let e : first_character 34 (drop at body) ≡ None = ap (first_character 34) (sym (take_rest body at)) ∙ sym c.first_character.ensures ∙ c.in-None.is in
    λ values d. read_stops 34 body at c.loop-at.values.items values c.loop-at.invariant.read (omega arith) e (subst (λ z. Characters 34 z values) (sym c.between_quotes-body.ensures) d)

pub overflow_add-at : goal.overflow_add-at
overflow_add-at c =
    let body = c.between_quotes-body.result.now in
    let at = c.loop-at.at in
    let e : first_character 34 (drop at body) ≡ Some c.in-Some.first = ap (first_character 34) (sym (take_rest body at)) ∙ sym c.first_character.ensures ∙ c.in-Some.is in
    let f = first_is 34 (drop at body) c.in-Some.first e in
    omega (arith, f.within, length-drop at body)

pub loop-at-smaller : goal.loop-at-smaller
loop-at-smaller c =
    let body = c.between_quotes-body.result.now in
    let at = c.loop-at.at in
    let e : first_character 34 (drop at body) ≡ Some c.in-Some.first = ap (first_character 34) (sym (take_rest body at)) ∙ sym c.first_character.ensures ∙ c.in-Some.is in
    let f = first_is 34 (drop at body) c.in-Some.first e in
    omega (arith, f.some, f.within, length-drop at body)

pub loop-at-preserved : goal.loop-at-preserved
loop-at-preserved c =
    let body = c.between_quotes-body.result.now in
    let at = c.loop-at.at in
    let e : first_character 34 (drop at body) ≡ Some c.in-Some.first = ap (first_character 34) (sym (take_rest body at)) ∙ sym c.first_character.ensures ∙ c.in-Some.is in
    let f = first_is 34 (drop at body) c.in-Some.first e in
    record {
      within = omega (arith, f.within, length-drop at body);
      read = subst (IsReadTo 34 body (at + c.in-Some.first.len)) (sym c.in_ok-push-in-Some.ensures.items)
          (read_more 34 body at c.loop-at.values.items c.in-Some.first c.loop-at.invariant.read e);
    }

pub returns : goal.returns
returns c =
    let body = c.between_quotes-body.result.now in
    subst (λ z. Characters 34 z c.loop-at.values.items) c.between_quotes-body.ensures (read_all 34 body c.loop-at.at c.loop-at.values.items c.loop-at.invariant.read (omega arith))
