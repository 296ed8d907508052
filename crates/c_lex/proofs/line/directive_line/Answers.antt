-- Each turn reads a part of the line.
use Rattle.std.proofs.Common.{◌≡◌, ◌+◌, ◌-◌, [], ◌∷◌, length, take, drop, get_or, length-append, sym, ap, ◌∙◌, subst, arith}
use Rattle.std.proofs.lemmas.List.{take_rest, drop_all, length-drop, length-replicate}
use Rattle.c_lex.specs.Places.{IsFirstAt, IsNowhere, is_line_end, is_comment_end}
use Rattle.c_lex.specs.Openings.{line_part}
use Rattle.c_lex.specs.Directives.{spaces}
use Rattle.c_lex.proofs.Lines.{IsLineTo, ends_line, last_of_line, open_in_line, comment_in_line, byte_in_line, comment_fits, two_bytes}
use Rattle.c_lex.proofs.line.directive_line.Goals as goal

pub comment_end-requires : goal.comment_end-requires
comment_end-requires c =
    let left = take_rest c.args.text.now c.loop-place.place in
    two_bytes _ (sym c.line_part.ensures ∙ c.in-BlockComment.is)

pub returns-in-End-clause-ok : goal.returns-in-End-clause-ok
returns-in-End-clause-ok c =
    let left = take_rest c.args.text.now c.loop-place.place in
    ends_line c.args.text.now c.loop-place.place c.loop-place.line.items c.loop-place.invariant.read (ap line_part (sym left) ∙ sym c.line_part.ensures ∙ c.in-End.is)

pub returns-in-LineComment-clause-ok : goal.returns-in-LineComment-clause-ok
returns-in-LineComment-clause-ok c =
    let left = take_rest c.args.text.now c.loop-place.place in
    rw c.in_ok-push_spaces-in-LineComment.ensures
    (last_of_line c.args.text.now c.loop-place.place c.loop-place.line.items _ c.loop-place.invariant.read (ap line_part (sym left) ∙ sym c.line_part.ensures ∙ c.in-LineComment.is)
    (subst (λ z. IsFirstAt is_line_end z c.line_end.result) left c.line_end.ensures))

pub returns-in-None-clause-err : goal.returns-in-None-clause-err
returns-in-None-clause-err c =
    let left = take_rest c.args.text.now c.loop-place.place in
    let nowhere = subst (λ z. IsNowhere is_comment_end (drop 2 z)) left c.in-None.ensures in
    λ _. (
      length c.loop-place.line.items,
      open_in_line c.args.text.now c.loop-place.place c.loop-place.line.items c.loop-place.invariant.read (ap line_part (sym left) ∙ sym c.line_part.ensures ∙ c.in-BlockComment.is) nowhere,
      let e = c.loop-place.invariant.size in cc,
    )

pub loop-place-preserved-in-Some : goal.loop-place-preserved-in-Some
loop-place-preserved-in-Some c =
    let text = c.args.text.now in
    let place = c.loop-place.place in
    let left = take_rest text place in
    let block = ap line_part (sym left) ∙ sym c.line_part.ensures ∙ c.in-BlockComment.is in
    let found = subst (λ z. IsFirstAt is_comment_end (drop 2 z) c.in-Some.len) left c.in-Some.ensures in
    let fits = comment_fits (drop place text) c.in-Some.len (two_bytes (drop place text) block) found in
    let many : length (spaces (c.in-Some.len + 4)) ≡ c.in-Some.len + 4 = length-replicate (c.in-Some.len + 4) _ in
    let read = comment_in_line text place c.loop-place.line.items c.in-Some.len c.loop-place.invariant.read block found in
    record {
      within = omega (arith, length-drop place text);
      size = omega (arith, ap length c.in_ok-push_spaces-in-Some.ensures, length-append c.loop-place.line.items (spaces (c.in-Some.len + 4)), many, c.loop-place.invariant.size);
      read = subst (IsLineTo text (place + (c.in-Some.len + 4))) (sym c.in_ok-push_spaces-in-Some.ensures) read;
    }

pub loop-place-preserved : goal.loop-place-preserved
loop-place-preserved c =
    let text = c.args.text.now in
    let place = c.loop-place.place in
    let left = take_rest text place in
    let byte = ap line_part (sym left) ∙ sym c.line_part.ensures ∙ c.in-Byte.is in
    let first = ap (λ z. get_or z 0 0) left in
    let read = byte_in_line text place c.loop-place.line.items _ (omega arith) first c.loop-place.invariant.read byte in
    record {
      within = omega arith;
      size = omega (arith, ap length c.in_ok-push-in-Byte.ensures.items, length-append c.loop-place.line.items (get_or (take (length text - place) (drop place text)) 0 0 ∷ []), c.loop-place.invariant.size);
      read = subst (IsLineTo text (place + 1)) (sym c.in_ok-push-in-Byte.ensures.items) read;
    }

pub returns-clause-ok : goal.returns-clause-ok
returns-clause-ok c =
    let left = drop_all c.loop-place.place c.args.text.now (omega arith) in
    ends_line c.args.text.now c.loop-place.place c.loop-place.line.items c.loop-place.invariant.read (ap line_part left)
