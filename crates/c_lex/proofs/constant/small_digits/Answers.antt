-- The digits that were read and their value, or why there is none.
use Rattle.std.proofs.Common.{◌≡◌, ◌<◌, ◌≤◌, ◌+◌, ◌*◌, ◌^◌, length, take, get_or, subst, sym, ap, ◌∙◌, arith}
use Rattle.std.specs.Char.{digit_value}
use Rattle.std.specs.Str.Parse.{digits_value}
use Rattle.std.proofs.lemmas.Int.Digits.{digits_more, digits_value_more}
use Rattle.c_lex.proofs.Constants.{digit_at, capped, below_limit}
use Rattle.c_lex.proofs.constant.small_digits.Goals as goal

pub returns-in-None : goal.returns-in-None
returns-in-None c = λ n h.
    let d = digit_at c.args.base c.args.word.now c.loop-byte.byte-index h.digits (omega arith) in
    c.in-None.ensures.value (subst (λ x. digit_value x < c.args.base) (sym c.from.ensures) d)

pub loop-byte-preserved : goal.loop-byte-preserved
loop-byte-preserved c =
    let w = c.args.word.now in
    let i = c.loop-byte.byte-index in
    let here : i < length w = omega arith in
    let digit : c.in-Some.digit ≡ digit_value (get_or w i 0) = c.in-Some.ensures.value.1 ∙ ap digit_value c.from.ensures in
    let small : digit_value (get_or w i 0) < c.args.base = subst (λ x. digit_value x < c.args.base) c.from.ensures c.in-Some.ensures.value.0 in
    let before = digits_value c.args.base (take i w) in
    let all : before * c.args.base + c.in-Some.digit ≡ digits_value c.args.base (take (i + 1) w) =
    ap (λ x. before * c.args.base + x) digit ∙ sym (digits_value_more c.args.base w i here) in
    let more = capped c.args.base (digits_value c.args.base (take i w)) c.loop-byte.value c.in-Some.digit c.with_digit-value.result (omega arith)
    c.loop-byte.invariant.small c.loop-byte.invariant.large c.with_digit-value.ensures.small c.with_digit-value.ensures.large in
    record {
      digits = digits_more c.args.base w i here c.loop-byte.invariant.digits small;
      kept = below_limit (c.loop-byte.value * c.args.base + c.in-Some.digit) c.with_digit-value.result c.with_digit-value.ensures.small c.with_digit-value.ensures.large;
      small = subst (λ n. n < 2 ^ 31 → c.with_digit-value.result ≡ n) all more.0;
      large = subst (λ n. 2 ^ 31 ≤ n → c.with_digit-value.result ≡ 2 ^ 31) all more.1;
    }
