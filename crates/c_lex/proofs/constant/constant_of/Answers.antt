-- By how a word begins its digits are those of a base.
use Rattle.std.proofs.Common.{◌∙◌, sym, subst}
use Rattle.std.proofs.lemmas.List.{take_rest}
use Rattle.c_lex.specs.LiteralReading.{AnswersDigits}
use Rattle.c_lex.proofs.Constants.{hexadecimal_answers, octal_answers, decimal_answers}
use Rattle.c_lex.proofs.constant.constant_of.Goals as goal

pub returns-then-begins_hexadecimal : goal.returns-then-begins_hexadecimal
returns-then-begins_hexadecimal c =
    let w = c.args.word.now in
    let r = c.of_digits.result in
    hexadecimal_answers w r (sym c.begins_hexadecimal.ensures.test ∙ c.if-begins_hexadecimal.true) (subst (λ z. AnswersDigits 16 z r) (take_rest w 2) c.of_digits.ensures)

pub returns-then-begins_zero : goal.returns-then-begins_zero
returns-then-begins_zero c =
    let other = sym c.begins_hexadecimal.ensures.test ∙ c.if-begins_hexadecimal.false in
    let zero = sym c.begins_zero.ensures ∙ c.if-begins_zero.true in
    octal_answers c.args.word.now c.of_digits-then-begins_zero.result other zero c.of_digits-then-begins_zero.ensures

pub returns-else-begins_zero : goal.returns-else-begins_zero
returns-else-begins_zero c =
    let other = sym c.begins_zero.ensures ∙ c.if-begins_zero.false in
    decimal_answers c.args.word.now c.of_digits-else-begins_zero.result other c.of_digits-else-begins_zero.ensures
