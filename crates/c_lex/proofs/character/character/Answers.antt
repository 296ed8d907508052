-- The one character that stands between the quotes.
use Rattle.std.proofs.Common.{◌∙◌, ap, sym, ◌≡◌, length, rules, Some, None}
use mir.Syntax.{w64}
use mir.Val.{SFits}
use Rattle.std.proofs.lemmas.Int.{to_z-of_z}
use Rattle.c_lex.specs.Constants.{between_quotes}
use Rattle.c_lex.specs.LiteralReading.{first_character}
use Rattle.c_lex.proofs.Characters.{only_one, not_only, no_one}
use Rattle.c_lex.proofs.character.character.Goals as goal

pub returns-in-Some : goal.returns-in-Some
returns-in-Some c =
    let body = between_quotes c.args.word.now in
    let e : first_character 39 body ≡ Some c.in-Some.first = ap (first_character 39) (sym c.between_quotes-body.ensures) ∙ sym c.first_character.ensures ∙ c.in-Some.is in
    let l : c.in-Some.first.len ≡ length body = c.if-first-body.true ∙ ap length c.between_quotes-body.ensures in
    let fits : SFits w64 c.char_value.result = search rules in
    (c.in-Some.first.value, only_one 39 body c.in-Some.first e l, to_z-of_z w64 c.char_value.result fits ∙ c.char_value.ensures)

pub returns-in_default : goal.returns-in_default
returns-in_default c =
    let body = between_quotes c.args.word.now in
    let e : first_character 39 body ≡ Some c.in-Some.first = ap (first_character 39) (sym c.between_quotes-body.ensures) ∙ sym c.first_character.ensures ∙ c.in-Some.is in
    λ v d. not_only 39 v body c.in-Some.first e (λ l. c.if-first-body.false (l ∙ ap length (sym c.between_quotes-body.ensures))) d

pub returns-in_default-2 : goal.returns-in_default-2
returns-in_default-2 c =
    let body = between_quotes c.args.word.now in
    let e : first_character 39 body ≡ None = ap (first_character 39) (sym c.between_quotes-body.ensures) ∙ sym c.first_character.ensures ∙ c.in_default.is in
    λ v d. no_one 39 v body e d
