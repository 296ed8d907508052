-- A numeral is read, so what isn't read is none.
use Rattle.std.proofs.Common.{◌≡◌, ◌∙◌, true, sym}
use Rattle.repair_cli.specs.Words.{is_numeral}
use Rattle.repair_cli.proofs.Spellings.{read_number}
use Rattle.repair_cli.proofs.words.number_in.Goals as goal

pub returns-in_default : goal.returns-in_default
returns-in_default c =
    let numeral : is_numeral c.args.text.now ≡ true = sym c.is_numeral.ensures ∙ c.if-not-is_numeral.false in
    let read = read_number c.args.text.now c.parse.result c.parse.ensures.value.0 numeral in
    let unread = c.in_default.is in
    absurd (cc)
