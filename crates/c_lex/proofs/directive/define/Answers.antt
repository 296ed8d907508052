-- Twice the same name, a number that is too large, or a new macro.
use Rattle.std.proofs.Common.{◌≡◌, Ok, Some, None, length, rules, sym, ◌∙◌, subst}
use mir.Syntax.{w64}
use mir.Val.{SFits, to_z, of_z}
use Rattle.std.proofs.lemmas.Int.{to_z-of_z}
use Rattle.c_lex.specs.declared.scan.Scanned.TheVariants as scanned
use Rattle.c_lex.specs.Spellings.{lookup}
use Rattle.c_lex.specs.Reading.{Knows}
use Rattle.c_lex.specs.DirectiveReading.{definition_of}
use Rattle.c_lex.specs.Tokens.{Macros, Defines}
use Rattle.c_lex.proofs.ScanParts.{finds_one, kept_pos}
use Rattle.c_lex.proofs.directive.define.Goals as goal

pub returns-in-Some : goal.returns-in-Some
returns-in-Some c = λ _ m known.
    let found = sym (known c.part-name.result.now) ∙ sym c.in-Some.ensures in
    Defines.twice (subst (λ w. lookup m w ≡ Some c.in-Some.field-0) c.part-name.ensures found)

pub returns-in-Value : goal.returns-in-Value
returns-in-Value c =
    let line = c.args.line.now in
    let d = definition_of line c.args.parts in
    let a = rw c.in-Value.is at c.requires.is_number in
    let value = c.signed.ensures a.0 (kept_pos c.in-Value.value a.0 a.3 a.2 ∙ a.3) a.2 in
    let fits : SFits w64 c.signed.result = search rules in
    let kept = to_z-of_z w64 c.signed.result fits ∙ value in
    let one = λ (m : Macros) (known : Knows c.args.macros.now m).
    let none = subst (λ w. lookup m w ≡ None) c.part-name.ensures (sym (known c.part-name.result.now) ∙ sym c.in-None.ensures) in
    subst (λ w. Defines m c.args.at (length line) d (Ok (scanned.Define w (to_z w64 (of_z w64 c.signed.result)) (length line)))) (sym c.part-name.ensures)
    (subst (λ v. Defines m c.args.at (length line) d (Ok (scanned.Define d.name v (length line)))) (sym kept) (Defines.new a.0 none a.1 a.2)) in
    finds_one (λ r. (m : Macros) → Knows c.args.macros.now m → Defines m c.args.at (length line) d r) (Ok (scanned.Define c.part-name.result.now (to_z w64 (of_z w64 c.signed.result)) (length line))) one _ c.new_macro.ensures

pub returns-in-TooLarge : goal.returns-in-TooLarge
returns-in-TooLarge c = λ _ m known.
    let a = rw c.in-TooLarge.is at c.requires.is_number in
    let none = subst (λ w. lookup m w ≡ None) c.part-name.ensures (sym (known c.part-name.result.now) ∙ sym c.in-None.ensures) in
    Defines.large a.0 none a.1 a.2
