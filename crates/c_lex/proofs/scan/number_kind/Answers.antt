-- A constant, or what is wrong with it.
use Rattle.std.proofs.Common.{◌∙◌, length, Ok, sym, subst}
use Rattle.c_lex.specs.declared.scan.Scanned.TheVariants as scanned
use Rattle.c_lex.specs.declared.token.TokenKind.TheVariants as kind
use Rattle.c_lex.specs.Tokens.{IsNumber}
use Rattle.c_lex.proofs.ScanParts.{finds_one, kept_pos}
use Rattle.c_lex.proofs.scan.number_kind.Goals as goal

pub returns-in-Value : goal.returns-in-Value
returns-in-Value c =
    let w = c.args.word.now in
    let a = c.in-Value.ensures in
    let v = c.in-Value.value in
    let same = kept_pos v a.0 a.3 a.2 ∙ a.3 in
    let one = subst (λ x. IsNumber c.args.at w (Ok (scanned.Take (kind.Const x w) (length w)))) (sym same) (IsNumber.value a.0 a.1 a.2) in
    finds_one (IsNumber c.args.at w) _ one _ c.constant_token.ensures

pub returns-in-TooLarge : goal.returns-in-TooLarge
returns-in-TooLarge c = λ _. IsNumber.large c.in-TooLarge.ensures.0 c.in-TooLarge.ensures.1 c.in-TooLarge.ensures.2

pub returns-in-Bad : goal.returns-in-Bad
returns-in-Bad c = λ _. IsNumber.bad c.in-Bad.ensures
