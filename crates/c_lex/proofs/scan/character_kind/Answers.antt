-- One character, or none.
use Rattle.std.proofs.Common.{◌∙◌, length, Ok, sym, subst}
use Rattle.c_lex.specs.declared.scan.Scanned.TheVariants as scanned
use Rattle.c_lex.specs.declared.token.TokenKind.TheVariants as kind
use Rattle.c_lex.specs.Tokens.{IsCharacter}
use Rattle.c_lex.proofs.ScanParts.{finds_one, kept_char}
use Rattle.c_lex.proofs.scan.character_kind.Goals as goal

pub returns-in-Some : goal.returns-in-Some
returns-in-Some c =
    let w = c.args.word.now in
    let a = c.in-Some.ensures in
    let v = c.in-Some.value in
    let same = kept_char _ v a.0 a.2 a.1 ∙ a.2 in
    let one = subst (λ x. IsCharacter c.args.at w (Ok (scanned.Take (kind.Const x w) (length w)))) (sym same) (IsCharacter.value a.0 a.1) in
    finds_one (IsCharacter c.args.at w) _ one _ c.constant_token.ensures

pub returns-in-None : goal.returns-in-None
returns-in-None c = λ _. IsCharacter.bad c.in-None.ensures
