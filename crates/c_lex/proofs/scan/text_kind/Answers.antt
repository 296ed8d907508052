-- The characters of a string literal, or none.
use Rattle.std.proofs.Common.{length, Ok, sym, subst}
use Rattle.c_lex.specs.declared.scan.Scanned.TheVariants as scanned
use Rattle.c_lex.specs.declared.token.TokenKind.TheVariants as kind
use Rattle.c_lex.specs.Tokens.{IsText}
use Rattle.c_lex.proofs.scan.text_kind.Goals as goal

pub returns-in-Some : goal.returns-in-Some
returns-in-Some c =
    let w = c.args.word.now in
    subst (λ x. IsText c.args.at w (Ok (scanned.Take (kind.Str x) (length w)))) (sym c.new.ensures) (IsText.value c.in-Some.values.items (rw c.in-Some.is at c.in_ok-found.ensures))

pub returns-in-None : goal.returns-in-None
returns-in-None c = λ _. IsText.bad (rw c.in-None.is at c.in_ok-found.ensures)
