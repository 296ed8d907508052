-- The constant has its value and its bytes.
use Rattle.std.proofs.Common.{length, Ok, ap, ◌∙◌}
use mir.Syntax.{w64}
use Rattle.std.proofs.lemmas.Int.{to_z-of_z}
use Rattle.c_lex.specs.declared.scan.Scanned.TheVariants as scanned
use Rattle.c_lex.specs.declared.token.TokenKind.TheVariants as kind
use Rattle.c_lex.proofs.scan.constant_token.Goals as goal

pub returns : goal.returns
returns c =
    let kept = to_z-of_z w64 c.args.value c.ranges.value in
    let word = c.new.ensures ∙ c.in_ok-spelling.ensures.items_if_clones_equal (λ x y same. same) in
    ap (λ v. Ok (scanned.Take (kind.Const v c.new.result) (length c.args.word.now))) kept ∙ ap (λ w. Ok (scanned.Take (kind.Const c.args.value w) (length c.args.word.now))) word
