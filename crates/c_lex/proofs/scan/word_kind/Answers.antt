-- A keyword, a macro or a name.
use Rattle.std.proofs.Common.{rules, sym, ◌∙◌, subst}
use mir.Syntax.{w64}
use mir.Val.{SFits}
use Rattle.std.proofs.lemmas.Int.{to_z-of_z}
use Rattle.c_lex.specs.declared.token.TokenKind.TheVariants as kind
use Rattle.c_lex.specs.Tokens.{IsWord}
use Rattle.c_lex.proofs.scan.word_kind.Goals as goal

pub returns-in-Some : goal.returns-in-Some
returns-in-Some c = λ m known. IsWord.keyword c.in-Some.keyword c.in-Some.ensures

pub returns-in-Some-value : goal.returns-in-Some-value
returns-in-Some-value c = λ m known.
    let word = c.new-spelling.ensures ∙ c.in_ok-to_vec.ensures.items_if_clones_equal (λ x y same. same) in
    let fits : SFits w64 c.in-Some-value.value = search rules in
    let kept = to_z-of_z w64 c.in-Some-value.value fits in
    let is = IsWord.macro c.in_default.ensures (sym (known c.args.word.now) ∙ sym c.in-Some-value.ensures) in
    subst (λ x. IsWord m c.args.word.now (kind.Const x c.new-spelling.result)) (sym kept) (subst (λ x. IsWord m c.args.word.now (kind.Const c.in-Some-value.value x)) (sym word) is)

pub returns-in-None : goal.returns-in-None
returns-in-None c = λ m known.
    let word = c.new-spelling.ensures ∙ c.in_ok-to_vec.ensures.items_if_clones_equal (λ x y same. same) in
    subst (λ x. IsWord m c.args.word.now (kind.Name x)) (sym word) (IsWord.name c.in_default.ensures (sym (known c.args.word.now) ∙ sym c.in-None.ensures))
