-- The macro has its name and its value.
use Rattle.std.proofs.Common.{Ok, ap, ◌∙◌}
use mir.Syntax.{w64}
use Rattle.std.proofs.lemmas.Int.{to_z-of_z}
use Rattle.c_lex.specs.declared.scan.Scanned.TheVariants as scanned
use Rattle.c_lex.proofs.directive.new_macro.Goals as goal

pub returns : goal.returns
returns c =
    let kept = to_z-of_z w64 c.args.value c.ranges.value in
    let word = c.new.ensures ∙ c.in_ok-word.ensures.items_if_clones_equal (λ x y same. same) in
    ap (λ v. Ok (scanned.Define c.new.result v c.args.len)) kept ∙ ap (λ w. Ok (scanned.Define w c.args.value c.args.len)) word
