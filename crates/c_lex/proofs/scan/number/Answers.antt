-- The longest number at the start.
use Rattle.std.proofs.Common.{Bool}
use Rattle.c_lex.specs.declared.opening.Opening.TheVariants as opening
use Rattle.c_lex.specs.Tokens.{Macros, IsNumber, Stands}
use Rattle.c_lex.proofs.Longest.{number_at_start}
use Rattle.c_lex.proofs.ScanParts.{finds_map, number_stands}
use Rattle.c_lex.proofs.scan.number.Goals as goal

pub returns : goal.returns
returns c =
    let longest = number_at_start c.args.text.now c.run_len-len.result c.requires.some c.requires.digit c.run_len-len.ensures.value in
    finds_map (IsNumber c.args.at _) (λ r. (m : Macros) (begun : Bool) → Stands m c.args.at c.args.text.now begun opening.Digit r) (λ r h m begun. number_stands m c.args.at c.args.text.now begun r c.run_len-len.result longest.0 h) _ c.number_kind.ensures
