-- The whole literal, or an opening quote alone.
use Rattle.std.proofs.Common.{Bool}
use Rattle.c_lex.specs.declared.opening.Opening.TheVariants as opening
use Rattle.c_lex.specs.Tokens.{Macros, IsText, Stands}
use Rattle.c_lex.proofs.ScanParts.{finds_map, text_stands, none_quoted}
use Rattle.c_lex.proofs.scan.string_literal.Goals as goal

pub returns-in-Some : goal.returns-in-Some
returns-in-Some c = finds_map (IsText c.args.at _) (λ r. (m : Macros) (begun : Bool) → Stands m c.args.at c.args.text.now begun opening.Text r) (λ r h m begun. text_stands m c.args.at c.args.text.now begun r c.in-Some.len c.in-Some.ensures.whole.1 h) _ c.text_kind.ensures

pub returns-in-None : goal.returns-in-None
returns-in-None c = λ _ m begun. Stands.open_text (none_quoted 34 c.args.text.now c.in-None.ensures.whole)
