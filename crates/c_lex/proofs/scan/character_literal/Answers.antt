-- The whole literal, or an opening quote alone.
use Rattle.std.proofs.Common.{Bool}
use Rattle.c_lex.specs.declared.opening.Opening.TheVariants as opening
use Rattle.c_lex.specs.Tokens.{Macros, IsCharacter, Stands}
use Rattle.c_lex.proofs.ScanParts.{finds_map, character_stands, none_quoted}
use Rattle.c_lex.proofs.scan.character_literal.Goals as goal

pub returns-in-Some : goal.returns-in-Some
returns-in-Some c = finds_map (IsCharacter c.args.at _) (λ r. (m : Macros) (begun : Bool) → Stands m c.args.at c.args.text.now begun opening.Character r) (λ r h m begun. character_stands m c.args.at c.args.text.now begun r c.in-Some.len c.in-Some.ensures.whole.1 h) _ c.character_kind.ensures

pub returns-in-None : goal.returns-in-None
returns-in-None c = λ _ m begun. Stands.open_character (none_quoted 39 c.args.text.now c.in-None.ensures.whole)
