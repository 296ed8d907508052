-- The longest punctuator, or a stray byte.
use Rattle.c_lex.specs.Tokens.{Stands}
use Rattle.c_lex.proofs.ScanParts.{punctuator_stands}
use Rattle.c_lex.proofs.scan.operator.Goals as goal

pub returns-in-Some : goal.returns-in-Some
returns-in-Some c = λ m begun. punctuator_stands m c.args.at c.args.text.now begun c.in-Some.punct c.in-Some.len c.in-Some.ensures

pub returns-in-None : goal.returns-in-None
returns-in-None c = λ _ m begun. Stands.stray c.in-None.ensures
