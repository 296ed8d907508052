-- A comment to its end, or one without an end.
use Rattle.c_lex.specs.Tokens.{Stands}
use Rattle.c_lex.proofs.scan.comment.Goals as goal

pub returns-in-Some : goal.returns-in-Some
returns-in-Some c = λ m begun. Stands.comment c.in-Some.ensures

pub returns-in-None : goal.returns-in-None
returns-in-None c = λ _ m begun. Stands.open_comment c.in-None.ensures
