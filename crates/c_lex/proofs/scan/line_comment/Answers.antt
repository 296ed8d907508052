-- A comment to the end of its line.
use Rattle.c_lex.specs.Tokens.{Stands}
use Rattle.c_lex.proofs.scan.line_comment.Goals as goal

pub returns : goal.returns
returns c = λ m at begun. Stands.line_comment c.line_end.ensures
