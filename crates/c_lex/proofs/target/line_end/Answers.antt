-- A text has an end.
use Rattle.c_lex.proofs.Lines.{line_ends_somewhere}
use Rattle.c_lex.proofs.target.line_end.Goals as goal

pub returns-in-None : goal.returns-in-None
returns-in-None c = absurd (line_ends_somewhere c.args.text.now c.in-None.ensures)
