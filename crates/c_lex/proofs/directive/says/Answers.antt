-- An include, the parts of a definition, or neither.
use Rattle.std.proofs.Common.{sym}
use Rattle.c_lex.specs.Tokens.{Says}
use Rattle.c_lex.proofs.Forms.{include_is}
use Rattle.c_lex.proofs.DirectiveParts.{unknown_none}
use Rattle.c_lex.proofs.directive.says.Goals as goal

pub returns-then-is_include : goal.returns-then-is_include
returns-then-is_include c = λ m known. Says.include (include_is c.args.line.now (sym c.if-is_include.ensures))

pub returns-in-None : goal.returns-in-None
returns-in-None c = λ _ m known. unknown_none m c.args.at c.args.line.now (sym c.if-is_include.ensures) (sym c.in-None.ensures.value)
