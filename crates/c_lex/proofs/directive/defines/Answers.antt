-- A constant, or no number.
use Rattle.std.proofs.Common.{sym, subst}
use Rattle.c_lex.specs.Constants.{HasValue}
use Rattle.c_lex.proofs.DirectiveParts.{unknown_number}
use Rattle.c_lex.proofs.directive.defines.Goals as goal

pub returns-in-Bad : goal.returns-in-Bad
returns-in-Bad c = λ _ m known.
    unknown_number m c.args.at c.args.line.now c.args.parts c.requires.no_include c.requires.is_parts (λ n v. c.in-Bad.ensures n (subst (λ w. HasValue w n) (sym c.part.ensures) v))
