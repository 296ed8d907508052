-- Where no digit stands, no character is written.
use Rattle.std.proofs.Common.{sym, subst, take}
use Rattle.c_lex.specs.Constants.{HasDigits}
use Rattle.c_lex.proofs.Characters.{no_value}
use Rattle.c_lex.proofs.character.numeric_escape.Goals as goal

pub returns-in_default-2 : goal.returns-in_default-2
returns-in_default-2 c =
    no_value c.args.base c.args.most c.args.before c.args.text.now
    (λ n h. c.in_default.ensures n (subst (λ k. HasDigits c.args.base (take k c.args.text.now) n) (sym c.digit_count-count.ensures.count) h))
