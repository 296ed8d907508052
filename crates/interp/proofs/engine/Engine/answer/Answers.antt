use Rattle.std.proofs.Common.{rules, refl}
use Rattle.interp.proofs.Nexts.{answer_goes}
use Rattle.interp.proofs.engine.Engine.answer.Goals as goal

pub returns : goal.returns
returns c = answer_goes c.args.code.now _ _ c.args.value c.args.next c.requires.asks (search rules) refl refl (record { at = refl; room = refl; callers = refl }) c.requires.lower
