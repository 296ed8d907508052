use Rattle.std.proofs.Common.{rules, refl}
use Rattle.interp.proofs.Nexts.{loop_goes}
use Rattle.interp.proofs.engine.Engine.begin_loop.Goals as goal

pub returns : goal.returns
returns c = loop_goes c.args.code.now _ _ c.args.turn c.requires.plan refl (search rules) refl (record { at = refl; room = refl; callers = refl }) c.requires.lower
