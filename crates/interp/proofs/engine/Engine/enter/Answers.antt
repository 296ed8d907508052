use Rattle.std.proofs.Common.{rules, refl, arith}
use Rattle.interp.proofs.engine.Engine.enter.Goals as goal

pub returns : goal.returns
returns c = record { room = omega arith; at = refl; values = search rules; frames = search rules; callers = search rules; state = refl }
