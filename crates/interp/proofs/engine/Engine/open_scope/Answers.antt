use Rattle.std.proofs.Common.{rules, refl}
use Rattle.interp.proofs.Nexts.{open_goes}
use Rattle.interp.proofs.engine.Engine.open_scope.Goals as goal

pub returns : goal.returns
returns c = open_goes c.args.code.now _ _ c.args.next c.requires.plan refl (search rules) refl (record { at = refl; room = refl; callers = refl }) c.requires.lower
