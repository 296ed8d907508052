use Rattle.std.proofs.Common.{rules, refl}
use Rattle.interp.proofs.Nexts.{lend_goes, lend_err}
use Rattle.interp.proofs.engine.Engine.lend.Goals as goal

pub returns-in-Err : goal.returns-in-Err
returns-in-Err c = lend_err c.args.code.now _ _ c.args.slot c.args.next c.in-Err.stop c.requires.plan c.in-Err.ensures

pub returns-in_ok-push-in-Ok : goal.returns-in_ok-push-in-Ok
returns-in_ok-push-in-Ok c = lend_goes c.args.code.now _ _ c.args.slot c.in-Ok.number c.args.next c.requires.plan c.in-Ok.ensures (search rules) refl (record { at = refl; room = refl; callers = refl }) c.requires.lower
