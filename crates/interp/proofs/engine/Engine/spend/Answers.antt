use Rattle.std.proofs.Common.{refl}
use Rattle.interp.proofs.Nexts.{spend_goes, spend_err}
use Rattle.interp.proofs.Moving.{spends_moves}
use Rattle.interp.proofs.engine.Engine.spend.Goals as goal

pub returns-in-Err : goal.returns-in-Err
returns-in-Err g c = spend_err c.args.code.now _ _ _ c.args.next c.in-Err.stop c.requires.plan c.in-Err.ensures

pub returns-in-Ok : goal.returns-in-Ok
returns-in-Ok g c = spends_moves c.args.code.now _ _ _ _ c.tick.ensures (spend_goes c.args.code.now _ _ c.args.next c.requires.plan c.in-Ok.ensures refl refl (record { at = refl; room = refl; callers = refl }) c.requires.lower)
