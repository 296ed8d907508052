use Rattle.std.proofs.Common.{refl, arith}
use Rattle.interp.proofs.Nexts.{clear_goes, clear_err}
use Rattle.interp.proofs.engine.Engine.clear.Goals as goal

pub returns-in-Err : goal.returns-in-Err
returns-in-Err c = clear_err c.args.code.now _ _ c.args.slot c.args.from c.args.count _ c.args.next c.in-Err.stop c.requires.plan (omega arith) c.in-Err.ensures

pub returns-in-Ok : goal.returns-in-Ok
returns-in-Ok c = clear_goes c.args.code.now _ _ c.args.slot c.args.from c.args.count _ c.args.next c.requires.plan (omega arith) c.in-Ok.ensures refl refl (record { at = refl; room = refl; callers = refl }) c.requires.lower
