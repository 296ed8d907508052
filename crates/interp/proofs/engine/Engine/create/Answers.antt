use Rattle.std.proofs.Common.{refl}
use Rattle.interp.proofs.Nexts.{create_goes, create_err}
use Rattle.interp.proofs.engine.Engine.create.Goals as goal

pub returns-in-Err : goal.returns-in-Err
returns-in-Err c = create_err c.args.code.now _ _ c.args.ty c.args.slot c.args.count c.args.next c.in-Err.stop c.requires.plan c.in-Err.ensures

pub returns-in-Ok : goal.returns-in-Ok
returns-in-Ok c = create_goes c.args.code.now _ _ c.args.ty c.args.slot c.args.count c.args.next c.requires.plan c.in-Ok.ensures refl refl (record { at = refl; room = refl; callers = refl }) c.requires.lower
