use Rattle.std.proofs.Common.{refl}
use Rattle.interp.proofs.Nexts.{trap_ends}
use Rattle.interp.proofs.engine.Engine.trap.Goals as goal

pub returns : goal.returns
returns c = trap_ends c.args.code.now _ _ c.requires.plan refl
