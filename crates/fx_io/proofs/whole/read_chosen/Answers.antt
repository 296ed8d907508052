use Rattle.std.proofs.Common.{refl, arith}
use Rattle.fx_io.proofs.ReadLoop.{longer}
use Rattle.fx_io.proofs.whole.read_chosen.Goals as goal

pub returns-clause-ends : goal.returns-clause-ends
returns-clause-ends g c = (refl, longer _ _ c.pieces.bytes.items c.args.cap c.pieces.invariant.left (omega arith))
