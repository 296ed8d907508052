use Rattle.std.proofs.lemmas.List.{take_rest}
use Rattle.fx_io.proofs.WriteLoop.{wrote}
use Rattle.fx_io.proofs.whole.write_whole.Goals as goal

pub pieces-preserved : goal.pieces-preserved
pieces-preserved g c = wrote _ _ _ _ _ _ _ _ _ _ _ _ _ (take_rest c.args.bytes.now c.pieces.from) c.pieces.invariant c.pieces-test.true c.in_ok-from.ensures.within c.in_ok-from.ensures.bytes c.in_ok-from.ensures.steady (λ some fits. (c.in_ok-from.ensures.room some fits).1)
