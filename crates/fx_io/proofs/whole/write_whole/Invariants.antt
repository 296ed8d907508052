use Rattle.std.proofs.Common.{length, ◌-◌}
use Rattle.fx_io.proofs.WriteLoop.{WritesSoFar}
use Rattle.fx_io.proofs.whole.write_whole.Given as goal

abbrev pub invariant-pieces : goal.invariant-pieces
invariant-pieces g l =
    WritesSoFar (g.S.Sink.written l.fn.sink) (g.S.Sink.written l.sink) (g.S.Sink.faults l.fn.sink) (g.S.Sink.faults l.sink) (g.S.Sink.room l.fn.sink) (g.S.Sink.room l.sink) l.bytes l.from

abbrev pub decreases-pieces : goal.decreases-pieces
decreases-pieces g l = length l.bytes - l.from
