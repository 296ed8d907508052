use Rattle.std.proofs.Common.{length, ◌-◌, ◌≡◌, ◌+◌, true}
use Rattle.fx_io.specs.Held.{left_of}
use Rattle.fx_io.proofs.ReadLoop.{ReadsSoFar}
use Rattle.fx_io.proofs.whole.read_chosen.Given as goal

abbrev pub invariant-pieces : goal.invariant-pieces
invariant-pieces g l =
    ReadsSoFar (g.F.Files.held l.fn.files ≡ g.F.Files.held l.files) (g.F.Files.chosen l.files ≡ true) (g.F.Files.faults l.fn.files) (g.F.Files.faults l.files)
    (g.F.Files.sure l.fn.files) (g.F.Files.sure l.files)
    (left_of (g.F.Files.held l.fn.files) (g.F.Files.at l.fn.files)) (left_of (g.F.Files.held l.files) (g.F.Files.at l.files)) l.bytes.items

abbrev pub decreases-pieces : goal.decreases-pieces
decreases-pieces g l = l.cap + 1 - length l.bytes.items
