-- The bytes before the place agree.
use Rattle.std.proofs.Common.{◌≡◌, ◌+◌, drop}
use Rattle.c_stdio.specs.Output.{agreeing}
use Rattle.c_stdio.proofs.io.agreeing.Given as goal

abbrev pub invariant-loop-count : goal.invariant-loop-count
invariant-loop-count l = l.count + agreeing (drop l.count l.text) (drop l.count l.expected) ≡ agreeing l.text l.expected
