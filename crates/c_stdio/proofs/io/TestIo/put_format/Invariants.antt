-- The rest of the format fits the arguments that are left, and is written from here as the whole from the start.
use Rattle.std.proofs.Common.{◌≡◌, ◌-◌, length, drop}
use Rattle.c_stdio.specs.Formats.{text}
use Rattle.c_stdio.proofs.Directives.{Remains}
use Rattle.c_stdio.proofs.io.TestIo.put_format.Given as goal

abbrev pub invariant-directives : goal.invariant-directives
invariant-directives l = record {
  remains : Remains (text l.format l.args) l.initial.self.expected (drop l.at l.format) (drop l.next l.args) l.self.expected;
  input : l.self.input ≡ l.initial.self.input;
}

abbrev pub decreases-directives : goal.decreases-directives
decreases-directives l = length l.format - l.at
