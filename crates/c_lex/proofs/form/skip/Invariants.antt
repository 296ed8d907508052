-- What stands after the blanks of the rest stands after those of the text.
use Rattle.std.proofs.Common.{◌≡◌, ◌-◌, ◌≤◌, length, drop}
use Rattle.c_lex.specs.DirectiveReading as spec
use Rattle.c_lex.proofs.form.skip.Given as goal

abbrev pub invariant-loop-at : goal.invariant-loop-at
invariant-loop-at l = record {
  within : l.at ≤ length l.text;
  same : spec.skip (drop l.at l.text) ≡ spec.skip l.text;
}

abbrev pub decreases-loop-at : goal.decreases-loop-at
decreases-loop-at l = length l.text - l.at
