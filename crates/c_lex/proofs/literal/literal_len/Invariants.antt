-- The end that is found from here on is that of the whole text.
use Rattle.std.proofs.Common.{◌≡◌, ◌-◌, ◌≤◌, false, length, drop}
use Rattle.c_lex.specs.LiteralReading.{literal_end}
use Rattle.c_lex.proofs.literal.literal_len.Given as goal

abbrev pub invariant-loop-at : goal.invariant-loop-at
invariant-loop-at l = record {
  within : l.at ≤ length l.text;
  finds : literal_end l.quote l.passed l.at (drop l.at l.text) ≡ literal_end l.quote false 1 (drop 1 l.text);
}

abbrev pub decreases-loop-at : goal.decreases-loop-at
decreases-loop-at l = length l.text - l.at
