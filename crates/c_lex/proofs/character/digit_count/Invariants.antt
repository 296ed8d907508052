-- What is counted and what still goes on are all the digits at the start.
use Rattle.std.proofs.Common.{◌≡◌, ◌+◌, ◌-◌, ◌≤◌, length, drop}
use Rattle.c_lex.specs.LiteralReading.{digit_count}
use Rattle.c_lex.proofs.character.digit_count.Given as goal

abbrev pub invariant-loop-count : goal.invariant-loop-count
invariant-loop-count l = record {
  within : l.count ≤ length l.text;
  counts : l.count + digit_count l.base (l.most - l.count) (drop l.count l.text) ≡ digit_count l.base l.most l.text;
}

abbrev pub decreases-loop-count : goal.decreases-loop-count
decreases-loop-count l = length l.text - l.count
