-- What the rest of the text gives stands after the line so far.
use Rattle.std.proofs.Common.{◌≡◌, ℕ, ◌-◌, ◌≤◌, Result, length, drop}
use Rattle.c_lex.specs.Bytes.{Bytes}
use Rattle.c_lex.specs.Directives.{before_line, HasLine}
use Rattle.c_lex.proofs.line.directive_line.Given as goal

abbrev pub invariant-loop-place : goal.invariant-loop-place
invariant-loop-place l = record {
  within : l.place ≤ length l.text;
  size : length l.line.items ≡ l.place;
  read : (r : Result Bytes ℕ) → HasLine (drop l.place l.text) r → HasLine l.text (before_line l.line.items r);
}

abbrev pub decreases-loop-place : goal.decreases-loop-place
decreases-loop-place l = length l.text - l.place
