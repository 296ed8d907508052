-- The tokens so far, and then the outcome of the rest, are the outcome of the text.
use Rattle.std.proofs.Common.{◌-◌, ◌≤◌, length}
use Rattle.c_lex.proofs.Progress.{IsReadTo}
use Rattle.c_lex.proofs.reading.tokens_of.Given as goal

abbrev pub invariant-loop-at : goal.invariant-loop-at
invariant-loop-at l = record {
  within : l.at ≤ length l.bytes;
  read : IsReadTo l.bytes l.macros l.begun l.at l.tokens.items;
}

abbrev pub decreases-loop-at : goal.decreases-loop-at
decreases-loop-at l = length l.bytes - l.at
