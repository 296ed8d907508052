-- The values so far, and then those of the rest, are the values of all characters.
use Rattle.std.proofs.Common.{◌-◌, ◌≤◌, length}
use Rattle.c_lex.proofs.Characters.{IsReadTo}
use Rattle.c_lex.proofs.literal.characters.Given as goal

abbrev pub invariant-loop-at : goal.invariant-loop-at
invariant-loop-at l = record {
  within : l.at ≤ length l.body;
  read : IsReadTo 34 l.body l.at l.values.items;
}

abbrev pub decreases-loop-at : goal.decreases-loop-at
decreases-loop-at l = length l.body - l.at
