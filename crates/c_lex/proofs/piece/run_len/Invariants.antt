-- What is counted and what still goes on are the whole run.
use Rattle.std.proofs.Common.{◌≡◌, ◌+◌, ◌-◌, ◌≤◌, length, drop, get_or}
use Rattle.c_lex.specs.Reading.{goes_on, chain_len}
use Rattle.c_lex.proofs.piece.run_len.Given as goal

abbrev pub invariant-loop-len : goal.invariant-loop-len
invariant-loop-len l = record {
  begun : 1 ≤ l.len;
  within : l.len ≤ length l.text;
  counts : l.len + chain_len (goes_on l.run) (get_or l.text (l.len - 1) 0) (drop l.len l.text) ≡ 1 + chain_len (goes_on l.run) (get_or l.text 0 0) (drop 1 l.text);
}

abbrev pub decreases-loop-len : goal.decreases-loop-len
decreases-loop-len l = length l.text - l.len
