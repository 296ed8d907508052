use Rattle.std.proofs.Common.{◌≡◌, length}
use Rattle.repair_cli.specs.Words.{names, words_of}
use Rattle.repair_cli.proofs.words.next_name.Given as goal

-- the names are those of the words that are left
abbrev pub invariant-loop-rest : goal.invariant-loop-rest
invariant-loop-rest l = names (words_of l.words) ≡ names (words_of l.rest)

abbrev pub decreases-loop-rest : goal.decreases-loop-rest
decreases-loop-rest l = length l.rest
