use Rattle.std.proofs.Common.{◌≡◌, length}
use Rattle.std.specs.List.{list_all}
use Rattle.repair_cli.specs.Words.{is_known, words_of}
use Rattle.repair_cli.proofs.words.are_known.Given as goal

-- the answer is the one for the words that are left
abbrev pub invariant-loop-rest : goal.invariant-loop-rest
invariant-loop-rest l = list_all is_known (words_of l.words) ≡ list_all is_known (words_of l.rest)

abbrev pub decreases-loop-rest : goal.decreases-loop-rest
decreases-loop-rest l = length l.rest
