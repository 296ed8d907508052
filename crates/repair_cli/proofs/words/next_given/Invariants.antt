use Rattle.std.proofs.Common.{◌≡◌, length}
use Rattle.repair_cli.specs.Words.{given, words_of}
use Rattle.repair_cli.proofs.words.next_given.Given as goal

-- what is given is what the words that are left give
abbrev pub invariant-loop-rest : goal.invariant-loop-rest
invariant-loop-rest l = given l.spelling (words_of l.words) ≡ given l.spelling (words_of l.rest)

abbrev pub decreases-loop-rest : goal.decreases-loop-rest
decreases-loop-rest l = length l.rest
