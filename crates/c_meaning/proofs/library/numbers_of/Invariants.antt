use Rattle.std.proofs.Common.{◌≡◌, drop}
use Rattle.c_meaning.specs.Library.{numbers}
use Rattle.c_meaning.proofs.Numbers.{with_numbers}
use Rattle.c_meaning.proofs.library.numbers_of.Given as goal

-- the numbers so far, and then those that are left
abbrev pub invariant-loop-argument : goal.invariant-loop-argument
invariant-loop-argument l = numbers l.arguments ≡ with_numbers l.numbers.items (drop l.argument-index l.arguments)
