-- The count so far, and what it makes of the count of the rest.
use Rattle.std.proofs.Common.{◌≡◌, ◌+◌, ◌≤◌, length, option_map}
use Rattle.c_stdio.specs.Formats.{conversions}
use Rattle.c_stdio.proofs.format.conversion_count.Given as goal

abbrev pub invariant-directives : goal.invariant-directives
invariant-directives l = record {
  counted : option_map (λ m. l.count + m) (conversions l.rest) ≡ conversions l.fn.format;
  few : l.count + length l.rest ≤ length l.fn.format;
}

abbrev pub decreases-directives : goal.decreases-directives
decreases-directives l = length l.rest
