use Rattle.std.proofs.Common.{◌≡◌, ◌≤◌, Some, drop, length}
use Rattle.interp_code.specs.Go.{taken}
use Rattle.interp.specs.Left.{upper}
use Rattle.interp.proofs.arguments.take_arguments.Given as goal

-- those from `left` on are taken
abbrev pub invariant-each : goal.invariant-each
invariant-each l = record {
  within : l.left ≤ length l.given;
  taken_from : taken (drop l.left l.given) (upper l.fn.values.items) ≡ Some (record { arguments = l.arguments.items; below = upper l.values.items });
}

abbrev pub decreases-each : goal.decreases-each
decreases-each l = l.left
