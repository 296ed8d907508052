use Rattle.std.proofs.Common.{◌≡◌, ℕ, ℤ, List, Option, length}
use Rattle.c_meaning.specs.Filled.{with_tape}
use Rattle.interp_code.specs.Go.{unwind}
use Rattle.interp_code.specs.Shown.{Flat}
use Rattle.interp.specs.Left.{around}
use Rattle.interp.proofs.calls.unwind.Given as goal

-- what is left of the frames does the rest
abbrev pub invariant-each : goal.invariant-each
invariant-each l = record {
  same : (code : Flat) (room : ℕ) (r : Option ℤ) (answers : List (Option ℤ)) → unwind (around code room l.fn.frames.items) r (with_tape answers l.fn.state) ≡ unwind (around code room l.frames.items) r (with_tape answers l.state);
  units : l.state.units ≡ l.fn.state.units;
}

abbrev pub decreases-each : goal.decreases-each
decreases-each l = length l.frames.items
