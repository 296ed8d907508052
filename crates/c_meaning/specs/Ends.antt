-- How a program ends on a test, and how many units that takes.
use Rattle.std.specs.Prelude.{ℕ, ◌-◌, ℤ, List, [], ◌∷◌, nat_eq, if◌then◌else◌}
use Rattle.c_tree.specs.Tree.{Outer}
use Rattle.c_arith.specs.Arith.{byte_of}
use Rattle.c_stdio.specs.declared.test.Test.{Test}
use Rattle.c_meaning.specs.declared.stop.End.{End}
use Rattle.c_meaning.specs.declared.stop.End.TheVariants.{Wrong as AtWrong, Trapped as AtTrap, Budget as AtBudget, Depth as AtDepth, Cells as AtCells, Exit}
use Rattle.c_meaning.specs.declared.outcome.Outcome.{Outcome}
use Rattle.c_meaning.specs.declared.outcome.Outcome.TheVariants.{Passed, Wrong, Short, Status, Trapped, Budget, Depth, Cells}
use Rattle.c_meaning.specs.World.{World, Out, going, over, waiting}
use Rattle.c_meaning.specs.Meaning.{own_run}

-- after the return of a status (C11 5.1.2.2.3): all that is expected has to be written, and the
-- status modulo 256 has to be the test's
abbrev pub finished : ℕ → List ℕ → ℤ → Outcome
finished wanted [] n = if nat_eq (byte_of n) wanted then Passed else Status (byte_of n)
finished wanted (byte ∷ rest) n = Short

-- the outcome of a run that is over
abbrev pub outcome_at : ℕ → End → World → Outcome
outcome_at wanted AtWrong w = Wrong
outcome_at wanted AtTrap w = Trapped
outcome_at wanted AtBudget w = Budget
outcome_at wanted AtDepth w = Depth
outcome_at wanted AtCells w = Cells
outcome_at wanted (Exit n) w = finished wanted w.io.expected n

-- the outcome of a run of a program; one that waits for a hole has none, and no program's own run
-- does
abbrev pub outcome_of : ℕ → Out ℤ → Outcome
outcome_of wanted (going n w) = finished wanted w.io.expected n
outcome_of wanted (over e w) = outcome_at wanted e w
outcome_of wanted (waiting old w) = Trapped

-- the units that are left at the end
abbrev pub units_left : {A : Type 0} → Out A → ℕ
units_left (going a w) = w.units
units_left (over e w) = w.units
units_left (waiting old w) = w.units

-- the state in which a program begins
abbrev pub first_world : Test → ℕ → World
first_world test limit = record {
  objects = [];
  globals = [];
  frame = [];
  io = record { input = test.input; expected = test.output };
  units = limit;
  tape = [];
}

-- how a program ends on a test, with so many units
abbrev pub outcome : List Outer → Test → ℕ → Outcome
outcome program test limit = outcome_of test.status (own_run program (first_world test limit))

-- the units that this takes
abbrev pub units_taken : List Outer → Test → ℕ → ℕ
units_taken program test limit = limit - units_left (own_run program (first_world test limit))
