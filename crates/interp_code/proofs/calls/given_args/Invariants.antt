use Rattle.std.proofs.Common.{◌≡◌, ◌++◌, drop}
use Rattle.c_tree.specs.Views.{args_of}
use Rattle.interp_code.specs.Compile.{given_as}
use Rattle.interp_code.specs.Holed.{holed_args}
use Rattle.interp_code.proofs.calls.given_args.Given as goal

-- the arguments so far, and then those that are left
abbrev pub invariant-loop-at : goal.invariant-loop-at
invariant-loop-at l = given_as l.params (holed_args l.context (args_of l.args)) ≡ l.given.items ++ given_as (drop l.at l.params) (holed_args l.context (args_of (drop l.at l.args)))
