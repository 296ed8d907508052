use Rattle.std.proofs.Common.{◌≡◌, drop}
use Rattle.c_tree.specs.Views.{args_of}
use Rattle.c_location.specs.Locations.{in_args}
use Rattle.c_location.specs.Shown.{found_at}
use Rattle.c_location.proofs.part.+in_expr.Given as goal

-- what is sought is found in the arguments that are left
abbrev pub invariant-in_list-loop-arg : goal.invariant-in_list-loop-arg
invariant-in_list-loop-arg l = found_at l.l (in_args (args_of l.args)) ≡ found_at l.l (in_args (args_of (drop l.arg-index l.args)))
