use Rattle.std.proofs.Common.{◌≡◌, drop}
use Rattle.c_tree.specs.Views.{args_of}
use Rattle.c_types.specs.Constants.{not_constant_args}
use Rattle.c_types.specs.Least.{least, earlier}
use Rattle.c_types.proofs.constant.+not_constant.Given as goal

-- the fault of the arguments so far and that of those that are left is that of all
abbrev pub invariant-not_constant_args-loop-arg : goal.invariant-not_constant_args-loop-arg
invariant-not_constant_args-loop-arg l = least (not_constant_args (args_of l.args)) ≡ earlier l.faults.fault (least (not_constant_args (args_of (drop l.arg-index l.args))))
