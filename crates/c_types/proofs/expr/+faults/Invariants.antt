use Rattle.std.proofs.Common.{◌≡◌, drop, option_copied}
use Rattle.c_tree.specs.Views.{args_of}
use Rattle.c_types.specs.Arguments.{converted, wanted}
use Rattle.c_types.specs.Expressions.{args_faults}
use Rattle.c_types.specs.Least.{least, earlier}
use Rattle.c_types.specs.Scopes.{in_scope}
use Rattle.c_types.proofs.expr.+faults.Given as goal

-- the fault of the arguments so far and that of those that are left is that of all
abbrev pub invariant-args_faults-loop-i : goal.invariant-args_faults-loop-i
invariant-args_faults-loop-i l =
    least (args_faults (in_scope l.scope) (wanted (option_copied l.called) (converted (args_of l.args))) 0 (args_of l.args))
    ≡ earlier l.faults.fault (least (args_faults (in_scope l.scope) (wanted (option_copied l.called) (converted (args_of l.args))) l.i (args_of (drop l.i l.args))))
