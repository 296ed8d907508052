use Rattle.std.proofs.Common.{◌≡◌, drop}
use Rattle.c_tree.specs.Views.{args_of}
use Rattle.schemas.specs.Constants.{constants_in_args}
use Rattle.schemas.specs.Kept.{with_constants}
use Rattle.schemas.proofs.constants.+add_expr.Given as goal

-- what is found with the arguments that are left
abbrev pub invariant-add_args-loop-arg : goal.invariant-add_args-loop-arg
invariant-add_args-loop-arg l = with_constants l.initial.found.items (constants_in_args (args_of l.args)) ≡ with_constants l.found.items (constants_in_args (args_of (drop l.arg-index l.args)))
