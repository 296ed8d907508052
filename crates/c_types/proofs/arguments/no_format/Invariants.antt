use Rattle.std.proofs.Common.{◌≡◌, drop}
use Rattle.c_tree.specs.Views.{args_of}
use Rattle.c_types.specs.Arguments.{no_format}
use Rattle.c_types.proofs.arguments.no_format.Given as goal

-- the answer is the one for the arguments that are left
abbrev pub invariant-loop-arg : goal.invariant-loop-arg
invariant-loop-arg l = no_format (args_of l.args) ≡ no_format (args_of (drop l.arg-index l.args))
