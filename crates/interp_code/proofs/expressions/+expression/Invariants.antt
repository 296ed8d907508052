use Rattle.std.proofs.Common.{◌+◌, ◌-◌, ◌≤◌, drop, length}
use Rattle.c_tree.specs.Tree.{no_args}
use Rattle.c_tree.specs.Views.{tree, with_arg, args_of}
use Rattle.c_meaning.proofs.Sizes.{weight, weights}
use Rattle.interp_code.specs.Flat.{plan_at, Grown}
use Rattle.interp_code.specs.Holed.{args_plan}
use Rattle.interp_code.proofs.expressions.+expression.Given as goal

-- the code of the arguments from `left` on is made
abbrev pub invariant-flat_args-each : goal.invariant-flat_args-each
invariant-flat_args-each l = record {
  left : l.left ≤ length l.args;
  grown : Grown l.fn.nodes l.nodes l.at (args_plan l.context (drop l.left l.params) (args_of (drop l.left l.args)) (plan_at l.fn.nodes l.next));
}

abbrev pub decreases-flat_args-each : goal.decreases-flat_args-each
decreases-flat_args-each l = l.left

abbrev pub decreases-flat_value : goal.decreases-flat_value
decreases-flat_value l = weight (tree l.e.now)

abbrev pub decreases-flat_drop : goal.decreases-flat_drop
decreases-flat_drop l = 2 + weight (tree l.e.now)

abbrev pub decreases-flat_index : goal.decreases-flat_index
decreases-flat_index l = 1 + weight (tree l.place.now)

abbrev pub decreases-flat_right : goal.decreases-flat_right
decreases-flat_right l = 1 + weight (tree l.e.now)

abbrev pub decreases-flat_call : goal.decreases-flat_call
decreases-flat_call l = 2 + weights (args_of l.args.now)

abbrev pub decreases-flat_args : goal.decreases-flat_args
decreases-flat_args l = 1 + weights (args_of l.args.now)

abbrev pub decreases-flat_arg : goal.decreases-flat_arg
decreases-flat_arg l = weights (with_arg l.arg.now no_args) - 2

abbrev pub decreases-flat_binary : goal.decreases-flat_binary
decreases-flat_binary l = 7 + weight (tree l.left.now) + weight (tree l.right.now)

abbrev pub decreases-flat_choice : goal.decreases-flat_choice
decreases-flat_choice l = 7 + weight (tree l.test.now) + weight (tree l.yes.now) + weight (tree l.no.now)

abbrev pub decreases-flat_assign : goal.decreases-flat_assign
decreases-flat_assign l = 7 + weight (tree l.place.now) + weight (tree l.value.now)

abbrev pub decreases-flat_bump : goal.decreases-flat_bump
decreases-flat_bump l = 7 + weight (tree l.place.now)
