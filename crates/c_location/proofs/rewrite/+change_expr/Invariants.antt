use Rattle.std.proofs.Common.{◌≡◌, ◌+◌, ◌*◌, max}
use Rattle.c_tree.proofs.expr.Expr.TheLaws.{the_size}
use Rattle.c_tree.specs.Views.{args_of, with_arg}
use Rattle.c_location.specs.Changes.{rewrite_of}
use Rattle.c_location.specs.Rewrites.{to_args}
use Rattle.c_location.proofs.ChangeLemmas.{so_far}
use Rattle.c_location.proofs.rewrite.+change_expr.Given as goal

-- the arguments so far are changed, and the others are not
abbrev pub invariant-change_args-loop-arg : goal.invariant-change_args-loop-arg
invariant-change_args-loop-arg l =
    goal.unvisited-change_args-loop-arg l
    × (so_far args_of with_arg (to_args l.l (rewrite_of l.change)) l.arg-items l.arg-index ≡ to_args l.l (rewrite_of l.change) (args_of l.initial.arg-items))

-- the recursion goes by the depth of the deepest of the trees that a function takes; one that hands its trees on
-- as they are stands above those that it calls
abbrev pub decreases-change_expr : goal.decreases-change_expr
decreases-change_expr l = 4 * goal.size-change_expr l

abbrev pub decreases-changed_node : goal.decreases-changed_node
decreases-changed_node l = 4 * goal.size-changed_node l

abbrev pub decreases-changed_binary : goal.decreases-changed_binary
decreases-changed_binary l = 4 * max (the_size l.left.value) (the_size l.right.value) + 1

abbrev pub decreases-changed_choice : goal.decreases-changed_choice
decreases-changed_choice l =
    4 * max (the_size l.test.value) (max (the_size l.yes.value) (the_size l.no.value)) + 1

abbrev pub decreases-changed_assign : goal.decreases-changed_assign
decreases-changed_assign l = 4 * max (the_size l.place.value) (the_size l.value.value) + 3

abbrev pub decreases-changed_comma : goal.decreases-changed_comma
decreases-changed_comma l = 4 * max (the_size l.left.value) (the_size l.right.value) + 1

abbrev pub decreases-change_assigned : goal.decreases-change_assigned
decreases-change_assigned l = 4 * goal.size-change_assigned l + 2

abbrev pub decreases-change_here : goal.decreases-change_here
decreases-change_here l = 4 * goal.size-change_here l + 1

abbrev pub decreases-change_args : goal.decreases-change_args
decreases-change_args l = 4 * goal.size-change_args l + 1

abbrev pub decreases-change_arg : goal.decreases-change_arg
decreases-change_arg l = 4 * goal.size-change_arg l
