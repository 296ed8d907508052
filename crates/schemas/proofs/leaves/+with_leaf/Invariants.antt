use Rattle.std.proofs.Common.{◌+◌, ◌*◌, max}
use Rattle.c_tree.proofs.expr.Expr.TheLaws.{the_size}
use Rattle.schemas.proofs.leaves.+with_leaf.Given as goal

-- the recursion goes by the depth of the deepest of the trees that a function takes; one that hands its trees on as
-- they are stands above those that it calls
abbrev pub decreases-with_leaf : goal.decreases-with_leaf
decreases-with_leaf l = 3 * goal.size-with_leaf l

abbrev pub decreases-boxed_with_leaf : goal.decreases-boxed_with_leaf
decreases-boxed_with_leaf l = 3 * goal.size-boxed_with_leaf l + 1

abbrev pub decreases-operands_with_leaf : goal.decreases-operands_with_leaf
decreases-operands_with_leaf l = 3 * max (the_size l.left.now) (the_size l.right.now) + 2

abbrev pub decreases-choice_with_leaf : goal.decreases-choice_with_leaf
decreases-choice_with_leaf l = 3 * max (the_size l.test.now) (max (the_size l.yes.now) (the_size l.no.now)) + 2
