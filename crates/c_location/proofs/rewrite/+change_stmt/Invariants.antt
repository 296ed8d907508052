use Rattle.std.proofs.Common.{◌≡◌, ◌+◌, ◌*◌, max}
use Rattle.c_tree.proofs.stmt.Stmt.TheLaws.{the_size}
use Rattle.c_tree.specs.Views.{body_of, with_item}
use Rattle.c_location.specs.Changes.{rewrite_of}
use Rattle.c_location.specs.Rewrites.{to_body}
use Rattle.c_location.proofs.ChangeLemmas.{so_far}
use Rattle.c_location.proofs.rewrite.+change_stmt.Given as goal

-- the items so far are changed, and the others are not
abbrev pub invariant-change_items-loop-item : goal.invariant-change_items-loop-item
invariant-change_items-loop-item l =
    goal.unvisited-change_items-loop-item l
    × (so_far body_of with_item (to_body l.l (rewrite_of l.change)) l.item-items l.item-index ≡ to_body l.l (rewrite_of l.change) (body_of l.initial.item-items))

-- the recursion goes by the depth of the deepest of the statements that a function takes; one that hands them on as
-- they are stands above those that it calls
abbrev pub decreases-change_stmt : goal.decreases-change_stmt
decreases-change_stmt l = 2 * goal.size-change_stmt l

abbrev pub decreases-changed_kind : goal.decreases-changed_kind
decreases-changed_kind l = 2 * goal.size-changed_kind l

abbrev pub decreases-changed_if : goal.decreases-changed_if
decreases-changed_if l = 2 * the_size l.yes.value + 1

abbrev pub decreases-changed_if_else : goal.decreases-changed_if_else
decreases-changed_if_else l = 2 * max (the_size l.yes.value) (the_size l.no.value) + 1

abbrev pub decreases-changed_while : goal.decreases-changed_while
decreases-changed_while l = 2 * the_size l.body.value + 1

abbrev pub decreases-changed_do : goal.decreases-changed_do
decreases-changed_do l = 2 * the_size l.body.value + 1

abbrev pub decreases-changed_for : goal.decreases-changed_for
decreases-changed_for l = 2 * the_size l.body.value + 1

abbrev pub decreases-change_items : goal.decreases-change_items
decreases-change_items l = 2 * goal.size-change_items l + 1

abbrev pub decreases-change_item : goal.decreases-change_item
decreases-change_item l = 2 * goal.size-change_item l
