use Rattle.std.proofs.Common.{◌+◌, ◌-◌, ◌≤◌, drop, length}
use Rattle.c_tree.specs.Tree.{done}
use Rattle.c_tree.specs.Views.{code, body_of, with_item}
use Rattle.c_meaning.proofs.Sizes.{code_weight, body_weight}
use Rattle.interp_code.specs.Flat.{Grown}
use Rattle.interp_code.specs.Holed.{body_plan}
use Rattle.interp_code.specs.Leading.{ways_at}
use Rattle.interp_code.proofs.statements.+statement.Given as goal

-- the code of the items from `left` on is made
abbrev pub invariant-flat_items-each : goal.invariant-flat_items-each
invariant-flat_items-each l = record {
  left : l.left ≤ length l.items;
  grown : Grown l.fn.nodes l.nodes l.at (body_plan l.context l.ret (body_of (drop l.left l.items)) (ways_at l.fn.nodes l.exits));
}

abbrev pub decreases-flat_items-each : goal.decreases-flat_items-each
decreases-flat_items-each l = l.left

abbrev pub decreases-flat_stmt : goal.decreases-flat_stmt
decreases-flat_stmt l = code_weight (code l.statement.now)

abbrev pub decreases-flat_while : goal.decreases-flat_while
decreases-flat_while l = 1 + code_weight (code l.body.now)

abbrev pub decreases-flat_do : goal.decreases-flat_do
decreases-flat_do l = 1 + code_weight (code l.body.now)

abbrev pub decreases-flat_for : goal.decreases-flat_for
decreases-flat_for l = 1 + code_weight (code l.body.now)

abbrev pub decreases-flat_block : goal.decreases-flat_block
decreases-flat_block l = 2 + body_weight (body_of l.items.now)

abbrev pub decreases-flat_items : goal.decreases-flat_items
decreases-flat_items l = 1 + body_weight (body_of l.items.now)

abbrev pub decreases-flat_item : goal.decreases-flat_item
decreases-flat_item l = body_weight (with_item l.item.now done) - 1
