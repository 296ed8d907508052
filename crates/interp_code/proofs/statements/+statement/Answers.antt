use Rattle.std.proofs.Common.{rules, ap, ◌-◌, arith}
use Rattle.c_tree.specs.declared.stmt.Item.{Item}
use Rattle.c_tree.specs.Tree.{done}
use Rattle.c_tree.specs.Views.{with_item}
use Rattle.c_meaning.proofs.Sizes.{code_weight, body_weight, item_weight}
use Rattle.c_meaning.proofs.Trees.{block_is}
use Rattle.interp_code.specs.Leading.{ways_at}
use Rattle.interp_code.proofs.Made.{ok_same, item_positive, simple_is}
use Rattle.interp_code.proofs.statements.+statement.Goals as goal

pub flat_items-flat_item-requires : goal.flat_items-flat_item-requires
flat_items-flat_item-requires t c =
    let small = item_weight c.args.items.now (c.each.left - 1) c.index-items-left.result (omega arith) c.index-items-left.is in
    let longer = c.each.invariant.grown.longer in
    let out = c.requires.out in
    let more = c.requires.more in
    let some = item_positive c.index-items-left.result in
    (omega (arith, small, some, c.decreases), record { next = c.each.invariant.grown.within; out = omega arith; more = omega arith })

pub flat_stmt-flat_block-requires : goal.flat_stmt-flat_block-requires
flat_stmt-flat_block-requires t c =
    let whole = ap code_weight (block_is c.args.statement.now c.in-Block.items c.deref.result.now c.in-Block.is c.deref.ensures.value) in
    (omega (arith, whole, c.decreases), c.requires)

pub flat_stmt-returns-in-Block : goal.flat_stmt-returns-in-Block
flat_stmt-returns-in-Block t c = rw (block_is c.args.statement.now c.in-Block.items c.deref.result.now c.in-Block.is c.deref.ensures.value) (search rules)

pub flat_item-flat_stmt-requires : goal.flat_item-flat_stmt-requires
flat_item-flat_stmt-requires t c =
    let same = ap (λ (z : Item). body_weight (with_item z done)) c.in-Stmt.is in
    (omega (arith, same, c.decreases), c.requires)

pub flat_stmt-returns-in-Act : goal.flat_stmt-returns-in-Act
flat_stmt-returns-in-Act t c = ok_same _ _ _ _ c.flat_simple.result (simple_is c.args.context.now c.args.ret c.args.statement.now (ways_at c.args.nodes.now c.args.exits) c.in-Act.is) c.flat_simple.ensures
