use Rattle.std.proofs.Common.{◌≡◌, ◌+◌, [], ap, ◌∙◌, refl, arith}
use Rattle.std.proofs.lemmas.Grind.{common_steps}
use Rattle.std.proofs.lemmas.Result.{on_ok_weaker}
use borrow.Enum.Total.{values_o_at}
use Rattle.c_tree.specs.contracts.stmt.StmtNode.{enum}
use Rattle.c_tree.specs.Views.{body_of, with_item}
use Rattle.c_types.specs.Scopes.{here, outside, in_scope}
use Rattle.c_types.specs.Slots.{resolved_body, body_count}
use Rattle.c_types.proofs.ResolveLemmas.{items_more, items_counted, changed_all, resolved_block, count_block}
use Rattle.c_types.proofs.resolve.+resolve_stmt.Goals as goal

-- the block is read back, with its items resolved
pub resolve_stmt-returns-in-Block-clause-resolved : goal.resolve_stmt-returns-in-Block-clause-resolved
resolve_stmt-returns-in-Block-clause-resolved t c =
    rw (c.in-Block.is, values_o_at enum 2 (c.in-Block.items, tt))
    (on_ok_weaker c.resolve_block.result (λ (h : body_of c.resolve_block.new.items.items ≡ resolved_body [] (in_scope c.args.scope.now) c.args.next.now (body_of c.in-Block.items.items)).
    resolved_block (in_scope c.args.scope.now) c.args.next.now c.in-Block.items c.resolve_block.new.items h c.args.st.now.span) (rw c.in-Block.items-is at c.resolve_block.ensures.resolved))

-- and declares what they declare
pub resolve_stmt-returns-in-Block-clause-next : goal.resolve_stmt-returns-in-Block-clause-next
resolve_stmt-returns-in-Block-clause-next t c =
    rw c.in-Block.is
    (on_ok_weaker c.resolve_block.result (λ (h : c.resolve_block.new.next ≡ c.args.next.now + body_count (body_of c.in-Block.items.items)).
    h ∙ ap (λ k. c.args.next.now + k) (count_block c.in-Block.items c.args.st.now.span)) (rw c.in-Block.items-is at c.resolve_block.ensures.next))

pub resolve_items-loop-item-preserved : goal.resolve_items-loop-item-preserved
resolve_items-loop-item-preserved t c =
    let own = c.in_ok-resolve_item.ensures in
    record {
      unvisited = grind (arith, common_steps, c.loop-item.invariant.unvisited);
      resolved = items_more c.loop-item.item-items c.loop-item.item-index c.item-item.result c.resolve_item.new.item (here c.loop-item.scope) (here c.resolve_item.new.scope) (outside c.args.scope.now) (outside c.loop-item.scope) c.loop-item.next c.resolve_item.new.next _
          (omega arith) c.loop-item.invariant.outside own.resolved c.loop-item.invariant.resolved;
      outside = own.outside ∙ c.loop-item.invariant.outside;
      next = items_counted c.loop-item.item-items c.loop-item.item-index c.item-item.result c.resolve_item.new.item (here c.loop-item.scope) (here c.resolve_item.new.scope) (outside c.args.scope.now) (outside c.loop-item.scope) c.loop-item.next c.resolve_item.new.next _
          (omega arith) own.next c.loop-item.invariant.next;
    }

pub resolve_items-returns-clause-resolved : goal.resolve_items-returns-clause-resolved
resolve_items-returns-clause-resolved t c =
    changed_all body_of with_item (λ x xs. refl) (resolved_body (here c.loop-item.scope) (outside c.args.scope.now) c.loop-item.next) refl c.loop-item.item-items c.loop-item.item-index _ (omega arith) c.loop-item.invariant.resolved
