use Rattle.std.proofs.Common.{ap, ◌∙◌, refl, arith}
use Rattle.std.proofs.lemmas.Grind.{common_steps}
use Rattle.std.proofs.lemmas.List.{with_items_is}
use Rattle.c_tree.specs.Views.{body_of, with_item}
use Rattle.c_location.specs.Changes.{rewrite_of}
use Rattle.c_location.specs.Rewrites.{to_body}
use Rattle.c_location.proofs.ChangeLemmas.{changed_more, changed_all, changed_block}
use Rattle.c_location.proofs.rewrite.+change_stmt.Goals as goal

pub change_items-loop-item-preserved : goal.change_items-loop-item-preserved
change_items-loop-item-preserved t c = (
  grind (arith, common_steps, c.loop-item.invariant.0),
  changed_more body_of with_item (to_body c.args.l.now (rewrite_of c.args.change.now)) (λ x xs. refl) c.loop-item.item-items c.loop-item.item-index c.item-item.result c.change_item.new.item _ (omega arith) c.in_ok-change_item.ensures c.loop-item.invariant.1,
)

pub change_items-returns : goal.change_items-returns
change_items-returns t c =
    changed_all body_of with_item (to_body c.args.l.now (rewrite_of c.args.change.now)) (λ x xs. refl) refl c.loop-item.item-items c.loop-item.item-index _ (omega arith) c.loop-item.invariant.1

pub changed_kind-returns-in_ok-change_items-in-Block : goal.changed_kind-returns-in_ok-change_items-in-Block
changed_kind-returns-in_ok-change_items-in-Block t c =
    changed_block c.args.l.now (rewrite_of c.args.change.now) c.args.node c.in-Block.items _ c.in-Block.is (
    ap body_of (with_items_is c.in-Block.items c.change_items.new.items (omega arith)) ∙ c.in_ok-change_items-in-Block.ensures
    ∙ ap (λ items. to_body c.args.l.now (rewrite_of c.args.change.now) (body_of items)) c.deref_mut.ensures.value
    ) c.args.span
