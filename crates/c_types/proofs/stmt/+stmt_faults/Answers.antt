use Rattle.std.proofs.Common.{◌≡◌, List, [], Option, refl, subst, ◌∙◌, arith, drop, IfOk}
use Rattle.std.proofs.lemmas.Grind.{common_steps}
use Rattle.c_tree.specs.declared.stmt.Item.{Item}
use Rattle.c_tree.specs.Views.{body_of}
use Rattle.c_types.specs.declared.fault.Fault.{Fault}
use Rattle.c_types.specs.Least.{least}
use Rattle.c_types.specs.Scopes.{here, outside, in_scope}
use Rattle.c_types.specs.Statements.{body_faults}
use Rattle.c_types.proofs.LeastLemmas.{none_before, all_done}
use Rattle.c_types.proofs.StatementLemmas.{items_more, block_faults}
use Rattle.c_types.proofs.stmt.+stmt_faults.Goals as goal

pub items_faults-loop-item-init : goal.items_faults-loop-item-init
items_faults-loop-item-init t c = record { faults = none_before _ _ c.none-found.ensures; outside = refl }

pub items_faults-loop-item-preserved : goal.items_faults-loop-item-preserved
items_faults-loop-item-preserved t c = record {
  faults = items_more c.args.enclosing.ret c.args.enclosing.in_loop (here c.loop-item.scope) (here c.item_faults.new.scope) (outside c.args.scope.now) (outside c.loop-item.scope) c.args.items.now c.loop-item.item-index c.item-item.result _ c.loop-item.found.fault c.in_ok-item_faults.field-0.fault c.and-found.result.fault
      (omega arith) c.item-item.is c.loop-item.invariant.outside c.in_ok-item_faults.ensures.faults c.and-found.ensures c.loop-item.invariant.faults;
  outside = c.in_ok-item_faults.ensures.outside ∙ c.loop-item.invariant.outside;
}

pub items_faults-returns : goal.items_faults-returns
items_faults-returns t c =
    let none : drop c.loop-item.item-index c.args.items.now ≡ [] = grind (arith, common_steps) in
    all_done (λ (xs : List Item). least (body_faults c.args.enclosing.ret (here c.loop-item.scope) (outside c.args.scope.now) c.args.enclosing.in_loop (body_of xs))) c.args.items.now c.loop-item.item-index _ c.loop-item.found.fault none refl c.loop-item.invariant.faults

pub stmt_faults-returns-in-Block : goal.stmt_faults-returns-in-Block
stmt_faults-returns-in-Block t c =
    subst (λ (f : Option Fault). IfOk c.items_faults.result (λ r. r.fault ≡ f))
    (block_faults c.args.enclosing.ret c.args.enclosing.in_loop (in_scope c.args.scope.now) (here c.inside-inner.result) (outside c.inside-inner.result) c.args.st.now c.in-Block.items c.deref.result.now c.in-Block.is c.inside-inner.ensures.here c.inside-inner.ensures.outside c.deref.ensures.value)
    c.items_faults.ensures
