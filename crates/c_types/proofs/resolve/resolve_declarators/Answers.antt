use Rattle.std.proofs.Common.{◌∙◌, ap, arith, refl}
use Rattle.c_tree.specs.Views.{variable}
use Rattle.c_types.specs.Scopes.{here, outside}
use Rattle.c_types.specs.Slots.{slot_in, numbered, resolved_variables}
use Rattle.c_types.proofs.ResolveLemmas.{declarators_more, declared_more, counted_one_more, listed_all}
use Rattle.c_types.proofs.resolve.resolve_declarators.Goals as goal

pub loop-d-preserved : goal.loop-d-preserved
loop-d-preserved c =
    let own = c.in_ok-resolve_declarator.ensures in
    let slot_is = c.slot_in-slot.ensures ∙ ap (slot_in c.args.storage) c.in_ok-take_number.ensures.number in
    record {
      resolved = declarators_more c.args.storage c.args.ty c.loop-d.d-items c.loop-d.d-index c.d-item.result c.resolve_declarator.new.d (here c.loop-d.scope) (here c.resolve_declarator.new.scope) (outside c.args.scope.now) (outside c.loop-d.scope) c.loop-d.next c.take_number.new.next c.slot_in-slot.result _
          (omega arith) c.loop-d.invariant.outside slot_is c.in_ok-take_number.ensures.next own.here own.resolved c.loop-d.invariant.resolved;
      here = declared_more c.args.storage c.args.ty c.loop-d.d-items c.loop-d.d-index c.d-item.result c.resolve_declarator.new.d (here c.loop-d.scope) (here c.resolve_declarator.new.scope) (outside c.args.scope.now) (outside c.loop-d.scope) c.loop-d.next c.take_number.new.next c.slot_in-slot.result _
          (omega arith) slot_is c.in_ok-take_number.ensures.next own.here c.loop-d.invariant.here;
      outside = own.outside ∙ c.loop-d.invariant.outside;
      next = counted_one_more variable c.loop-d.d-items c.loop-d.d-index c.loop-d.next c.take_number.new.next _ c.d-item.result c.resolve_declarator.new.d (omega arith) c.in_ok-take_number.ensures.next c.loop-d.invariant.next;
    }

pub returns-clause-resolved : goal.returns-clause-resolved
returns-clause-resolved c =
    listed_all variable (λ vs. resolved_variables (here c.loop-d.scope) (outside c.args.scope.now) c.args.ty (numbered (slot_in c.args.storage) c.loop-d.next vs)) refl c.loop-d.d-items c.loop-d.d-index _ (omega arith) c.loop-d.invariant.resolved
