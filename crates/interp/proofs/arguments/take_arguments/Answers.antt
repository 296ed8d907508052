use Rattle.std.proofs.Common.{◌≡◌, sym, ◌∙◌, ◌-◌, [], Some, arith}
use Rattle.interp.specs.Left.{upper}
use Rattle.interp.proofs.Taking.{take_more, none_taken, last_taken}
use Rattle.interp.proofs.arguments.take_arguments.Goals as goal

pub each-init : goal.each-init
each-init c =
    let none : c.args.empty.items ≡ [] = c.requires in
    let vs = upper c.args.values.now.items in
    record {
      within = omega arith;
      taken_from = last_taken c.args.given.now vs ∙ (λ i. Some (record { arguments = sym none i; below = vs }));
    }

pub each-preserved : goal.each-preserved
each-preserved c =
    let step = rw c.in-Some.is at (c.in_ok-argument.ensures c.each.arguments.items) in
    record {
      within = omega arith;
      taken_from =
          take_more c.args.given.now c.each.left (c.each.left - 1) c.index-given-left.result (upper c.args.values.now.items) c.each.arguments.items _ (omega arith) (omega arith) c.index-given-left.is c.each.invariant.taken_from
          ∙ step
          ∙ (λ i. Some (record { arguments = sym c.in_ok-insert.ensures.items i; below = upper c.take_argument.new.values.items }));
    }

pub returns-in_default : goal.returns-in_default
returns-in_default c =
    let step = rw c.in_default.is at (c.in_ok-argument.ensures c.each.arguments.items) in
    none_taken c.args.given.now (c.each.left - 1) (upper c.args.values.now.items)
    (take_more c.args.given.now c.each.left (c.each.left - 1) c.index-given-left.result (upper c.args.values.now.items) c.each.arguments.items _ (omega arith) (omega arith) c.index-given-left.is c.each.invariant.taken_from ∙ step)
