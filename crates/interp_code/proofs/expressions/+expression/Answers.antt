use Rattle.std.proofs.Common.{rules, ap, ◌-◌, arith}
use Rattle.c_meaning.proofs.Sizes.{weight, arg_weight}
use Rattle.c_meaning.proofs.Trees.{call_is}
use Rattle.interp_code.specs.Flat.{plan_at}
use Rattle.interp_code.proofs.Lists.{arg_more}
use Rattle.interp_code.proofs.expressions.+expression.Goals as goal

pub flat_args-flat_arg-requires : goal.flat_args-flat_arg-requires
flat_args-flat_arg-requires t c =
    let small = arg_weight c.args.args.now (c.each.left - 1) c.index-args-left.result (omega arith) c.index-args-left.is in
    (omega (arith, small, c.decreases), c.each.invariant.grown.within)

pub flat_value-flat_call-requires : goal.flat_value-flat_call-requires
flat_value-flat_call-requires t c =
    let whole = ap weight (call_is c.args.e.now c.in-Call.word c.in-Call.args c.deref-in-Call.result.now c.in-Call.is c.deref-in-Call.ensures.value) in
    (omega (arith, whole, c.decreases), c.requires)

pub flat_value-returns-in-Call : goal.flat_value-returns-in-Call
flat_value-returns-in-Call t c = rw (call_is c.args.e.now c.in-Call.word c.in-Call.args c.deref-in-Call.result.now c.in-Call.is c.deref-in-Call.ensures.value) (search rules)

pub flat_drop-flat_call-requires : goal.flat_drop-flat_call-requires
flat_drop-flat_call-requires t c =
    let whole = ap weight (call_is c.args.e.now c.in-Call.word c.in-Call.args c.deref.result.now c.in-Call.is c.deref.ensures.value) in
    (omega (arith, whole, c.decreases), c.requires)

pub flat_drop-returns-in-Call : goal.flat_drop-returns-in-Call
flat_drop-returns-in-Call t c = rw (call_is c.args.e.now c.in-Call.word c.in-Call.args c.deref.result.now c.in-Call.is c.deref.ensures.value) (search rules)

pub flat_args-each-preserved : goal.flat_args-each-preserved
flat_args-each-preserved t c = record {
  left = omega arith;
  grown = arg_more c.args.context.now c.args.nodes.now c.each.nodes c.flat_arg.new.nodes c.args.params.now c.params_from.result.now c.args.args.now c.each.left c.each.at c.in_ok-at.at c.index-args-left.result (plan_at c.args.nodes.now c.args.next) (omega arith) c.each.invariant.left c.index-args-left.is c.params_from.ensures c.each.invariant.grown c.in_ok-at.ensures;
}
