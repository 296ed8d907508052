use Rattle.std.proofs.Common.{◌≡◌, List, [], ap, ◌∙◌, arith, drop, option_copied}
use Rattle.std.proofs.lemmas.Grind.{common_steps}
use Rattle.c_tree.specs.declared.expr.Arg.{Arg}
use Rattle.c_tree.specs.Views.{args_of}
use Rattle.c_types.specs.declared.kinds.Kind.{Kind}
use Rattle.c_types.specs.Arguments.{converted, wanted, value_faults}
use Rattle.c_types.specs.Expressions.{args_faults}
use Rattle.c_types.specs.Least.{least, earlier}
use Rattle.c_types.specs.Scopes.{in_scope}
use Rattle.c_types.proofs.ExpressionLemmas.{args_more, call_joined, value_step}
use Rattle.c_types.proofs.LeastLemmas.{none_before, none_after}
use Rattle.c_types.proofs.expr.+faults.Goals as goal

pub args_faults-loop-i-init : goal.args_faults-loop-i-init
args_faults-loop-i-init t c = none_before _ _ c.none-faults.ensures

pub args_faults-loop-i-preserved : goal.args_faults-loop-i-preserved
args_faults-loop-i-preserved t c =
    let want = wanted (option_copied c.args.called) (converted (args_of c.args.args.now)) in
    args_more (in_scope c.args.scope.now) want c.args.args.now c.loop-i.i c.index-args-i.result _ c.loop-i.faults.fault c.and-faults.result.fault c.arg_faults.result.fault (omega arith) c.index-args-i.is (c.arg_faults.ensures want c.loop-i.i _ (c.wanted.ensures ∙ ap (λ n. wanted (option_copied c.args.called) n c.loop-i.i) c.converted-count.ensures)) c.and-faults.ensures c.loop-i.invariant

pub args_faults-returns : goal.args_faults-returns
args_faults-returns t c =
    let none : drop c.loop-i.i c.args.args.now ≡ [] = grind (arith, common_steps) in
    none_after _ c.loop-i.faults.fault (c.loop-i.invariant ∙ ap (λ (xs : List Arg). earlier c.loop-i.faults.fault (least (args_faults (in_scope c.args.scope.now) (wanted (option_copied c.args.called) (converted (args_of c.args.args.now))) c.loop-i.i (args_of xs)))) none)

pub arg_faults-returns-in-Value : goal.arg_faults-returns-in-Value
arg_faults-returns-in-Value t c m i rest is =
    rw c.in-Value.is (value_step (in_scope c.args.scope.now) m i rest c.in-Value.e c.args.want c.value_faults.result.fault c.faults.result.fault c.and.result.fault is (c.value_faults.ensures ∙ ap (λ (k : Kind). least (value_faults c.args.want k c.in-Value.e.span)) c.kind_of.ensures) c.faults.ensures c.and.ensures)

pub faults-returns-in-Call : goal.faults-returns-in-Call
faults-returns-in-Call t c =
    call_joined (in_scope c.args.scope.now) c.args.e.now _ c.in-Call.args c.in-Call.is (option_copied c.denoted-entity.result) c.deref-in-Call.result.now c.deref-in-Call-2.result.now c.call_faults.result.fault c.args_faults.result.fault c.and-in-Call.result.fault
    c.denoted-entity.ensures c.deref-in-Call.ensures.value c.deref-in-Call-2.ensures.value c.call_faults.ensures c.args_faults.ensures c.and-in-Call.ensures
