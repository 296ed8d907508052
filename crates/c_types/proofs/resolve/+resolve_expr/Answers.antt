use Rattle.std.proofs.Common.{◌≡◌, ap, ◌∙◌, refl, arith}
use Rattle.std.proofs.lemmas.Grind.{common_steps}
use borrow.Enum.Total.{values_o_at}
use Rattle.c_tree.specs.contracts.expr.ExprNode.{enum}
use Rattle.c_tree.specs.Views.{args_of, with_arg}
use Rattle.c_types.specs.Scopes.{in_scope}
use Rattle.c_types.specs.Slots.{resolved_args}
use Rattle.c_types.proofs.ResolveLemmas.{changed_more, changed_all, resolved_call}
use Rattle.c_types.proofs.resolve.+resolve_expr.Goals as goal

-- the call is read back, with its arguments resolved
pub resolve_expr-returns-in-Call : goal.resolve_expr-returns-in-Call
resolve_expr-returns-in-Call t c =
    let own : args_of c.resolve_call.new.args.items ≡ resolved_args (in_scope c.args.scope.now) (args_of c.in-Call.args.items) =
    c.resolve_call.ensures ∙ ap (λ args. resolved_args (in_scope c.args.scope.now) (args_of args.items)) c.in-Call.args-is in
    rw (c.in-Call.is, values_o_at enum 3 (c.in-Call.word, (c.in-Call.args, tt)))
    (resolved_call (in_scope c.args.scope.now) c.in-Call.word c.in-Call.args c.resolve_call.new.args own c.args.e.now.span)

pub resolve_args-loop-arg-preserved : goal.resolve_args-loop-arg-preserved
resolve_args-loop-arg-preserved t c = (
  grind (arith, common_steps, c.loop-arg.invariant.0),
  changed_more args_of with_arg (λ x xs. refl) (resolved_args (in_scope c.args.scope.now)) (resolved_args (in_scope c.args.scope.now)) c.loop-arg.arg-items c.loop-arg.arg-index c.arg-item.result c.resolve_arg.new.arg _ (omega arith) c.resolve_arg.ensures c.loop-arg.invariant.1,
)

pub resolve_args-returns : goal.resolve_args-returns
resolve_args-returns t c =
    changed_all args_of with_arg (λ x xs. refl) (resolved_args (in_scope c.args.scope.now)) refl c.loop-arg.arg-items c.loop-arg.arg-index _ (omega arith) c.loop-arg.invariant.1
