use Rattle.std.proofs.Common.{ap, ◌∙◌, refl, arith}
use Rattle.std.proofs.lemmas.Grind.{common_steps}
use Rattle.std.proofs.lemmas.List.{with_items_is}
use Rattle.c_tree.specs.Views.{args_of, with_arg}
use Rattle.c_location.specs.Changes.{rewrite_of}
use Rattle.c_location.specs.Rewrites.{to_args}
use Rattle.c_location.proofs.ChangeLemmas.{changed_more, changed_all, changed_call}
use Rattle.c_location.proofs.rewrite.+change_expr.Goals as goal

pub change_args-loop-arg-preserved : goal.change_args-loop-arg-preserved
change_args-loop-arg-preserved t c = (
  grind (arith, common_steps, c.loop-arg.invariant.0),
  changed_more args_of with_arg (to_args c.args.l.now (rewrite_of c.args.change.now)) (λ x xs. refl) c.loop-arg.arg-items c.loop-arg.arg-index c.arg-item.result c.change_arg.new.arg _ (omega arith) c.in_ok-change_arg.ensures c.loop-arg.invariant.1,
)

pub change_args-returns : goal.change_args-returns
change_args-returns t c =
    changed_all args_of with_arg (to_args c.args.l.now (rewrite_of c.args.change.now)) (λ x xs. refl) refl c.loop-arg.arg-items c.loop-arg.arg-index _ (omega arith) c.loop-arg.invariant.1

pub changed_node-returns-in_ok-change_args-in-Call : goal.changed_node-returns-in_ok-change_args-in-Call
changed_node-returns-in_ok-change_args-in-Call t c =
    changed_call c.args.l.now (rewrite_of c.args.change.now) c.args.node c.in-Call.word c.in-Call.args _ c.in-Call.is (
    ap args_of (with_items_is c.in-Call.args c.change_args.new.args (omega arith)) ∙ c.in_ok-change_args-in-Call.ensures
    ∙ ap (λ args. to_args c.args.l.now (rewrite_of c.args.change.now) (args_of args)) c.deref_mut-in-Call.ensures.value
    )
