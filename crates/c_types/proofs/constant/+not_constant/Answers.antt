use Rattle.std.proofs.Common.{◌≡◌, List, [], refl, arith, drop}
use Rattle.std.proofs.lemmas.Grind.{common_steps}
use Rattle.c_tree.specs.declared.expr.Arg.{Arg}
use Rattle.c_tree.specs.Views.{args_of}
use Rattle.c_types.specs.Constants.{not_constant_args}
use Rattle.c_types.specs.Least.{least}
use Rattle.c_types.proofs.ConstantLemmas.{not_constant_call}
use Rattle.c_types.proofs.LeastLemmas.{none_before, one_more, all_done}
use Rattle.c_types.proofs.constant.+not_constant.Goals as goal

pub not_constant-returns-in-Call : goal.not_constant-returns-in-Call
not_constant-returns-in-Call t c =
    let h = not_constant_call c.args.e.now _ c.in-Call.args c.in-Call.is in
    cc (h, c.and-in-Call.ensures, c.of-own.ensures, c.not_constant_args.ensures, c.deref-in-Call.ensures.value)

pub not_constant_args-loop-arg-init : goal.not_constant_args-loop-arg-init
not_constant_args-loop-arg-init t c = none_before _ _ c.none-faults.ensures

pub not_constant_args-loop-arg-preserved : goal.not_constant_args-loop-arg-preserved
not_constant_args-loop-arg-preserved t c =
    one_more (λ (xs : List Arg). least (not_constant_args (args_of xs))) c.args.args.now c.loop-arg.arg-index c.arg-item.result _ c.loop-arg.faults.fault c.not_constant_arg.result.fault c.and-faults.result.fault (omega arith) c.arg-item.is (c.not_constant_arg.ensures _) c.and-faults.ensures c.loop-arg.invariant

pub not_constant_args-returns : goal.not_constant_args-returns
not_constant_args-returns t c =
    let none : drop c.loop-arg.arg-index c.args.args.now ≡ [] = grind (arith, common_steps) in
    all_done (λ (xs : List Arg). least (not_constant_args (args_of xs))) c.args.args.now c.loop-arg.arg-index _ c.loop-arg.faults.fault none refl c.loop-arg.invariant
