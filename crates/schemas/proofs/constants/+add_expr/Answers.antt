use Rattle.std.proofs.Common.{◌≡◌, List, ap, ◌∙◌, sym, subst}
use Rattle.std.specs.Prelude.{OnOk}
use Rattle.c_tree.specs.declared.expr.Arg.{Arg}
use Rattle.c_tree.specs.Views.{args_of}
use Rattle.schemas.specs.Constants.{Constant, constants_in_args}
use Rattle.schemas.specs.Kept.{with_constants}
use Rattle.schemas.proofs.ConstantLemmas.{constants_in-Call}
use Rattle.schemas.proofs.constants.+add_expr.Goals as goal

pub add_expr-returns-in-Call : goal.add_expr-returns-in-Call
add_expr-returns-in-Call t c =
    subst (λ (ls : List Constant). OnOk c.add_args.result (c.add_args.new.found.items ≡ with_constants c.args.found.now.items ls))
    (ap (λ (args : List Arg). constants_in_args (args_of args)) c.deref-in-Call.ensures.value ∙ sym (constants_in-Call c.args.e.now c.in-Call.word c.in-Call.args c.in-Call.is))
    c.add_args.ensures
