use Rattle.std.proofs.Common.{◌≡◌, List, ap, ◌∙◌, sym, subst}
use Rattle.std.specs.Prelude.{OnOk}
use Rattle.c_tree.specs.declared.expr.Arg.{Arg}
use Rattle.c_tree.specs.Views.{args_of}
use Rattle.c_location.specs.Locations.{Located, in_args}
use Rattle.c_location.specs.Tally.{with_all}
use Rattle.c_location.proofs.WalkLemmas.{in_tree-Call}
use Rattle.c_location.proofs.walk.+add_expr.Goals as goal

pub add_expr-returns-in-Call : goal.add_expr-returns-in-Call
add_expr-returns-in-Call t c =
    subst (λ (ls : List Located). OnOk c.add_args.result (c.add_args.new.found ≡ with_all c.args.found.now ls))
    (ap (λ (args : List Arg). in_args (args_of args)) c.deref-in-Call.ensures.value ∙ sym (in_tree-Call c.args.e.now c.in-Call.word c.in-Call.args c.in-Call.is))
    c.add_args.ensures
