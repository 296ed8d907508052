use Rattle.std.proofs.Common.{List, ap, ◌∙◌, sym}
use Rattle.c_tree.specs.declared.expr.Arg.{Arg}
use Rattle.c_tree.specs.Views.{args_of}
use Rattle.c_location.specs.Locations.{in_args}
use Rattle.c_location.specs.Shown.{found_at}
use Rattle.c_location.proofs.PartLemmas.{found_at-Call}
use Rattle.c_location.proofs.part.+in_expr.Goals as goal

pub in_expr-returns-in-Call : goal.in_expr-returns-in-Call
in_expr-returns-in-Call t c =
    c.in_list.ensures ∙ ap (λ (args : List Arg). found_at c.args.l.now (in_args (args_of args))) c.deref-in-Call.ensures.value ∙ sym (found_at-Call c.args.l.now c.args.e.now c.in-Call.word c.in-Call.args c.in-Call.is)
