use Rattle.std.proofs.Common.{◌∙◌, ap, List, Bool, length, drop}
use Rattle.std.proofs.lemmas.List.{take_rest}
use Rattle.std.specs.Prelude.{◌&&◌}
use Rattle.c_tree.specs.declared.expr.Arg.{Arg}
use Rattle.c_tree.specs.Views.{args_of}
use Rattle.c_types.specs.declared.fault.FaultKind.TheVariants.{WrongCount}
use Rattle.c_types.specs.Arguments.{no_format, miscounts}
use Rattle.c_types.specs.Least.{fault_if, least}
use Rattle.c_types.proofs.ArgumentLemmas.{count_args}
use Rattle.c_types.proofs.arguments.rest_faults.Goals as goal

pub returns : goal.returns
returns c =
    let rest = take_rest c.args.args.now 1 in
    rw (count_args (drop 1 c.args.args.now)) (c.of_if.ensures
    ∙ ap (λ (plain : Bool). least (fault_if (plain && c.miscounts-wrong.result) WrongCount c.args.span)) (c.no_format-plain.ensures ∙ ap (λ (xs : List Arg). no_format (args_of xs)) rest)
    ∙ ap (λ (wrong : Bool). least (fault_if (no_format (args_of (drop 1 c.args.args.now)) && wrong) WrongCount c.args.span)) (c.miscounts-wrong.ensures ∙ ap (λ (xs : List Arg). miscounts c.args.found (length xs)) rest))
