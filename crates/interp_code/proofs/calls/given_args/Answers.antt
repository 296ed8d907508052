use Rattle.std.proofs.Common.{rules, ◌≡◌, ◌+◌, ◌++◌, ◌∷◌, [], drop, ap, sym, ◌∙◌, arith}
use Rattle.c_tree.specs.Views.{args_of}
use Rattle.interp_code.specs.Compile.{given_as}
use Rattle.interp_code.specs.Holed.{holed_args}
use Rattle.interp_code.proofs.Lists.{given_more}
use Rattle.interp_code.proofs.calls.given_args.Goals as goal

pub loop-at-preserved : goal.loop-at-preserved
loop-at-preserved c =
    let gs = c.loop-at.given.items in
    let ps = c.args.params.now in
    let args = c.args.args.now in
    let n = c.loop-at.at in
    let push : c.push.new.self.items ≡ gs ++ c.in_ok-given_arg.field-0 ∷ [] = search rules in
    given_more c.args.context.now ps c.params_from.result.now args n c.index-args-at.result gs (given_as ps (holed_args c.args.context.now (args_of args))) c.in_ok-given_arg.field-0 (omega arith) c.index-args-at.is c.params_from.ensures c.in_ok-given_arg.ensures c.loop-at.invariant
    ∙ ap (λ z. z ++ given_as (drop (n + 1) ps) (holed_args c.args.context.now (args_of (drop (n + 1) args)))) (sym push)
