use Rattle.std.proofs.Common.{rules, ◌≡◌, ◌<◌, ◌∙◌, [], length, drop, arith}
use Rattle.std.proofs.lemmas.List.{drop_all}
use Rattle.c_meaning.proofs.Objects.{none_left}
use Rattle.c_meaning.proofs.bind.bind_params.Goals as goal

pub returns-else-is_empty : goal.returns-else-is_empty
returns-else-is_empty c =
    let some : 0 < length c.loop-argument.left.now = search rules in
    let gone : drop c.loop-argument.argument-index c.args.arguments.now ≡ [] = drop_all c.loop-argument.argument-index c.args.arguments.now (omega arith) in
    c.loop-argument.invariant ∙ none_left c.loop-argument.left.now _ c.loop-argument.state some gone
