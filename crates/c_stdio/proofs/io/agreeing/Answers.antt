-- Where what is expected ends.
use Rattle.std.proofs.Common.{drop, sym, arith, ltb-false}
use Rattle.std.proofs.lemmas.List.{drop_all}
use Rattle.c_stdio.proofs.Writing.{agreeing_nothing}
use Rattle.c_stdio.proofs.io.agreeing.Goals as goal

pub returns-in_default : goal.returns-in_default
returns-in_default c =
    let none = agreeing_nothing (drop c.loop-count.count c.args.text.now) _ (drop_all c.loop-count.count c.args.expected.now (ltb-false _ _ (sym c.in_default.ensures.lookup.0))) in
    let all = c.loop-count.invariant in
    omega arith
