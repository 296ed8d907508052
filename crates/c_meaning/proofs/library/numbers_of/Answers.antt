use Rattle.std.proofs.Common.{rules, ◌≡◌, ◌+◌, [], ◌∷◌, ◌++◌, drop, sym, ap, ◌∙◌, to_z, of_z, w64}
use Rattle.c_meaning.proofs.Numbers.{with_numbers, numbers_more, numbers_not, numbers_all}
use Rattle.c_meaning.proofs.library.numbers_of.Goals as goal

pub loop-argument-preserved : goal.loop-argument-preserved
loop-argument-preserved c =
    let gs = c.args.arguments.now in
    let vs = c.loop-argument.numbers.items in
    let i = c.loop-argument.argument-index in
    let value : to_z w64 (of_z w64 c.in-Number.value) ≡ c.in-Number.value = search rules in
    let more : c.push.new.self.items ≡ vs ++ c.in-Number.value ∷ [] = c.in_ok-push.ensures.items ∙ ap (λ v. vs ++ v ∷ []) value in
    c.loop-argument.invariant
    ∙ (numbers_more vs gs i c.in-Number.value c.argument-item.result c.loop-argument-test.true c.argument-item.is c.in-Number.is
    ∙ ap (λ xs. with_numbers xs (drop (i + 1) gs)) (sym more))

pub returns-in_default : goal.returns-in_default
returns-in_default c =
    sym (c.loop-argument.invariant
    ∙ numbers_not c.loop-argument.numbers.items c.args.arguments.now c.loop-argument.argument-index c.argument-item.result c.loop-argument-test.true c.argument-item.is c.in_default.not-Number)

pub returns : goal.returns
returns c =
    sym (c.loop-argument.invariant
    ∙ numbers_all c.loop-argument.numbers.items c.args.arguments.now c.loop-argument.argument-index c.loop-argument-test.false)
