use Rattle.std.proofs.Common.{◌≡◌, rules, refl, sym, ap, ◌∙◌, length, [], ◌∷◌, ◌++◌, w64, to_z, of_z, length-append, arith}
use Rattle.std.proofs.lemmas.List.{same_from_push}
use Rattle.interp.proofs.Nexts.{replace_goes}
use Rattle.interp.proofs.engine.Engine.replace.Goals as goal

pub returns-in_ok-push-in-Some : goal.returns-in_ok-push-in-Some
returns-in_ok-push-in-Some c =
    let below = c.requires.asks.1 in
    let popped : c.args.self.now.values.items ≡ c.pop.new.self.items ++ c.in-Some._old ∷ [] = search rules in
    let same = (same_from_push c.pop.new.self.items below c.in-Some._old _ (sym popped ∙ c.requires.asks.2)).0 in
    let value : to_z w64 (of_z w64 c.args.value) ≡ c.args.value = search rules in
    replace_goes c.args.code.now _ _ below _ c.args.value c.args.next c.requires.asks.0 c.requires.asks.2 (c.in_ok-push-in-Some.ensures.items ∙ ap (λ z. z ++ to_z w64 (of_z w64 c.args.value) ∷ []) same ∙ ap (λ z. below ++ z ∷ []) value) refl refl (record { at = refl; room = refl; callers = refl }) c.requires.lower

pub returns-in-None : goal.returns-in-None
returns-in-None c =
    let none : c.args.self.now.values.items ≡ [] = search rules in
    let l = simp length-append at (ap length (sym none ∙ c.requires.asks.2)) in
    absurd (omega (arith, l))
