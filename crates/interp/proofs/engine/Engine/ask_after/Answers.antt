use Rattle.std.proofs.Common.{rules, refl, sym, ap, ◌∙◌, ◌-◌, take, [], ◌∷◌, ◌++◌, w64, FitsSigned, arith}
use Rattle.std.proofs.lemmas.List.{nil_from_length}
use Rattle.std.proofs.lemmas.Int.{to_z-of_z}
use Rattle.interp.proofs.Nexts.{ask_after_none}
use Rattle.interp.proofs.Moving.{with_last}
use Rattle.interp.proofs.engine.Engine.ask_after.Goals as goal

pub returns-then-depth-eq0 : goal.returns-then-depth-eq0
returns-then-depth-eq0 c = ask_after_none c.args.code.now _ _ c.args.next c.requires.plan (nil_from_length c.args.self.now.values.items (omega arith)) refl

pub returns : goal.returns
returns c =
    let v = c.index.result.now in
    let items = c.args.self.now.values.items in
    let fits : FitsSigned w64 v = search rules in
    let last = with_last items c.len-depth.result v (search rules) (omega arith) c.index.ensures in
    record {
      asks = (c.requires.plan, take (c.len-depth.result - 1) items, last ∙ ap (λ z. take (c.len-depth.result - 1) items ++ z ∷ []) (sym (to_z-of_z w64 v fits)));
      lower = c.requires.lower;
      stays = refl;
    }
