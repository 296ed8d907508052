use Rattle.std.proofs.Common.{◌≡◌, List, ap, ◌∙◌, sym, subst}
use Rattle.std.specs.Prelude.{OnOk}
use Rattle.c_tree.specs.declared.stmt.Item.{Item}
use Rattle.c_tree.specs.Views.{body_of}
use Rattle.c_location.specs.Locations.{Located, in_body}
use Rattle.c_location.specs.Tally.{with_all}
use Rattle.c_location.proofs.WalkLemmas.{in_code-Block}
use Rattle.c_location.proofs.walk.+add_stmt.Goals as goal

pub add_stmt-returns-in-Block : goal.add_stmt-returns-in-Block
add_stmt-returns-in-Block t c =
    subst (λ (ls : List Located). OnOk c.add_items.result (c.add_items.new.found ≡ with_all c.args.found.now ls))
    (ap (λ (items : List Item). in_body (body_of items)) c.deref.ensures.value ∙ sym (in_code-Block c.args.st.now c.in-Block.items c.in-Block.is))
    c.add_items.ensures
