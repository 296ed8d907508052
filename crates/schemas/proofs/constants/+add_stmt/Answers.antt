use Rattle.std.proofs.Common.{◌≡◌, List, ap, ◌∙◌, sym, subst}
use Rattle.std.specs.Prelude.{OnOk}
use Rattle.c_tree.specs.declared.stmt.Item.{Item}
use Rattle.c_tree.specs.Views.{body_of}
use Rattle.schemas.specs.Constants.{Constant, constants_in_body}
use Rattle.schemas.specs.Kept.{with_constants}
use Rattle.schemas.proofs.ConstantLemmas.{constants_in-Block}
use Rattle.schemas.proofs.constants.+add_stmt.Goals as goal

pub add_stmt-returns-in-Block : goal.add_stmt-returns-in-Block
add_stmt-returns-in-Block t c =
    subst (λ (ls : List Constant). OnOk c.add_items.result (c.add_items.new.found.items ≡ with_constants c.args.found.now.items ls))
    (ap (λ (items : List Item). constants_in_body (body_of items)) c.deref.ensures.value ∙ sym (constants_in-Block c.args.st.now c.in-Block.items c.in-Block.is))
    c.add_items.ensures
