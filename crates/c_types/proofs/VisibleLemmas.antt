-- What is visible at a place.
use Rattle.std.proofs.Common.{◌≡◌, ℕ, ◌<◌, Bool, true, nat_lt, List, sym, ap, ◌∙◌, arith, Vec, Global}
use Rattle.std.specs.Prelude.{if◌then◌else◌}
use Rattle.std.proofs.lemmas.Bool.Decides.{nat_tests}
use Rattle.c_tree.specs.declared.stmt.Item.{Item}
use Rattle.c_tree.specs.declared.stmt.Stmt.{Stmt}
use Rattle.c_tree.specs.declared.stmt.StmtNode.{StmtNode}
use Rattle.c_tree.specs.declared.stmt.StmtNode.TheVariants.{Block}
use Rattle.c_tree.specs.Views.{code, node_code, body_of}
use Rattle.c_tree.proofs.ViewsLemmas.{node-Block}
use Rattle.c_types.specs.declared.visible.Visible.{Visible}
use Rattle.c_types.specs.Visible.{with_code, with_body}

-- a place before another
below : (p t : ℕ) → p < t → nat_lt p t ≡ true
below p t lt = grind (arith, nat_tests)

-- the declarations in a block that ends after the place
pub block_visible : (place : ℕ) (st : Stmt) (items : Vec Item Global) (xs : List Item) (before : List Visible) → st.node ≡ Block items → xs ≡ items.items → place < st.span.to
    → with_body place (body_of xs) before ≡ with_code place (code st) before
block_visible place st items xs before is xs_is lt =
    ap (λ (ys : List Item). with_body place (body_of ys) before) xs_is
    ∙ sym (ap (λ (b : Bool). if b then with_body place (body_of items.items) before else before) (below place st.span.to lt))
    ∙ sym (ap (λ b. with_code place b before) (node-Block items st.span)) ∙ sym (ap (λ (n : StmtNode). with_code place (node_code n st.span) before) is)
