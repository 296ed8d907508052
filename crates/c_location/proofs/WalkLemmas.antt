-- What is found in the parts of a tree, one after another.
use Rattle.std.proofs.Common.{◌≡◌, ℕ, suc, ◌+◌, ◌<◌, List, ◌∷◌, map, length, drop, get_or, sym, ap, ◌∙◌, add-one, drop-cons, Vec, Global}
use Rattle.std.specs.List.{flat_map}
use Rattle.c_tree.specs.declared.expr.Arg.{Arg}
use Rattle.c_tree.specs.declared.expr.Expr.{Expr}
use Rattle.c_tree.specs.declared.expr.ExprNode.{ExprNode}
use Rattle.c_tree.specs.declared.expr.ExprNode.TheVariants.{Call}
use Rattle.c_tree.specs.declared.stmt.Item.{Item}
use Rattle.c_tree.specs.declared.stmt.Stmt.{Stmt}
use Rattle.c_tree.specs.declared.stmt.StmtNode.{StmtNode}
use Rattle.c_tree.specs.declared.stmt.StmtNode.TheVariants.{Block}
use Rattle.c_tree.specs.Views.{tree, node_tree, args_of, code, node_code, body_of}
use Rattle.c_location.specs.Locations.{Located, in_tree, in_args, in_code, in_body}
use Rattle.c_tree.proofs.ViewsLemmas.{node-Call, node-Block}
use Rattle.c_location.specs.Tally.{Found, with_all}
use Rattle.c_location.proofs.TallyLemmas.{with_all-append}

-- the locations in a call are those in its arguments
pub in_tree-Call : (e : Expr) (word : List ℕ) (args : Vec Arg Global) → e.node ≡ Call word args → in_tree (tree e) ≡ in_args (args_of args.items)
in_tree-Call e word args is =
    ap (λ (n : ExprNode). in_tree (node_tree n e.span)) is ∙ ap in_tree (node-Call word args e.span)

-- the locations in a block are those in its items
pub in_code-Block : (st : Stmt) (items : Vec Item Global) → st.node ≡ Block items → in_code (code st) ≡ in_body (body_of items.items)
in_code-Block st items is =
    ap (λ (n : StmtNode). in_code (node_code n st.span)) is ∙ ap in_code (node-Block items st.span)

-- the locations in one more element of a list are found
pub found_more : {A B : Type 0} (inside : B → List Located) (view : A → B) (xs : List A) (i : ℕ) (x : A) (all f g : Found) → i < length xs → x ≡ get_or xs i x → g ≡ with_all f (inside (view x))
    → all ≡ with_all f (flat_map inside (map view (drop i xs))) → all ≡ with_all g (flat_map inside (map view (drop (i + 1) xs)))
found_more inside view xs i x all f g lt is step so_far =
    let front : drop i xs ≡ x ∷ drop (suc i) xs = drop-cons xs i x lt ∙ ap (λ z. z ∷ drop (suc i) xs) (sym is) in
    let rest : List Located = flat_map inside (map view (drop (suc i) xs)) in
    rw add-one (so_far ∙ ap (λ z. with_all f (flat_map inside (map view z))) front ∙ with_all-append f (inside (view x)) rest ∙ ap (λ z. with_all z rest) (sym step))
