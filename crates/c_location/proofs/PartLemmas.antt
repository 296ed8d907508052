-- What stands at a location, found part by part.
use Rattle.std.proofs.Common.{◌≡◌, ℕ, suc, ◌+◌, ◌<◌, List, ◌∷◌, ◌++◌, map, length, drop, get_or, Option, Some, None, option_map, refl, sym, ap, ◌∙◌, add-one, drop-cons, Vec, Global}
use Rattle.std.specs.List.{flat_map, find}
use Rattle.std.specs.Option.{option_or}
use Rattle.std.proofs.lemmas.List.Folds.{find-append}
use Rattle.c_tree.specs.declared.place.Loc.{Loc}
use Rattle.c_tree.specs.declared.expr.Arg.{Arg}
use Rattle.c_tree.specs.declared.expr.Expr.{Expr}
use Rattle.c_tree.specs.declared.expr.ExprNode.{ExprNode}
use Rattle.c_tree.specs.declared.expr.ExprNode.TheVariants.{Call}
use Rattle.c_tree.specs.declared.stmt.Item.{Item}
use Rattle.c_tree.specs.declared.stmt.Stmt.{Stmt}
use Rattle.c_tree.specs.declared.stmt.StmtNode.{StmtNode}
use Rattle.c_tree.specs.declared.stmt.StmtNode.TheVariants.{Block}
use Rattle.c_tree.specs.Views.{tree, node_tree, args_of, code, node_code, body_of}
use Rattle.c_tree.proofs.ViewsLemmas.{node-Call, node-Block}
use Rattle.c_location.specs.declared.part.Part.{Part as Lent}
use Rattle.c_location.specs.Locations.{Part, Located, is_at, in_tree, in_args, in_code, in_body}
use Rattle.c_location.specs.Shown.{lent, found_at}
use Rattle.c_location.proofs.SpanLemmas.{span_of_tree, span_of_statement}

-- the part of the first of two
part-or : (a b : Option Located) → option_map (λ (x : Located). x.part) (option_or a b) ≡ option_or (option_map (λ (x : Located). x.part) a) (option_map (λ (x : Located). x.part) b)
part-or None b = refl
part-or (Some x) b = refl

-- what is found among two lists is found among the first, or else among the second
pub found_at-append : (l : Loc) (xs ys : List Located) → found_at l (xs ++ ys) ≡ option_or (found_at l xs) (found_at l ys)
found_at-append l xs ys = ap (option_map (λ (x : Located). x.part)) (find-append (is_at l) xs ys) ∙ part-or (find (is_at l) xs) (find (is_at l) ys)

-- the part that is lent, of the first of two
pub lent-or : (a b : Option Lent) → option_map lent (option_or a b) ≡ option_or (option_map lent a) (option_map lent b)
lent-or None b = refl
lent-or (Some x) b = refl

-- what is lent of two lists is lent of the first, or else of the second
pub either-found : (l : Loc) (xs ys : List Located) (a b r : Option Lent) → r ≡ option_or a b → option_map lent a ≡ found_at l xs → option_map lent b ≡ found_at l ys → option_map lent r ≡ found_at l (xs ++ ys)
either-found l xs ys a b r is p q =
    ap (option_map lent) is ∙ lent-or a b ∙ ap (λ z. option_or z (option_map lent b)) p ∙ ap (option_or (found_at l xs)) q ∙ sym (found_at-append l xs ys)

pub ruleset part_steps = (found_at-append, lent-or, span_of_tree, span_of_statement)

-- what is found in a call is found in its arguments
pub found_at-Call : (l : Loc) (e : Expr) (word : List ℕ) (args : Vec Arg Global) → e.node ≡ Call word args → found_at l (in_tree (tree e)) ≡ found_at l (in_args (args_of args.items))
found_at-Call l e word args is =
    ap (λ (n : ExprNode). found_at l (in_tree (node_tree n e.span))) is ∙ ap (λ t. found_at l (in_tree t)) (node-Call word args e.span)

-- what is found in a block is found in its items
pub found_at-Block : (l : Loc) (st : Stmt) (items : Vec Item Global) → st.node ≡ Block items → found_at l (in_code (code st)) ≡ found_at l (in_body (body_of items.items))
found_at-Block l st items is =
    ap (λ (n : StmtNode). found_at l (in_code (node_code n st.span))) is ∙ ap (λ c. found_at l (in_code c)) (node-Block items st.span)

module _ {A B : Type 0} (inside : B → List Located) (view : A → B) where
  -- what is found in elements from one on is found in it, or else in those after it
  found_at-cons : (l : Loc) (xs : List A) (i : ℕ) (x : A) → i < length xs → x ≡ get_or xs i x
      → found_at l (flat_map inside (map view (drop i xs))) ≡ option_or (found_at l (inside (view x))) (found_at l (flat_map inside (map view (drop (i + 1) xs))))
  found_at-cons l xs i x lt is =
      let front : drop i xs ≡ x ∷ drop (suc i) xs = drop-cons xs i x lt ∙ ap (λ z. z ∷ drop (suc i) xs) (sym is) in
      rw add-one (ap (λ z. found_at l (flat_map inside (map view z))) front ∙ found_at-append l (inside (view x)) (flat_map inside (map view (drop (suc i) xs))))

  -- where an element has nothing there, it is sought in those after it
  pub found_at-more : (l : Loc) (xs : List A) (i : ℕ) (x : A) (all : Option Part) → i < length xs → x ≡ get_or xs i x → None ≡ found_at l (inside (view x))
      → all ≡ found_at l (flat_map inside (map view (drop i xs))) → all ≡ found_at l (flat_map inside (map view (drop (i + 1) xs)))
  found_at-more l xs i x all lt is none so_far =
      so_far ∙ found_at-cons l xs i x lt is ∙ ap (λ z. option_or z (found_at l (flat_map inside (map view (drop (i + 1) xs))))) (sym none)

  -- where an element has something there, it is what is found
  pub found_at-here : (l : Loc) (xs : List A) (i : ℕ) (x : A) (all : Option Part) (part : Part) → i < length xs → x ≡ get_or xs i x → Some part ≡ found_at l (inside (view x))
      → all ≡ found_at l (flat_map inside (map view (drop i xs))) → Some part ≡ all
  found_at-here l xs i x all part lt is some so_far =
      sym (so_far ∙ found_at-cons l xs i x lt is ∙ ap (λ z. option_or z (found_at l (flat_map inside (map view (drop (i + 1) xs))))) (sym some))
