-- Trees whose parts are changed one after another.
use Rattle.std.proofs.Common.{◌≡◌, ℕ, ◌+◌, ◌<◌, ◌≤◌, List, [], ◌∷◌, ◌++◌, map, length, take, drop, get_or, slice_set, refl, sym, ap, ◌∙◌, add-one, drop-cons, drop-set-lt, arith, Vec, Global}
use Rattle.std.proofs.lemmas.Grind.{common_steps}
use Rattle.std.proofs.lemmas.List.{take_all, take_more_set}
use Rattle.c_tree.specs.declared.place.Loc.{Loc}
use Rattle.c_tree.specs.declared.place.Span.{Span}
use Rattle.c_tree.specs.declared.expr.Arg.{Arg}
use Rattle.c_tree.specs.declared.expr.ExprNode.{ExprNode}
use Rattle.c_tree.specs.declared.expr.ExprNode.TheVariants.{Call}
use Rattle.c_tree.specs.declared.stmt.Item.{Item}
use Rattle.c_tree.specs.declared.stmt.StmtNode.{StmtNode}
use Rattle.c_tree.specs.declared.stmt.StmtNode.TheVariants.{Block}
use Rattle.c_tree.specs.Tree.{Tree, call, block, if_then, next, done}
use Rattle.c_tree.specs.Views.{node_tree, args_of, node_code, body_of}
use Rattle.c_tree.proofs.ViewsLemmas.{node-Call, node-Block}
use Rattle.c_location.specs.Changes.{guarded}
use Rattle.c_location.specs.Rewrites.{Rewrite, to_tree, to_args, to_code, to_body}
use Rattle.c_location.proofs.SpanLemmas.{span_of-kind}

-- a call whose arguments are changed is changed
pub changed_call : (l : Loc) (r : Rewrite) (node : ExprNode) (word : List ℕ) (args new_args : Vec Arg Global) → node ≡ Call word args
    → args_of new_args.items ≡ to_args l r (args_of args.items) → (s : Span) → node_tree (Call word new_args) s ≡ to_tree l r (node_tree node s)
changed_call l r node word args new_args is h s =
    node-Call word new_args s ∙ ap (λ x. call word x s) h
    ∙ sym (ap (to_tree l r) (node-Call word args s)) ∙ sym (ap (λ (n : ExprNode). to_tree l r (node_tree n s)) is)

-- a block whose items are changed is changed
pub changed_block : (l : Loc) (r : Rewrite) (node : StmtNode) (items new_items : Vec Item Global) → node ≡ Block items
    → body_of new_items.items ≡ to_body l r (body_of items.items) → (s : Span) → node_code (Block new_items) s ≡ to_code l r (node_code node s)
changed_block l r node items new_items is h s =
    node-Block new_items s ∙ ap (λ b. block b s) h
    ∙ sym (ap (to_code l r) (node-Block items s)) ∙ sym (ap (λ (n : StmtNode). to_code l r (node_code n s)) is)

-- a block of an `if` round a statement
pub guarded_block : (test : Tree) (node : StmtNode) (s : Span) (items : Vec Item Global) → body_of items.items ≡ next (if_then test (node_code node s) s) done
    → node_code (Block items) s ≡ (guarded test).code (node_code node s)
guarded_block test node s items h =
    node-Block items s ∙ ap (λ b. block b s) h
    ∙ ap (λ (z : Span). block (next (if_then test (node_code node s) z) done) z) (sym (span_of-kind node s))

-- elements before others
abbrev pub before : {A B : Type 0} → (A → B → B) → List A → B → B
before onto [] rest = rest
before onto (x ∷ xs) rest = onto x (before onto xs rest)

before-append : {A B : Type 0} (onto : A → B → B) (xs ys : List A) (rest : B) → before onto (xs ++ ys) rest ≡ before onto xs (before onto ys rest)
before-append onto [] ys rest = refl
before-append onto (x ∷ xs) ys rest = ap (onto x) (before-append onto xs ys rest)

module _ {A B : Type 0} (view : List A → B) (onto : A → B → B) (change : B → B) where
  -- what the elements that are changed so far, and the others once they are changed, stand for
  abbrev pub so_far : List A → ℕ → B
  so_far now i = before onto (take i now) (change (view (drop i now)))

  -- one more element is changed, where the list stands for what its elements build one before the other
  pub changed_more : ((x : A) (xs : List A) → view (x ∷ xs) ≡ onto x (view xs)) → (now : List A) (i : ℕ) (d y : A) (all : B) → i < length now
      → ((rest : B) → onto y (change rest) ≡ change (onto (get_or now i d) rest)) → so_far now i ≡ all → so_far (slice_set now i y) (i + 1) ≡ all
  changed_more cons now i d y all lt step h =
      let x : A = get_or now i d in
      let rest : List A = drop (i + 1) now in
      let front : drop i now ≡ x ∷ rest = rw add-one (drop-cons now i d lt) in
      let after : drop (i + 1) (slice_set now i y) ≡ rest = drop-set-lt (i + 1) now i y (omega arith) in
      let up_to : take (i + 1) (slice_set now i y) ≡ take i now ++ y ∷ [] = take_more_set now i y lt in
      ap (λ z. before onto z (change (view (drop (i + 1) (slice_set now i y))))) up_to
      ∙ ap (λ z. before onto (take i now ++ y ∷ []) (change (view z))) after
      ∙ before-append onto (take i now) (y ∷ []) (change (view rest))
      ∙ ap (before onto (take i now)) (step (view rest) ∙ ap change (sym (cons x rest) ∙ sym (ap view front)))
      ∙ h

  before-view : ((x : A) (xs : List A) → view (x ∷ xs) ≡ onto x (view xs)) → (xs : List A) → before onto xs (view []) ≡ view xs
  before-view cons [] = refl
  before-view cons (x ∷ xs) = ap (onto x) (before-view cons xs) ∙ sym (cons x xs)

  -- all elements are changed
  pub changed_all : ((x : A) (xs : List A) → view (x ∷ xs) ≡ onto x (view xs)) → change (view []) ≡ view [] → (now : List A) (i : ℕ) (all : B) → length now ≤ i → so_far now i ≡ all → view now ≡ all
  changed_all cons none now i all le h =
      let whole : take i now ≡ now = take_all i now le in
      let end : drop i now ≡ [] = grind (arith, common_steps) in
      sym (before-view cons now) ∙ ap (before onto now) (sym none ∙ ap (λ z. change (view z)) (sym end))
      ∙ sym (ap (λ z. before onto z (change (view (drop i now)))) whole) ∙ h

module _ {A B : Type 0} (view : A → B) (change : B → B) where
  -- the elements that are changed so far, and the others once they are changed
  abbrev pub listed_so_far : List A → ℕ → List B
  listed_so_far = so_far (map view) (λ x rest. view x ∷ rest) (map change)

  -- one more element of a list is changed
  pub listed_more : (now : List A) (i : ℕ) (d y : A) (all : List B) → i < length now → view y ≡ change (view (get_or now i d))
      → listed_so_far now i ≡ all → listed_so_far (slice_set now i y) (i + 1) ≡ all
  listed_more now i d y all lt step h =
      changed_more (map view) (λ x rest. view x ∷ rest) (map change) (λ x xs. refl) now i d y all lt (λ rest. ap (λ z. z ∷ map change rest) step) h

  -- all elements of a list are changed
  pub listed_all : (now : List A) (i : ℕ) (all : List B) → length now ≤ i → listed_so_far now i ≡ all → map view now ≡ all
  listed_all now i all le h = changed_all (map view) (λ x rest. view x ∷ rest) (map change) (λ x xs. refl) refl now i all le h
