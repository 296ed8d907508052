-- Constants that are met one after another.
use Rattle.std.proofs.Common.{◌≡◌, ℕ, zero, suc, ◌+◌, ◌<◌, ◌≤◌, Bool, true, false, nat_lt, List, [], ◌∷◌, ◌++◌, map, length, take, drop, get_or, refl, sym, ap, ◌∙◌, add-one, append_assoc, append-nil, drop-cons, arith, length-append, Vec, Global}
use Rattle.std.proofs.lemmas.Bool.Decides.{nat_tests}
use Rattle.std.proofs.Math.Seq.{take-nil}
use Rattle.std.specs.Prelude.{if◌then◌else◌}
use Rattle.std.specs.List.{flat_map}
use Rattle.c_tree.specs.declared.expr.Expr.{Expr}
use Rattle.c_tree.specs.declared.expr.Arg.{Arg}
use Rattle.c_tree.specs.declared.expr.ExprNode.{ExprNode}
use Rattle.c_tree.specs.declared.expr.ExprNode.TheVariants.{Call}
use Rattle.c_tree.specs.declared.stmt.Item.{Item}
use Rattle.c_tree.specs.declared.stmt.Stmt.{Stmt}
use Rattle.c_tree.specs.declared.stmt.StmtNode.{StmtNode}
use Rattle.c_tree.specs.declared.stmt.StmtNode.TheVariants.{Block}
use Rattle.c_tree.specs.Views.{tree, node_tree, args_of, code, node_code, body_of}
use Rattle.c_tree.proofs.ViewsLemmas.{node-Call, node-Block}
use Rattle.schemas.specs.declared.atom.Atom.{Atom}
use Rattle.schemas.specs.Atoms.{zero as zero_atom, one as one_atom, is_known, constant_atom, further}
use Rattle.schemas.specs.Kept.{with_constant, with_constants}
use Rattle.schemas.specs.Constants.{Constant, constants_in, constants_in_args, constants_in_code, constants_in_body}

-- two lists of constants are met one after the other
pub with_constants-append : (kept : List Atom) (xs ys : List Constant) → with_constants kept (xs ++ ys) ≡ with_constants (with_constants kept xs) ys
with_constants-append kept [] ys = refl
with_constants-append kept (x ∷ xs) ys = with_constants-append (with_constant kept x) xs ys

pub ruleset constant_steps = (with_constants-append)

-- the constants in a call are those in its arguments
pub constants_in-Call : (e : Expr) (word : List ℕ) (args : Vec Arg Global) → e.node ≡ Call word args → constants_in (tree e) ≡ constants_in_args (args_of args.items)
constants_in-Call e word args is =
    ap (λ (n : ExprNode). constants_in (node_tree n e.span)) is ∙ ap constants_in (node-Call word args e.span)

-- the constants in a block are those in its items
pub constants_in-Block : (st : Stmt) (items : Vec Item Global) → st.node ≡ Block items → constants_in_code (code st) ≡ constants_in_body (body_of items.items)
constants_in-Block st items is =
    ap (λ (n : StmtNode). constants_in_code (node_code n st.span)) is ∙ ap constants_in_code (node-Block items st.span)

-- the constants in one more element of a list are met
pub met_more : {A B : Type 0} (inside : B → List Constant) (view : A → B) (xs : List A) (i : ℕ) (x : A) (all f g : List Atom) → i < length xs → x ≡ get_or xs i x → g ≡ with_constants f (inside (view x))
    → all ≡ with_constants f (flat_map inside (map view (drop i xs))) → all ≡ with_constants g (flat_map inside (map view (drop (i + 1) xs)))
met_more inside view xs i x all f g lt is step so_far =
    let front : drop i xs ≡ x ∷ drop (suc i) xs = drop-cons xs i x lt ∙ ap (λ z. z ∷ drop (suc i) xs) (sym is) in
    let rest : List Constant = flat_map inside (map view (drop (suc i) xs)) in
    rw add-one (so_far ∙ ap (λ z. with_constants f (flat_map inside (map view z))) front ∙ with_constants-append f (inside (view x)) rest ∙ ap (λ z. with_constants z rest) (sym step))

below : (m n : ℕ) → nat_lt m n ≡ true → m < n
below m n h = grind (arith, nat_tests)

not_below : (m n : ℕ) → nat_lt m n ≡ false → n ≤ m
not_below m n h = grind (arith, nat_tests)

-- what is kept of one more constant and those after it
module _ (kept : List Atom) (x : Atom) (cs : List Constant) where
  abbrev after : List Atom
  after = kept ++ x ∷ []

  one_further : (known fits : Bool) (room : ℕ) → nat_lt (length kept) 6 ≡ fits → length kept + room ≡ 6
      → ((q : ℕ) → length kept + q ≡ 6 → with_constants kept cs ≡ kept ++ take q (further kept cs))
      → ((q : ℕ) → length after + q ≡ 6 → with_constants after cs ≡ after ++ take q (further after cs))
      → with_constants (if known then kept else (if fits then after else kept)) cs
      ≡ kept ++ take room (if known then further kept cs else (x ∷ further after cs))
  one_further true fits room f g same more = same room g
  one_further false true zero f g same more = let lt : length kept < 6 = below (length kept) 6 f in absurd (omega arith)
  one_further false true (suc room) f g same more =
      let count : length after + room ≡ 6 = omega (arith, length-append kept (x ∷ [])) in
      more room count ∙ append_assoc kept (x ∷ []) (take room (further after cs))
  one_further false false zero f g same more = same zero g
  one_further false false (suc room) f g same more = let le : 6 ≤ length kept = not_below (length kept) 6 f in absurd (omega arith)

-- what is kept after those that are there, where there is room for so many
kept_further : (room : ℕ) (kept : List Atom) (cs : List Constant) → length kept + room ≡ 6 → with_constants kept cs ≡ kept ++ take room (further kept cs)
kept_further room kept [] h = sym (ap (λ z. kept ++ z) (take-nil room) ∙ append-nil kept)
kept_further room kept (c ∷ cs) h =
    one_further kept (constant_atom c) cs (is_known kept c) (nat_lt (length kept) 6) room refl h
    (λ q g. kept_further q kept cs g) (λ q g. kept_further q (kept ++ constant_atom c ∷ []) cs g)

-- what is kept after 0 and 1
pub numbers_kept : (cs : List Constant) → with_constants (zero_atom ∷ one_atom ∷ []) cs ≡ zero_atom ∷ one_atom ∷ take 4 (further (zero_atom ∷ one_atom ∷ []) cs)
numbers_kept cs = kept_further 4 (zero_atom ∷ one_atom ∷ []) cs refl
