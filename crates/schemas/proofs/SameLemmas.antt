-- That the test of sameness decides whether expressions are the same but for spans, slots and the spelling of constants.
use Rattle.std.proofs.Common.{◌≡◌, ℕ, ℤ, Bool, true, false, ◌&&◌, List, [], ◌∷◌, Option, Some, None, refl, sym, ap, ◌∙◌}
use Rattle.std.specs.Prelude.{slice_get}
use Rattle.std.specs.Bool.{Decides}
use Rattle.std.specs.Cmp.Lexicographic.{bytes_decides}
use Rattle.std.proofs.lemmas.Bool.Decides.{Decides-and, Decides-eqb, Decides-int_eq}
use Rattle.c_tree.specs.declared.expr.BinOp.{BinOp}
use Rattle.c_tree.specs.declared.expr.BinOp.TheVariants.{Mul, Div, Rem, Add, Sub, Shl, Shr, Lt, Le, Gt, Ge, Eq, Ne, BitAnd, BitXor, BitOr, Both, Either}
use Rattle.c_tree.specs.declared.expr.UnOp.{UnOp}
use Rattle.c_tree.specs.declared.expr.UnOp.TheVariants.{Plus, Minus, Flip, Compl}
use Rattle.c_tree.specs.declared.place.Span.{Span}
use Rattle.c_tree.specs.declared.stmt.Slot.{Slot}
use Rattle.c_tree.specs.declared.stmt.Slot.TheVariants.{Unset}
use Rattle.c_tree.specs.declared.stmt.Ty.{Ty}
use Rattle.c_tree.specs.declared.stmt.Ty.TheVariants.{Int, Char}
use Rattle.c_tree.specs.Tree.{Tree, constant, name, index, call, unary, cast, binary, choice, assign, bump, comma, hole, hole_after, Args, no_args, value, format, address, bare, bare_args, no_span}
use Rattle.schemas.specs.Same.{number_of, same_operator, same_assigned, same_sign, same_type, same_answer, same, same_args}

-- two tests together decide what is the case exactly where both things are
both-Decides : {P Q R : Type 0} (x y : Bool) → Decides x P → Decides y Q → (P → Q → R) → (R → P) → (R → Q) → Decides (x && y) R
both-Decides x y p q join left right =
    let h = Decides-and x y p q in
    (λ e. let b = h.0 e in join b.0 b.1, λ r. h.1 (left r, right r))

-- the operators by their numbers
operators : List BinOp
operators = Mul ∷ Div ∷ Rem ∷ Add ∷ Sub ∷ Shl ∷ Shr ∷ Lt ∷ Le ∷ Gt ∷ Ge ∷ Eq ∷ Ne ∷ BitAnd ∷ BitXor ∷ BitOr ∷ Both ∷ Either ∷ []

numbered : (f : BinOp) → slice_get operators (number_of f) ≡ Some f
unfolding operators
numbered Mul = refl
numbered Div = refl
numbered Rem = refl
numbered Add = refl
numbered Sub = refl
numbered Shl = refl
numbered Shr = refl
numbered Lt = refl
numbered Le = refl
numbered Gt = refl
numbered Ge = refl
numbered Eq = refl
numbered Ne = refl
numbered BitAnd = refl
numbered BitXor = refl
numbered BitOr = refl
numbered Both = refl
numbered Either = refl

operator-Decides : (f g : BinOp) → Decides (same_operator f g) (f ≡ g)
operator-Decides f g =
    let h = Decides-eqb (number_of f) (number_of g) in (
      λ e. let same : Some f ≡ Some g = sym (numbered f) ∙ ap (slice_get operators) (h.0 e) ∙ numbered g in cc,
      λ e. h.1 (ap number_of e),
    )

assigned-Decides : (f g : Option BinOp) → Decides (same_assigned f g) (f ≡ g)
assigned-Decides None None = (λ e. refl, λ e. refl)
assigned-Decides None (Some g) = (λ e. cc, λ e. cc)
assigned-Decides (Some f) None = (λ e. cc, λ e. cc)
assigned-Decides (Some f) (Some g) =
    let h = operator-Decides f g in
    (λ e. ap (λ x. Some x) (h.0 e), λ e. h.1 (cc))

sign-Decides : (f g : UnOp) → Decides (same_sign f g) (f ≡ g)
sign-Decides Plus Plus = (λ e. refl, λ e. refl)
sign-Decides Minus Minus = (λ e. refl, λ e. refl)
sign-Decides Flip Flip = (λ e. refl, λ e. refl)
sign-Decides Compl Compl = (λ e. refl, λ e. refl)
sign-Decides _ _ = (λ e. cc, λ e. cc)

type-Decides : (f g : Ty) → Decides (same_type f g) (f ≡ g)
type-Decides Int Int = (λ e. refl, λ e. refl)
type-Decides Char Char = (λ e. refl, λ e. refl)
type-Decides _ _ = (λ e. cc, λ e. cc)

answer-Decides : (f g : Bool) → Decides (same_answer f g) (f ≡ g)
answer-Decides true true = (λ e. refl, λ e. refl)
answer-Decides true false = (λ e. cc, λ e. cc)
answer-Decides false true = (λ e. cc, λ e. cc)
answer-Decides false false = (λ e. refl, λ e. refl)

-- what is to be shown of two expressions
abbrev Same : Tree → Tree → Type 0
Same a b = Decides (same a b) (bare a ≡ bare b)

abbrev SameArgs : Args → Args → Type 0
SameArgs x y = Decides (same_args x y) (bare_args x ≡ bare_args y)

constant-same : (n : ℤ) (w : List ℕ) (s : Span) (b : Tree) → Same (constant n w s) b
constant-same n w s (constant m v t) =
    let h = Decides-int_eq n m in
    (λ e. λ i. constant (h.0 e i) [] no_span, λ e. h.1 (cc))
constant-same n w s _ = (λ e. cc, λ e. cc)

name-same : (w : List ℕ) (a : Slot) (s : Span) (b : Tree) → Same (name w a s) b
name-same w a s (name v c t) =
    let h = bytes_decides w v in
    (λ e. λ i. name (h.0 e i) Unset no_span, λ e. h.1 (cc))
name-same w a s _ = (λ e. cc, λ e. cc)

index-same : (w : List ℕ) (a : Slot) (e : Tree) (s : Span) → ((f : Tree) → Same e f) → (b : Tree) → Same (index w a e s) b
index-same w a e s ih (index v c f t) =
    both-Decides _ _ (bytes_decides w v) (ih f) (λ p q. λ i. index (p i) Unset (q i) no_span) (λ r. cc) (λ r. cc)
index-same w a e s ih _ = (λ e. cc, λ e. cc)

call-same : (w : List ℕ) (x : Args) (s : Span) → ((y : Args) → SameArgs x y) → (b : Tree) → Same (call w x s) b
call-same w x s ih (call v y t) =
    both-Decides _ _ (bytes_decides w v) (ih y) (λ p q. λ i. call (p i) (q i) no_span) (λ r. cc) (λ r. cc)
call-same w x s ih _ = (λ e. cc, λ e. cc)

unary-same : (op : UnOp) (e : Tree) (s : Span) → ((f : Tree) → Same e f) → (b : Tree) → Same (unary op e s) b
unary-same op e s ih (unary o f t) =
    both-Decides _ _ (sign-Decides op o) (ih f) (λ p q. λ i. unary (p i) (q i) no_span) (λ r. cc) (λ r. cc)
unary-same op e s ih _ = (λ e. cc, λ e. cc)

cast-same : (ty : Ty) (e : Tree) (s : Span) → ((f : Tree) → Same e f) → (b : Tree) → Same (cast ty e s) b
cast-same ty e s ih (cast o f t) =
    both-Decides _ _ (type-Decides ty o) (ih f) (λ p q. λ i. cast (p i) (q i) no_span) (λ r. cc) (λ r. cc)
cast-same ty e s ih _ = (λ e. cc, λ e. cc)

-- two expressions are the same as two others
pair-Decides : (a b c d : Tree) → Same a c → Same b d → Decides (same a c && same b d) ((bare a ≡ bare c) × (bare b ≡ bare d))
pair-Decides a b c d p q = Decides-and (same a c) (same b d) p q

binary-same : (op : BinOp) (l r : Tree) (s : Span) → ((f : Tree) → Same l f) → ((f : Tree) → Same r f) → (b : Tree) → Same (binary op l r s) b
binary-same op l r s one two (binary o c d t) =
    both-Decides _ _ (operator-Decides op o) (pair-Decides l r c d (one c) (two d)) (λ p q. λ i. binary (p i) (q.0 i) (q.1 i) no_span) (λ h. cc) (λ h. (cc, cc))
binary-same op l r s one two _ = (λ e. cc, λ e. cc)

choice-same : (t x y : Tree) (s : Span) → ((f : Tree) → Same t f) → ((f : Tree) → Same x f) → ((f : Tree) → Same y f) → (b : Tree) → Same (choice t x y s) b
choice-same t x y s one two three (choice u v w z) =
    both-Decides _ _ (one u) (pair-Decides x y v w (two v) (three w)) (λ p q. λ i. choice (p i) (q.0 i) (q.1 i) no_span) (λ h. cc) (λ h. (cc, cc))
choice-same t x y s one two three _ = (λ e. cc, λ e. cc)

assign-same : (op : Option BinOp) (l r : Tree) (s : Span) → ((f : Tree) → Same l f) → ((f : Tree) → Same r f) → (b : Tree) → Same (assign op l r s) b
assign-same op l r s one two (assign o c d t) =
    both-Decides _ _ (assigned-Decides op o) (pair-Decides l r c d (one c) (two d)) (λ p q. λ i. assign (p i) (q.0 i) (q.1 i) no_span) (λ h. cc) (λ h. (cc, cc))
assign-same op l r s one two _ = (λ e. cc, λ e. cc)

bump-same : (x y : Bool) (e : Tree) (s : Span) → ((f : Tree) → Same e f) → (b : Tree) → Same (bump x y e s) b
bump-same x y e s ih (bump z w f t) =
    both-Decides _ _ (answer-Decides x z) (Decides-and _ _ (answer-Decides y w) (ih f)) (λ p q. λ i. bump (p i) (q.0 i) (q.1 i) no_span) (λ h. cc) (λ h. (cc, cc))
bump-same x y e s ih _ = (λ e. cc, λ e. cc)

comma-same : (l r : Tree) (s : Span) → ((f : Tree) → Same l f) → ((f : Tree) → Same r f) → (b : Tree) → Same (comma l r s) b
comma-same l r s one two (comma c d t) =
    both-Decides _ _ (one c) (two d) (λ p q. λ i. comma (p i) (q i) no_span) (λ h. cc) (λ h. cc)
comma-same l r s one two _ = (λ e. cc, λ e. cc)

hole-same : (b : Tree) → Same hole b
hole-same hole = (λ e. refl, λ e. refl)
hole-same _ = (λ e. cc, λ e. cc)

after-same : (e : Tree) → ((f : Tree) → Same e f) → (b : Tree) → Same (hole_after e) b
after-same e ih (hole_after f) = let h = ih f in (λ t. ap (λ z. hole_after z) (h.0 t), λ t. h.1 (cc))
after-same e ih _ = (λ e. cc, λ e. cc)

none-same : (y : Args) → SameArgs no_args y
none-same no_args = (λ e. refl, λ e. refl)
none-same _ = (λ e. cc, λ e. cc)

value-same : (e : Tree) (x : Args) → ((f : Tree) → Same e f) → ((y : Args) → SameArgs x y) → (b : Args) → SameArgs (value e x) b
value-same e x one two (value f y) =
    both-Decides _ _ (one f) (two y) (λ p q. λ i. value (p i) (q i)) (λ h. cc) (λ h. cc)
value-same e x one two _ = (λ e. cc, λ e. cc)

format-same : (w : List ℕ) (s : Span) (x : Args) → ((y : Args) → SameArgs x y) → (b : Args) → SameArgs (format w s x) b
format-same w s x two (format v t y) =
    both-Decides _ _ (bytes_decides w v) (two y) (λ p q. λ i. format (p i) no_span (q i)) (λ h. cc) (λ h. cc)
format-same w s x two _ = (λ e. cc, λ e. cc)

address-same : (e : Tree) (x : Args) → ((f : Tree) → Same e f) → ((y : Args) → SameArgs x y) → (b : Args) → SameArgs (address e x) b
address-same e x one two (address f y) =
    both-Decides _ _ (one f) (two y) (λ p q. λ i. address (p i) (q i)) (λ h. cc) (λ h. cc)
address-same e x one two _ = (λ e. cc, λ e. cc)

-- the test decides whether two expressions are the same
mutual
  pub same-Decides : (a b : Tree) → Same a b
  same-Decides (constant n w s) b = constant-same n w s b
  same-Decides (name w v s) b = name-same w v s b
  same-Decides (index w v e s) b = index-same w v e s (λ f. same-Decides e f) b
  same-Decides (call w x s) b = call-same w x s (λ y. args-Decides x y) b
  same-Decides (unary op e s) b = unary-same op e s (λ f. same-Decides e f) b
  same-Decides (cast ty e s) b = cast-same ty e s (λ f. same-Decides e f) b
  same-Decides (binary op l r s) b = binary-same op l r s (λ f. same-Decides l f) (λ f. same-Decides r f) b
  same-Decides (choice t x y s) b = choice-same t x y s (λ f. same-Decides t f) (λ f. same-Decides x f) (λ f. same-Decides y f) b
  same-Decides (assign op l r s) b = assign-same op l r s (λ f. same-Decides l f) (λ f. same-Decides r f) b
  same-Decides (bump x y e s) b = bump-same x y e s (λ f. same-Decides e f) b
  same-Decides (comma l r s) b = comma-same l r s (λ f. same-Decides l f) (λ f. same-Decides r f) b
  same-Decides hole b = hole-same b
  same-Decides (hole_after e) b = after-same e (λ f. same-Decides e f) b

  args-Decides : (x y : Args) → SameArgs x y
  args-Decides no_args y = none-same y
  args-Decides (value e x) y = value-same e x (λ f. same-Decides e f) (λ z. args-Decides x z) y
  args-Decides (format w s x) y = format-same w s x (λ z. args-Decides x z) y
  args-Decides (address e x) y = address-same e x (λ f. same-Decides e f) (λ z. args-Decides x z) y
