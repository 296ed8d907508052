-- Whether one of the parts in a list is at a location, by recursion on the list.
use Rattle.std.proofs.Common.{◌≡◌, zero, suc, Bool, true, false, ◌&&◌, nat_eq, List, [], ◌∷◌, ◌++◌, map, refl, sym, eqb-true, subst, eq-eqb, suc-le-suc, Contains, arith}
use Rattle.c_tree.specs.declared.place.Loc.{Loc}
use Rattle.c_tree.specs.declared.place.LocKind.{LocKind}
use Rattle.c_tree.specs.declared.place.LocKind.TheVariants.{Guard, Cond, Right}
use Rattle.c_tree.specs.declared.place.Span.{Span}
use Rattle.c_tree.specs.Parts.{same_span}
use Rattle.c_location.specs.Locations.{Located, same_kind, is_at}

-- no part of the list is at the location
pub data Nowhere (l : Loc) : List Located → Type 0 where
  none : Nowhere l []
  more : {x : Located} {xs : List Located} → is_at l x ≡ false → Nowhere l xs → Nowhere l (x ∷ xs)

-- not in two lists one after the other, so not in the first
pub nowhere_left : {l : Loc} (xs ys : List Located) → Nowhere l (xs ++ ys) → Nowhere l xs
nowhere_left [] ys h = none
nowhere_left (x ∷ xs) ys (more e h) = more e (nowhere_left xs ys h)

-- and not in the second
pub nowhere_right : {l : Loc} (xs ys : List Located) → Nowhere l (xs ++ ys) → Nowhere l ys
nowhere_right [] ys h = h
nowhere_right (x ∷ xs) ys (more e h) = nowhere_right xs ys h

-- not in a list, so not its first part
pub nowhere_first : {l : Loc} {x : Located} {xs : List Located} → Nowhere l (x ∷ xs) → is_at l x ≡ false
nowhere_first (more e h) = e

-- nor in the rest
pub nowhere_rest : {l : Loc} {x : Located} {xs : List Located} → Nowhere l (x ∷ xs) → Nowhere l xs
nowhere_rest (more e h) = h

-- kinds that pass for the same are the same
same_kind-is : (a b : LocKind) → same_kind a b ≡ true → a ≡ b
same_kind-is Guard Guard e = refl
same_kind-is Guard Cond e = cc
same_kind-is Guard Right e = cc
same_kind-is Cond Guard e = cc
same_kind-is Cond Cond e = refl
same_kind-is Cond Right e = cc
same_kind-is Right Guard e = cc
same_kind-is Right Cond e = cc
same_kind-is Right Right e = refl

-- two tests hold together, so the first does
first_test : (a b : Bool) → (a && b) ≡ true → a ≡ true
first_test true b e = refl
first_test false b e = e

-- and the second
second_test : (a b : Bool) → (a && b) ≡ true → b ≡ true
second_test true b e = e
second_test false b e = cc

-- texts that pass for the same are the same
same_span-is : (s t : Span) → same_span s t ≡ true → s ≡ t
same_span-is s t e =
    let from : s.from ≡ t.from = eqb-true s.from t.from (first_test (nat_eq s.from t.from) (nat_eq s.to t.to) e) in
    let to : s.to ≡ t.to = eqb-true s.to t.to (second_test (nat_eq s.from t.from) (nat_eq s.to t.to) e) in
    λ i. record { from = from i; to = to i }

-- a part at a location has it for its own
pub is_at-loc : (l : Loc) (x : Located) → is_at l x ≡ true → x.loc ≡ l
is_at-loc l x e =
    let kinds : Bool = same_kind l.kind x.loc.kind in
    let spans : Bool = same_span x.loc.at l.at in
    let kind : x.loc.kind ≡ l.kind = sym (same_kind-is l.kind x.loc.kind (first_test kinds spans e)) in
    let at : x.loc.at ≡ l.at = same_span-is x.loc.at l.at (second_test kinds spans e) in
    λ i. record { kind = kind i; at = at i }

-- a test that cannot hold fails
pub fails : (b : Bool) → (b ≡ true → ⊥) → b ≡ false
fails true h = absurd (h refl)
fails false h = refl

-- a location that is not among those of a list is nowhere in it
pub nowhere : (l : Loc) (xs : List Located) → ¬ Contains (map (λ x. x.loc) xs) l → Nowhere l xs
nowhere l [] h = none
nowhere l (x ∷ xs) h = more
    (fails (is_at l x) (λ e. h (zero, omega arith, is_at-loc l x e)))
    (nowhere l xs (λ k. h (suc k.0, suc-le-suc k.1, k.2)))

-- each kind passes for itself
same_kind-refl : (k : LocKind) → same_kind k k ≡ true
same_kind-refl Guard = refl
same_kind-refl Cond = refl
same_kind-refl Right = refl

-- two tests that hold do so together
both_tests : (a b : Bool) → a ≡ true → b ≡ true → (a && b) ≡ true
both_tests a b p q = λ i. p i && q i

-- each part is at its own location
pub is_at-own : (l : Loc) (x : Located) → x.loc ≡ l → is_at l x ≡ true
is_at-own l x e = subst (λ m. is_at m x ≡ true) e
    (both_tests (same_kind x.loc.kind x.loc.kind) (same_span x.loc.at x.loc.at) (same_kind-refl x.loc.kind)
    (both_tests (nat_eq x.loc.at.from x.loc.at.from) (nat_eq x.loc.at.to x.loc.at.to)
    (eq-eqb x.loc.at.from x.loc.at.from refl) (eq-eqb x.loc.at.to x.loc.at.to refl)))
