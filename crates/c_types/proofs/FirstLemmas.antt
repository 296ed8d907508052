-- The fault that is told is among the faults, and comes before all others.
use Rattle.std.proofs.Common.{◌≡◌, ℕ, suc, Bool, true, false, ◌||◌, ◌&&◌, nat_lt, nat_eq, List, [], ◌∷◌, get_or, refl, sym, subst, Option, Some, None, arith}
use Rattle.std.specs.Prelude.{nat_le, Contains, if◌then◌else◌}
use Rattle.std.proofs.lemmas.Bool.Decides.{nat_tests}
use Rattle.std.proofs.lemmas.List.Elements.{All-cons, All-nil}
use Rattle.c_types.specs.declared.fault.Fault.{Fault}
use Rattle.c_types.specs.Least.{order, comes_first, earlier, least, IsFirst}

before-itself : (p o : ℕ) → (nat_lt p p || (nat_eq p p && nat_le o o)) ≡ true
before-itself p o = grind (arith, nat_tests)

before-other : (p o q r : ℕ) → (nat_lt p q || (nat_eq p q && nat_le o r)) ≡ false → (nat_lt q p || (nat_eq q p && nat_le r o)) ≡ true
before-other p o q r = grind (arith, nat_tests)

before-trans : (p o q r s t : ℕ) → (nat_lt p q || (nat_eq p q && nat_le o r)) ≡ true → (nat_lt q s || (nat_eq q s && nat_le r t)) ≡ true → (nat_lt p s || (nat_eq p s && nat_le o t)) ≡ true
before-trans p o q r s t = grind (arith, nat_tests)

itself : (f : Fault) → comes_first f f ≡ true
itself f = before-itself f.place (order f.kind)

other : (f g : Fault) → comes_first f g ≡ false → comes_first g f ≡ true
other f g = before-other f.place (order f.kind) g.place (order g.kind)

trans : (f g h : Fault) → comes_first f g ≡ true → comes_first g h ≡ true → comes_first f h ≡ true
trans f g h = before-trans f.place (order f.kind) g.place (order g.kind) h.place (order h.kind)

at_head : (f : Fault) (fs : List Fault) → Contains (f ∷ fs) f
at_head f fs = (0, omega arith, refl)

in_tail : (x f : Fault) (fs : List Fault) → Contains fs f → Contains (x ∷ fs) f
in_tail x f fs found = (suc found.0, omega (arith, found.1), found.2)

-- the first of one fault and others, of which g is the first
chosen : (x g f : Fault) (xs : List Fault) (b : Bool) → comes_first x g ≡ b → (if b then Some x else Some g) ≡ Some f → IsFirst xs g → IsFirst (x ∷ xs) f
chosen x g f xs true first is rest =
    let same : x ≡ f = cc in
    subst (λ (h : Fault). IsFirst (x ∷ xs) h) same (record {
      among = at_head x xs;
      first = All-cons (λ h. comes_first x h ≡ true) x xs (itself x) (λ k d lt. trans x g (get_or xs k d) first (rest.first k d lt));
    })
chosen x g f xs false later is rest =
    let same : g ≡ f = cc in
    subst (λ (h : Fault). IsFirst (x ∷ xs) h) same (record {
      among = in_tail x g xs rest.among;
      first = All-cons (λ h. comes_first g h ≡ true) x xs (other x g later) rest.first;
    })

-- no fault is told exactly where there is none
pub least_none : (fs : List Fault) → least fs ≡ None → fs ≡ []
unfolding least
least_none [] is = refl
least_none (f ∷ fs) is = absurd (some_sooner f (least fs) is)
  where
    some_sooner : (x : Fault) (o : Option Fault) → earlier (Some x) o ≡ None → ⊥
    some_sooner x None is = cc
    some_sooner x (Some g) is = by_test (comes_first x g) is
      where
        by_test : (b : Bool) → (if b then Some x else Some g) ≡ None → ⊥
        by_test true is = cc
        by_test false is = cc

by_rest : (x f : Fault) (xs : List Fault) (o : Option Fault) → least xs ≡ o → ((g : Fault) → least xs ≡ Some g → IsFirst xs g) → earlier (Some x) o ≡ Some f → IsFirst (x ∷ xs) f
by_rest x f xs None none rest is =
    let same : x ≡ f = cc in
    let empty : [] ≡ xs = sym (least_none xs none) in
    subst (λ (h : Fault). IsFirst (x ∷ xs) h) same (subst (λ (ys : List Fault). IsFirst (x ∷ ys) x) empty (record {
      among = at_head x [];
      first = All-cons (λ h. comes_first x h ≡ true) x [] (itself x) (All-nil (λ h. comes_first x h ≡ true));
    }))
by_rest x f xs (Some g) some rest is = chosen x g f xs (comes_first x g) refl is (rest g some)

-- what is told is the first
pub least_first : (fs : List Fault) (f : Fault) → least fs ≡ Some f → IsFirst fs f
unfolding least
least_first [] f is = absurd (cc)
least_first (x ∷ xs) f is = by_rest x f xs (least xs) refl (least_first xs) is
