-- The fault that is told of two lists together.
use Rattle.std.proofs.Common.{◌≡◌, ℕ, suc, ◌+◌, ◌<◌, get_or, length, drop, add-one, drop-cons, Bool, true, false, ◌||◌, ◌&&◌, nat_lt, nat_eq, List, [], ◌∷◌, ◌++◌, refl, sym, ap, ◌∙◌, Option, Some, None, arith}
use Rattle.std.specs.Prelude.{nat_le}
use Rattle.std.proofs.lemmas.Bool.Decides.{nat_tests}
use Rattle.c_types.specs.declared.fault.Fault.{Fault}
use Rattle.c_types.specs.Least.{order, comes_first, earlier, least}

abbrev before : ℕ → ℕ → ℕ → ℕ → Bool
before p o q r = nat_lt p q || (nat_eq p q && nat_le o r)

before-trans : (p o q r s t : ℕ) → before p o q r ≡ true → before q r s t ≡ true → before p o s t ≡ true
before-trans p o q r s t = grind (arith, nat_tests)

before-not : (p o q r s t : ℕ) → before p o q r ≡ false → before q r s t ≡ false → before p o s t ≡ false
before-not p o q r s t = grind (arith, nat_tests)

earlier-none : (a : Option Fault) → earlier a None ≡ a
earlier-none None = refl
earlier-none (Some a) = refl

chosen : (ab bc ac : Bool) (a b c : Fault) → (ab ≡ true → bc ≡ true → ac ≡ true) → (ab ≡ false → bc ≡ false → ac ≡ false)
    → comes_first a b ≡ ab → comes_first b c ≡ bc → comes_first a c ≡ ac → earlier (earlier (Some a) (Some b)) (Some c) ≡ earlier (Some a) (earlier (Some b) (Some c))
chosen true true ac a b c both neither p q r = let h : ac ≡ true = both refl refl in grind arith
chosen true false ac a b c both neither p q r = grind arith
chosen false true ac a b c both neither p q r = grind arith
chosen false false ac a b c both neither p q r = let h : ac ≡ false = neither refl refl in grind arith

pub earlier_assoc : (a b c : Option Fault) → earlier (earlier a b) c ≡ earlier a (earlier b c)
earlier_assoc None b c = refl
earlier_assoc (Some a) None c = refl
earlier_assoc (Some a) (Some b) None = earlier-none (earlier (Some a) (Some b))
earlier_assoc (Some a) (Some b) (Some c) =
    chosen (comes_first a b) (comes_first b c) (comes_first a c) a b c
    (before-trans a.place (order a.kind) b.place (order b.kind) c.place (order c.kind))
    (before-not a.place (order a.kind) b.place (order b.kind) c.place (order c.kind)) refl refl refl

pub least_append : (fs gs : List Fault) → least (fs ++ gs) ≡ earlier (least fs) (least gs)
unfolding least
least_append [] gs = refl
least_append (f ∷ fs) gs = ap (earlier (Some f)) (least_append fs gs) ∙ sym (earlier_assoc (Some f) (least fs) (least gs))

pub least_nil : least [] ≡ None
unfolding least
least_nil = refl

-- no fault and others, and others and no fault
pub none_before : (n a : Option Fault) → n ≡ least [] → a ≡ earlier n a
none_before n a is = sym (ap (λ (f : Option Fault). earlier f a) (is ∙ least_nil))

pub none_after : (a r : Option Fault) → a ≡ earlier r (least []) → r ≡ a
none_after a r is = sym (is ∙ ap (earlier r) least_nil ∙ earlier-none r)

pub joined : (fs gs : List Fault) (a b r : Option Fault) → r ≡ earlier a b → a ≡ least fs → b ≡ least gs → r ≡ least (fs ++ gs)
joined fs gs a b r is p q = is ∙ ap (λ (x : Option Fault). earlier x b) p ∙ ap (earlier (least fs)) q ∙ sym (least_append fs gs)

pub none_earlier : (a : Option Fault) → earlier (least []) a ≡ a
none_earlier a = ap (λ (f : Option Fault). earlier f a) least_nil

-- one more element of a list was looked at
pub one_more : {X : Type 0} (F : List X → Option Fault) (xs : List X) (i : ℕ) (x : X) (all before now after : Option Fault) → i < length xs → x ≡ get_or xs i x
    → F (x ∷ drop (suc i) xs) ≡ earlier now (F (drop (suc i) xs)) → after ≡ earlier before now
    → all ≡ earlier before (F (drop i xs)) → all ≡ earlier after (F (drop (i + 1) xs))
one_more {X} F xs i x all before now after lt is step joined so_far =
    let front : drop i xs ≡ x ∷ drop (suc i) xs = drop-cons xs i x lt ∙ ap (λ (z : X). z ∷ drop (suc i) xs) (sym is) in
    rw add-one (so_far ∙ ap (λ (ys : List X). earlier before (F ys)) front ∙ ap (earlier before) step ∙ sym (earlier_assoc before now (F (drop (suc i) xs))) ∙ ap (λ (f : Option Fault). earlier f (F (drop (suc i) xs))) (sym joined))

-- all elements were looked at
pub all_done : {X : Type 0} (F : List X → Option Fault) (xs : List X) (i : ℕ) (all r : Option Fault) → drop i xs ≡ [] → F [] ≡ least [] → all ≡ earlier r (F (drop i xs)) → r ≡ all
all_done {X} F xs i all r none empty so_far = none_after all r (so_far ∙ ap (λ (ys : List X). earlier r (F ys)) none ∙ ap (earlier r) empty)

-- the faults of an element, and those of the elements behind it
pub step_by : (fs gs : List Fault) (now : Option Fault) → now ≡ least fs → least (fs ++ gs) ≡ earlier now (least gs)
step_by fs gs now is = least_append fs gs ∙ ap (λ (f : Option Fault). earlier f (least gs)) (sym is)

-- the same as one_more, where what is in scope changes with the element
pub more_from : {X : Type 0} (F G : List X → Option Fault) (xs : List X) (i : ℕ) (x : X) (all before now after : Option Fault) → i < length xs → x ≡ get_or xs i x
    → F (x ∷ drop (suc i) xs) ≡ earlier now (G (drop (suc i) xs)) → after ≡ earlier before now
    → all ≡ earlier before (F (drop i xs)) → all ≡ earlier after (G (drop (i + 1) xs))
more_from {X} F G xs i x all before now after lt is step joined so_far =
    let front : drop i xs ≡ x ∷ drop (suc i) xs = drop-cons xs i x lt ∙ ap (λ (z : X). z ∷ drop (suc i) xs) (sym is) in
    rw add-one (so_far ∙ ap (λ (ys : List X). earlier before (F ys)) front ∙ ap (earlier before) step ∙ sym (earlier_assoc before now (G (drop (suc i) xs))) ∙ ap (λ (f : Option Fault). earlier f (G (drop (suc i) xs))) (sym joined))
