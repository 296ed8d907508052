-- Variables that are left out since their name is hidden.
use Rattle.std.proofs.Common.{◌≡◌, ℕ, Bool, true, false, not, cond, List, [], ◌∷◌, ◌++◌, reverse, refl, sym, ap, ◌∙◌, append-nil}
use Rattle.std.specs.Str.{bytes_eq}
use Rattle.std.proofs.lemmas.Bool.Decides.{same_from_decides, Decides-like}
use Rattle.std.proofs.lemmas.List.{reverse-append}
use Rattle.std.proofs.lemmas.List.Elements.{filter-append}
use Rattle.std.proofs.lemmas.Slice.Eq.{bytes_eq-Decides}
use Rattle.c_types.specs.declared.visible.Visible.{Visible}
use Rattle.c_types.specs.Visible.{others, and_then}

pub same_word : (word : List ℕ) → bytes_eq word word ≡ true
same_word word = (bytes_eq-Decides word word).1 refl

pub word_swap : (a b : List ℕ) → bytes_eq a b ≡ bytes_eq b a
word_swap a b =
    same_from_decides (bytes_eq a b) (bytes_eq b a) (bytes_eq-Decides a b)
    (Decides-like (bytes_eq b a) sym sym (bytes_eq-Decides b a))

-- one variable more, where its word is or isn't the hidden one
pub others-cons : (w : List ℕ) (v : Visible) (vs : List Visible) (b : Bool) → bytes_eq v.word w ≡ b
    → others w (v ∷ vs) ≡ cond (not b) (v ∷ others w vs) (others w vs)
others-cons w v vs b is = ap (λ t. cond (not t) (v ∷ others w vs) (others w vs)) is

-- a variable hides itself
pub others-own : (v : Visible) (vs : List Visible) → others v.word (v ∷ vs) ≡ others v.word vs
others-own v vs = others-cons v.word v vs true (same_word v.word)

pub others-twice : (w : List ℕ) (vs : List Visible) → others w (others w vs) ≡ others w vs
others-twice w [] = refl
others-twice w (v ∷ vs) = by_test (bytes_eq v.word w) refl (others-twice w vs)
  where
    by_test : (b : Bool) → bytes_eq v.word w ≡ b → others w (others w vs) ≡ others w vs
        → others w (cond (not b) (v ∷ others w vs) (others w vs)) ≡ cond (not b) (v ∷ others w vs) (others w vs)
    by_test true is h = h
    by_test false is h = others-cons w v (others w vs) false is ∙ ap (λ xs. v ∷ xs) h

pub others-swap : (a b : List ℕ) (vs : List Visible) → others a (others b vs) ≡ others b (others a vs)
others-swap a b [] = refl
others-swap a b (v ∷ vs) = by_tests (bytes_eq v.word a) (bytes_eq v.word b) refl refl (others-swap a b vs)
  where
    by_tests : (x y : Bool) → bytes_eq v.word a ≡ x → bytes_eq v.word b ≡ y → others a (others b vs) ≡ others b (others a vs)
        → others a (cond (not y) (v ∷ others b vs) (others b vs)) ≡ others b (cond (not x) (v ∷ others a vs) (others a vs))
    by_tests true true p q h = h
    by_tests true false p q h = others-cons a v (others b vs) true p ∙ h
    by_tests false true p q h = h ∙ sym (others-cons b v (others a vs) true q)
    by_tests false false p q h =
        others-cons a v (others b vs) false p ∙ ap (λ xs. v ∷ xs) h ∙ sym (others-cons b v (others a vs) false q)

pub others-reverse : (w : List ℕ) (vs : List Visible) → reverse (others w vs) ≡ others w (reverse vs)
others-reverse w [] = refl
others-reverse w (v ∷ vs) =
    by_test (bytes_eq v.word w)
    ∙ ap (λ xs. xs ++ others w (v ∷ [])) (others-reverse w vs)
    ∙ sym (filter-append (λ u. not (bytes_eq u.word w)) (reverse vs) (v ∷ []))
    ∙ ap (others w) (sym (reverse-append (v ∷ []) vs))
  where
    by_test : (b : Bool) → reverse (cond (not b) (v ∷ others w vs) (others w vs)) ≡ reverse (others w vs) ++ cond (not b) (v ∷ []) []
    by_test true = sym (append-nil (reverse (others w vs)))
    by_test false = reverse-append (v ∷ []) (others w vs)

-- a variable after those that it doesn't hide, the latest first
pub and_then-reverse : (v : Visible) (before : List Visible) → reverse (and_then v before) ≡ v ∷ others v.word (reverse before)
and_then-reverse v before =
    reverse-append (others v.word before) (v ∷ []) ∙ ap (λ xs. v ∷ xs) (others-reverse v.word before)
