-- What a text begins with, by its first byte.
use Rattle.std.proofs.Common.{◌≡◌, ℕ, ◌≤◌, get_or, Bool, true, false, ◌==◌, [], ◌∷◌, ◌++◌, length, codes, refl, sym, ap, ◌∙◌, arith}
use Rattle.std.proofs.lemmas.Bool.Decides.{nat_tests}
use Rattle.std.specs.Char.{is_ascii_digit}
use Rattle.c_lex.specs.declared.opening.Opening.{Opening}
use Rattle.c_lex.specs.declared.opening.Opening.TheVariants as opening
use Rattle.c_lex.specs.Bytes.{Bytes, is_space, is_letter}
use Rattle.c_lex.specs.Places.{begins, is_digraph}
use Rattle.c_lex.specs.Openings.{opening_of, other_opening}
use Rattle.c_splice.proofs.Openings.{by_tests, other_tests}

-- the tests of a first byte that is a letter
letter_by : (a b c d e f : Bool) (p : Opening) → (p ≡ opening.Letter → ⊥)
    → by_tests a b c d e f p ≡ opening.Letter → b ≡ true
letter_by true b c d e f p n h = absurd (cc)
letter_by false true c d e f p n h = refl
letter_by false false true d e f p n h = absurd (cc)
letter_by false false false true e f p n h = absurd (cc)
letter_by false false false false true f p n h = absurd (cc)
letter_by false false false false false true p n h = absurd (cc)
letter_by false false false false false false p n h = absurd (n h)

-- the tests of one that is a digit
digit_by : (a b c d e f : Bool) (p : Opening) → (p ≡ opening.Digit → ⊥)
    → by_tests a b c d e f p ≡ opening.Digit → c ≡ true
digit_by true b c d e f p n h = absurd (cc)
digit_by false true c d e f p n h = absurd (cc)
digit_by false false true d e f p n h = refl
digit_by false false false true e f p n h = absurd (cc)
digit_by false false false false true f p n h = absurd (cc)
digit_by false false false false false true p n h = absurd (cc)
digit_by false false false false false false p n h = absurd (n h)

-- the tests of one that is white space
space_by : (a b c d e f : Bool) (p : Opening) → (p ≡ opening.Space → ⊥)
    → by_tests a b c d e f p ≡ opening.Space → a ≡ true
space_by true b c d e f p n h = refl
space_by false true c d e f p n h = absurd (cc)
space_by false false true d e f p n h = absurd (cc)
space_by false false false true e f p n h = absurd (cc)
space_by false false false false true f p n h = absurd (cc)
space_by false false false false false true p n h = absurd (cc)
space_by false false false false false false p n h = absurd (n h)

-- what begins otherwise begins with no white space
other_no_space : (z : Bytes) → other_opening z ≡ opening.Space → ⊥
other_no_space z = by (begins (codes "//") z) (begins (codes "/*") z) (is_digraph z)
  where
    by : (x y d : Bool) → other_tests x y d ≡ opening.Space → ⊥
    by true y d h = cc
    by false true d h = cc
    by false false true h = cc
    by false false false h = cc

-- what begins with white space has it as its first byte
pub space_first : (c : ℕ) (z : Bytes) → opening_of (c ∷ z) ≡ opening.Space → is_space c ≡ true
space_first c z h =
    space_by (is_space c) (is_letter c) (is_ascii_digit c) (c == 35) (c == 39) (c == 34)
    (other_opening (c ∷ z)) (other_no_space (c ∷ z)) h

-- what begins otherwise begins with no letter and no digit
other_apart : (z : Bytes)
    → ((other_opening z ≡ opening.Letter) → ⊥) × ((other_opening z ≡ opening.Digit) → ⊥)
other_apart z = by (begins (codes "//") z) (begins (codes "/*") z) (is_digraph z)
  where
    by : (x y d : Bool) → ((other_tests x y d ≡ opening.Letter) → ⊥)
        × ((other_tests x y d ≡ opening.Digit) → ⊥)
    by true y d = (λ h. cc, λ h. cc)
    by false true d = (λ h. cc, λ h. cc)
    by false false true = (λ h. cc, λ h. cc)
    by false false false = (λ h. cc, λ h. cc)

-- what begins with a letter has it as its first byte
letter_first : (c : ℕ) (z : Bytes) → opening_of (c ∷ z) ≡ opening.Letter → is_letter c ≡ true
letter_first c z h =
    letter_by (is_space c) (is_letter c) (is_ascii_digit c) (c == 35) (c == 39) (c == 34)
    (other_opening (c ∷ z)) (other_apart (c ∷ z)).0 h

-- and what begins with a digit
digit_first : (c : ℕ) (z : Bytes) → opening_of (c ∷ z) ≡ opening.Digit → is_ascii_digit c ≡ true
digit_first c z h =
    digit_by (is_space c) (is_letter c) (is_ascii_digit c) (c == 35) (c == 39) (c == 34)
    (other_opening (c ∷ z)) (other_apart (c ∷ z)).1 h

-- no letter is white space
letter_no_space : (c : ℕ) → is_letter c ≡ true → is_space c ≡ false
letter_no_space c h = grind (arith, nat_tests)

-- no digit is white space or a letter
digit_alone : (c : ℕ) → is_ascii_digit c ≡ true → (is_space c ≡ false) × (is_letter c ≡ false)
digit_alone c h = (grind (arith, nat_tests), grind (arith, nat_tests))

-- a letter opens a word
pub letter_opens : (c : ℕ) (z : Bytes) → is_letter c ≡ true → opening_of (c ∷ z) ≡ opening.Letter
letter_opens c z h =
    let other = other_opening (c ∷ z) in
    ap (λ q. by_tests q (is_letter c) (is_ascii_digit c) (c == 35) (c == 39) (c == 34) other)
    (letter_no_space c h)
    ∙ ap (λ q. by_tests false q (is_ascii_digit c) (c == 35) (c == 39) (c == 34) other) h

-- a digit opens a number
pub digit_opens : (c : ℕ) (z : Bytes) → is_ascii_digit c ≡ true → opening_of (c ∷ z) ≡ opening.Digit
digit_opens c z h =
    let other = other_opening (c ∷ z) in
    let alone = digit_alone c h in
    ap (λ q. by_tests q (is_letter c) (is_ascii_digit c) (c == 35) (c == 39) (c == 34) other) alone.0
    ∙ ap (λ q. by_tests false q (is_ascii_digit c) (c == 35) (c == 39) (c == 34) other) alone.1
    ∙ ap (λ q. by_tests false false q (c == 35) (c == 39) (c == 34) other) h

-- white space opens nothing else
pub space_opens : (b : ℕ) (z : Bytes) → is_space b ≡ true → opening_of (b ∷ z) ≡ opening.Space
space_opens b z h =
    let other = other_opening (b ∷ z) in
    ap (λ q. by_tests q (is_letter b) (is_ascii_digit b) (b == 35) (b == 39) (b == 34) other) h

-- a text that begins with a letter has it first in each prefix
pub starts_letter : (z w rest : Bytes) → z ≡ w ++ rest → 1 ≤ length w → opening.Letter ≡ opening_of z
    → is_letter (get_or w 0 0) ≡ true
starts_letter z [] rest e l i = absurd (omega arith)
starts_letter z (c ∷ w) rest e l i = letter_first c (w ++ rest) (sym (i ∙ ap opening_of e))

-- so has one that begins with a digit
pub starts_digit : (z w rest : Bytes) → z ≡ w ++ rest → 1 ≤ length w → opening.Digit ≡ opening_of z
    → is_ascii_digit (get_or w 0 0) ≡ true
starts_digit z [] rest e l i = absurd (omega arith)
starts_digit z (c ∷ w) rest e l i = digit_first c (w ++ rest) (sym (i ∙ ap opening_of e))
