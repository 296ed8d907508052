-- Blanks and words at the start of a text.
use Rattle.std.proofs.Common.{◌≡◌, inl, inr, ℕ, suc, ◌+◌, ◌<◌, ◌≤◌, Bool, true, false, not, ◌&&◌, ◌==◌, if◌then◌else◌, [], ◌∷◌, ◌++◌, length, take, drop, get_or, refl, sym, ap, ◌∙◌, subst, arith}
use Rattle.std.specs.Char.{digit_value}
use Rattle.std.specs.Str.Parse.{AllDigits}
use Rattle.std.proofs.lemmas.Bool.Decides.{nat_tests}
use Rattle.std.proofs.lemmas.List.{append-nil}
use Rattle.c_lex.specs.Bytes.{Bytes, is_letter, is_word}
use Rattle.c_lex.specs.Pieces.{goes_on_word, is_chain, is_identifier}
use Rattle.c_lex.specs.Constants.{HasDigits, HasValue}
use Rattle.c_lex.specs.Directives.{is_blank, are_blank}
use Rattle.c_lex.specs.Reading.{chain_len}
use Rattle.c_lex.specs.DirectiveReading.{skip, word_len, after_word, is_blank_only}
use Rattle.c_lex.proofs.Appends.{prefix_dropped}
use Rattle.c_lex.proofs.Runs.{both_left, both_right, word_is_identifier}

-- ---- blanks

-- the step of `skip_parts`, by whether the first byte is a blank
skip_by : (b : ℕ) (z : Bytes) (x : Bool) → is_blank b ≡ x → (a : Bytes) × (are_blank a ≡ true) × (z ≡ a ++ skip z)
    → (a : Bytes) × (are_blank a ≡ true) × (b ∷ z ≡ a ++ (if x then skip z else b ∷ z))
skip_by b z true e h = (b ∷ h.0, ap (λ y. y && are_blank h.0) e ∙ h.1, ap (λ y. b ∷ y) h.2)
skip_by b z false e h = ([], refl, refl)

-- a text is its blanks and what stands after them
pub skip_parts : (z : Bytes) → (a : Bytes) × (are_blank a ≡ true) × (z ≡ a ++ skip z)
skip_parts [] = ([], refl, refl)
skip_parts (b ∷ z) = skip_by b z (is_blank b) refl (skip_parts z)

-- blanks are skipped before what begins with none
pub skip_past : (a y : Bytes) → are_blank a ≡ true → skip y ≡ y → skip (a ++ y) ≡ y
skip_past [] y h e = e
skip_past (b ∷ a) y h e =
    ap (λ x. if x then skip (a ++ y) else b ∷ (a ++ y)) (both_left (is_blank b) (are_blank a) h) ∙ skip_past a y (both_right (is_blank b) (are_blank a) h) e

-- nothing is skipped before a byte that is no blank
pub skip_none : (b : ℕ) (z : Bytes) → is_blank b ≡ false → skip (b ∷ z) ≡ b ∷ z
skip_none b z e = ap (λ x. if x then skip z else b ∷ z) e

-- blanks alone
pub blank_only : (z : Bytes) → are_blank z ≡ true → is_blank_only z ≡ true
blank_only z h =
    let e : skip z ≡ [] = ap skip (sym (append-nil z)) ∙ skip_past z [] h refl in
    ap (λ y. length y == 0) e

-- a text of no bytes
nothing : (z : Bytes) → (length z == 0) ≡ true → z ≡ []
nothing [] h = refl
nothing (b ∷ z) h = absurd (grind (arith, nat_tests))

-- where blanks alone are left, all are blanks
pub only_blank : (z : Bytes) → is_blank_only z ≡ true → are_blank z ≡ true
only_blank z h =
    let p = skip_parts z in
    let e : z ≡ p.0 = p.2 ∙ ap (λ y. p.0 ++ y) (nothing (skip z) h) ∙ append-nil p.0 in
    ap are_blank e ∙ p.1

-- ---- words

-- no byte of a word begins z
abbrev pub ends_word : Bytes → Bool
ends_word [] = true
ends_word (b ∷ z) = not (is_word b)

-- the step of `stop_len`
stop_by : (x : Bool) (n : ℕ) → not x ≡ true → (if x then suc n else 0) ≡ 0
stop_by true n h = absurd (cc)
stop_by false n h = refl

-- nothing goes on a word there
stop_len : (c : ℕ) (y : Bytes) → ends_word y ≡ true → chain_len goes_on_word c y ≡ 0
stop_len c [] h = refl
stop_len c (b ∷ y) h = stop_by (is_word b) (chain_len goes_on_word b y) h

-- a chain goes on to its end
chain_past : (c : ℕ) (u y : Bytes) → is_chain goes_on_word c u ≡ true → ends_word y ≡ true → chain_len goes_on_word c (u ++ y) ≡ length u
chain_past c [] y h e = stop_len c y e
chain_past c (b ∷ u) y h e =
    ap (λ x. if x then suc (chain_len goes_on_word b (u ++ y)) else 0) (both_left (is_word b) (is_chain goes_on_word b u) h)
    ∙ ap suc (chain_past b u y (both_right (is_word b) (is_chain goes_on_word b u) h) e)

-- some bytes that go on a word after the first
abbrev pub is_run : Bytes → Bool
is_run [] = false
is_run (b ∷ w) = is_chain goes_on_word b w

-- a text with a byte isn't empty
some_byte : (n : ℕ) → (suc n == 0) ≡ false
some_byte n = grind (arith, nat_tests)

-- the word at the start is a run before what goes on no word
pub word_past : (w y : Bytes) → is_run w ≡ true → ends_word y ≡ true → word_len (w ++ y) ≡ length w
word_past [] y h e = absurd (cc)
word_past (b ∷ w) y h e =
    ap (λ x. if x then 0 else 1 + chain_len goes_on_word b (w ++ y)) (some_byte (length (w ++ y))) ∙ ap (λ n. 1 + n) (chain_past b w y h e) ∙ omega arith

-- what stands after that run
pub after_past : (w y : Bytes) → is_run w ≡ true → ends_word y ≡ true → after_word (w ++ y) ≡ y
after_past w y h e = ap (λ n. drop n (w ++ y)) (word_past w y h e) ∙ prefix_dropped w y

-- an identifier is a run
pub identifier_is_run : (w : Bytes) → is_identifier w ≡ true → is_run w ≡ true
identifier_is_run [] h = absurd (cc)
identifier_is_run (b ∷ w) h = both_right (is_letter b) (is_chain goes_on_word b w) h

-- a byte of digits is one of a word
digit_is_word : (base b : ℕ) → base ≤ 16 → digit_value b < base → is_word b ≡ true
digit_is_word base b l h = grind (arith, nat_tests)

-- digits go on a word
digits_chain : (base c : ℕ) (w : Bytes) → base ≤ 16 → AllDigits base w → is_chain goes_on_word c w ≡ true
digits_chain base c [] l h = refl
digits_chain base c (b ∷ w) l h = ap (λ x. x && is_chain goes_on_word b w) (digit_is_word base b l h.0) ∙ digits_chain base b w l h.1

-- digits are a run
digits_run : (base value : ℕ) (w : Bytes) → base ≤ 16 → HasDigits base w value → is_run w ≡ true
digits_run base value [] l h = absurd (let s = h.some in omega arith)
digits_run base value (b ∷ w) l h = digits_chain base b w l h.digits.1

-- an integer constant is a run
pub value_is_run : {w : Bytes} {n : ℕ} → HasValue w n → is_run w ≡ true
value_is_run (HasValue.decimal {w} {value} f d) = digits_run 10 value w (omega arith) d
value_is_run (HasValue.octal {w} {value} f d) = digits_run 8 value w (omega arith) d
value_is_run (HasValue.hexadecimal {w} {value} digits (inl e) d) = subst (λ v. is_run v ≡ true) (sym e) (digits_chain 16 120 digits (omega arith) d.digits)
value_is_run (HasValue.hexadecimal {w} {value} digits (inr e) d) = subst (λ v. is_run v ≡ true) (sym e) (digits_chain 16 88 digits (omega arith) d.digits)

-- no byte of a word is a blank
word_no_blank : (b : ℕ) → is_blank b ≡ true → is_word b ≡ false
word_no_blank b h = grind (arith, nat_tests)

-- blanks end a word, before whatever; and no blanks, before what ends one
pub blanks_end : (a y : Bytes) → are_blank a ≡ true → ends_word y ≡ true → ends_word (a ++ y) ≡ true
blanks_end [] y h e = e
blanks_end (b ∷ a) y h e = ap not (word_no_blank b (both_left (is_blank b) (are_blank a) h))

-- a blank ends a word
pub some_blank_ends : (a y : Bytes) → 1 ≤ length a → are_blank a ≡ true → ends_word (a ++ y) ≡ true
some_blank_ends [] y l h = absurd (omega arith)
some_blank_ends (b ∷ a) y l h = ap not (word_no_blank b (both_left (is_blank b) (are_blank a) h))

-- the word at a letter is an identifier
pub word_form : (z : Bytes) → is_letter (get_or (take (word_len z) z) 0 0) ≡ true → is_identifier (take (word_len z) z) ≡ true
word_form [] h = absurd (cc)
word_form (b ∷ y) h =
    let e : word_len (b ∷ y) ≡ suc (chain_len goes_on_word b y) = ap (λ x. if x then 0 else 1 + chain_len goes_on_word b y) (some_byte (length y)) ∙ omega arith in
    subst (λ n. is_letter (get_or (take n (b ∷ y)) 0 0) ≡ true → is_identifier (take n (b ∷ y)) ≡ true) (sym e) (λ l. word_is_identifier b y l) h

-- an identifier is kept after blanks
pub name_kept : (w y : Bytes) → is_identifier w ≡ true → skip (w ++ y) ≡ w ++ y
name_kept [] y h = absurd (cc)
name_kept (b ∷ w) y h = skip_none b (w ++ y) (letter_no_blank b (both_left (is_letter b) (is_chain goes_on_word b w) h))
  where
    letter_no_blank : (b : ℕ) → is_letter b ≡ true → is_blank b ≡ false
    letter_no_blank b h = grind (arith, nat_tests)
