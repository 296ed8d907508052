-- Runs of bytes, and how the forms of pieces begin.
use Rattle.std.proofs.Common.{◌≡◌, ℕ, suc, ◌≤◌, Bool, true, false, ◌&&◌, ◌||◌, ◌==◌, if◌then◌else◌, [], ◌∷◌, ◌++◌, length, take, drop, refl, sym, ap, ◌∙◌, subst, arith, take-append-drop}
use Rattle.std.specs.Char.{is_ascii_digit}
use Rattle.std.proofs.lemmas.Bool.Decides.{nat_tests}
use Rattle.std.proofs.lemmas.List.{length-take-le}
use Rattle.c_lex.specs.declared.token.Keyword.{Keyword}
use Rattle.c_lex.specs.declared.token.Punct.{Punct as PunctKind}
use Rattle.c_lex.specs.Bytes.{Bytes, is_space, is_letter}
use Rattle.c_lex.specs.Spellings.{keyword_spelling, punct_spelling}
use Rattle.c_lex.specs.Pieces.{goes_on_word, goes_on_number, is_chain, is_identifier, is_number}
use Rattle.c_lex.specs.Reading.{chain_len}
use Rattle.c_lex.proofs.Spelled.{is_elsewhere, punct_not_elsewhere, punct_short, keyword_identifier}

-- ---- tests

-- what holds of two tests holds of the first
pub both_left : (p q : Bool) → (p && q) ≡ true → p ≡ true
both_left true q h = refl
both_left false q h = absurd (cc)

-- what holds of two tests holds of the second
pub both_right : (p q : Bool) → (p && q) ≡ true → q ≡ true
both_right true q h = h
both_right false q h = absurd (cc)

-- no byte is a letter and a digit
pub letter_no_digit : (b : ℕ) → is_letter b ≡ true → is_ascii_digit b ≡ true → ⊥
letter_no_digit b h d = grind (arith, nat_tests)

-- no punctuator begins with a letter
pub letter_elsewhere : (b : ℕ) (w : Bytes) → is_letter b ≡ true → is_elsewhere (b ∷ w) ≡ true
letter_elsewhere b w h = ap (λ x. x || is_ascii_digit b || is_space b || b == 35) h

-- no punctuator begins with a digit
pub digit_elsewhere : (b : ℕ) (w : Bytes) → is_ascii_digit b ≡ true → is_elsewhere (b ∷ w) ≡ true
digit_elsewhere b w h = by (is_letter b) (is_ascii_digit b) h
  where
    by : (x y : Bool) → y ≡ true → (x || y || is_space b || b == 35) ≡ true
    by true y e = refl
    by false true e = refl
    by false false e = absurd (cc)

-- ---- runs

-- the step of `run_is_chain`, by whether the next byte goes on
run_by : (goes : ℕ → ℕ → Bool) (before b : ℕ) (z : Bytes) (x : Bool) → goes before b ≡ x → is_chain goes b (take (chain_len goes b z) z) ≡ true
    → is_chain goes before (take (if x then suc (chain_len goes b z) else 0) (b ∷ z)) ≡ true
run_by goes before b z true e h = ap (λ y. y && is_chain goes b (take (chain_len goes b z) z)) e ∙ h
run_by goes before b z false e h = refl

-- the bytes that go on are a chain
run_is_chain : (goes : ℕ → ℕ → Bool) (before : ℕ) (z : Bytes) → is_chain goes before (take (chain_len goes before z) z) ≡ true
run_is_chain goes before [] = refl
run_is_chain goes before (b ∷ z) = run_by goes before b z (goes before b) refl (run_is_chain goes b z)

-- the step of `chain_within`, by whether the next byte goes on
within_by : (goes : ℕ → ℕ → Bool) (before b : ℕ) (z v : Bytes) (x : Bool) → goes before b ≡ x → goes before b ≡ true → length v ≤ chain_len goes b z
    → suc (length v) ≤ (if x then suc (chain_len goes b z) else 0)
within_by goes before b z v true e g h = omega arith
within_by goes before b z v false e g h = absurd (cc)

-- no longer prefix is a chain
chain_within : (goes : ℕ → ℕ → Bool) (before : ℕ) (z v x : Bytes) → z ≡ v ++ x → is_chain goes before v ≡ true → length v ≤ chain_len goes before z
chain_within goes before z [] x e h = omega arith
chain_within goes before [] (c ∷ v) x e h = absurd (cc)
chain_within goes before (b ∷ z) (c ∷ v) x e h =
    let same : c ≡ b = cc in
    let tail : z ≡ v ++ x = cc in
    let here = both_left (goes before c) (is_chain goes c v) h in
    let later = both_right (goes before c) (is_chain goes c v) h in
    within_by goes before b z v (goes before b) refl (subst (λ y. goes before y ≡ true) same here)
    (chain_within goes b z v x tail (subst (λ y. is_chain goes y v ≡ true) same later))

-- the step of `chain_len_within`, by whether the next byte goes on
len_by : (x : Bool) (n m : ℕ) → n ≤ m → (if x then suc n else 0) ≤ suc m
len_by true n m h = omega arith
len_by false n m h = omega arith

-- no more bytes go on than there are
pub chain_len_within : (goes : ℕ → ℕ → Bool) (before : ℕ) (z : Bytes) → chain_len goes before z ≤ length z
chain_len_within goes before [] = omega arith
chain_len_within goes before (b ∷ z) = len_by (goes before b) (chain_len goes b z) (length z) (chain_len_within goes b z)

-- ---- the longest run

-- a run is as long as each piece at its place that is a chain after its first byte
pub run_longest : (goes : ℕ → ℕ → Bool) (b : ℕ) (y v z : Bytes) → (b ∷ take (chain_len goes b y) y) ++ drop (chain_len goes b y) y ≡ v ++ z
    → ((c : ℕ) (u : Bytes) → v ≡ c ∷ u → c ≡ b → is_chain goes c u ≡ true) → length v ≤ length (b ∷ take (chain_len goes b y) y)
run_longest goes b y [] z e f = omega arith
run_longest goes b y (c ∷ v) z e f =
    let n = chain_len goes b y in
    let whole : b ∷ y ≡ c ∷ (v ++ z) = ap (λ t. b ∷ t) (sym (take-append-drop n y)) ∙ e in
    let same : c ≡ b = cc in
    let tail : y ≡ v ++ z = cc in
    let chain = subst (λ d. is_chain goes d v ≡ true) same (f c v refl same) in
    let short = chain_within goes b y v z tail chain in
    let fits = length-take-le n y (chain_len_within goes b y) in
    omega arith

-- a letter and what goes on it are an identifier
pub word_is_identifier : (b : ℕ) (y : Bytes) → is_letter b ≡ true → is_identifier (b ∷ take (chain_len goes_on_word b y) y) ≡ true
word_is_identifier b y l = ap (λ x. x && is_chain goes_on_word b (take (chain_len goes_on_word b y) y)) l ∙ run_is_chain goes_on_word b y

-- a digit and what goes on it are a number
pub run_is_number : (b : ℕ) (y : Bytes) → is_ascii_digit b ≡ true → is_number (b ∷ take (chain_len goes_on_number b y) y) ≡ true
run_is_number b y l = ap (λ x. x && is_chain goes_on_number b (take (chain_len goes_on_number b y) y)) l ∙ run_is_chain goes_on_number b y

-- ---- forms that differ

-- an identifier is no punctuator
pub identifier_no_punct : (w : Bytes) (p : PunctKind) → is_identifier w ≡ true → w ≡ punct_spelling p → ⊥
identifier_no_punct [] p h e = absurd (cc)
identifier_no_punct (b ∷ w) p h e =
    let q = punct_not_elsewhere p in
    let f = ap is_elsewhere (sym e) in
    let g = letter_elsewhere b w (both_left (is_letter b) (is_chain goes_on_word b w) h) in
    absurd (cc)

-- what is spelled as a keyword has the form of an identifier
pub keyword_is_identifier : (w : Bytes) (k : Keyword) → w ≡ keyword_spelling k → is_identifier w ≡ true
keyword_is_identifier w k e = ap is_identifier e ∙ keyword_identifier k

-- no number is an identifier
pub number_no_identifier : (w : Bytes) → is_number w ≡ true → is_identifier w ≡ true → ⊥
number_no_identifier [] h i = absurd (cc)
number_no_identifier (b ∷ w) h i = letter_no_digit b (both_left (is_letter b) (is_chain goes_on_word b w) i) (both_left (is_ascii_digit b) (is_chain goes_on_number b w) h)

-- no number is a punctuator
pub number_no_punct : (w : Bytes) (p : PunctKind) → is_number w ≡ true → w ≡ punct_spelling p → ⊥
number_no_punct [] p h e = absurd (cc)
number_no_punct (b ∷ w) p h e =
    let q = punct_not_elsewhere p in
    let f = ap is_elsewhere (sym e) in
    let g = digit_elsewhere b w (both_left (is_ascii_digit b) (is_chain goes_on_number b w) h) in
    absurd (cc)

-- no punctuator is longer than three bytes
pub at_most_three : (p : PunctKind) → length (punct_spelling p) ≤ 3
at_most_three p = let h = punct_short p in grind (arith, nat_tests)

-- ---- prefixes

-- prefixes of one length of one text are equal
pub same_prefix : (a b c d : Bytes) → a ++ b ≡ c ++ d → length a ≡ length c → (a ≡ c) × (b ≡ d)
same_prefix [] b [] d e h = (refl, e)
same_prefix [] b (y ∷ c) d e h = absurd (omega arith)
same_prefix (x ∷ a) b [] d e h = absurd (omega arith)
same_prefix (x ∷ a) b (y ∷ c) d e h =
    let p : x ≡ y = cc in
    let q : a ++ b ≡ c ++ d = cc in
    let r = same_prefix a b c d q (omega arith) in
    (let s = r.0 in cc, r.1)
