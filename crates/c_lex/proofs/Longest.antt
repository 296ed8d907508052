-- The longest piece at the start of a text.
use Rattle.std.proofs.Common.{◌≡◌, ℕ, suc, ◌+◌, ◌≤◌, ◌<◌, get_or, Bool, true, false, ◌||◌, ◌==◌, [], ◌∷◌, ◌++◌, length, take, drop, refl, sym, ap, ◌∙◌, subst, arith}
use Rattle.std.specs.Char.{is_ascii_digit}
use Rattle.std.proofs.lemmas.Bool.Decides.{nat_tests}
use Rattle.c_lex.specs.declared.token.Punct.{Punct}
use Rattle.c_lex.specs.Bytes.{Bytes, is_space, is_letter, is_word}
use Rattle.c_lex.specs.Spellings.{punct_spelling}
use Rattle.c_lex.specs.Pieces.{goes_on_word, goes_on_number, is_chain, IsPiece, IsLongest, is_identifier, is_number}
use Rattle.c_lex.specs.Reading.{chain_len}
use Rattle.c_lex.proofs.Spelled.{is_elsewhere, punct_not_elsewhere}
use Rattle.c_lex.proofs.Runs.{run_is_number, run_longest, word_is_identifier, both_left, letter_no_digit, both_right, letter_elsewhere, digit_elsewhere, same_prefix}

-- ---- pieces by their first byte

-- a piece has a first byte
pub piece_not_empty : {w : Bytes} → IsPiece w → 1 ≤ length w
piece_not_empty {w = []} (IsPiece.identifier h) = absurd (cc)
piece_not_empty {w = []} (IsPiece.number h) = absurd (cc)
piece_not_empty {w = []} (IsPiece.punctuator p e) = absurd (let h = punct_not_elsewhere p in let q : is_elsewhere (punct_spelling p) ≡ true = ap is_elsewhere (sym e) in cc)
piece_not_empty {w = b ∷ w} h = omega arith

-- at a letter the pieces are words
word_piece : {v : Bytes} → IsPiece v → (c : ℕ) (u : Bytes) → v ≡ c ∷ u → is_letter c ≡ true → is_chain goes_on_word c u ≡ true
word_piece (IsPiece.identifier h) c u e l = both_right (is_letter c) (is_chain goes_on_word c u) (rw e at h)
word_piece (IsPiece.number h) c u e l = absurd (letter_no_digit c l (both_left (is_ascii_digit c) (is_chain goes_on_number c u) (rw e at h)))
word_piece (IsPiece.punctuator p s) c u e l = absurd (let h = punct_not_elsewhere p in let q = letter_elsewhere c u l in let f = ap is_elsewhere (sym s ∙ e) in cc)

-- at a digit the pieces are numbers
number_piece : {v : Bytes} → IsPiece v → (c : ℕ) (u : Bytes) → v ≡ c ∷ u → is_ascii_digit c ≡ true → is_chain goes_on_number c u ≡ true
number_piece (IsPiece.identifier h) c u e l = absurd (letter_no_digit c (both_left (is_letter c) (is_chain goes_on_word c u) (rw e at h)) l)
number_piece (IsPiece.number h) c u e l = both_right (is_ascii_digit c) (is_chain goes_on_number c u) (rw e at h)
number_piece (IsPiece.punctuator p s) c u e l = absurd (let h = punct_not_elsewhere p in let q = digit_elsewhere c u l in let f = ap is_elsewhere (sym s ∙ e) in cc)

-- elsewhere the pieces are punctuators
pub other_piece : {v : Bytes} → IsPiece v → (c : ℕ) (u : Bytes) → v ≡ c ∷ u → is_letter c ≡ false → is_ascii_digit c ≡ false → (p : Punct) × (v ≡ punct_spelling p)
other_piece (IsPiece.identifier h) c u e l d = absurd (let q = both_left (is_letter c) (is_chain goes_on_word c u) (rw e at h) in cc)
other_piece (IsPiece.number h) c u e l d = absurd (let q = both_left (is_ascii_digit c) (is_chain goes_on_number c u) (rw e at h) in cc)
other_piece (IsPiece.punctuator p s) c u e l d = (p, s)

-- no piece begins with white space or `#`
pub no_piece : {v : Bytes} → IsPiece v → (c : ℕ) (u : Bytes) → v ≡ c ∷ u → (is_space c || c == 35) ≡ true → ⊥
no_piece (IsPiece.identifier h) c u e s = let q = both_left (is_letter c) (is_chain goes_on_word c u) (rw e at h) in grind (arith, nat_tests)
no_piece (IsPiece.number h) c u e s = let q = both_left (is_ascii_digit c) (is_chain goes_on_number c u) (rw e at h) in grind (arith, nat_tests)
no_piece (IsPiece.punctuator p f) c u e s =
    let h = punct_not_elsewhere p in
    let g = ap is_elsewhere (sym f ∙ e) in
    let q : is_elsewhere (c ∷ u) ≡ true = by (is_word c) (is_space c) (c == 35) s in cc
  where
    by : (x y z : Bool) → (y || z) ≡ true → (x || y || z) ≡ true
    by true y z h = refl
    by false y z h = h

-- ---- the longest piece

-- the word at a letter is the longest piece there
pub word_longest : (b : ℕ) (y : Bytes) → is_letter b ≡ true → IsLongest (b ∷ take (chain_len goes_on_word b y) y) (drop (chain_len goes_on_word b y) y)
word_longest b y l = record {
  piece = IsPiece.identifier (word_is_identifier b y l);
  longest = λ v z e p. run_longest goes_on_word b y v z e (λ c u i s. word_piece p c u i (subst (λ d. is_letter d ≡ true) (sym s) l));
}

-- the number at a digit is the longest piece there
pub number_longest : (b : ℕ) (y : Bytes) → is_ascii_digit b ≡ true → IsLongest (b ∷ take (chain_len goes_on_number b y) y) (drop (chain_len goes_on_number b y) y)
number_longest b y l = record {
  piece = IsPiece.number (run_is_number b y l);
  longest = λ v z e p. run_longest goes_on_number b y v z e (λ c u i s. number_piece p c u i (subst (λ d. is_ascii_digit d ≡ true) (sym s) l));
}

-- ---- at the start of a text

-- the longest piece at a letter is as long as its run
pub word_at_start : (z : Bytes) (n : ℕ) → 0 < length z → is_letter (get_or z 0 0) ≡ true → n ≡ 1 + chain_len goes_on_word (get_or z 0 0) (drop 1 z)
    → IsLongest (take n z) (drop n z) × (is_identifier (take n z) ≡ true)
word_at_start [] n h l e = absurd (omega arith)
word_at_start (b ∷ y) n h l e =
    let f : suc (chain_len goes_on_word b y) ≡ n = omega arith in
    subst (λ k. IsLongest (take k (b ∷ y)) (drop k (b ∷ y)) × (is_identifier (take k (b ∷ y)) ≡ true)) f (word_longest b y l, word_is_identifier b y l)

-- the longest piece at a digit is as long as its run
pub number_at_start : (z : Bytes) (n : ℕ) → 0 < length z → is_ascii_digit (get_or z 0 0) ≡ true → n ≡ 1 + chain_len goes_on_number (get_or z 0 0) (drop 1 z)
    → IsLongest (take n z) (drop n z) × (is_number (take n z) ≡ true)
number_at_start [] n h l e = absurd (omega arith)
number_at_start (b ∷ y) n h l e =
    let f : suc (chain_len goes_on_number b y) ≡ n = omega arith in
    subst (λ k. IsLongest (take k (b ∷ y)) (drop k (b ∷ y)) × (is_number (take k (b ∷ y)) ≡ true)) f (number_longest b y l, run_is_number b y l)

-- where a text begins no word and no number, each piece at its start is a punctuator
pub other_at_start : (z v x : Bytes) → is_letter (get_or z 0 0) ≡ false → is_ascii_digit (get_or z 0 0) ≡ false → z ≡ v ++ x → IsPiece v → (p : Punct) × (v ≡ punct_spelling p)
other_at_start z [] x l d e q = let h = piece_not_empty q in absurd (omega arith)
other_at_start z (c ∷ u) x l d e q =
    let first : get_or z 0 0 ≡ c = ap (λ y. get_or y 0 0) e in
    other_piece q c u refl (subst (λ b. is_letter b ≡ false) first l) (subst (λ b. is_ascii_digit b ≡ false) first d)

-- one longest piece at most stands at the start
pub same_piece : (w rest v z : Bytes) → w ++ rest ≡ v ++ z → IsLongest w rest → IsLongest v z → (w ≡ v) × (rest ≡ z)
same_piece w rest v z e h i =
    let p = h.longest v z e i.piece in
    let q = i.longest w rest (sym e) h.piece in
    same_prefix w rest v z e (omega arith)
