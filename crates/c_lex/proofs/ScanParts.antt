-- What stands at a place, from what is answered of its parts.
use Rattle.std.proofs.Common.{◌≡◌, ℕ, ℤ, pos, negsuc, suc, cond, ltb, ◌-◌, ◌-ℤ◌, nat_le, if◌then◌else◌, List, ◌<◌, ◌≤◌, ◌^◌, Bool, true, false, [], ◌∷◌, ◌++◌, length, take, drop, get_or, Some, Ok, Err, refl, sym, ap, ◌∙◌, subst, arith, take-append-drop}
use mir.Syntax.{w64}
use mir.Val.{to_z, of_z, SFits}
use Rattle.std.specs.Char.{is_ascii_digit}
use Rattle.std.proofs.lemmas.Int.{to_z_pos, to_z-of_z}
use Rattle.std.proofs.lemmas.Bool.Decides.{nat_tests}
use Rattle.std.proofs.lemmas.List.{length-take-le}
use Rattle.c_lex.specs.declared.fault.LexFault.{LexFault}
use Rattle.c_lex.specs.declared.scan.Scanned.TheVariants as scanned
use Rattle.c_lex.specs.declared.opening.Opening.TheVariants as opening
use Rattle.c_lex.specs.declared.token.Punct.{Punct as PunctKind}
use Rattle.c_lex.specs.declared.token.TokenKind.{TokenKind}
use Rattle.c_lex.specs.declared.token.TokenKind.TheVariants.{Punct}
use Rattle.c_lex.specs.Bytes.{Bytes, is_letter}
use Rattle.c_lex.specs.Spellings.{punct_spelling}
use Rattle.c_lex.specs.Pieces.{IsPiece, IsLongest}
use Rattle.c_lex.specs.Constants.{simple_escape, Character, Characters, char_value, is_quoted}
use Rattle.c_lex.specs.Tokens.{Macros, Found, IsWord, IsNumber, IsCharacter, IsText, Stands}
use Rattle.c_lex.specs.Reading.{Finds, IsPunctuator, NoPiece}
use Rattle.c_lex.proofs.Appends.{prefix_taken}
use Rattle.c_lex.proofs.Longest.{piece_not_empty, other_at_start}

-- what is answered of one thing is answered of another
pub finds_map : (P Q : Found → Type 0) → ((r : Found) → P r → Q r) → (r : Found) → Finds P r → Finds Q r
finds_map P Q f (Ok x) h = f (Ok x) h
finds_map P Q f (Err e) h = λ n. f (Err e) (h n)

-- the same where the answer is one thing
pub finds_one : (Q : Found → Type 0) (x : Found) → Q x → (r : Found) → Finds (λ s. s ≡ x) r → Finds Q r
finds_one Q x h r f = finds_map (λ s. s ≡ x) Q (λ s e. subst Q (sym e) h) r f

-- a fault is answered
pub finds_err : (P : Found → Type 0) (f : LexFault) → P (Err f) → Finds P (Err f)
finds_err P f h = λ _. h

-- what a constant's value is kept as in memory is the value, where it is no larger than an `int`
pub kept_pos : (v : ℤ) (n : ℕ) → v ≡ pos n → n < 2 ^ 31 → to_z w64 (of_z w64 v) ≡ v
kept_pos v n e h = let small : n < 2 ^ 63 = omega arith in subst (λ x. to_z w64 (of_z w64 x) ≡ x) (sym e) (to_z_pos w64 n small)

-- the value of a simple escape is small
escape_small : (b v : ℕ) → simple_escape b ≡ Some v → v ≤ 255
unfolding simple_escape
escape_small b v h = grind (arith, nat_tests)

-- the value of a character between `'` is small
character_small : {z rest : Bytes} {v : ℕ} → Character 39 z v rest → v ≤ 255
character_small (Character.bare {quote} {b} {rest} h) = grind (arith, nat_tests)
character_small (Character.simple {quote} {value} {z} {rest} b e h) = escape_small b value h
character_small (Character.octal w e d l n s) = s
character_small (Character.hexadecimal w e d n s) = s

-- the value of one character between `'` is small
one_small : {z : Bytes} {v : ℕ} {vs : List ℕ} → Characters 39 z (v ∷ vs) → v ≤ 255
one_small (Characters.more h d) = character_small h

-- the step of `kept_char`, by whether the value is below 128
kept_char_by : (v : ℕ) (x : Bool) → nat_le v 127 ≡ x → v ≤ 255 → SFits w64 (if x then pos v else pos v -ℤ pos 256)
kept_char_by v true e h = record { sfits = omega (arith, let s : v ≤ 127 = grind (arith, nat_tests) in s) }
kept_char_by v false e h = both (ltb v 256)
  where
    both : (x : Bool) → SFits w64 (cond x (negsuc (256 - suc v)) (pos (v - 256)))
    both true = record { sfits = omega arith }
    both false = record { sfits = omega arith }

-- a character's value is kept in memory
pub kept_char : (z : Bytes) (c : ℤ) (v : ℕ) → c ≡ char_value v → Characters 39 z (v ∷ []) → to_z w64 (of_z w64 c) ≡ c
kept_char z c v e d = to_z-of_z w64 c (subst (λ x. SFits w64 x) (sym e) (kept_char_by v (nat_le v 127) refl (one_small d)))

-- ---- words

-- the word at the start is an identifier's token
pub word_stands : (m : Macros) (at : ℕ) (z : Bytes) (begun : Bool) (kind : TokenKind) (n : ℕ) → n ≤ length z → IsLongest (take n z) (drop n z) → IsWord m (take n z) kind
    → Stands m at z begun opening.Letter (Ok (scanned.Take kind n))
word_stands m at z begun kind n h l w =
    subst (λ k. Stands m at z begun opening.Letter (Ok (scanned.Take kind k))) (length-take-le n z h) (Stands.word (take n z) (drop n z) (sym (take-append-drop n z)) l w)

-- the number at the start is what the word is
pub number_stands : (m : Macros) (at : ℕ) (z : Bytes) (begun : Bool) (r : Found) (n : ℕ) → IsLongest (take n z) (drop n z) → IsNumber at (take n z) r
    → Stands m at z begun opening.Digit r
number_stands m at z begun r n l h = Stands.number (take n z) (drop n z) (sym (take-append-drop n z)) l h

-- ---- literals

-- the character constant at the start
pub character_stands : (m : Macros) (at : ℕ) (z : Bytes) (begun : Bool) (r : Found) (n : ℕ) → is_quoted 39 (take n z) ≡ true → IsCharacter at (take n z) r
    → Stands m at z begun opening.Character r
character_stands m at z begun r n q h = Stands.character (take n z) (drop n z) (sym (take-append-drop n z)) q h

-- the string literal at the start
pub text_stands : (m : Macros) (at : ℕ) (z : Bytes) (begun : Bool) (r : Found) (n : ℕ) → is_quoted 34 (take n z) ≡ true → IsText at (take n z) r
    → Stands m at z begun opening.Text r
text_stands m at z begun r n q h = Stands.text (take n z) (drop n z) (sym (take-append-drop n z)) q h

-- where no first bytes are a whole literal, no prefix is
pub none_quoted : (quote : ℕ) (z : Bytes) → ((n : ℕ) → is_quoted quote (take n z) ≡ true → ⊥) → (w rest : Bytes) → z ≡ w ++ rest → is_quoted quote w ≡ true → ⊥
none_quoted quote z h w rest e q =
    h (length w) (subst (λ y. is_quoted quote (take (length w) y) ≡ true) (sym e) (subst (λ v. is_quoted quote v ≡ true) (sym (prefix_taken w rest)) q))

-- ---- punctuators

-- a punctuator is the longest piece where none there is longer
pub punctuator_is : (z : Bytes) (n : ℕ) (p : PunctKind) → is_letter (get_or z 0 0) ≡ false → is_ascii_digit (get_or z 0 0) ≡ false
    → n ≤ length z → take n z ≡ punct_spelling p → ((q : PunctKind) (rest : Bytes) → z ≡ punct_spelling q ++ rest → length (punct_spelling q) ≤ n) → IsPunctuator z p n
punctuator_is z n p l d h e f =
    let whole : z ≡ punct_spelling p ++ drop n z = sym (take-append-drop n z) ∙ ap (λ w. w ++ drop n z) e in
    let size : length (punct_spelling p) ≡ n = ap length (sym e) ∙ length-take-le n z h in (
      drop n z,
      whole,
      size,
      record {
        piece = IsPiece.punctuator p refl;
        longest = λ v x g q.
            let o = other_at_start z v x l d (whole ∙ g) q in
            let short : length (punct_spelling o.0) ≤ n = f o.0 x (subst (λ y. z ≡ y ++ x) o.1 (whole ∙ g)) in
            omega (arith, ap length o.1);
      },
    )

-- where no punctuator stands at the start, no piece does
pub no_punctuator : (z : Bytes) → is_letter (get_or z 0 0) ≡ false → is_ascii_digit (get_or z 0 0) ≡ false
    → ((q : PunctKind) (rest : Bytes) → z ≡ punct_spelling q ++ rest → length (punct_spelling q) ≡ 0) → NoPiece z
no_punctuator z l d f w rest e p =
    let o = other_at_start z w rest l d e p in
    let none : length (punct_spelling o.0) ≡ 0 = f o.0 rest (subst (λ y. z ≡ y ++ rest) o.1 e) in
    let some = piece_not_empty p in
    omega (arith, ap length o.1)

-- the punctuator at the start is its token
pub punctuator_stands : (m : Macros) (at : ℕ) (z : Bytes) (begun : Bool) (p : PunctKind) (n : ℕ) → IsPunctuator z p n → Stands m at z begun opening.Other (Ok (scanned.Take (Punct p) n))
punctuator_stands m at z begun p n h =
    subst (λ k. Stands m at z begun opening.Other (Ok (scanned.Take (Punct p) k))) h.2 (Stands.punctuator p h.0 h.1 h.3)
