-- Punctuators, keywords and prefix operators in texts that are put together from parts.
use Rattle.std.proofs.Common.{◌≡◌, ℕ, ◌≤◌, Bool, true, false, not, ◌||◌, ◌==◌, List, [], ◌∷◌, ◌++◌, length, codes, refl, sym, ap, ◌∙◌, subst, arith}
use Rattle.std.proofs.lemmas.Bool.Decides.{nat_tests}
use Rattle.std.specs.Char.{is_ascii_digit}
use Rattle.c_lex.specs.declared.opening.Opening.TheVariants as opening
use Rattle.c_lex.specs.declared.token.Keyword.{Keyword}
use Rattle.c_lex.specs.declared.token.Punct.{Punct as Mark}
use Rattle.c_lex.specs.declared.token.Punct.TheVariants as mark
use Rattle.c_lex.specs.declared.token.TokenKind.{TokenKind}
use Rattle.c_lex.specs.declared.token.TokenKind.TheVariants.{Word, Punct}
use Rattle.c_lex.specs.Bytes.{Bytes, is_letter}
use Rattle.c_lex.specs.Spellings.{keyword_spelling, punct_spelling}
use Rattle.c_lex.specs.Pieces.{goes_on_word, goes_on_number, is_chain, IsPiece, IsLongest}
use Rattle.c_lex.specs.Openings.{opening_of}
use Rattle.c_lex.specs.Tokens.{Macros, IsWord, Stands}
use Rattle.c_lex.proofs.Spelled.{keyword_identifier}
use Rattle.c_lex.proofs.Runs.{both_left}
use Rattle.c_lex.proofs.Longest.{piece_not_empty}
use Rattle.c_splice.specs.Seams.{is_seam, begins_seam, CutsInto, IsLoose, IsTight}
use Rattle.c_splice.specs.Words.{Spells}
use Rattle.c_splice.proofs.Pieces.{seam_longest, alone_longest}
use Rattle.c_splice.proofs.Openings.{opening_seam}
use Rattle.c_splice.proofs.Steps.{passes, takes_by}
use Rattle.c_splice.proofs.TightWords.{tight_word}

-- a punctuator of one byte that is the longest piece there is its token, and what follows is cut as
-- it is by itself
one_mark : {m : Macros} (p : Mark) (c : ℕ) (s : Bytes) (ls : List TokenKind) → punct_spelling p ≡ c ∷ []
    → opening_of (c ∷ s) ≡ opening.Other → IsLongest (c ∷ []) s
    → CutsInto true m s ls → CutsInto true m (c ∷ s) (Punct p ∷ ls)
one_mark {m} p c s ls e o h g =
    let some = piece_not_empty (IsPiece.punctuator p refl) in
    let opens : opening_of (punct_spelling p ++ s) ≡ opening.Other =
    ap (λ q. opening_of (q ++ s)) e ∙ o in
    let longest = subst (λ q. IsLongest q s) (sym e) h in
    subst (λ q. CutsInto true m (q ++ s) (Punct p ∷ ls)) e
    (takes_by (punct_spelling p) s (Punct p) opening.Other ls some opens
    (λ at. Stands.punctuator p s refl longest) g)

-- ---- one byte that is a token, whatever follows

-- a text of one byte, or one that begins with no seam
abbrev is_lone : Bytes → Bool
is_lone [] = true
is_lone (b ∷ []) = true
is_lone (b ∷ c ∷ w) = not (is_seam b)

-- a seam that begins a punctuator is the whole of it
punct_lone : (p : Mark) → is_lone (punct_spelling p) ≡ true
unfolding punct_spelling
punct_lone mark.OpenParen = refl
punct_lone _ = refl

-- a seam is no letter and no digit
seam_apart : (b : ℕ) → is_seam b ≡ true → (is_letter b ≡ false) × (is_ascii_digit b ≡ false)
seam_apart b s = (grind (arith, nat_tests), grind (arith, nat_tests))

-- so a piece that begins with a seam is that byte alone
lone_piece : (b : ℕ) (v : Bytes) → is_seam b ≡ true → IsPiece (b ∷ v) → v ≡ []
lone_piece b [] s p = refl
lone_piece b (c ∷ v) s (IsPiece.identifier h) =
    let n = (seam_apart b s).0 in
    let q = both_left (is_letter b) (is_chain goes_on_word b (c ∷ v)) h in
    absurd (cc)
lone_piece b (c ∷ v) s (IsPiece.number h) =
    let n = (seam_apart b s).1 in
    let q = both_left (is_ascii_digit b) (is_chain goes_on_number b (c ∷ v)) h in
    absurd (cc)
lone_piece b (c ∷ v) s (IsPiece.punctuator p e) =
    let l = punct_lone p in
    let q : is_lone (b ∷ c ∷ v) ≡ true = ap is_lone e ∙ l in
    let n = ap not s in
    absurd (cc)

-- and it is the longest piece there
lone_longest : (b : ℕ) (rest : Bytes) → is_seam b ≡ true → IsPiece (b ∷ []) → IsLongest (b ∷ []) rest
lone_longest b rest s p = record { piece = p; longest = λ v z e q. short v z e q }
  where
    short : (v z : Bytes) → (b ∷ []) ++ rest ≡ v ++ z → IsPiece v → length v ≤ length (b ∷ [])
    short [] z e q = omega arith
    short (c ∷ v) z e q =
        let same : c ≡ b = cc in
        let none = lone_piece c v (subst (λ d. is_seam d ≡ true) (sym same) s) q in
        omega (arith, ap length none)

-- so a punctuator that is a seam is its token, whatever follows
pub lone_loose : {m : Macros} (p : Mark) (b : ℕ) → punct_spelling p ≡ b ∷ [] → is_seam b ≡ true
    → ((rest : Bytes) → opening_of (b ∷ rest) ≡ opening.Other) → IsLoose m (b ∷ []) (Punct p ∷ [])
lone_loose {m} p b e s o = record {
  before = λ rest ls g.
      one_mark p b rest ls e (o rest) (lone_longest b rest s (IsPiece.punctuator p (sym e))) g;
}

-- an opening parenthesis
pub open_paren : {m : Macros} → IsLoose m (codes "(") (Punct mark.OpenParen ∷ [])
unfolding punct_spelling
open_paren = lone_loose mark.OpenParen 40 refl refl (λ rest. refl)

-- a closing parenthesis
pub close_paren : {m : Macros} → IsLoose m (codes ")") (Punct mark.CloseParen ∷ [])
unfolding punct_spelling
close_paren = lone_loose mark.CloseParen 41 refl refl (λ rest. refl)

-- an opening bracket
pub open_bracket : {m : Macros} → IsLoose m (codes "[") (Punct mark.OpenBracket ∷ [])
unfolding punct_spelling
open_bracket = lone_loose mark.OpenBracket 91 refl refl (λ rest. refl)

-- a closing bracket
pub close_bracket : {m : Macros} → IsLoose m (codes "]") (Punct mark.CloseBracket ∷ [])
unfolding punct_spelling
close_bracket = lone_loose mark.CloseBracket 93 refl refl (λ rest. refl)

-- an opening brace
pub open_brace : {m : Macros} → IsLoose m (codes "{") (Punct mark.OpenBrace ∷ [])
unfolding punct_spelling
open_brace = lone_loose mark.OpenBrace 123 refl refl (λ rest. refl)

-- a closing brace
pub close_brace : {m : Macros} → IsLoose m (codes "}") (Punct mark.CloseBrace ∷ [])
unfolding punct_spelling
close_brace = lone_loose mark.CloseBrace 125 refl refl (λ rest. refl)

-- a comma
pub comma_mark : {m : Macros} → IsLoose m (codes ",") (Punct mark.Comma ∷ [])
unfolding punct_spelling
comma_mark = lone_loose mark.Comma 44 refl refl (λ rest. refl)

-- a space is no token
pub space : {m : Macros} → IsLoose m (codes " ") []
space {m} =
    record {
      before = λ rest ls g.
          passes (codes " ") rest 1 ls refl (omega arith) (λ at. Stands.space) g;
    }

-- ---- punctuators and keywords before a seam

-- what a punctuator begins with before a space
mark_opens : (p : Mark) → opening.Other ≡ opening_of (punct_spelling p ++ 32 ∷ [])
unfolding punct_spelling
mark_opens mark.OpenParen = refl
mark_opens _ = refl

-- a punctuator is its token before a seam, and what follows is cut as it is by itself
mark_before : {m : Macros} (p : Mark) (s : Bytes) (ls : List TokenKind) → begins_seam s ≡ true
    → CutsInto true m s ls → CutsInto true m (punct_spelling p ++ s) (Punct p ∷ ls)
mark_before p [] ls i g = absurd (cc)
mark_before p (b ∷ s) ls i g =
    let w = punct_spelling p in
    let some = piece_not_empty (IsPiece.punctuator p refl) in
    let opens = opening_seam w (32 ∷ []) s b opening.Other some i (mark_opens p) refl in
    let longest = seam_longest w s b some i (IsPiece.punctuator p refl) in
    takes_by w (b ∷ s) (Punct p) opening.Other ls some (sym opens)
    (λ at. Stands.punctuator p (b ∷ s) refl longest) g

-- a punctuator is cut into its token before a seam
pub mark_tight : {m : Macros} (p : Mark) → IsTight m (punct_spelling p) (Punct p ∷ [])
mark_tight p = record { before = mark_before p }

-- so is a keyword
pub keyword_tight : {m : Macros} (k : Keyword) → IsTight m (keyword_spelling k) (Word k ∷ [])
keyword_tight k = tight_word (Spells.word (keyword_identifier k) (IsWord.keyword k refl))

-- ---- a prefix operator directly before its operand

-- what an operand begins with: a letter, a digit, a quote or a parenthesis
abbrev pub begins_operand : Bytes → Bool
begins_operand [] = false
begins_operand (b ∷ z) = is_letter b || is_ascii_digit b || b == 39 || b == 40

-- no text of two bytes: the sign, and one that an operand begins with
abbrev is_apart : ℕ → Bytes → Bool
is_apart c (d ∷ b ∷ []) = not (d == c) || not (begins_operand (b ∷ []))
is_apart c _ = true

-- `+` and what an operand begins with are no punctuator
punct_apart_plus : (p : Mark) → is_apart 43 (punct_spelling p) ≡ true
unfolding punct_spelling
punct_apart_plus mark.OpenParen = refl
punct_apart_plus _ = refl

-- nor are `-` and it
punct_apart_minus : (p : Mark) → is_apart 45 (punct_spelling p) ≡ true
unfolding punct_spelling
punct_apart_minus mark.OpenParen = refl
punct_apart_minus _ = refl

-- nor `!`
punct_apart_not : (p : Mark) → is_apart 33 (punct_spelling p) ≡ true
unfolding punct_spelling
punct_apart_not mark.OpenParen = refl
punct_apart_not _ = refl

-- nor `~`
punct_apart_tilde : (p : Mark) → is_apart 126 (punct_spelling p) ≡ true
unfolding punct_spelling
punct_apart_tilde mark.OpenParen = refl
punct_apart_tilde _ = refl

-- so they are no piece
no_pair : (c b : ℕ) → is_letter c ≡ false → is_ascii_digit c ≡ false
    → ((p : Mark) → is_apart c (punct_spelling p) ≡ true) → begins_operand (b ∷ []) ≡ true
    → IsPiece (c ∷ b ∷ []) → ⊥
no_pair c b l d f i (IsPiece.identifier h) =
    let q = both_left (is_letter c) (is_chain goes_on_word c (b ∷ [])) h in absurd (cc)
no_pair c b l d f i (IsPiece.number h) =
    let q = both_left (is_ascii_digit c) (is_chain goes_on_number c (b ∷ [])) h in absurd (cc)
no_pair c b l d f i (IsPiece.punctuator p e) =
    let q : is_apart c (c ∷ b ∷ []) ≡ true = ap (is_apart c) e ∙ f p in
    grind (arith, nat_tests)

-- so a prefix operator is its token directly before an operand
pub sign_before : {m : Macros} (p : Mark) (c : ℕ) (s : Bytes) (ls : List TokenKind)
    → punct_spelling p ≡ c ∷ [] → is_letter c ≡ false → is_ascii_digit c ≡ false
    → ((q : Mark) → is_apart c (punct_spelling q) ≡ true)
    → ((rest : Bytes) → opening_of (c ∷ rest) ≡ opening.Other) → begins_operand s ≡ true
    → CutsInto true m s ls → CutsInto true m (c ∷ s) (Punct p ∷ ls)
sign_before p c [] ls e l d f o i g = absurd (cc)
sign_before p c (b ∷ s) ls e l d f o i g =
    let longest = alone_longest c b s (IsPiece.punctuator p (sym e)) (no_pair c b l d f i) in
    one_mark p c (b ∷ s) ls e (o (b ∷ s)) longest g

-- what begins with an operand does so whatever follows
operand_append : (x s : Bytes) → begins_operand x ≡ true → begins_operand (x ++ s) ≡ true
operand_append [] s i = absurd (cc)
operand_append (b ∷ x) s i = i

-- `+` before an operand
pub plus_tight : {m : Macros} {x : Bytes} {ks : List TokenKind} → begins_operand x ≡ true
    → IsTight m x ks → IsTight m (codes "+" ++ x) (Punct mark.Plus ∷ ks)
unfolding punct_spelling
plus_tight {x = x} {ks = ks} i f =
    record {
      before = λ s ls j g.
          sign_before mark.Plus 43 (x ++ s) (ks ++ ls) refl refl refl punct_apart_plus (λ rest. refl)
          (operand_append x s i) (f.before s ls j g);
    }

-- `-` before an operand
pub minus_tight : {m : Macros} {x : Bytes} {ks : List TokenKind} → begins_operand x ≡ true
    → IsTight m x ks → IsTight m (codes "-" ++ x) (Punct mark.Minus ∷ ks)
unfolding punct_spelling
minus_tight {x = x} {ks = ks} i f =
    record {
      before = λ s ls j g.
          sign_before mark.Minus 45 (x ++ s) (ks ++ ls) refl refl refl punct_apart_minus (λ rest. refl)
          (operand_append x s i) (f.before s ls j g);
    }

-- `!` before an operand
pub not_tight : {m : Macros} {x : Bytes} {ks : List TokenKind} → begins_operand x ≡ true
    → IsTight m x ks → IsTight m (codes "!" ++ x) (Punct mark.Not ∷ ks)
unfolding punct_spelling
not_tight {x = x} {ks = ks} i f =
    record {
      before = λ s ls j g.
          sign_before mark.Not 33 (x ++ s) (ks ++ ls) refl refl refl punct_apart_not (λ rest. refl)
          (operand_append x s i) (f.before s ls j g);
    }

-- `~` before an operand
pub tilde_tight : {m : Macros} {x : Bytes} {ks : List TokenKind} → begins_operand x ≡ true
    → IsTight m x ks → IsTight m (codes "~" ++ x) (Punct mark.Tilde ∷ ks)
unfolding punct_spelling
tilde_tight {x = x} {ks = ks} i f =
    record {
      before = λ s ls j g.
          sign_before mark.Tilde 126 (x ++ s) (ks ++ ls) refl refl refl punct_apart_tilde (λ rest. refl)
          (operand_append x s i) (f.before s ls j g);
    }
