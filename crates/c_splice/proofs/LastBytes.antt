-- Words and literals end calmly.
use Rattle.std.proofs.Common.{◌≡◌, ℕ, suc, ◌≤◌, Bool, true, false, ◌==◌, if◌then◌else◌, [], ◌∷◌, length, refl, sym, subst, arith}
use Rattle.std.proofs.lemmas.Bool.Decides.{nat_tests}
use Rattle.std.specs.Char.{is_ascii_digit}
use Rattle.c_lex.specs.declared.token.TokenKind.{TokenKind}
use Rattle.c_lex.specs.Bytes.{Bytes, is_letter}
use Rattle.c_lex.specs.Pieces.{goes_on_word, goes_on_number, is_chain, is_identifier, is_number}
use Rattle.c_lex.specs.Constants.{closes, is_quoted}
use Rattle.c_lex.specs.Tokens.{Macros}
use Rattle.c_lex.proofs.Runs.{both_left, both_right}
use Rattle.c_splice.specs.Edges.{is_calm}
use Rattle.c_splice.specs.Words.{Spells}

-- a letter is calm
letter_calm : (b : ℕ) → is_letter b ≡ true → is_calm (b ∷ []) ≡ true
letter_calm b h = grind (arith, nat_tests)

-- so is a digit
digit_calm : (b : ℕ) → is_ascii_digit b ≡ true → is_calm (b ∷ []) ≡ true
digit_calm b h = grind (arith, nat_tests)

-- and what goes on a word
word_calm : (a b : ℕ) → goes_on_word a b ≡ true → is_calm (b ∷ []) ≡ true
word_calm a b h = grind (arith, nat_tests)

-- and what goes on a number
number_calm : (a b : ℕ) → goes_on_number a b ≡ true → is_calm (b ∷ []) ≡ true
number_calm a b h = grind (arith, nat_tests)

-- a word or a number whose bytes are calm ends calmly
chain_calm : (goes : ℕ → ℕ → Bool) → ((a b : ℕ) → goes a b ≡ true → is_calm (b ∷ []) ≡ true)
    → (c : ℕ) (w : Bytes) → is_chain goes c w ≡ true → is_calm (c ∷ []) ≡ true
    → is_calm (c ∷ w) ≡ true
chain_calm goes f c [] h i = i
chain_calm goes f c (b ∷ w) h i =
    chain_calm goes f b w (both_right (goes c b) (is_chain goes b w) h)
    (f c b (both_left (goes c b) (is_chain goes b w) h))

-- a last byte that closes a literal is its quote
last_by : (q b : ℕ) (x passed y : Bool) → is_calm (q ∷ []) ≡ true → (b == q) ≡ y
    → (if x then false else if passed then false else if y then true else false) ≡ true
    → is_calm (b ∷ []) ≡ true
last_by q b true passed y c e h = absurd (cc)
last_by q b false true y c e h = absurd (cc)
last_by q b false false true c e h =
    let same : b ≡ q = grind (arith, nat_tests) in subst (λ d. is_calm (d ∷ []) ≡ true) (sym same) c
last_by q b false false false c e h = absurd (cc)

-- before the last byte, what closes a literal is in what follows
more_by : (x passed y u v w : Bool) (G : Type 0) → (u ≡ true → G) → (w ≡ true → G) → v ≡ false
    → (if x then false else if passed then u else if y then v else w) ≡ true → G
more_by true passed y u v w G f g n h = absurd (cc)
more_by false true y u v w G f g n h = f h
more_by false false true u v w G f g n h = absurd (cc)
more_by false false false u v w G f g n h = g h

-- what closes a literal ends with its quote
closes_calm : (q : ℕ) (passed : Bool) (z : Bytes) → is_calm (q ∷ []) ≡ true
    → closes q passed z ≡ true → (1 ≤ length z) × (is_calm z ≡ true)
closes_calm q passed [] c h = absurd (cc)
closes_calm q passed (b ∷ []) c h = (omega arith, last_by q b (b == 10) passed (b == q) c refl h)
closes_calm q passed (b ∷ d ∷ z) c h = (
  omega arith,
  more_by (b == 10) passed (b == q) (closes q false (d ∷ z)) (length (d ∷ z) == 0)
      (closes q (b == 92) (d ∷ z)) (is_calm (d ∷ z) ≡ true)
      (λ i. (closes_calm q false (d ∷ z) c i).1) (λ i. (closes_calm q (b == 92) (d ∷ z) c i).1)
      (none_empty (length z)) h,
)
  where
    none_empty : (n : ℕ) → (suc n == 0) ≡ false
    none_empty n = grind (arith, nat_tests)

-- a byte before what ends calmly
tail_calm : (b : ℕ) (z : Bytes) → (1 ≤ length z) × (is_calm z ≡ true) → is_calm (b ∷ z) ≡ true
tail_calm b [] h = absurd (let l = h.0 in omega arith)
tail_calm b (c ∷ z) h = h.1

-- an identifier ends calmly
pub identifier_calm : (w : Bytes) → is_identifier w ≡ true → is_calm w ≡ true
identifier_calm [] i = absurd (cc)
identifier_calm (c ∷ w) i =
    chain_calm goes_on_word word_calm c w (both_right (is_letter c) (is_chain goes_on_word c w) i)
    (letter_calm c (both_left (is_letter c) (is_chain goes_on_word c w) i))

-- so does a number
pub number_word_calm : (w : Bytes) → is_number w ≡ true → is_calm w ≡ true
number_word_calm [] i = absurd (cc)
number_word_calm (c ∷ w) i =
    chain_calm goes_on_number number_calm c w
    (both_right (is_ascii_digit c) (is_chain goes_on_number c w) i)
    (digit_calm c (both_left (is_ascii_digit c) (is_chain goes_on_number c w) i))

-- and a literal
pub quoted_calm : (q : ℕ) (w : Bytes) → is_calm (q ∷ []) ≡ true → is_quoted q w ≡ true
    → is_calm w ≡ true
quoted_calm q [] c i = absurd (cc)
quoted_calm q (b ∷ w) c i =
    tail_calm b w (closes_calm q false w c (both_right (b == q) (closes q false w) i))

-- the word of a token is not empty
some_of : {m : Macros} {w : Bytes} {k : TokenKind} → Spells m w k → 1 ≤ length w
some_of {w = []} (Spells.word i s) = absurd (cc)
some_of {w = c ∷ w} (Spells.word i s) = omega arith
some_of {w = []} (Spells.number n i v s) = absurd (cc)
some_of {w = c ∷ w} (Spells.number n i v s) = omega arith
some_of {w = []} (Spells.character v i s) = absurd (cc)
some_of {w = c ∷ w} (Spells.character v i s) = omega arith

-- and it ends calmly
pub spelled_calm : {m : Macros} {w : Bytes} {k : TokenKind} → Spells m w k
    → (is_calm w ≡ true) × (1 ≤ length w)
spelled_calm {m} {w = w} (Spells.word i s) = (identifier_calm w i, some_of {m = m} (Spells.word i s))
spelled_calm {m} {w = w} (Spells.number n i v s) =
    (number_word_calm w i, some_of {m = m} (Spells.number n i v s))
spelled_calm {m} {w = w} (Spells.character v i s) =
    (quoted_calm 39 w refl i, some_of {m = m} (Spells.character v i s))
