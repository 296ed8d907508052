-- Lists of parts with commas between them, read by descent.
use Rattle.std.proofs.Common.{◌≡◌, ℕ, zero, suc, Bool, true, false, List, [], ◌∷◌, refl}
use Rattle.c_lex.specs.declared.token.TokenKind.TheVariants as kind
use Rattle.c_lex.specs.declared.token.Punct.TheVariants as mark
use Rattle.c_tree.specs.declared.place.Span.{Span}
use Rattle.c_grammar.specs.declared.terminal.Terminal.{Terminal}
use Rattle.c_grammar.specs.Grammar.{Tokens}
use Rattle.c_grammar.specs.Terminals.{lookahead, is_comma}
use Rattle.c_grammar.specs.Descent.{Reading, after_comma, listed_by, listed}
use Rattle.c_grammar.proofs.Fits.{Fits, Kept, part_fits, kept_fits, lookahead_is, comma}

-- The parts and the lists of a grammar: what each is, and what begins it, with the room before it and with one more.
pub record Listing {A : Type 0} (ends : Terminal → Bool) (One : Tokens → A → Tokens → Type 0) (Many : Tokens → List A → Tokens → Type 0) (V W X Y : Tokens → Tokens
    → Type 0) : Type 0 where
  pub none : (a : Tokens) → X a a
  pub last : {a b : Tokens} {x : A} → One a x b → Many a (x ∷ []) b
  pub last_comma : {a b : Tokens} {x : A} {s : Span} → ends (lookahead b) ≡ true → One a x ((kind.Punct mark.Comma, s) ∷ b) → Many a (x ∷ []) b
  pub more : {a b c : Tokens} {x : A} {xs : List A} {s : Span} → One a x ((kind.Punct mark.Comma, s) ∷ b) → Many b xs c → Many a (x ∷ xs) c
  pub begins_last : {a b : Tokens} → V a b → X a b
  pub deeper_last : {a b : Tokens} → W a b → Y a b
  pub begins_more : {a b c : Tokens} {x : A} {s : Span} → One a x ((kind.Punct mark.Comma, s) ∷ b) → X b c → X a c
  pub deeper_more : {a b c : Tokens} {x : A} {s : Span} → One a x ((kind.Punct mark.Comma, s) ∷ b) → Y b c → Y a c

module _ {A : Type 0} {ends : Terminal → Bool} {One : Tokens → A → Tokens → Type 0} {Many : Tokens → List A → Tokens → Type 0} {V W X Y : Tokens → Tokens
    → Type 0} (L : Listing ends One Many V W X Y)
    (part : Tokens → Reading A) (r : ℕ) (each : (a : Tokens) → Fits (V a) (W a) (Kept r (One a)) (part a)) where
  comma_by_fits : (x : Bool) (on : ℕ → Tokens → Reading (List A)) (a : Tokens) (y : A) (s : Span) (c : Tokens) → ends (lookahead c) ≡ x
      → One a y ((kind.Punct mark.Comma, s) ∷ c)
      → Fits (X c) (Y c) (Kept r (Many c)) (on r c) → Fits (X a) (Y a) (Kept r (Many a)) (after_comma ends part x on y r c)
  comma_by_fits true on a y s c e d g = Fits.finds (record { same = refl; is = L.last_comma e d })
  comma_by_fits false on a y s c e d g = part_fits g (λ b v. L.begins_more d v) (λ b v. L.deeper_more d v)
      (λ ys m b k. Fits.finds (record { same = k.same; is = L.more d k.is }))

  listed_by_fits : (x : Bool) (on : ℕ → Tokens → Reading (List A)) (a : Tokens) (y : A) (b : Tokens) → is_comma (lookahead b) ≡ x → One a y b
      → ((c : Tokens) → Fits (X c) (Y c) (Kept r (Many c)) (on r c)) → Fits (X a) (Y a) (Kept r (Many a)) (listed_by ends part x on y r b)
  listed_by_fits true on a y b e d g =
      lookahead_is comma (λ z. One a y z → Fits (X a) (Y a) (Kept r (Many a)) (listed_by ends part true on y r z)) b e
      (λ s c h. comma_by_fits (ends (lookahead c)) on a y s c refl h (g c)) d
  listed_by_fits false on a y b e d g = Fits.finds (record { same = refl; is = L.last d })

  pub listed_fits : (n : ℕ) (a : Tokens) → Fits (X a) (Y a) (Kept r (Many a)) (listed ends part n r a)
  unfolding listed
  listed_fits zero a = Fits.stops (L.none a)
  listed_fits (suc n) a =
      kept_fits _ (each a) (λ b v. L.begins_last v) (λ b v. L.deeper_last v)
      (λ y b d. listed_by_fits (is_comma (lookahead b)) (listed ends part n) a y b refl d (listed_fits n))
