-- Lists with commas, turn by turn.
use Rattle.std.proofs.Common.{◌≡◌, ℕ, suc, Bool, true, false, List, [], ◌∷◌, ap, ◌∙◌}
use Rattle.c_lex.specs.declared.token.TokenKind.TheVariants as kind
use Rattle.c_lex.specs.declared.token.Punct.TheVariants as mark
use Rattle.c_tree.specs.declared.place.Span.{Span}
use Rattle.c_grammar.specs.declared.terminal.Terminal.{Terminal}
use Rattle.c_grammar.specs.Grammar.{Tokens}
use Rattle.c_grammar.specs.Terminals.{lookahead, is_comma}
use Rattle.c_grammar.specs.Descent.{Reading, found, Reader, and_then, ahead, after_comma, listed_by, listed}

-- a part that is found, and then what is read after it
pub and_is : {A B : Type 0} (o : Reading A) (f : A → Reader B) (x : A) (m : ℕ) (b : Tokens) (y : Reading B) → o ≡ found x m b → f x m b ≡ y → and_then o f ≡ y
and_is o f x m b y e h = ap (λ z. and_then z f) e ∙ h

module _ {A : Type 0} (ends : Terminal → Bool) (part : Tokens → Reading A) where
  -- a last part with no comma after it
  pub listed_last : (q r : ℕ) (a b : Tokens) (x : A) → part a ≡ found x r b → is_comma (lookahead b) ≡ false → listed ends part (suc q) r a ≡ found (x ∷ []) r b
  unfolding listed
  listed_last q r a b x e h =
      and_is (part a) (λ x m b. listed_by ends part (is_comma (lookahead b)) (listed ends part q) x m b) x r b _ e
      (ap (λ y. listed_by ends part y (listed ends part q) x r b) h)

  -- a last part with a comma after it
  pub listed_end : (q r : ℕ) (a b : Tokens) (x : A) (s : Span) → part a ≡ found x r ((kind.Punct mark.Comma, s) ∷ b) → ends (lookahead b) ≡ true
      → listed ends part (suc q) r a ≡ found (x ∷ []) r b
  unfolding listed
  listed_end q r a b x s e h =
      and_is (part a) (λ x m b. listed_by ends part (is_comma (lookahead b)) (listed ends part q) x m b) x r ((kind.Punct mark.Comma, s) ∷ b) _ e
      (ap (λ y. after_comma ends part y (listed ends part q) x r b) h)

  -- a part, and others after a comma
  pub listed_more : (q r : ℕ) (a b c : Tokens) (x : A) (xs : List A) (s : Span) → part a ≡ found x r ((kind.Punct mark.Comma, s) ∷ b) → ends (lookahead b) ≡ false
      → listed ends part q r b ≡ found xs r c → listed ends part (suc q) r a ≡ found (x ∷ xs) r c
  unfolding listed
  listed_more q r a b c x xs s e h k =
      and_is (part a) (λ x m b. listed_by ends part (is_comma (lookahead b)) (listed ends part q) x m b) x r ((kind.Punct mark.Comma, s) ∷ b) _ e
      (ap (λ y. after_comma ends part y (listed ends part q) x r b) h ∙ ap (λ o. ahead (x ∷ []) o) k)
