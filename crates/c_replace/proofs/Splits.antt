-- Lists of tokens that are taken apart by their kinds, and the text that tokens cover.
use Rattle.std.proofs.Common.{◌≡◌, ℕ, zero, suc, ◌≤◌, true, List, [], ◌∷◌, ◌++◌, refl, ap, ◌∙◌, arith}
use Rattle.c_lex.specs.declared.token.TokenKind.{TokenKind}
use Rattle.c_tree.specs.declared.place.Span.{Span}
use Rattle.c_grammar.specs.Grammar.{Tokens, over}
use Rattle.c_lex.specs.Lexemes.{kinds, end_of, Covers}
use Rattle.c_replace.specs.Shapes.{is_settled}

-- some room more
pub at_suc : (P : ℕ → Type 0) (n r : ℕ) → suc n ≤ r → ((q : ℕ) → n ≤ q → P (suc q)) → P r
at_suc P n zero l f = absurd (omega arith)
at_suc P n (suc r) l f = f r (omega arith)

-- the kinds of two lists
pub kinds_append : (a b : Tokens) → kinds (a ++ b) ≡ kinds a ++ kinds b
kinds_append [] b = refl
kinds_append (t ∷ a) b = ap (λ q. t.0 ∷ q) (kinds_append a b)

-- a list of a token and others
pub record Headed (own : Tokens) (k : TokenKind) (ks : List TokenKind) : Type 0 where
  pub span : Span
  pub tail : Tokens
  pub consists : own ≡ (k, span) ∷ tail
  pub tail_kinds : kinds tail ≡ ks

-- tokens of these kinds are a token of the first kind and the others
pub headed : (own : Tokens) (k : TokenKind) (ks : List TokenKind) → kinds own ≡ k ∷ ks → Headed own k ks
headed [] k ks e = absurd (cc)
headed (t ∷ own) k ks e =
    let same : t.0 ≡ k = cc in
    record {
      span = t.1;
      tail = own;
      consists = ap (λ q. (q, t.1) ∷ own) same;
      tail_kinds = (let f : kinds own ≡ ks = cc in f);
    }

-- tokens of no kinds are none
pub none_left : (own : Tokens) → kinds own ≡ [] → own ≡ []
none_left [] e = refl
none_left (t ∷ own) e = absurd (cc)

-- ---- the text of tokens

-- the end of two lists is that of the second
end_append : (t : TokenKind × Span) (a : Tokens) (u : TokenKind × Span) (b : Tokens)
    → end_of t (a ++ u ∷ b) ≡ end_of u b
end_append t [] u b = refl
end_append t (v ∷ a) u b = end_append v a u b

-- a token covers its text
pub covers_one : (k : TokenKind) (s : Span) → Covers ((k, s) ∷ []) s
covers_one k s = record { first = (k, s); others = []; consists = refl; begins = refl; ends = refl }

-- two lists cover a text where each covers one
pub covers_join : {a b : Tokens} {s e : Span} → Covers a s → Covers b e → Covers (a ++ b) (over s e)
covers_join {a} {b} x y = record {
  first = x.first;
  others = x.others ++ y.first ∷ y.others;
  consists = ap (λ q. q ++ b) x.consists ∙ ap (λ q. x.first ∷ (x.others ++ q)) y.consists;
  begins = x.begins;
  ends = end_append x.first x.others y.first y.others ∙ y.ends;
}

-- the same with a token before
pub covers_before : {b : Tokens} {e : Span} (k : TokenKind) (s : Span) → Covers b e
    → Covers ((k, s) ∷ b) (over s e)
covers_before k s y = covers_join (covers_one k s) y

-- ---- the last token

-- the last of two lists is that of the second
pub settled_append : (x y : Tokens) → is_settled y ≡ true → is_settled (x ++ y) ≡ true
settled_append [] y h = h
settled_append (t ∷ []) [] h = absurd (cc)
settled_append (t ∷ []) (u ∷ y) h = h
settled_append (t ∷ u ∷ x) y h = settled_append (u ∷ x) y h
