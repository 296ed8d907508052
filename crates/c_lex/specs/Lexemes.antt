-- Tokens with the text that each covers.
use Rattle.std.specs.Prelude.{◌≡◌, ℕ, ◌+◌, ◌<◌, ◌≤◌, Bool, true, false, List, [], ◌∷◌}
use Rattle.c_tree.specs.declared.place.Span.{Span}
use Rattle.c_lex.specs.declared.token.Punct.{Punct as Mark}
use Rattle.c_lex.specs.declared.token.Punct.TheVariants.{Question}
use Rattle.c_lex.specs.declared.token.TokenKind.{TokenKind}
use Rattle.c_lex.specs.declared.token.TokenKind.TheVariants.{Punct}

-- a token and the text that it covers
abbrev pub Lexeme : Type 0
Lexeme = TokenKind × Span

-- the span of n bytes from a place on
abbrev pub span_at : ℕ → ℕ → Span
span_at at n = record { from = at; to = at + n }

-- the spans follow one another, none is empty, and they lie between two places
abbrev pub Rise : ℕ → ℕ → List Lexeme → Type 0
Rise from end [] = from ≤ end
Rise from end (t ∷ ts) = (from ≤ t.1.from) × (t.1.from < t.1.to) × Rise t.1.to end ts

-- the kinds of tokens, without the text that each covers
abbrev pub kinds : List Lexeme → List TokenKind
kinds [] = []
kinds (t ∷ ts) = t.0 ∷ kinds ts

-- the byte after the last of a token and those after it
abbrev pub end_of : Lexeme → List Lexeme → ℕ
end_of t [] = t.1.to
end_of t (u ∷ us) = end_of u us

-- the tokens, of which there is one at least, begin where the span does and end where it does
pub record Covers (own : List Lexeme) (s : Span) : Type 0 where
  pub first : Lexeme
  pub others : List Lexeme
  pub consists : own ≡ first ∷ others
  pub begins : first.1.from ≡ s.from
  pub ends : end_of first others ≡ s.to

-- the punctuator is no `?`
abbrev pub is_no_question : Mark → Bool
is_no_question Question = false
is_no_question _ = true

-- the token is no `?`
abbrev pub is_other : TokenKind → Bool
is_other (Punct p) = is_no_question p
is_other _ = true
