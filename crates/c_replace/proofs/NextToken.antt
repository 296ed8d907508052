-- A part and the token after it, by the kinds of tokens.
use Rattle.std.proofs.Common.{◌≡◌, ℕ, ◌+◌, ◌≤◌, List, ◌∷◌, ◌++◌, subst}
use Rattle.c_lex.specs.declared.token.TokenKind.{TokenKind}
use Rattle.c_lex.specs.Lexemes.{kinds}
use Rattle.c_tree.specs.declared.place.Span.{Span}
use Rattle.c_tree.specs.Tree.{Tree, bare}
use Rattle.c_grammar.specs.declared.nonterminal.Nonterminal.{Nonterminal}
use Rattle.c_grammar.specs.Grammar.{Tokens, Reads}
use Rattle.c_replace.specs.Shapes.{Shaped}
use Rattle.c_replace.specs.Forms.{Formed}
use Rattle.c_replace.proofs.Splits.{headed}

-- an expression and the token after it
pub record GotEnd (N : Nonterminal) (k : TokenKind) (ls : List TokenKind) (a : Tokens)
    (t : Tree) : Type 0 where
  pub span : Span
  pub rest : Tokens
  pub rest_kinds : kinds rest ≡ ls
  pub need : ℕ
  pub found : Tree
  pub is_bare : bare found ≡ t
  pub reads : (r : ℕ) → need ≤ r
      → (m : ℕ) × (r ≤ m + need) × Reads N r a m ((k, span) ∷ rest) found

-- tokens of the kinds of an expression, a token and others begin with the expression and the token
pub got_end : {N : Nonterminal} {ks : List TokenKind} {t : Tree} (k : TokenKind) (ls : List TokenKind)
    (a : Tokens) → Shaped N ks t → kinds a ≡ ks ++ k ∷ ls → GotEnd N k ls a t
got_end {N} k ls a x e =
    let g = x.each (k ∷ ls) a e in
    let h = headed g.rest k ls g.rest_kinds in
    record {
      span = h.span;
      rest = h.tail;
      rest_kinds = h.tail_kinds;
      need = g.need;
      found = g.found;
      is_bare = g.is_bare;
      reads = λ r l.
          let d = g.reads r l in
          (d.0, d.1, subst (λ q. Reads N r a d.0 q g.found) h.consists d.2);
    }

-- a part and the token after it
pub record GotThen {X : Type 0} (R : ℕ → Tokens → Tokens → X → Type 0) (bare : X → X) (k : TokenKind)
    (ls : List TokenKind) (a : Tokens) (x : X) : Type 0 where
  pub span : Span
  pub rest : Tokens
  pub rest_kinds : kinds rest ≡ ls
  pub need : ℕ
  pub found : X
  pub is_bare : bare found ≡ x
  pub reads : (r : ℕ) → need ≤ r → R r a ((k, span) ∷ rest) found

-- tokens of the kinds of a part, a token and others begin with the part and the token
pub got_then : {X : Type 0} {R : ℕ → Tokens → Tokens → X → Type 0} {bare : X → X} {ks : List TokenKind}
    {x : X} (k : TokenKind) (ls : List TokenKind) (a : Tokens)
    → Formed R bare ks x → kinds a ≡ ks ++ k ∷ ls
    → GotThen R bare k ls a x
got_then {X} {R} k ls a f e =
    let g = f.each (k ∷ ls) a e in
    let h = headed g.rest k ls g.rest_kinds in
    record {
      span = h.span;
      rest = h.tail;
      rest_kinds = h.tail_kinds;
      need = g.need;
      found = g.found;
      is_bare = g.is_bare;
      reads = λ r l. subst (λ q. R r a q g.found) h.consists (g.reads r l);
    }
