-- Expressions by the kinds of their tokens alone: all tokens of some kinds are the same expression,
-- but for spans.
use Rattle.std.specs.Prelude.{◌≡◌, ℕ, ◌+◌, ◌≤◌, Bool, true, false, List, [], ◌∷◌, ◌++◌}
use Rattle.c_lex.specs.declared.token.TokenKind.{TokenKind}
use Rattle.c_lex.specs.Lexemes.{kinds, Covers, is_other}
use Rattle.c_tree.specs.Parts.{span_of}
use Rattle.c_tree.specs.Tree as tree
use Rattle.c_tree.specs.Tree.{Tree, bare}
use Rattle.c_grammar.specs.declared.nonterminal.Nonterminal.{Nonterminal}
use Rattle.c_grammar.specs.Grammar.{Tokens, Reads}

-- Where there is room, an expression of the kind N is read from the tokens a on, and tokens of the
-- kinds ls are left. It is t but for spans, slots and the spelling of constants. No more room is
-- taken than is needed.
pub record GotTree (N : Nonterminal) (ls : List TokenKind) (a : Tokens) (t : Tree) : Type 0 where
  pub rest : Tokens
  pub rest_kinds : kinds rest ≡ ls
  pub need : ℕ
  pub found : Tree
  pub is_bare : bare found ≡ t
  pub reads : (r : ℕ) → need ≤ r → (m : ℕ) × (r ≤ m + need) × Reads N r a m rest found

-- all tokens of these kinds are the expression t of the kind N, whatever follows them
pub record Shaped (N : Nonterminal) (ks : List TokenKind) (t : Tree) : Type 0 where
  pub each : (ls : List TokenKind) (a : Tokens) → kinds a ≡ ks ++ ls → GotTree N ls a t

-- there are tokens, and the last is no `?`
abbrev pub is_settled : Tokens → Bool
is_settled [] = false
is_settled (t ∷ []) = is_other t.0
is_settled (t ∷ u ∷ ts) = is_settled (u ∷ ts)

-- the expression has a text of its own, as all that is read has
abbrev pub is_whole : Tree → Bool
is_whole tree.hole = false
is_whole (tree.hole_after t) = false
is_whole _ = true

-- The tokens from a down to b are the expression's own: they cover its text, the last is no `?`,
-- and all tokens of their kinds are the same expression.
pub record Own (N : Nonterminal) (a b : Tokens) (t : Tree) : Type 0 where
  pub own : Tokens
  pub splits : a ≡ own ++ b
  pub shaped : Shaped N (kinds own) (bare t)
  pub covers : Covers own (span_of t)
  pub settled : is_settled own ≡ true
  pub whole : is_whole t ≡ true

-- What is read as an expression has tokens of its own, and all tokens of their kinds are the same
-- expression.
abbrev pub ExpressionsByKinds : Type 0
ExpressionsByKinds =
    (N : Nonterminal) (r m : ℕ) (a b : Tokens) (t : Tree) → Reads N r a m b t → Own N a b t
