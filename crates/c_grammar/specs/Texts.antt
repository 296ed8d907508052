-- What is derived, and the text that it comes from.
use Rattle.std.specs.Prelude.{◌≡◌, ℕ, Bool, List, ◌++◌}
use Rattle.c_lex.specs.Lexemes.{Rise, Covers}
use Rattle.c_tree.specs.declared.place.Span.{Span}
use Rattle.c_tree.specs.Order.{ProgramIn}
use Rattle.c_tree.specs.Parts.{span_of, span_of_code}
use Rattle.c_tree.specs.Tree.{Tree, Code, Outer}
use Rattle.c_grammar.specs.declared.nonterminal.Nonterminal.{Nonterminal}
use Rattle.c_grammar.specs.Grammar.{Tokens, Reads}
use Rattle.c_grammar.specs.Programs.{Statement, Derives}

-- A program is in text order, and lies before `end`, where the spans of its tokens rise up to
-- there.
abbrev pub IsInTextOrder : Type 0
IsInTextOrder =
    (r end : ℕ) (a : Tokens) (p : List Outer) → Rise 0 end a → Derives r a p → ProgramIn 0 end p

-- the tokens from a down to b are those of a text
pub record OwnTokens (a b : Tokens) (s : Span) : Type 0 where
  pub own : Tokens
  pub splits : a ≡ own ++ b
  pub covers : Covers own s

-- The tokens that an expression is read from are those of its text.
abbrev pub ExpressionsOwnTokens : Type 0
ExpressionsOwnTokens =
    (N : Nonterminal) (r m : ℕ) (a b : Tokens) (t : Tree) → Reads N r a m b t
    → OwnTokens a b (span_of t)

-- The tokens that a statement is read from are those of its text.
abbrev pub StatementsOwnTokens : Type 0
StatementsOwnTokens =
    (o : Bool) (r : ℕ) (a b : Tokens) (x : Code) → Statement o r a b x
    → OwnTokens a b (span_of_code x)
