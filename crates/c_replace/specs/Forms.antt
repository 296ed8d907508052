-- Parts of a program other than expressions, by the kinds of their tokens alone: all tokens of some
-- kinds are the same part, but for spans.
use Rattle.std.specs.Prelude.{◌≡◌, ℕ, ◌≤◌, List, ◌++◌}
use Rattle.c_lex.specs.declared.token.TokenKind.{TokenKind}
use Rattle.c_lex.specs.Lexemes.{kinds}
use Rattle.c_tree.specs.Tree.{Outer, bare, bare_program, no_span}
use Rattle.c_grammar.specs.Grammar.{Tokens, Given, by_value, by_format, by_address}
use Rattle.c_grammar.specs.Programs.{Derives}

-- Where there is room, a part is read from the tokens a on, and tokens of the kinds ls are left. It
-- is x but for what `bare` leaves out. R is the relation of the grammar by which it is read.
pub record Got {X : Type 0} (R : ℕ → Tokens → Tokens → X → Type 0) (bare : X → X)
    (ls : List TokenKind) (a : Tokens) (x : X) : Type 0 where
  pub rest : Tokens
  pub rest_kinds : kinds rest ≡ ls
  pub need : ℕ
  pub found : X
  pub is_bare : bare found ≡ x
  pub reads : (r : ℕ) → need ≤ r → R r a rest found

-- all tokens of these kinds are the part x
pub record Formed {X : Type 0} (R : ℕ → Tokens → Tokens → X → Type 0) (bare : X → X)
    (ks : List TokenKind) (x : X) : Type 0 where
  pub each : (ls : List TokenKind) (a : Tokens) → kinds a ≡ ks ++ ls → Got R bare ls a x

-- the tokens from a down to b are the part's own, and all tokens of their kinds are the same part
pub record OwnPart {X : Type 0} (R : ℕ → Tokens → Tokens → X → Type 0) (bare : X → X) (a b : Tokens)
    (x : X) : Type 0 where
  pub own : Tokens
  pub splits : a ≡ own ++ b
  pub formed : Formed R bare (kinds own) (bare x)

-- an argument of a call without spans, slots and the spelling of constants
abbrev pub bare_given : Given → Given
bare_given (by_value t) = by_value (bare t)
bare_given (by_format w s) = by_format w no_span
bare_given (by_address t) = by_address (bare t)

-- Where there is room, these tokens are a program. It is p but for spans, slots and the spelling of
-- constants.
pub record SpellsProgram (a : Tokens) (p : List Outer) : Type 0 where
  pub need : ℕ
  pub found : List Outer
  pub is_bare : bare_program found ≡ p
  pub derives : (r : ℕ) → need ≤ r → Derives r a found

-- all tokens of these kinds are the program p
pub record ShapedProgram (ks : List TokenKind) (p : List Outer) : Type 0 where
  pub each : (a : Tokens) → kinds a ≡ ks → SpellsProgram a p
