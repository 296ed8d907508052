-- Some tokens of a source, and what can be put in their place.
use Rattle.std.specs.Prelude.{◌≡◌, ℕ, ◌-◌, true, false, not, ◌||◌, List, ◌∷◌, ◌++◌, take, drop, Ok}
use Rattle.c_lex.specs.declared.token.TokenKind.{TokenKind}
use Rattle.c_lex.specs.Bytes.{Bytes}
use Rattle.c_lex.specs.Lexemes.{Lexeme, kinds, end_of}
use Rattle.c_lex.specs.Places.{IsNowhere, is_refused}
use Rattle.c_lex.specs.Tokens.{Macros, Lexes}
use Rattle.c_splice.specs.Seams.{begins_seam, IsTight, IsLoose}
use Rattle.c_splice.specs.Edges.{is_calm, ends_query, begins_plain, ends_other}
use Rattle.c_splice.specs.Words.{AllWorded}

-- the bytes from one place to before another
abbrev pub between : ℕ → ℕ → Bytes → Bytes
between from to source = take (to - from) (drop from source)

-- a text fits after another if it begins with a seam and ends calmly, is clean (it holds no line
-- splice and no trigraph), and makes no trigraph with what stands before
pub record Fits (before new : Bytes) : Type 0 where
  pub seam : begins_seam new ≡ true
  pub calm : is_calm new ≡ true
  pub clean : IsNowhere is_refused new
  pub plain : (not (ends_query before) || begins_plain new) ≡ true

-- The tokens t and `own` of a source, between the tokens `pre` and `post`: with the macros of the
-- source's head, their text is cut into them wherever it stands before a seam, and the word of each
-- constant and name is its token. The text before them ends with `??` only where the token before
-- them is a `?`, and their own only where its last token is one; it is clean. A text that fits
-- there, and is cut into some tokens whatever follows it, can stand in the place of theirs: the
-- source then has the tokens before, those tokens, and the tokens after, but for where they stand.
pub record Replaceable (source : Bytes) (pre : List Lexeme) (t : Lexeme)
    (own post : List Lexeme) : Type 0 where
  pub macros : Macros
  pub old : IsTight macros (between t.1.from (end_of t own) source) (kinds (t ∷ own))
  pub words : AllWorded macros (pre ++ t ∷ (own ++ post))
  pub before_query : ends_other pre ≡ true → ends_query (take t.1.from source) ≡ false
  pub old_query : ends_other (t ∷ own) ≡ true
      → ends_query (between t.1.from (end_of t own) source) ≡ false
  pub clean : IsNowhere is_refused (between t.1.from (end_of t own) source)
  pub replaced : (new : Bytes) (ks : List TokenKind) → Fits (take t.1.from source) new
      → IsLoose macros new ks
      → (ts : List Lexeme)
      × Lexes (take t.1.from source ++ new ++ drop (end_of t own) source) (Ok ts)
      × (kinds ts ≡ kinds pre ++ ks ++ kinds post)

-- all tokens of a source after its first can be replaced
abbrev pub TokensReplaceable : Type 0
TokensReplaceable =
    (source : Bytes) (p : Lexeme) (pre : List Lexeme) (t : Lexeme) (own post : List Lexeme)
    → Lexes source (Ok ((p ∷ pre) ++ t ∷ (own ++ post))) → Replaceable source (p ∷ pre) t own post
