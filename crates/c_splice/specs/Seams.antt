-- Texts that are cut into the same tokens wherever they stand.
use Rattle.std.specs.Prelude.{◌≡◌, ℕ, Bool, true, false, List, [], ◌∷◌, ◌++◌, Ok, codes}
use Rattle.c_lex.specs.declared.token.TokenKind.{TokenKind}
use Rattle.c_lex.specs.Bytes.{Bytes, is_one_of}
use Rattle.c_lex.specs.Lexemes.{Lexeme, kinds}
use Rattle.c_lex.specs.Tokens.{Macros, Cuts}

-- a seam is a space, a bracket, a comma or a semicolon: no token goes on with one, no comment
-- begins with one, and none is the second byte of a digraph
abbrev pub is_seam : ℕ → Bool
is_seam b = is_one_of (codes " (),;[]{}") b

-- the text begins with a seam
abbrev pub begins_seam : Bytes → Bool
begins_seam [] = false
begins_seam (b ∷ z) = is_seam b

-- from whatever place on, the text is cut into tokens of these kinds; `begun` says that a token was
-- read before
abbrev pub CutsInto : Bool → Macros → Bytes → List TokenKind → Type 0
CutsInto begun m z ks = (at : ℕ) → (ts : List Lexeme) × Cuts begun m at z (Ok ts) × (kinds ts ≡ ks)

-- a text is loose that is cut into tokens of these kinds whatever follows it
pub record IsLoose (m : Macros) (x : Bytes) (ks : List TokenKind) : Type 0 where
  pub before : (s : Bytes) (ls : List TokenKind) → CutsInto true m s ls
      → CutsInto true m (x ++ s) (ks ++ ls)

-- a text is tight that is cut into tokens of these kinds where a seam follows it
pub record IsTight (m : Macros) (x : Bytes) (ks : List TokenKind) : Type 0 where
  pub before : (s : Bytes) (ls : List TokenKind) → begins_seam s ≡ true
      → CutsInto true m s ls → CutsInto true m (x ++ s) (ks ++ ls)
