-- The text of a patch, read again by tokens and grammar.
use Rattle.std.specs.Prelude.{◌≡◌, ℕ, List, Ok}
use Rattle.std.specs.List.{Contains}
use Rattle.c_lex.specs.Bytes.{Bytes}
use Rattle.c_lex.specs.Tokens.{Macros, Lexes}
use Rattle.c_tree.specs.declared.expr.BinOp.TheVariants.{Both, Either}
use Rattle.c_tree.specs.declared.place.Loc.{Loc}
use Rattle.c_tree.specs.declared.place.LocKind.TheVariants.{Guard, Cond, Right}
use Rattle.c_tree.specs.Tree.{Tree, Outer, bare_program}
use Rattle.c_location.specs.Changes.{replaced as with_new, combined, guarded as with_test}
use Rattle.c_location.specs.Locations.{locations}
use Rattle.c_location.specs.Rewrites.{rewritten}
use Rattle.c_grammar.specs.Grammar.{Tokens}
use Rattle.c_grammar.specs.Programs.{Derives}
use Rattle.patch_text.specs.Spliced.{replaced, joined, guarded}
use Rattle.c_splice.specs.Words.{AllWorded}
use Rattle.printed_tokens.specs.PrintedKinds.{Printable}

-- The text has tokens, and these derive the program, but for spans, slots and the spelling of
-- constants.
pub record IsTextOf (text : Bytes) (p : List Outer) : Type 0 where
  pub tokens : Tokens
  pub room : ℕ
  pub found : List Outer
  pub lexes : Lexes text (Ok tokens)
  pub derives : Derives room tokens found
  pub is_same : bare_program found ≡ bare_program p

-- There are macros with which each word of the source is its token. For each change that a patch
-- can make at a location of the source, with an expression of which each word is its token with
-- these macros, the text with the change is read as the program with the change.
pub record ReadAgain (source : Bytes) (tokens : Tokens) (p : List Outer) (l : Loc) : Type 0 where
  pub macros : Macros
  pub words : AllWorded macros tokens
  pub condition : l.kind ≡ Cond → (new : Tree) → Printable macros new
      → IsTextOf (replaced source l.at new) (rewritten l (with_new new) p)
  pub narrowed : l.kind ≡ Cond → (bound : Tree) → Printable macros bound
      → IsTextOf (joined source l.at Both bound) (rewritten l (combined Both bound) p)
  pub widened : l.kind ≡ Cond → (bound : Tree) → Printable macros bound
      → IsTextOf (joined source l.at Either bound) (rewritten l (combined Either bound) p)
  pub right_side : l.kind ≡ Right → (new : Tree) → Printable macros new
      → IsTextOf (replaced source l.at new) (rewritten l (with_new new) p)
  pub guard : l.kind ≡ Guard → (test : Tree) → Printable macros test
      → IsTextOf (guarded source l.at test) (rewritten l (with_test test) p)

-- the texts of patches at each location of a source's program are read as the patched programs
abbrev pub TextsReadAgain : Type 0
TextsReadAgain = (source : Bytes) (tokens : Tokens) (r : ℕ) (p : List Outer) (l : Loc)
    → Lexes source (Ok tokens) → Derives r tokens p → Contains (locations p) l
    → ReadAgain source tokens p l
