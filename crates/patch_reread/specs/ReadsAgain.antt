-- The text of a patch, read again: by tokens, by the grammar, and by names and kinds.
use Rattle.std.specs.Prelude.{◌≡◌, ℕ, List, [], length, Ok}
use Rattle.std.specs.List.{All}
use Rattle.c_lex.specs.Bytes.{Bytes}
use Rattle.c_lex.specs.Tokens.{Lexes}
use Rattle.c_tree.specs.Tree.{Outer}
use Rattle.c_types.specs.Programs.{program_faults}
use Rattle.c_types.specs.Slots.{resolved}
use Rattle.c_location.specs.Locations.{locations}
use Rattle.c_grammar.specs.Grammar.{Tokens}
use Rattle.c_grammar.specs.Programs.{Derives}
use Rattle.patch_space.specs.Space.{applied, patches}
use Rattle.bare_laws.specs.Laws.{ChecksAs}
use Rattle.patch_reread.specs.Texts.{patched_text}

-- The text is read as the program. It has tokens, which derive a program without a fault of names
-- and kinds; resolved, that is the same program but for spans and the spelling of constants.
pub record ReadsAs (text : Bytes) (p : List Outer) : Type 0 where
  pub tokens : Tokens
  pub room : ℕ
  pub found : List Outer
  pub lexes : Lexes text (Ok tokens)
  pub derives : Derives room tokens found
  pub checks : ChecksAs p found

-- The source has tokens, which derive a program without a fault of names and kinds; resolved, that
-- is the program p.
pub record IsSourceOf (source : Bytes) (p : List Outer) : Type 0 where
  pub tokens : Tokens
  pub room : ℕ
  pub found : List Outer
  pub lexes : Lexes source (Ok tokens)
  pub derives : Derives room tokens found
  pub faultless : program_faults found (length source) ≡ []
  pub is_resolved : resolved found ≡ p

-- the text that each patch of a program makes of its source is read as the program that the patch
-- makes of it
abbrev pub PatchesReadAgain : Type 0
PatchesReadAgain = (source : Bytes) (p : List Outer) → IsSourceOf source p
    → All (λ patch. ReadsAs (patched_text source p patch) (applied p (locations p) patch))
    (patches p)
