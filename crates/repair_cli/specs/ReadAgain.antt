-- The texts of patches, read again.
use Rattle.std.specs.Prelude.{◌≡◌, ℕ, List, [], Ok}
use Rattle.std.specs.List.{All}
use Rattle.c_lex.specs.Bytes.{Bytes}
use Rattle.c_lex.specs.Tokens.{Lexes}
use Rattle.c_tree.specs.Tree.{Outer}
use Rattle.c_grammar.specs.Grammar.{Tokens}
use Rattle.c_grammar.specs.Programs.{Derives}
use Rattle.c_types.specs.Programs.{program_faults}
use Rattle.c_types.specs.Slots.{resolved}
use Rattle.patch_reread.specs.ReadsAgain.{ReadsAs}
use Rattle.repair_job.specs.Job.{Job, PassesAll}
use Rattle.repair_job.specs.Patches.{Patch, patches, patched, patched_text}
use Rattle.repair_cli.specs.Source.{Source, States}

-- The job's source with a patch is read as the program that the patch makes of the job's: it has
-- tokens, which derive a program without a fault of names and kinds; resolved, that is the patched
-- program, but for spans and the spelling of constants.
abbrev pub IsReadAgain : Job → Patch → Type 0
IsReadAgain job patch = ReadsAs (patched_text job patch) (patched job patch)

-- so it is with each patch that is tried for the job that the words and the files state
abbrev pub PatchesAreReadAgain : Source → Type 0
PatchesAreReadAgain source = (job : Job) → States source job → All (IsReadAgain job) (patches job)

-- The text is the source of a program that passes: it has tokens, which derive a program without a
-- fault of names and kinds, and with its names resolved that passes every test of the job.
pub record ReadsAndPasses (job : Job) (text : Bytes) : Type 0 where
  pub tokens : Tokens
  pub room : ℕ
  pub found : List Outer
  pub lexes : Lexes text (Ok tokens)
  pub derives : Derives room tokens found
  pub faultless : (end : ℕ) → program_faults found end ≡ []
  pub passes : PassesAll job (resolved found)
