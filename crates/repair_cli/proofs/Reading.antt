-- The source of a job is read as its program, and so its texts are read again.
use Rattle.std.proofs.Common.{List, ℕ, sym}
use Rattle.std.specs.List.{All}
use Rattle.std.proofs.lemmas.List.Elements.{All-take}
use Rattle.c_tree.specs.Tree.{Outer}
use Rattle.c_grammar.specs.Programs.{max_nesting}
use Rattle.patch_space.specs.Space.{patches as all_patches}
use Rattle.patch_reread.specs.ReadsAgain.{IsSourceOf, PatchesReadAgain}
use Rattle.repair_job.specs.Job.{Job}
use Rattle.repair_job.specs.Patches.{patches, patched, patched_text}
use Rattle.repair_cli.specs.Accepted.{IsProgram}
use Rattle.repair_cli.specs.ReadAgain.{IsReadAgain, PatchesAreReadAgain}
use Rattle.repair_cli.specs.Source.{Source}

-- a source that states a program is read as it
source_of : (bytes : List ℕ) (p : List Outer) → IsProgram bytes p → IsSourceOf bytes p
source_of bytes p h = record {
  tokens = h.read.tokens;
  room = max_nesting;
  found = h.tree;
  lexes = h.read.cut.cut;
  derives = h.read.derived;
  faultless = h.runnable.typed;
  is_resolved = sym h.runnable.is_resolved;
}

-- the patches that a job tries are some of its program's
tried_read : PatchesReadAgain → (job : Job) → IsSourceOf job.source job.program
    → All (IsReadAgain job) (patches job)
unfolding patches patched patched_text
tried_read law job own =
    All-take (IsReadAgain job) job.most_patches (all_patches job.program)
    (law job.source job.program own)

pub each_read : PatchesReadAgain → (given : Source) → PatchesAreReadAgain given
each_read law given job states =
    tried_read law job (source_of job.source job.program states.program.1)
