-- The text of an answer.
use Rattle.std.specs.Prelude.{◌≡◌, List, ℕ, slice_get, Some, option_map, codes}
use Rattle.repair_job.specs.Job.{Job}
use Rattle.repair_job.specs.Patches.{Patch, patches, patched_text, patched_line}
use Rattle.repair_job.specs.declared.answer.Answer.{Answer}
use Rattle.repair_job.specs.declared.answer.Answer.TheVariants as answer
use Rattle.repair_job.specs.declared.answer.Shown.{Shown}
use Rattle.repair_job.specs.declared.answer.Shown.TheVariants.{Source, Line}

-- the program passes every test
abbrev pub nothing_to_repair : List ℕ
nothing_to_repair = codes "nothing to repair\n"

-- no patch makes the program pass every test
abbrev pub no_patch : List ℕ
no_patch = codes "none\n"

-- the source that a patch makes of the job's, or the line of the patch
abbrev pub text_of : Shown → Job → Patch → List ℕ
text_of Source job patch = patched_text job patch
text_of Line job patch = patched_line job patch

-- what the job shows of a patch
abbrev pub shown_of : Job → Patch → List ℕ
shown_of job = text_of job.shown job

-- a line that says so, or what the job shows of the patch of that rank
abbrev pub IsText : Job → Answer → List ℕ → Type 0
IsText job answer.Sound text = text ≡ nothing_to_repair
IsText job (answer.Patch rank) text =
    option_map (shown_of job) (slice_get (patches job) rank) ≡ Some text
IsText job answer.Nothing text = text ≡ no_patch
