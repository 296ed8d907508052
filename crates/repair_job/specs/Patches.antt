-- The patches that a job tries, what each makes of its program and of its source, and the line of
-- each. All that is said here of spaces of patches and of locations stands in this file.
use Rattle.std.specs.Prelude.{◌≡◌, ℕ, ◌≤◌, List, length}
use Rattle.c_tree.specs.Tree.{Outer}
use Rattle.c_location.specs.Locations.{locations}
use Rattle.patch_space.specs.Contents.{Contents}
use Rattle.patch_space.specs.Space.{space, applied}
use Rattle.patch_space.specs.declared.patch.Patch as ranked
use Rattle.patch_reread.specs.Texts as text
use Rattle.patch_print.specs.Lines as line
use Rattle.repair_job.specs.Job.{Job}

-- one change of a program
abbrev pub Patch : Type 0
Patch = ranked.Patch

-- a program has so few locations that its patches are listed
abbrev pub HasFewLocations : List Outer → Type 0
HasFewLocations program = length (locations program) ≤ 4096

-- the patches that are tried: the first of the program's by rank, as many as the job says
unfoldable pub patches : Job → List Patch
patches job = space job.most_patches job.program

-- the program that a patch makes of the job's
unfoldable pub patched : Job → Patch → List Outer
patched job patch = applied job.program (locations job.program) patch

-- the source that a patch makes of the job's
unfoldable pub patched_text : Job → Patch → List ℕ
patched_text job patch = text.patched_text job.source job.program patch

-- the line that says what a patch changes in the job's source
unfoldable pub patched_line : Job → Patch → List ℕ
patched_line job patch =
    line.patched_line job.source job.program (locations job.program) patch

-- a space holds the patches that the job tries, and all locations of its program
pub record AreTried (job : Job) (tried : Contents) : Type 0 where
  pub ranked : tried.patches ≡ patches job
  pub located : tried.locations ≡ locations job.program
