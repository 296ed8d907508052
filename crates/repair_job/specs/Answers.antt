-- What is right to answer for a job.
use Rattle.std.specs.Prelude.{◌≡◌, ℕ, take, slice_get, Some}
use Rattle.std.specs.List.{All}
use Rattle.repair_job.specs.Job.{Job, PassesAll}
use Rattle.repair_job.specs.Patches.{Patch, patches, patched}
use Rattle.repair_job.specs.declared.answer.Answer.{Answer}
use Rattle.repair_job.specs.declared.answer.Answer.TheVariants as answer

-- the program passes every test as it is
abbrev pub IsSound : Job → Type 0
IsSound job = PassesAll job job.program

-- the program with a patch passes every test
abbrev pub Repairs : Job → Patch → Type 0
Repairs job patch = PassesAll job (patched job patch)

-- the patch of this rank makes the program pass every test, and none before it does
pub record IsFirstRepair (job : Job) (rank : ℕ) : Type 0 where
  pub patch : Patch
  pub ranked : slice_get (patches job) rank ≡ Some patch
  pub repairs : Repairs job patch
  pub first : All (λ earlier. ¬ Repairs job earlier) (take rank (patches job))

-- no patch that is tried makes the program pass every test
abbrev pub NoneRepairs : Job → Type 0
NoneRepairs job = All (λ patch. ¬ Repairs job patch) (patches job)

-- the program passes every test; or it fails one, and a patch is the first that repairs it, or no
-- patch does
abbrev pub IsRight : Job → Answer → Type 0
IsRight job answer.Sound = IsSound job
IsRight job (answer.Patch rank) = ¬ IsSound job × IsFirstRepair job rank
IsRight job answer.Nothing = ¬ IsSound job × NoneRepairs job
