-- What contracts see of a job, and which jobs can be done.
use Rattle.std.specs.Prelude.{ℕ, ◌≤◌}
use Rattle.c_types.specs.Evidence.{IsOrdered}
use Rattle.c_types.specs.Shown.{tree_of}
use Rattle.repair_job.specs.Job as plain
use Rattle.repair_job.specs.Patches.{HasFewLocations}
use Rattle.repair_cli.specs.Limits.{most_units}
use Rattle.repair_cli.specs.declared.job.Job.{Job}

-- the job
abbrev pub job_of : Job → plain.Job
job_of j =
    record {
      source = j.source.items;
      program = tree_of j.program;
      tests = j.tests.items;
      limit = j.limit;
      most_patches = j.most_patches;
      shown = j.shown;
    }

-- so many units a run may take
pub record IsLimit (units : ℕ) : Type 0 where
  pub some : 1 ≤ units
  pub most : units ≤ most_units

-- the tests can be run, the patches can be listed, and each can be made, as the parts of the
-- program stand in text order
pub record CanBeDone (job : plain.Job) : Type 0 where
  pub limit : IsLimit job.limit
  pub few : HasFewLocations job.program
  pub ordered : IsOrdered job.program
