use Rattle.std.proofs.Common.{take}
use Rattle.std.specs.List.{All}
use Rattle.c_types.specs.Shown.{tree_of}
use Rattle.repair_job.specs.Job.{Passes}
use Rattle.repair_cli.specs.Jobs.{job_of}
use Rattle.repair_cli.proofs.search.passes_all.Given as goal

abbrev pub invariant-tests : goal.invariant-tests
invariant-tests l = All (Passes (job_of l.job) (tree_of l.program)) (take l.test-index l.tests)
