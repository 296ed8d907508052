use Rattle.std.proofs.Common.{take}
use Rattle.std.specs.List.{All}
use Rattle.repair_job.specs.Answers.{Repairs}
use Rattle.repair_job.specs.Patches.{patches}
use Rattle.repair_cli.specs.Jobs.{job_of}
use Rattle.repair_cli.proofs.search.first_repair.Given as goal

abbrev pub invariant-ranks : goal.invariant-ranks
invariant-ranks l = All (λ patch. ¬ Repairs (job_of l.job) patch) (take l.rank (patches (job_of l.job)))
