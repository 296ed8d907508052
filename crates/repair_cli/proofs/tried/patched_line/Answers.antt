-- The line of a patch that is tried.
use Rattle.std.proofs.Common.{◌∙◌}
use Rattle.repair_cli.specs.Jobs.{job_of}
use Rattle.repair_cli.proofs.Patching.{lined}
use Rattle.repair_cli.proofs.tried.patched_line.Goals as goal

pub returns : goal.returns
returns c =
    lined (job_of c.args.job.now) c.args.space.now c.requires.tried c.deref.result.now
    c.deref.ensures.value c.args.rank c.requires.ranked
    c.into_bytes.result.items (c.into_bytes.ensures ∙ c.in_ok-line.ensures)
