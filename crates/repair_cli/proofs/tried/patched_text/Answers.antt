-- The location of a patch that is tried, and its text.
use Rattle.repair_cli.specs.Jobs.{job_of}
use Rattle.repair_cli.proofs.Patching.{located, spliced}
use Rattle.repair_cli.proofs.tried.patched_text.Goals as goal

pub location-location-requires : goal.location-location-requires
location-location-requires c =
    located (job_of c.args.job.now) c.args.space.now c.requires.tried c.patches_change.ensures
    c.args.rank c.patch-patch.result.now c.patch-patch.ensures

pub returns : goal.returns
returns c =
    spliced (job_of c.args.job.now) c.args.space.now c.requires.tried c.deref.result.now
    c.deref.ensures.value c.args.rank c.patch-patch.result.now c.location-location.result.now
    c.patch-patch.ensures c.location-location.ensures c.splice.result c.splice.ensures.text
