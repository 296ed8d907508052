-- The patches that are tried are the first of the program's own.
use Rattle.repair_job.specs.Patches.{patches}
use Rattle.repair_cli.proofs.tried.patched.Goals as goal

pub apply-requires-clause-own : goal.apply-requires-clause-own
unfolding patches
apply-requires-clause-own c =
    record {
      max = c.args.job.now.most_patches;
      ranked = c.requires.tried.ranked;
      located = c.requires.tried.located;
    }
