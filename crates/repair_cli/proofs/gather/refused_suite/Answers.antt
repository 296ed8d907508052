-- The first refusal of a suite.
use Rattle.std.proofs.Common.{refl}
use Rattle.repair_cli.specs.SuiteFaults.{IsSuiteFault}
use Rattle.repair_cli.specs.declared.fault.TestsFault.TheVariants.{Suite}
use Rattle.repair_cli.proofs.gather.refused_suite.Goals as goal

pub returns-in_default : goal.returns-in_default
returns-in_default c =
    let first = IsSuiteFault.of_suite c.args.fault c.requires.short (c.requires.fault c.in_default.not-NoMemory) in
    record { fault = Suite c.args.fault; is_first = first; message = refl }
