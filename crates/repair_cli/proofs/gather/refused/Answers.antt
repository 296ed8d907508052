-- The refusal of a source for its first fault.
use Rattle.repair_cli.specs.Refusal.{status_of, message_of}
use Rattle.repair_cli.proofs.Refusing.{is_refusal}
use Rattle.repair_cli.proofs.gather.refused.Goals as goal

pub returns-in_default : goal.returns-in_default
returns-in_default c =
    let first = c.requires.fault c.in_default.not-NoMemory in
    let r = c.of_program.result in
    is_refusal c.args.name.now c.args.source.now c.args.fault (status_of r) (message_of r) first c.of_program.ensures.status c.of_program.ensures.message
