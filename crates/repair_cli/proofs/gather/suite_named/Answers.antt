-- A suite that is too long, and one that is refused.
use Rattle.repair_cli.proofs.Refusing.{long_gives_none}
use Rattle.repair_cli.proofs.gather.suite_named.Goals as goal

pub returns-in-Err-TooLong-clause-refusal : goal.returns-in-Err-TooLong-clause-refusal
returns-in-Err-TooLong-clause-refusal g c =
    let long = rw c.in-Err-TooLong.field-0-is at c.in-Err-TooLong.ensures.ends in
    long_gives_none _ _ _ long.1 c.long_suite.ensures.status c.long_suite.ensures.message
