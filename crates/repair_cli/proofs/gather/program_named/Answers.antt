-- A source that is too long, and one that is refused.
use Rattle.repair_cli.proofs.Refusing.{long_gives}
use Rattle.repair_cli.proofs.gather.program_named.Goals as goal

pub returns-in-Err-TooLong-clause-refusal : goal.returns-in-Err-TooLong-clause-refusal
returns-in-Err-TooLong-clause-refusal g c =
    let long = rw c.in-Err-TooLong.field-0-is at c.in-Err-TooLong.ensures.ends in
    long_gives _ _ _ long.1 c.whole.ensures.status c.whole.ensures.message
