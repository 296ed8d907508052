-- The answer that is right, or the message of its cause.
use Rattle.std.proofs.Common.{subst, sym, arith}
use Rattle.repair_cli.specs.Complete.{IsFaultless}
use Rattle.repair_cli.specs.Refusal.{status_of, message_of}
use Rattle.repair_cli.specs.Source.{source}
use Rattle.repair_cli.proofs.Lengths.{cause_within, is_faultless}
use Rattle.repair_cli.proofs.Reading.{each_read}
use Rattle.repair_cli.proofs.Steps.{answer_reported}
use Rattle.repair_cli.proofs.run.run_alone.Goals as goal

pub returns-in-Ok-clause-ends : goal.returns-in-Ok-clause-ends
returns-in-Ok-clause-ends g c = answer_reported _ _ _ _ _ _ c.in-Ok.ensures.answered c.report.ensures.reports

pub returns-in-Err-clause-complete : goal.returns-in-Err-clause-complete
returns-in-Err-clause-complete g c sure files room_out room =
    let cause = c.in-Err.ensures.answered in
    let given = source g.F.Files.held g.F.Files.faults c.args.words.now c.args.files.now c.answered.new.files in
    let within = cause_within given (status_of c.in-Err.refusal) (message_of c.in-Err.refusal) cause in
    let is = c.refuse.ensures.room (omega (arith, within, room)) in
    subst IsFaultless (sym is) (is_faultless given c.in-Err.refusal (c.in-Err.ensures.sure sure files) cause)

pub returns-in-Ok-clause-read_again : goal.returns-in-Ok-clause-read_again
returns-in-Ok-clause-read_again g c = each_read c.patches_read_again.ensures _

pub returns-in-Err-clause-read_again : goal.returns-in-Err-clause-read_again
returns-in-Err-clause-read_again g c = each_read c.patches_read_again.ensures _
