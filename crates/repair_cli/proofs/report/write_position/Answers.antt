use Rattle.std.proofs.Common.{rules}
use Rattle.repair_cli.specs.Message.{number_text}
use Rattle.repair_cli.proofs.Pieces.{breaks_after, breaks_longer}
use Rattle.repair_cli.proofs.report.write_position.Goals as goal

pub returns-in_err-write_number-clause-written : goal.returns-in_err-write_number-clause-written
returns-in_err-write_number-clause-written g c =
    let broken = breaks_longer _ _ _ _ _ (number_text c.args.column) c.in_err-write_number.ensures.written in
    search (rules, broken)

pub returns-in_err-write_number-2-clause-written : goal.returns-in_err-write_number-2-clause-written
returns-in_err-write_number-2-clause-written g c =
    let broken = breaks_after _ _ _ _ _ _ _ _ c.write_number.ensures.faults c.in_ok-write_number.ensures.written.added c.in_err-write_number-2.ensures.written in
    search (rules, broken)
