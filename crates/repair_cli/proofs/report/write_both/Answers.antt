use Rattle.std.proofs.Common.{rules}
use Rattle.repair_cli.proofs.Pieces.{breaks_after}
use Rattle.repair_cli.proofs.report.write_both.Goals as goal

pub returns-in_err-write_whole-2-clause-written : goal.returns-in_err-write_whole-2-clause-written
returns-in_err-write_whole-2-clause-written g c =
    let second = c.in_err-write_whole-2.ensures in
    let broken = breaks_after _ _ _ _ _ _ _ _ c.write_whole.ensures.faults c.in_ok-write_whole.ensures.ok (record { rose = second.cause; some = second.failed }) in
    search (rules, broken)
