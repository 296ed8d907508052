use Rattle.std.proofs.Common.{rules, ◌++◌}
use Rattle.repair_cli.specs.Message.{place_text}
use Rattle.repair_cli.proofs.Pieces.{breaks_after, breaks_longer, breaks_third, breaks_fourth}
use Rattle.repair_cli.proofs.report.write_message.Goals as goal

pub returns-in_err-write_both-clause-written : goal.returns-in_err-write_both-clause-written
returns-in_err-write_both-clause-written g c =
    let m = c.args.message in
    let one = breaks_longer _ _ _ _ _ (place_text m.at) c.in_err-write_both.ensures.written in
    let two = breaks_longer _ _ _ _ _ (m.between.now ++ m.words.now) one in
    let broken = breaks_longer _ _ _ _ _ m.end.now two in
    search (rules, broken)

pub returns-in_err-write_place-clause-written : goal.returns-in_err-write_place-clause-written
returns-in_err-write_place-clause-written g c =
    let m = c.args.message in
    let one = breaks_after _ _ _ _ _ _ _ _ c.write_both.ensures.faults c.in_ok-write_both.ensures.written.added c.in_err-write_place.ensures.written in
    let two = breaks_longer _ _ _ _ _ (m.between.now ++ m.words.now) one in
    let broken = breaks_longer _ _ _ _ _ m.end.now two in
    search (rules, broken)

pub returns-in_err-write_both-2-clause-written : goal.returns-in_err-write_both-2-clause-written
returns-in_err-write_both-2-clause-written g c =
    let m = c.args.message in
    let one = breaks_third _ _ _ _ _ _ _ _ _ _ _ c.write_both.ensures.faults c.write_place.ensures.faults c.in_ok-write_both.ensures.written.added c.in_ok-write_place.ensures.written.added c.in_err-write_both-2.ensures.written in
    let broken = breaks_longer _ _ _ _ _ m.end.now one in
    search (rules, broken)

pub returns-in_err-write_whole-clause-written : goal.returns-in_err-write_whole-clause-written
returns-in_err-write_whole-clause-written g c =
    let last = c.in_err-write_whole.ensures in
    let broken = breaks_fourth _ _ _ _ _ _ _ _ _ _ _ _ _ _ c.write_both.ensures.faults c.write_place.ensures.faults c.write_both-2.ensures.faults
    c.in_ok-write_both.ensures.written.added c.in_ok-write_place.ensures.written.added c.in_ok-write_both-2.ensures.written.added (record { rose = last.cause; some = last.failed }) in
    search (rules, broken)
