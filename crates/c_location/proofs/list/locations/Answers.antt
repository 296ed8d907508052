use Rattle.std.proofs.Common.{rules, ◌≡◌, ◌∙◌, arith}
use Rattle.c_location.specs.Locations.{located}
use Rattle.c_tree.specs.Views.{program}
use Rattle.c_location.specs.Tally.{with_all, none_found}
use Rattle.c_location.proofs.TallyLemmas.{found_kept, found_few, found_count, found_many}
use Rattle.c_location.proofs.list.locations.Goals as goal

pub returns-then-count-gt-LIMIT-clause-refused : goal.returns-then-count-gt-LIMIT-clause-refused
returns-then-count-gt-LIMIT-clause-refused c =
    let all : c.add_program.new.found ≡ with_all none_found (located (program c.args.program.now)) = search rules in
    (c.count-count.ensures ∙ found_count c.add_program.new.found (located (program c.args.program.now)) all, found_many c.add_program.new.found (located (program c.args.program.now)) all (omega arith))

pub returns-clause-listed : goal.returns-clause-listed
returns-clause-listed c =
    let all : c.add_program.new.found ≡ with_all none_found (located (program c.args.program.now)) = search rules in
    c.into_kept.ensures ∙ found_kept c.add_program.new.found (located (program c.args.program.now)) all (omega arith)

pub returns-clause-few : goal.returns-clause-few
returns-clause-few c =
    let all : c.add_program.new.found ≡ with_all none_found (located (program c.args.program.now)) = search rules in
    rw c.into_kept.ensures (found_few c.add_program.new.found (located (program c.args.program.now)) all)
