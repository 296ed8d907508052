use Rattle.std.proofs.Common.{arith, map}
use Rattle.c_tree.specs.Views.{outer}
use Rattle.c_location.specs.Locations.{located, in_outer}
use Rattle.c_location.specs.Shown.{lent, found_at}
use Rattle.c_location.proofs.PartLemmas.{found_at-more, found_at-here}
use Rattle.c_location.proofs.part.in_externals.Goals as goal

pub returns-in-Some : goal.returns-in-Some
returns-in-Some c =
    found_at-here in_outer outer c.args.l.now c.args.externals.now c.loop-external.external-index c.external-item.result (found_at c.args.l.now (located (map outer c.args.externals.now))) (lent c.in-Some.found) (omega arith) c.external-item.is c.in-Some.ensures c.loop-external.invariant

pub loop-external-preserved : goal.loop-external-preserved
loop-external-preserved c =
    found_at-more in_outer outer c.args.l.now c.args.externals.now c.loop-external.external-index c.external-item.result (found_at c.args.l.now (located (map outer c.args.externals.now))) (omega arith) c.external-item.is c.in-None.ensures c.loop-external.invariant
