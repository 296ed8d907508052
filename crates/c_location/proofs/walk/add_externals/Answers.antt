use Rattle.std.proofs.Common.{arith, map}
use Rattle.c_tree.specs.Views.{outer}
use Rattle.c_location.specs.Locations.{in_outer, located}
use Rattle.c_location.specs.Tally.{with_all}
use Rattle.c_location.proofs.WalkLemmas.{found_more}
use Rattle.c_location.proofs.walk.add_externals.Goals as goal

pub loop-external-preserved : goal.loop-external-preserved
loop-external-preserved c =
    found_more in_outer outer c.args.externals.now c.loop-external.external-index c.external-item.result (with_all c.args.found.now (located (map outer c.args.externals.now))) c.loop-external.found c.add_external.new.found (omega arith) c.external-item.is c.in_ok-add_external.ensures c.loop-external.invariant
