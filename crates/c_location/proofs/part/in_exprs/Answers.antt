use Rattle.std.proofs.Common.{arith}
use Rattle.std.specs.List.{flat_map}
use Rattle.c_tree.specs.Views.{trees, tree}
use Rattle.c_location.specs.Locations.{in_tree}
use Rattle.c_location.specs.Shown.{lent, found_at}
use Rattle.c_location.proofs.PartLemmas.{found_at-more, found_at-here}
use Rattle.c_location.proofs.part.in_exprs.Goals as goal

pub returns-in-Some : goal.returns-in-Some
returns-in-Some c =
    found_at-here in_tree tree c.args.l.now c.args.es.now c.loop-e.e-index c.e-item.result (found_at c.args.l.now (flat_map in_tree (trees c.args.es.now))) (lent c.in-Some.found) (omega arith) c.e-item.is c.in-Some.ensures c.loop-e.invariant

pub loop-e-preserved : goal.loop-e-preserved
loop-e-preserved c =
    found_at-more in_tree tree c.args.l.now c.args.es.now c.loop-e.e-index c.e-item.result (found_at c.args.l.now (flat_map in_tree (trees c.args.es.now))) (omega arith) c.e-item.is c.in-None.ensures c.loop-e.invariant
