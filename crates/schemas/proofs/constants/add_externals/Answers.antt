use Rattle.std.proofs.Common.{arith, map}
use Rattle.c_tree.specs.Views.{outer}
use Rattle.schemas.specs.Constants.{constants_around, constants_at}
use Rattle.schemas.specs.Kept.{with_constants}
use Rattle.schemas.proofs.ConstantLemmas.{met_more}
use Rattle.schemas.proofs.constants.add_externals.Goals as goal

pub loop-external-preserved : goal.loop-external-preserved
loop-external-preserved c =
    met_more (constants_around c.args.place) outer c.args.externals.now c.loop-external.external-index c.external-item.result (with_constants c.args.found.now.items (constants_at c.args.place (map outer c.args.externals.now))) c.loop-external.found.items c.add_external.new.found.items (omega arith) c.external-item.is c.in_ok-add_external.ensures c.loop-external.invariant
