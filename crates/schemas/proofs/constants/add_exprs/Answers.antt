use Rattle.std.proofs.Common.{arith}
use Rattle.std.specs.List.{flat_map}
use Rattle.c_tree.specs.Views.{tree, trees}
use Rattle.schemas.specs.Constants.{constants_in}
use Rattle.schemas.specs.Kept.{with_constants}
use Rattle.schemas.proofs.ConstantLemmas.{met_more}
use Rattle.schemas.proofs.constants.add_exprs.Goals as goal

pub loop-e-preserved : goal.loop-e-preserved
loop-e-preserved c =
    met_more constants_in tree c.args.es.now c.loop-e.e-index c.e-item.result (with_constants c.args.found.now.items (flat_map constants_in (trees c.args.es.now))) c.loop-e.found.items c.add_expr.new.found.items (omega arith) c.e-item.is c.in_ok-add_expr.ensures c.loop-e.invariant
