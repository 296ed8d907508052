use Rattle.std.proofs.Common.{arith}
use Rattle.c_tree.specs.Tree.{Variable}
use Rattle.c_tree.specs.Views.{variable, variables}
use Rattle.schemas.specs.Constants.{constants_in_initial, constants_in_variables}
use Rattle.schemas.specs.Kept.{with_constants}
use Rattle.schemas.proofs.ConstantLemmas.{met_more}
use Rattle.schemas.proofs.constants.add_declarators.Goals as goal

pub loop-declarator-preserved : goal.loop-declarator-preserved
loop-declarator-preserved c =
    met_more (λ (v : Variable). constants_in_initial v.start) variable c.args.declarators.now c.loop-declarator.declarator-index c.declarator-item.result (with_constants c.args.found.now.items (constants_in_variables (variables c.args.declarators.now))) c.loop-declarator.found.items c.add_start.new.found.items (omega arith) c.declarator-item.is c.in_ok-add_start.ensures c.loop-declarator.invariant
