use Rattle.std.proofs.Common.{arith}
use Rattle.schemas.specs.Atoms.{first_variables}
use Rattle.schemas.proofs.CandidateLemmas.{variables_more}
use Rattle.schemas.proofs.around.first_variables.Goals as goal

pub loop-v-preserved : goal.loop-v-preserved
loop-v-preserved c =
    variables_more c.args.visible.now c.loop-v.v-index c.v-item.result (first_variables c.args.visible.now) c.loop-v.found.items c.add_variable.new.found.items (omega arith) c.v-item.is c.in_ok-add_variable.ensures c.loop-v.invariant
