use Rattle.interp_code.specs.Flat.{plan_at}
use Rattle.interp_code.proofs.Made.{ok_same}
use Rattle.interp_code.proofs.Starts.{outer_objects}
use Rattle.interp_code.proofs.program.flat_outer.Goals as goal

pub returns-in-Vars : goal.returns-in-Vars
returns-in-Vars c = ok_same _ _ _ _ c.flat_declaration.result (outer_objects c.args.context.now c.args.external.now c.in-Vars.ty c.in-Vars.declarators c.deref.result.now (plan_at c.args.nodes.now c.args.next) c.in-Vars.is c.deref.ensures.value) c.flat_declaration.ensures
