use Rattle.std.proofs.Common.{◌≤◌, drop, length}
use Rattle.c_tree.specs.Views.{variables}
use Rattle.interp_code.specs.Flat.{plan_at, Grown}
use Rattle.interp_code.specs.Holed.{declaration_plan}
use Rattle.interp_code.proofs.declarations.flat_declaration.Given as goal

-- the code of the variables from `left` on is made
abbrev pub invariant-each : goal.invariant-each
invariant-each l = record {
  left : l.left ≤ length l.declarators;
  grown : Grown l.fn.nodes l.nodes l.at (declaration_plan l.context l.scope l.ty (variables (drop l.left l.declarators)) (plan_at l.fn.nodes l.next));
}

abbrev pub decreases-each : goal.decreases-each
decreases-each l = l.left
