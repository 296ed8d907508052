use Rattle.std.proofs.Common.{◌≤◌, drop, length}
use Rattle.c_tree.specs.Views.{trees}
use Rattle.interp_code.specs.Flat.{plan_at, Grown}
use Rattle.interp_code.specs.Holed.{list_plan}
use Rattle.interp_code.proofs.declarations.flat_list.Given as goal

-- the code of the elements from `left` on is made
abbrev pub invariant-each : goal.invariant-each
invariant-each l = record {
  left : l.left ≤ length l.elements;
  grown : Grown l.fn.nodes l.nodes l.at (list_plan l.context l.slot l.left (trees (drop l.left l.elements)) (plan_at l.fn.nodes l.next));
}

abbrev pub decreases-each : goal.decreases-each
decreases-each l = l.left
