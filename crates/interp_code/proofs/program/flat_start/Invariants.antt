use Rattle.std.proofs.Common.{◌≤◌, drop, length, map}
use Rattle.c_tree.specs.Views.{outer}
use Rattle.interp_code.specs.Compile.{plan_main, plan_outers}
use Rattle.interp_code.specs.Flat.{Grown}
use Rattle.interp_code.specs.Holed.{heads, outers}
use Rattle.interp_code.proofs.program.flat_start.Given as goal

-- the code of the objects of file scope from `left` on is made
abbrev pub invariant-each : goal.invariant-each
invariant-each l = record {
  left : l.left ≤ length l.context.externals.now;
  grown : Grown l.fn.nodes l.nodes l.at (plan_outers (heads l.context) (map outer (drop l.left l.context.externals.now)) (plan_main (outers l.context)));
}

abbrev pub decreases-each : goal.decreases-each
decreases-each l = l.left
