use Rattle.std.proofs.Common.{◌≡◌, ◌++◌, map, drop, option_map}
use Rattle.c_tree.specs.Views.{outer}
use Rattle.interp_code.specs.Growing.{GrownEntries}
use Rattle.interp_code.specs.Holed.{entry_plan}
use Rattle.interp_code.specs.Shown.{entry_at}
use Rattle.interp_code.proofs.program.flat_functions.Given as goal

-- the functions so far, and then those that are left
abbrev pub invariant-loop-external : goal.invariant-loop-external
invariant-loop-external l = record {
  grown : GrownEntries l.fn.nodes l.nodes l.routines.items (map (option_map (entry_at l.nodes)) l.routines.items);
  whole : map (option_map (entry_at l.nodes)) l.routines.items ++ map (entry_plan l.context) (map outer (drop l.external-index l.context.externals.now)) ≡ map (entry_plan l.context) (map outer l.context.externals.now);
}
