use Rattle.std.proofs.Common.{◌≡◌, drop}
use Rattle.std.specs.List.{flat_map}
use Rattle.c_tree.specs.Views.{trees}
use Rattle.c_location.specs.Locations.{in_tree}
use Rattle.c_location.specs.Shown.{found_at}
use Rattle.c_location.proofs.part.in_exprs.Given as goal

-- what is sought is found in what is left
abbrev pub invariant-loop-e : goal.invariant-loop-e
invariant-loop-e l = found_at l.l (flat_map in_tree (trees l.es)) ≡ found_at l.l (flat_map in_tree (trees (drop l.e-index l.es)))
