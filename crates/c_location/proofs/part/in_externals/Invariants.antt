use Rattle.std.proofs.Common.{◌≡◌, drop, map}
use Rattle.c_tree.specs.Views.{outer}
use Rattle.c_location.specs.Locations.{located}
use Rattle.c_location.specs.Shown.{found_at}
use Rattle.c_location.proofs.part.in_externals.Given as goal

-- what is sought is found in what is left
abbrev pub invariant-loop-external : goal.invariant-loop-external
invariant-loop-external l = found_at l.l (located (map outer l.externals)) ≡ found_at l.l (located (map outer (drop l.external-index l.externals)))
