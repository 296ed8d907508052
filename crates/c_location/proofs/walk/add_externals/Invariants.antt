use Rattle.std.proofs.Common.{◌≡◌, map, drop}
use Rattle.c_tree.specs.Views.{outer}
use Rattle.c_location.specs.Locations.{located}
use Rattle.c_location.specs.Tally.{with_all}
use Rattle.c_location.proofs.walk.add_externals.Given as goal

-- what is found with the part that is left
abbrev pub invariant-loop-external : goal.invariant-loop-external
invariant-loop-external l = with_all l.initial.found (located (map outer l.externals)) ≡ with_all l.found (located (map outer (drop l.external-index l.externals)))
