use Rattle.std.proofs.Common.{◌≡◌, map, drop}
use Rattle.c_tree.specs.Views.{outer}
use Rattle.schemas.specs.Constants.{constants_at}
use Rattle.schemas.specs.Kept.{with_constants}
use Rattle.schemas.proofs.constants.add_externals.Given as goal

-- what is found with the part that is left
abbrev pub invariant-loop-external : goal.invariant-loop-external
invariant-loop-external l = with_constants l.initial.found.items (constants_at l.place (map outer l.externals)) ≡ with_constants l.found.items (constants_at l.place (map outer (drop l.external-index l.externals)))
