use Rattle.std.proofs.Common.{◌≡◌, drop}
use Rattle.std.specs.List.{flat_map}
use Rattle.c_tree.specs.Views.{trees}
use Rattle.schemas.specs.Constants.{constants_in}
use Rattle.schemas.specs.Kept.{with_constants}
use Rattle.schemas.proofs.constants.add_exprs.Given as goal

-- what is found with the expressions that are left
abbrev pub invariant-loop-e : goal.invariant-loop-e
invariant-loop-e l = with_constants l.initial.found.items (flat_map constants_in (trees l.es)) ≡ with_constants l.found.items (flat_map constants_in (trees (drop l.e-index l.es)))
