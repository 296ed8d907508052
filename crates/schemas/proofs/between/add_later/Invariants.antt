use Rattle.std.proofs.Common.{◌≡◌, ◌++◌, drop}
use Rattle.std.specs.List.{flat_map}
use Rattle.schemas.specs.Bounds.{bounds_by}
use Rattle.schemas.proofs.between.add_later.Given as goal

-- the bounds so far, with those by the atoms that are left
abbrev pub invariant-loop-y : goal.invariant-loop-y
invariant-loop-y l = l.found.items ++ flat_map (bounds_by l.x) (drop l.y-index l.later) ≡ l.initial.found.items ++ flat_map (bounds_by l.x) l.later
