use Rattle.std.proofs.Common.{◌≡◌, ◌++◌, drop}
use Rattle.schemas.specs.Bounds.{bounds}
use Rattle.schemas.proofs.between.bounds.Given as goal

-- the bounds so far, with those over the atoms that are left
abbrev pub invariant-loop-i : goal.invariant-loop-i
invariant-loop-i l = l.found.items ++ bounds (drop l.i l.atoms) ≡ bounds l.atoms
