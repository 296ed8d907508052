use Rattle.std.proofs.Common.{◌≡◌, ◌++◌, ◌-◌}
use Rattle.schemas.specs.Candidates.{leaf_edits}
use Rattle.schemas.proofs.offered.leaf_edits.Given as goal

-- the edits so far, with those of the places that are left
abbrev pub invariant-loop-k : goal.invariant-loop-k
invariant-loop-k l = l.edits.items ++ leaf_edits l.atoms l.k (l.count - l.k) ≡ leaf_edits l.atoms 0 l.count
