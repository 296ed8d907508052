use Rattle.std.proofs.Common.{◌≡◌, ◌-◌}
use Rattle.c_location.specs.Shown.{lent}
use Rattle.c_tree.specs.Views.{trees}
use Rattle.schemas.specs.Candidates.{edits_upto, and_all_made, old}
use Rattle.schemas.proofs.candidates_at.before.Given as goal

-- the old expression, and those of the edits of the costs so far
abbrev pub invariant-loop-lower : goal.invariant-loop-lower
invariant-loop-lower l = trees l.seen.items ≡ and_all_made (lent l.part) (old (lent l.part)) (edits_upto l.kind l.atoms (lent l.part) (l.lower - 1))
