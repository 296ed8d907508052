use Rattle.std.proofs.Common.{◌≡◌, ◌++◌, drop}
use Rattle.c_location.specs.Shown.{lent}
use Rattle.c_tree.specs.Views.{trees}
use Rattle.schemas.specs.Candidates.{new_edits}
use Rattle.schemas.proofs.candidates_at.new_edits.Given as goal

-- the edits so far, with the new ones of those that are left
abbrev pub invariant-loop-edit : goal.invariant-loop-edit
invariant-loop-edit l = l.kept.items ++ new_edits (lent l.part) (trees l.seen.items) (drop l.edit-index l.edits) ≡ new_edits (lent l.part) (trees l.initial.seen.items) l.edits
