use Rattle.std.proofs.Common.{◌≡◌, drop}
use Rattle.c_location.specs.Shown.{lent}
use Rattle.c_tree.specs.Views.{trees}
use Rattle.schemas.specs.Candidates.{and_all_made}
use Rattle.schemas.proofs.candidates_at.add_all_made.Given as goal

-- the expressions so far, with those of the edits that are left
abbrev pub invariant-loop-edit : goal.invariant-loop-edit
invariant-loop-edit l = and_all_made (lent l.part) (trees l.seen.items) (drop l.edit-index l.edits) ≡ and_all_made (lent l.part) (trees l.initial.seen.items) l.edits
