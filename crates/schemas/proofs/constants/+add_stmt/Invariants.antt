use Rattle.std.proofs.Common.{◌≡◌, drop}
use Rattle.c_tree.specs.Views.{body_of}
use Rattle.schemas.specs.Constants.{constants_in_body}
use Rattle.schemas.specs.Kept.{with_constants}
use Rattle.schemas.proofs.constants.+add_stmt.Given as goal

-- what is found with the items that are left
abbrev pub invariant-add_items-loop-item : goal.invariant-add_items-loop-item
invariant-add_items-loop-item l = with_constants l.initial.found.items (constants_in_body (body_of l.items)) ≡ with_constants l.found.items (constants_in_body (body_of (drop l.item-index l.items)))
