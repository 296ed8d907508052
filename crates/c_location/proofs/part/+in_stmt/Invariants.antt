use Rattle.std.proofs.Common.{◌≡◌, drop}
use Rattle.c_tree.specs.Views.{body_of}
use Rattle.c_location.specs.Locations.{in_body}
use Rattle.c_location.specs.Shown.{found_at}
use Rattle.c_location.proofs.part.+in_stmt.Given as goal

-- what is sought is found in the items that are left
abbrev pub invariant-in_items-loop-item : goal.invariant-in_items-loop-item
invariant-in_items-loop-item l = found_at l.l (in_body (body_of l.items)) ≡ found_at l.l (in_body (body_of (drop l.item-index l.items)))
