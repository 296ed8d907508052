use Rattle.std.proofs.Common.{◌≡◌, map}
use Rattle.c_tree.specs.Views.{tree}
use Rattle.c_location.specs.Changes.{rewrite_of}
use Rattle.c_location.specs.Rewrites.{to_tree}
use Rattle.c_location.proofs.ChangeLemmas.{listed_so_far}
use Rattle.c_location.proofs.rewrite.change_exprs.Given as goal

-- those so far are changed, and the others are not
abbrev pub invariant-loop-e : goal.invariant-loop-e
invariant-loop-e l =
    listed_so_far tree (to_tree l.l (rewrite_of l.change)) l.e-items l.e-index ≡ map (to_tree l.l (rewrite_of l.change)) (map tree l.initial.e-items)
