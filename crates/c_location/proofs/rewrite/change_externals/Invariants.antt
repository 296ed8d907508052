use Rattle.std.proofs.Common.{◌≡◌, map}
use Rattle.c_tree.specs.Views.{outer}
use Rattle.c_location.specs.Changes.{rewrite_of}
use Rattle.c_location.specs.Rewrites.{to_outer}
use Rattle.c_location.proofs.ChangeLemmas.{listed_so_far}
use Rattle.c_location.proofs.rewrite.change_externals.Given as goal

-- those so far are changed, and the others are not
abbrev pub invariant-loop-external : goal.invariant-loop-external
invariant-loop-external l =
    listed_so_far outer (to_outer l.l (rewrite_of l.change)) l.external-items l.external-index ≡ map (to_outer l.l (rewrite_of l.change)) (map outer l.initial.external-items)
