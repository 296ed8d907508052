use Rattle.std.proofs.Common.{◌≡◌, map}
use Rattle.c_tree.specs.Views.{variable}
use Rattle.c_location.specs.Changes.{rewrite_of}
use Rattle.c_location.specs.Rewrites.{to_variable}
use Rattle.c_location.proofs.ChangeLemmas.{listed_so_far}
use Rattle.c_location.proofs.rewrite.change_declarators.Given as goal

-- those so far are changed, and the others are not
abbrev pub invariant-loop-declarator : goal.invariant-loop-declarator
invariant-loop-declarator l =
    listed_so_far variable (to_variable l.l (rewrite_of l.change)) l.declarator-items l.declarator-index ≡ map (to_variable l.l (rewrite_of l.change)) (map variable l.initial.declarator-items)
