use Rattle.std.proofs.Common.{◌≡◌, map}
use Rattle.c_tree.specs.Views.{tree}
use Rattle.c_types.specs.Scopes.{in_scope}
use Rattle.c_types.specs.Slots.{resolved_tree}
use Rattle.c_types.proofs.ResolveLemmas.{listed}
use Rattle.c_types.proofs.resolve.resolve_exprs.Given as goal

-- those so far are resolved, and the others are not
abbrev pub invariant-loop-e : goal.invariant-loop-e
invariant-loop-e l =
    listed tree (map (resolved_tree (in_scope l.scope))) l.e-items l.e-index ≡ map (resolved_tree (in_scope l.scope)) (map tree l.initial.e-items)
