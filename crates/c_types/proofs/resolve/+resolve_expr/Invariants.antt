use Rattle.std.proofs.Common.{◌≡◌, take, drop}
use Rattle.c_tree.specs.Views.{args_of, with_arg}
use Rattle.c_types.specs.Scopes.{in_scope}
use Rattle.c_types.specs.Slots.{resolved_args}
use Rattle.c_types.proofs.ResolveLemmas.{before}
use Rattle.c_types.proofs.resolve.+resolve_expr.Given as goal

-- the arguments so far are resolved, and the others are not
abbrev pub invariant-resolve_args-loop-arg : goal.invariant-resolve_args-loop-arg
invariant-resolve_args-loop-arg l =
    goal.unvisited-resolve_args-loop-arg l
    × (before with_arg (take l.arg-index l.arg-items) (resolved_args (in_scope l.scope) (args_of (drop l.arg-index l.arg-items))) ≡ resolved_args (in_scope l.scope) (args_of l.initial.arg-items))
