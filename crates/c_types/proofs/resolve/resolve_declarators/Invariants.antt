use Rattle.std.proofs.Common.{◌≡◌, ◌+◌, map, length, drop}
use Rattle.c_tree.specs.Views.{variable}
use Rattle.c_types.specs.Scopes.{here, outside}
use Rattle.c_types.specs.Slots.{slot_in, numbered, resolved_variables}
use Rattle.c_types.specs.Statements.{declared}
use Rattle.c_types.proofs.ResolveLemmas.{listed}
use Rattle.c_types.proofs.resolve.resolve_declarators.Given as goal

-- those so far are resolved and declared, and the others are not
abbrev pub invariant-loop-d : goal.invariant-loop-d
invariant-loop-d l = record {
  resolved : listed variable (λ vs. resolved_variables (here l.scope) (outside l.fn.scope) l.ty (numbered (slot_in l.storage) l.next vs)) l.d-items l.d-index
      ≡ resolved_variables (here l.fn.scope) (outside l.fn.scope) l.ty (numbered (slot_in l.storage) l.fn.next (map variable l.initial.d-items));
  here : declared l.ty (numbered (slot_in l.storage) l.next (map variable (drop l.d-index l.d-items))) (here l.scope)
      ≡ declared l.ty (numbered (slot_in l.storage) l.fn.next (map variable l.initial.d-items)) (here l.fn.scope);
  outside : outside l.scope ≡ outside l.fn.scope;
  next : l.next + length (map variable (drop l.d-index l.d-items)) ≡ l.fn.next + length (map variable l.initial.d-items);
}
