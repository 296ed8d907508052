use Rattle.std.proofs.Common.{◌≡◌, ◌+◌, take, drop}
use Rattle.c_tree.specs.Views.{body_of, with_item}
use Rattle.c_types.specs.Scopes.{here, outside}
use Rattle.c_types.specs.Slots.{resolved_body, body_count}
use Rattle.c_types.proofs.ResolveLemmas.{before}
use Rattle.c_types.proofs.resolve.+resolve_stmt.Given as goal

-- the items so far are resolved, and the others are not
abbrev pub invariant-resolve_items-loop-item : goal.invariant-resolve_items-loop-item
invariant-resolve_items-loop-item l = record {
  unvisited : goal.unvisited-resolve_items-loop-item l;
  resolved : before with_item (take l.item-index l.item-items) (resolved_body (here l.scope) (outside l.fn.scope) l.next (body_of (drop l.item-index l.item-items)))
      ≡ resolved_body (here l.fn.scope) (outside l.fn.scope) l.fn.next (body_of l.initial.item-items);
  outside : outside l.scope ≡ outside l.fn.scope;
  next : l.next + body_count (body_of (drop l.item-index l.item-items)) ≡ l.fn.next + body_count (body_of l.initial.item-items);
}
