use Rattle.std.proofs.Common.{◌≡◌, drop}
use Rattle.c_tree.specs.Views.{body_of}
use Rattle.c_types.specs.Least.{least, earlier}
use Rattle.c_types.specs.Scopes.{here, outside}
use Rattle.c_types.specs.Statements.{body_faults}
use Rattle.c_types.proofs.stmt.+stmt_faults.Given as goal

-- the fault of the items so far and that of those that are left is that of all
abbrev pub invariant-items_faults-loop-item : goal.invariant-items_faults-loop-item
invariant-items_faults-loop-item l = record {
  faults : least (body_faults l.enclosing.ret (here l.fn.scope) (outside l.fn.scope) l.enclosing.in_loop (body_of l.items)) ≡ earlier l.found.fault (least (body_faults l.enclosing.ret (here l.scope) (outside l.fn.scope) l.enclosing.in_loop (body_of (drop l.item-index l.items))));
  outside : outside l.scope ≡ outside l.fn.scope;
}
