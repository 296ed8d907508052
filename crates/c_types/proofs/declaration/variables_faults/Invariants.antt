use Rattle.std.proofs.Common.{◌≡◌, drop}
use Rattle.c_tree.specs.Views.{variables}
use Rattle.c_types.specs.Least.{least, earlier}
use Rattle.c_types.specs.Scopes.{here, outside}
use Rattle.c_types.specs.Statements.{declared, variables_faults}
use Rattle.c_types.proofs.declaration.variables_faults.Given as goal

-- the fault of the declarators so far and that of those that are left is that of all, and so are the names in scope
abbrev pub invariant-loop-d : goal.invariant-loop-d
invariant-loop-d l = record {
  faults : least (variables_faults l.storage (here l.fn.scope) (outside l.fn.scope) l.ty (variables l.ds)) ≡ earlier l.found.fault (least (variables_faults l.storage (here l.scope) (outside l.fn.scope) l.ty (variables (drop l.d-index l.ds))));
  here : declared l.ty (variables l.ds) (here l.fn.scope) ≡ declared l.ty (variables (drop l.d-index l.ds)) (here l.scope);
  outside : outside l.scope ≡ outside l.fn.scope;
}
