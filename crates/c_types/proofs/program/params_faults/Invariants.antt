use Rattle.std.proofs.Common.{◌≡◌, drop}
use Rattle.c_types.specs.Least.{least, earlier}
use Rattle.c_types.specs.Programs.{params_declared, params_faults}
use Rattle.c_types.specs.Scopes.{here, outside}
use Rattle.c_types.proofs.program.params_faults.Given as goal

-- the fault of the parameters so far and that of those that are left is that of all, and so are the names in scope
abbrev pub invariant-loop-param : goal.invariant-loop-param
invariant-loop-param l = record {
  faults : least (params_faults (here l.fn.scope) l.params) ≡ earlier l.found.fault (least (params_faults (here l.scope) (drop l.param-index l.params)));
  here : params_declared l.params (here l.fn.scope) ≡ params_declared (drop l.param-index l.params) (here l.scope);
  outside : outside l.scope ≡ outside l.fn.scope;
}
