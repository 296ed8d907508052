use Rattle.std.proofs.Common.{◌≡◌, take}
use Rattle.std.specs.Prelude.{reverse}
use Rattle.c_tree.specs.Views.{function}
use Rattle.c_types.specs.declared.scope.Scope.TheViews.{out-Scope}
use Rattle.c_types.specs.Least.{least, earlier}
use Rattle.c_types.specs.Programs.{name_faults}
use Rattle.c_types.specs.Scopes.{here}
use Rattle.c_types.proofs.program.name_faults.Given as goal

-- the fault of the declarations so far and that of the earlier ones is that of all
abbrev pub invariant-loop-i : goal.invariant-loop-i
invariant-loop-i l = least (name_faults (here l.scope) (function l.f)) ≡ earlier l.found.fault (least (name_faults (reverse (take l.i (out-Scope l.scope).here.items)) (function l.f)))
