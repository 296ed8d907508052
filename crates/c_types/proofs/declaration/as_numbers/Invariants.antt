use Rattle.std.proofs.Common.{◌≡◌, drop}
use Rattle.c_tree.specs.Views.{trees}
use Rattle.c_types.specs.Least.{least, earlier}
use Rattle.c_types.specs.Scopes.{in_scope}
use Rattle.c_types.specs.Statements.{as_numbers}
use Rattle.c_types.proofs.declaration.as_numbers.Given as goal

-- the fault of the expressions so far and that of those that are left is that of all
abbrev pub invariant-loop-e : goal.invariant-loop-e
invariant-loop-e l = least (as_numbers (in_scope l.scope) (trees l.es)) ≡ earlier l.found.fault (least (as_numbers (in_scope l.scope) (trees (drop l.e-index l.es))))
