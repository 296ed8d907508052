use Rattle.std.proofs.Common.{◌≡◌, drop}
use Rattle.c_tree.specs.Views.{trees}
use Rattle.c_types.specs.Constants.{not_constant_all}
use Rattle.c_types.specs.Least.{least, earlier}
use Rattle.c_types.proofs.constant.not_constant_all.Given as goal

-- the fault of the expressions so far and that of those that are left is that of all
abbrev pub invariant-loop-e : goal.invariant-loop-e
invariant-loop-e l = least (not_constant_all (trees l.es)) ≡ earlier l.faults.fault (least (not_constant_all (trees (drop l.e-index l.es))))
