use Rattle.std.proofs.Common.{◌≡◌, drop}
use Rattle.c_tree.specs.Views.{variables}
use Rattle.c_location.specs.Locations.{in_variables}
use Rattle.c_location.specs.Shown.{found_at}
use Rattle.c_location.proofs.part.in_declarators.Given as goal

-- what is sought is found in what is left
abbrev pub invariant-loop-declarator : goal.invariant-loop-declarator
invariant-loop-declarator l = found_at l.l (in_variables (variables l.declarators)) ≡ found_at l.l (in_variables (variables (drop l.declarator-index l.declarators)))
