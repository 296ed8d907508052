use Rattle.std.proofs.Common.{◌≡◌, drop}
use Rattle.c_tree.specs.Views.{variables}
use Rattle.schemas.specs.Constants.{constants_in_variables}
use Rattle.schemas.specs.Kept.{with_constants}
use Rattle.schemas.proofs.constants.add_declarators.Given as goal

-- what is found with the variables that are left
abbrev pub invariant-loop-declarator : goal.invariant-loop-declarator
invariant-loop-declarator l = with_constants l.initial.found.items (constants_in_variables (variables l.declarators)) ≡ with_constants l.found.items (constants_in_variables (variables (drop l.declarator-index l.declarators)))
