use Rattle.std.proofs.Common.{◌≡◌, ◌++◌, ◌-◌, map, take, drop, length}
use Rattle.schemas.specs.Atoms.{variable_atom, numbers, first_variables}
use Rattle.schemas.proofs.around.first_variables.Given as goal

-- the variables so far, with as many of those that are left as there is room for
abbrev pub invariant-loop-v : goal.invariant-loop-v
invariant-loop-v l = l.found.items ++ map variable_atom (take (8 - length l.found.items) (numbers (drop l.v-index l.visible))) ≡ first_variables l.visible
