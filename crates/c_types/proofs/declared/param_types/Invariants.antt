use Rattle.std.proofs.Common.{◌≡◌, take, map}
use Rattle.c_types.specs.Programs.{param_type}
use Rattle.c_types.proofs.declared.param_types.Given as goal

-- the types so far
abbrev pub invariant-loop-param : goal.invariant-loop-param
invariant-loop-param l = l.types.items ≡ map param_type (take l.param-index l.params)
