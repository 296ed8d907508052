use Rattle.std.proofs.Common.{◌≡◌, drop, map}
use Rattle.c_types.specs.Programs.{param_type, same_params}
use Rattle.c_types.proofs.program.same_params.Given as goal

-- the answer is the one for the parameters that are left
abbrev pub invariant-loop-i : goal.invariant-loop-i
invariant-loop-i l = same_params l.earlier (map param_type l.params) ≡ same_params (drop l.i l.earlier) (map param_type (drop l.i l.params))
