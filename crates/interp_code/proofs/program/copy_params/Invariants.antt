use Rattle.std.proofs.Common.{◌≡◌, ◌++◌, drop}
use Rattle.interp_code.proofs.program.copy_params.Given as goal

-- what is copied and what is left are the whole list
abbrev pub invariant-loop-param : goal.invariant-loop-param
invariant-loop-param l = l.copies.items ++ drop l.param-index l.params ≡ l.params
