use Rattle.std.proofs.Common.{◌≡◌, drop}
use Rattle.c_meaning.specs.Meaning.{bind_params as bind_all_in}
use Rattle.c_meaning.proofs.bind.bind_params.Given as goal

-- the parameters that are left get the arguments that are left
abbrev pub invariant-loop-argument : goal.invariant-loop-argument
invariant-loop-argument l = bind_all_in l.params l.arguments l.fn.state ≡ bind_all_in l.left (drop l.argument-index l.arguments) l.state
