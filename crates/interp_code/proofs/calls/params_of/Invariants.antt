use Rattle.std.proofs.Common.{◌≡◌, map, drop}
use Rattle.c_tree.specs.Views.{outer}
use Rattle.c_meaning.specs.Meaning.{definition, params_of as params_in}
use Rattle.interp_code.proofs.calls.params_of.Given as goal

-- what is left has the definition
abbrev pub invariant-loop-external : goal.invariant-loop-external
invariant-loop-external l = params_in (definition l.word (map outer l.context.externals.now)) ≡ params_in (definition l.word (map outer (drop l.external-index l.context.externals.now)))
