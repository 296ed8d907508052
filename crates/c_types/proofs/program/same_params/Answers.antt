use Rattle.std.proofs.Common.{◌≡◌, List, [], sym, ap, ◌∙◌, arith, drop, map}
use Rattle.std.proofs.lemmas.Grind.{common_steps}
use Rattle.c_tree.specs.declared.program.Param.{Param}
use Rattle.c_types.specs.Programs.{param_type, same_params}
use Rattle.c_types.proofs.ProgramLemmas.{same_params_nil}
use Rattle.c_types.proofs.program.same_params.Goals as goal

pub returns-else-i-params : goal.returns-else-i-params
returns-else-i-params c =
    let none : drop c.loop-i.i c.args.params.now ≡ [] = grind (arith, common_steps) in
    sym (c.loop-i.invariant ∙ ap (λ (ps : List Param). same_params (drop c.loop-i.i c.args.earlier.now) (map param_type ps)) none ∙ same_params_nil (drop c.loop-i.i c.args.earlier.now))
