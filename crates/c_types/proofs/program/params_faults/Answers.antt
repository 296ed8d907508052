use Rattle.std.proofs.Common.{◌≡◌, ◌∷◌, Bool, List, [], refl, ap, ◌∙◌, arith, drop}
use Rattle.std.proofs.lemmas.Grind.{common_steps}
use Rattle.c_tree.specs.declared.program.Param.{Param}
use Rattle.c_types.specs.declared.fault.FaultKind.TheVariants.{Twice}
use Rattle.c_types.specs.declared.scope.Declaration.{Declaration}
use Rattle.c_types.specs.Least.{fault_if, least}
use Rattle.c_types.specs.Programs.{params_faults}
use Rattle.c_types.specs.Scopes.{here}
use Rattle.c_types.proofs.LeastLemmas.{none_before, all_done}
use Rattle.c_types.proofs.ProgramLemmas.{params_more, params_declared_more}
use Rattle.c_types.proofs.program.params_faults.Goals as goal

pub loop-param-init : goal.loop-param-init
loop-param-init c = record { faults = none_before _ _ c.none-found.ensures; here = refl; outside = refl }

pub loop-param-preserved : goal.loop-param-preserved
loop-param-preserved c =
    let next = c.in_ok-declare.ensures.here ∙ ap (λ (k : Declaration). k ∷ here c.loop-param.scope) c.in_ok-param_declaration.ensures in
    record {
      faults = params_more (here c.loop-param.scope) (here c.declare.new.self) c.args.params.now c.loop-param.param-index c.param-item.result _ c.loop-param.found.fault c.of_if-twice.result.fault c.and-found.result.fault
          (omega arith) c.param-item.is (c.of_if-twice.ensures ∙ ap (λ (b : Bool). least (fault_if b Twice c.param-item.result.span)) c.declares.ensures) next c.and-found.ensures c.loop-param.invariant.faults;
      here = params_declared_more _ (here c.loop-param.scope) (here c.declare.new.self) c.args.params.now c.loop-param.param-index c.param-item.result (omega arith) c.param-item.is next c.loop-param.invariant.here;
      outside = c.in_ok-declare.ensures.outside ∙ c.loop-param.invariant.outside;
    }

pub returns-clause-faults : goal.returns-clause-faults
returns-clause-faults c =
    let none : drop c.loop-param.param-index c.args.params.now ≡ [] = grind (arith, common_steps) in
    all_done (λ (xs : List Param). least (params_faults (here c.loop-param.scope) xs)) c.args.params.now c.loop-param.param-index _ c.loop-param.found.fault none refl c.loop-param.invariant.faults
