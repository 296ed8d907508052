use Rattle.std.proofs.Common.{◌∷◌, List, [], ap, ◌∙◌, map}
use Rattle.c_tree.specs.declared.program.Param.{Param}
use Rattle.c_tree.specs.Views.{outer, function}
use Rattle.c_types.specs.declared.scope.Declaration.{Declaration}
use Rattle.c_types.specs.Least.{least}
use Rattle.c_types.specs.Programs.{params_declared, params_faults}
use Rattle.c_types.specs.Scopes.{here, outside}
use Rattle.c_types.proofs.ProgramLemmas.{function_joined}
use Rattle.c_types.proofs.program.function_faults.Goals as goal

pub returns-clause-faults : goal.returns-clause-faults
returns-clause-faults c =
    function_joined (map outer c.args.file.now) (here c.args.scope.now) (here c.declare.new.self) (outside c.declare.new.self) (here c.params_faults.new.scope) (outside c.params_faults.new.scope) (function c.args.f.now)
    c.name_faults-name.result.fault c.in_ok-params.params.fault c.in_ok-body.body.fault c.and.result.fault c.and-2.result.fault
    (c.in_ok-declare.ensures.here ∙ ap (λ (k : Declaration). k ∷ here c.args.scope.now) c.in_ok-function_declaration.ensures)
    (c.in_ok-declare.ensures.outside ∙ c.requires)
    (c.in_ok-params.ensures.here ∙ ap (λ (ks : List Declaration). params_declared c.deref.result.now ks) c.inside-inner.ensures.here ∙ ap (λ (ps : List Param). params_declared ps []) c.deref.ensures.value)
    (c.in_ok-params.ensures.outside ∙ c.inside-inner.ensures.outside)
    c.name_faults-name.ensures
    (c.in_ok-params.ensures.faults ∙ ap (λ (ks : List Declaration). least (params_faults ks c.deref.result.now)) c.inside-inner.ensures.here ∙ ap (λ (ps : List Param). least (params_faults [] ps)) c.deref.ensures.value)
    c.in_ok-body.ensures c.and.ensures c.and-2.ensures
