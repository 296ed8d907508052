use Rattle.std.proofs.Common.{◌∷◌, ◌∙◌, ap}
use Rattle.c_tree.specs.Views.{variable}
use Rattle.std.proofs.Common.{Bool}
use Rattle.c_types.specs.declared.fault.FaultKind.TheVariants.{Twice}
use Rattle.c_types.specs.Least.{fault_if, least}
use Rattle.c_types.specs.Scopes.{here, outside}
use Rattle.c_types.specs.declared.scope.Declaration.{Declaration}
use Rattle.c_types.proofs.StatementLemmas.{variable_joined}
use Rattle.c_types.proofs.declaration.variable_faults.Goals as goal

pub returns-clause-faults : goal.returns-clause-faults
returns-clause-faults c =
    variable_joined c.args.storage (here c.args.scope.now) (outside c.args.scope.now) (here c.declare.new.self) (outside c.declare.new.self) c.args.ty (variable c.args.d.now) c.of_if-twice.result.fault c.length_faults-length.result.fault c.initial_faults-start.result.fault c.constant_faults-constant.result.fault c.and.result.fault c.and-2.result.fault c.and-3.result.fault
    (c.in_ok-declare.ensures.here ∙ ap (λ (k : Declaration). k ∷ here c.args.scope.now) c.in_ok-variable_declaration.ensures) c.in_ok-declare.ensures.outside (c.of_if-twice.ensures ∙ ap (λ (b : Bool). least (fault_if b Twice c.args.d.now.span)) c.declares.ensures) c.length_faults-length.ensures c.initial_faults-start.ensures c.constant_faults-constant.ensures c.and.ensures c.and-2.ensures c.and-3.ensures
