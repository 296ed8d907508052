use Rattle.std.proofs.Common.{◌≡◌, List, [], refl, ◌∙◌, arith, drop}
use Rattle.std.proofs.lemmas.Grind.{common_steps}
use Rattle.c_tree.specs.declared.stmt.Declarator.{Declarator}
use Rattle.c_tree.specs.Views.{variables}
use Rattle.c_types.specs.Least.{least}
use Rattle.c_types.specs.Scopes.{here, outside}
use Rattle.c_types.specs.Statements.{variables_faults}
use Rattle.c_types.proofs.LeastLemmas.{none_before, all_done}
use Rattle.c_types.proofs.StatementLemmas.{variables_more, declared_more}
use Rattle.c_types.proofs.declaration.variables_faults.Goals as goal

pub loop-d-init : goal.loop-d-init
loop-d-init c = record { faults = none_before _ _ c.none-found.ensures; here = refl; outside = refl }

pub loop-d-preserved : goal.loop-d-preserved
loop-d-preserved c = record {
  faults = variables_more c.args.storage (here c.loop-d.scope) (here c.variable_faults.new.scope) (outside c.args.scope.now) (outside c.loop-d.scope) c.args.ty c.args.ds.now c.loop-d.d-index c.d-item.result _ c.loop-d.found.fault c.in_ok-variable_faults.field-0.fault c.and-found.result.fault
      (omega arith) c.d-item.is c.loop-d.invariant.outside c.in_ok-variable_faults.ensures.faults c.in_ok-variable_faults.ensures.here c.and-found.ensures c.loop-d.invariant.faults;
  here = declared_more _ (here c.loop-d.scope) (here c.variable_faults.new.scope) c.args.ty c.args.ds.now c.loop-d.d-index c.d-item.result (omega arith) c.d-item.is c.in_ok-variable_faults.ensures.here c.loop-d.invariant.here;
  outside = c.in_ok-variable_faults.ensures.outside ∙ c.loop-d.invariant.outside;
}

pub returns-clause-faults : goal.returns-clause-faults
returns-clause-faults c =
    let none : drop c.loop-d.d-index c.args.ds.now ≡ [] = grind (arith, common_steps) in
    all_done (λ (xs : List Declarator). least (variables_faults c.args.storage (here c.loop-d.scope) (outside c.args.scope.now) c.args.ty (variables xs))) c.args.ds.now c.loop-d.d-index _ c.loop-d.found.fault none refl c.loop-d.invariant.faults
