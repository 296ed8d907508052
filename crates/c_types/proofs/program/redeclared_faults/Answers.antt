use Rattle.std.proofs.Common.{List, ap, ◌∙◌}
use Rattle.c_tree.specs.Views.{function}
use Rattle.c_types.specs.declared.scope.Entity.TheVariants.{Function as FunctionEntity}
use Rattle.c_types.specs.declared.scope.ParamType.{ParamType}
use Rattle.c_types.specs.Least.{least}
use Rattle.c_types.specs.Programs.{redeclared_faults}
use Rattle.c_types.proofs.program.redeclared_faults.Goals as goal

pub returns-in-Function : goal.returns-in-Function
returns-in-Function c =
    rw c.in-Function.is (c.function_again.ensures c.in-Function.defined
    ∙ ap (λ (ps : List ParamType). least (redeclared_faults (FunctionEntity c.in-Function.ret ps c.in-Function.body c.in-Function.defined) (function c.args.f.now))) c.as_slice.ensures)
