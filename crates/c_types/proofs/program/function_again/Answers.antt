use Rattle.std.proofs.Common.{◌++◌, Bool, List, length, map, nat_eq, sym, ap, ◌∙◌}
use Rattle.std.specs.Prelude.{◌&&◌, not, is_some}
use Rattle.c_tree.specs.declared.program.Param.{Param}
use Rattle.c_tree.specs.Views.{body_option}
use Rattle.c_types.specs.declared.fault.FaultKind.TheVariants.{Twice, WrongKind, WrongCount}
use Rattle.c_types.specs.Least.{fault_if, least}
use Rattle.c_types.specs.Programs.{same_result, same_params, param_type}
use Rattle.c_types.proofs.LeastLemmas.{joined}
use Rattle.c_types.proofs.ProgramLemmas.{is_some_body}
use Rattle.c_types.proofs.program.function_again.Goals as goal

pub returns : goal.returns
returns c defined =
    let s = c.args.f.now.span in let ps = c.args.params.now in
    let A = fault_if (c.args.body && is_some (body_option c.args.f.now.body)) Twice s in
    let B = fault_if (not (same_result c.args.ret c.args.f.now.ret && same_params ps (map param_type c.args.f.now.params.items))) WrongKind s in
    let C = fault_if (not (nat_eq (length ps) (length c.args.f.now.params.items))) WrongCount s in
    joined A (B ++ C) c.of_if-twice.result.fault c.and.result.fault c.and-2.result.fault c.and-2.ensures
    (c.of_if-twice.ensures ∙ ap (λ (b : Bool). least (fault_if (c.args.body && b) Twice s)) (c.is_some.ensures ∙ sym (is_some_body c.args.f.now.body)))
    (joined B C c.of_if-kind.result.fault c.of_if-many.result.fault c.and.result.fault c.and.ensures
    (c.of_if-kind.ensures ∙ ap (λ (b : Bool). least (fault_if (not b) WrongKind s)) c.agrees.ensures)
    (c.of_if-many.ensures ∙ ap (λ (b : Bool). least (fault_if b WrongCount s)) (c.differ.ensures ∙ ap (λ (qs : List Param). not (nat_eq (length ps) (length qs))) c.deref.ensures.value)))
