use Rattle.std.proofs.Common.{◌≡◌, Bool, List, [], refl, sym, ap, ◌∙◌, arith, drop, map}
use Rattle.std.specs.Prelude.{not}
use Rattle.std.proofs.lemmas.Grind.{common_steps}
use Rattle.c_tree.specs.declared.program.External.{External}
use Rattle.c_tree.specs.Views.{outer}
use Rattle.c_types.specs.declared.fault.FaultKind.TheVariants.{NoMain}
use Rattle.c_types.specs.declared.scope.Declaration.{Declaration}
use Rattle.c_types.specs.Least.{fault_if, least, earlier}
use Rattle.c_types.specs.Library.{library}
use Rattle.c_types.specs.Programs.{outers_faults, main_faults}
use Rattle.c_types.specs.Scopes.{here}
use Rattle.c_types.proofs.LeastLemmas.{none_before, all_done, joined}
use Rattle.c_types.proofs.ProgramLemmas.{outers_more}
use Rattle.c_types.proofs.program.program_faults.Goals as goal

pub loop-external-init : goal.loop-external-init
loop-external-init c = record {
  faults = none_before c.none-found.result.fault _ c.none-found.ensures ∙ ap (λ (ks : List Declaration). earlier c.none-found.result.fault (least (outers_faults (map outer c.args.file.now) ks (map outer c.args.file.now)))) (sym c.in_ok-scope.ensures.here);
  outside = c.in_ok-scope.ensures.outside;
}

pub loop-external-preserved : goal.loop-external-preserved
loop-external-preserved c = record {
  faults = outers_more (map outer c.args.file.now) (here c.loop-external.scope) (here c.external_faults.new.scope) c.args.file.now c.loop-external.external-index c.external-item.result _ c.loop-external.found.fault c.in_ok-external_faults.field-0.fault c.and-found.result.fault
      (omega arith) c.external-item.is c.in_ok-external_faults.ensures.faults c.and-found.ensures c.loop-external.invariant.faults;
  outside = c.in_ok-external_faults.ensures.outside ∙ c.loop-external.invariant.outside;
}

pub returns : goal.returns
returns c =
    let file = map outer c.args.file.now in
    let none : drop c.loop-external.external-index c.args.file.now ≡ [] = grind (arith, common_steps) in
    let all = all_done (λ (xs : List External). least (outers_faults file (here c.loop-external.scope) (map outer xs))) c.args.file.now c.loop-external.external-index (least (outers_faults file library file)) c.loop-external.found.fault none refl c.loop-external.invariant.faults in
    joined (outers_faults file library file) (main_faults file c.args.end) c.loop-external.found.fault c.of_if-no_main.result.fault c.and.result.fault c.and.ensures all
    (c.of_if-no_main.ensures ∙ ap (λ (b : Bool). least (fault_if (not b) NoMain (record { from = c.args.end; to = c.args.end }))) c.has_main.ensures)
