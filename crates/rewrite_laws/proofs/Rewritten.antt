-- A checked program stays one where what stands at a location becomes something else that fits there as well.
use Rattle.std.proofs.Common.{◌≡◌, ℕ, List, [], sym, ◌∙◌}
use Rattle.c_tree.specs.declared.place.Loc.{Loc}
use Rattle.c_tree.specs.Tree.{Tree, Outer}
use Rattle.c_types.specs.declared.scope.Declaration.{Declaration}
use Rattle.c_types.specs.Programs.{program_faults}
use Rattle.c_location.specs.Rewrites.{Rewrite, rewritten}
use Rattle.rewrite_laws.specs.Laws.{FitsAsWell, RewrittenIsChecked}
use Rattle.rewrite_laws.proofs.AllThere.{all_there}
use Rattle.rewrite_laws.proofs.NumbersThere.{And, in_program}
use Rattle.rewrite_laws.proofs.SeesThere.{Nothing, InProgram}
use Rattle.rewrite_laws.proofs.ThereFaults.{KeepsThere, program-kept, function_declaration-kept}
use Rattle.rewrite_laws.proofs.ThereSlots.{KeepsSlots, program-slots}

-- nothing is asked of the scope of an expression, nor of that of a statement
abbrev pub Anywhere : List Declaration → Tree → Type 0
Anywhere ds e = Nothing

abbrev pub AnywhereCode : List Declaration → Type 0
AnywhereCode ds = Nothing

module _ (r : Rewrite) (fits : FitsAsWell r) where
  pub keeps : KeepsThere (And Anywhere) AnywhereCode r
  keeps = record {
    number = λ ds e h. fits.is_number ds e h.0.number h.0.faultless ∙ sym h.0.number;
    faults = λ ds e h. fits.faultless ds e h.0.number h.0.faultless ∙ sym h.0.faultless;
    code = λ ret ds in_loop c h. fits.same_faults ret ds in_loop c;
  }

  keeps_slots : KeepsSlots Anywhere AnywhereCode r
  keeps_slots = record {
    tree = λ ds e h was. fits.slots ds e was;
    code = λ ds n c h was. fits.code_slots ds n c was;
    count = fits.same_count;
  }

  module _ (p : List Outer) (l : Loc) where
    somewhere : InProgram l Anywhere AnywhereCode p
    somewhere = all_there l Anywhere AnywhereCode (λ ds e. tt) (λ ds. tt) p

    still_faultless : (end : ℕ) → program_faults p end ≡ [] → program_faults (rewritten l r p) end ≡ []
    still_faultless end h =
        let numbers : InProgram l (And Anywhere) AnywhereCode p = in_program l Anywhere AnywhereCode p end h somewhere in
        program-kept l r (And Anywhere) AnywhereCode keeps p end numbers ∙ h

pub rewritten_checked : RewrittenIsChecked
rewritten_checked r fits p h l = record {
  faultless = λ end. still_faultless r fits p l end (h.faultless end);
  is_resolved =
      program-slots l r Anywhere AnywhereCode (keeps_slots r fits) p
      (λ f. function_declaration-kept l r (And Anywhere) AnywhereCode (keeps r fits) p f) (somewhere r fits p l) h.is_resolved;
}
