-- A program without a fault, resolved, is a checked one, and one in text order stays so.
use Rattle.std.proofs.Common.{◌≡◌, ℕ, Bool, true, false, not, List, [], ◌∷◌, ◌++◌, refl, sym, ap, ◌∙◌}
use Rattle.c_tree.specs.declared.place.Span.{Span}
use Rattle.c_tree.specs.Order.{ProgramIn}
use Rattle.c_tree.specs.Tree.{Outer}
use Rattle.c_types.specs.declared.fault.FaultKind.{FaultKind}
use Rattle.c_types.specs.declared.fault.FaultKind.TheVariants.{NoMain}
use Rattle.c_types.specs.Evidence.{IsChecked, IsOrdered}
use Rattle.c_types.specs.Least.{fault, fault_if}
use Rattle.c_types.specs.Library.{library}
use Rattle.c_types.specs.Programs.{outers_faults, has_main, main_faults, program_faults}
use Rattle.c_types.specs.Slots.{resolved}
use Rattle.c_types.proofs.ResolvedOrder.{program-order}
use Rattle.c_types.proofs.Resolving.{program-kept, program-anew}
use Rattle.c_types.proofs.SlotlessFaults.{program-same}

-- where two lists together are empty, each is
pub none_left : {A : Type 0} (xs ys : List A) → xs ++ ys ≡ [] → xs ≡ []
none_left [] ys h = refl
none_left (x ∷ xs) ys h = absurd (cc)

pub none_right : {A : Type 0} (xs ys : List A) → xs ++ ys ≡ [] → ys ≡ []
none_right [] ys h = h
none_right (x ∷ xs) ys h = absurd (cc)

-- where there is no fault, the test of it fails, so there is none at another place
pub no_fault : (b : Bool) (kind : FaultKind) (s : Span) → fault_if b kind s ≡ [] → b ≡ false
unfolding fault
no_fault true kind s h = absurd (cc)
no_fault false kind s h = refl

pub no_fault_there : (b : Bool) (kind : FaultKind) (s t : Span) → fault_if b kind s ≡ [] → fault_if b kind t ≡ []
no_fault_there b kind s t h = ap (λ z. fault_if z kind t) (no_fault b kind s h)

-- resolving again changes nothing
pub resolved_again : (p : List Outer) → resolved (resolved p) ≡ resolved p
resolved_again p = sym (program-anew (resolved p)) ∙ ap resolved (program-kept p) ∙ program-anew p

-- resolving changes no fault
pub resolved_faults : (p : List Outer) (end : ℕ) → program_faults (resolved p) end ≡ program_faults p end
resolved_faults p end =
    sym (program-same (resolved p) end) ∙ ap (λ q. program_faults q end) (program-kept p) ∙ program-same p end

-- a program has no fault in a source of one length where it has none in one of another
pub any_end : (p : List Outer) (end other : ℕ) → program_faults p end ≡ [] → program_faults p other ≡ []
any_end p end other h =
    let fs = outers_faults p library p in
    let left : fs ≡ [] = none_left fs (main_faults p end) h in
    let right : main_faults p other ≡ [] = no_fault_there (not (has_main p)) NoMain (record { from = end; to = end }) (record { from = other; to = other }) (none_right fs (main_faults p end) h) in
    ap (λ gs. gs ++ main_faults p other) left ∙ right

-- a program without a fault, resolved, is a checked one
pub checked : (p : List Outer) (end : ℕ) → program_faults p end ≡ [] → IsChecked (resolved p)
checked p end h = record {
  faultless = λ other. resolved_faults p other ∙ any_end p end other h;
  is_resolved = resolved_again p;
}

-- a program in text order, resolved, is in text order
pub resolved_ordered : (p : List Outer) (end : ℕ) → ProgramIn 0 end p → IsOrdered (resolved p)
resolved_ordered p end h = record { end = end; placed = program-order 0 end p h }
