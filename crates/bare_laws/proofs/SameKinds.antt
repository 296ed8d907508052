-- Faults of the same kinds, in the same order.
use Rattle.std.proofs.Common.{◌≡◌, Bool, true, false, List, [], ◌++◌, refl, sym, ap₂, ◌∙◌, subst}
use Rattle.std.proofs.lemmas.List.{map-append}
use Rattle.c_tree.specs.declared.place.Span.{Span}
use Rattle.c_types.specs.declared.fault.Fault.{Fault}
use Rattle.c_types.specs.declared.fault.FaultKind.{FaultKind}
use Rattle.c_types.specs.Least.{fault, fault_if}
use Rattle.bare_laws.specs.Laws.{kinds_of}

-- the faults are of the same kinds, in the same order
pub record SameKinds (fs gs : List Fault) : Type 0 where
  pub same : kinds_of fs ≡ kinds_of gs

-- no fault
pub none : SameKinds [] []
none = record { same = refl }

-- one fault
pub one : (k : FaultKind) (s t : Span) → SameKinds (fault k s) (fault k t)
unfolding fault
one k s t = record { same = refl }

-- a fault, if a test holds
pub test : (b : Bool) (k : FaultKind) (s t : Span) → SameKinds (fault_if b k s) (fault_if b k t)
test true k s t = one k s t
test false k s t = none

-- the faults of two parts
pub both : {fs gs hs is : List Fault} → SameKinds fs gs → SameKinds hs is
    → SameKinds (fs ++ hs) (gs ++ is)
both {fs} {gs} {hs} {is} a b = record {
  same = map-append (λ (f : Fault). f.kind) fs hs ∙ ap₂ (λ x y. x ++ y) a.same b.same
      ∙ sym (map-append (λ (f : Fault). f.kind) gs is);
}

-- equal faults
pub but_equal : {fs gs hs : List Fault} → fs ≡ gs → SameKinds gs hs → SameKinds fs hs
but_equal {hs = hs} e a = subst (λ q. SameKinds q hs) (sym e) a
