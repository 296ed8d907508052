-- Where a part is at a location, the kind and the text are those of the location.
use Rattle.std.proofs.Common.{◌≡◌, Bool, true, false, ◌&&◌, refl, ap, ◌∙◌, arith}
use Rattle.std.proofs.lemmas.Bool.Decides.{nat_tests}
use Rattle.c_tree.specs.declared.place.Loc.{Loc}
use Rattle.c_tree.specs.declared.place.LocKind.{LocKind}
use Rattle.c_tree.specs.declared.place.LocKind.TheVariants.{Guard, Cond, Right}
use Rattle.c_tree.specs.declared.place.Span.{Span}
use Rattle.c_tree.specs.Parts.{same_span}
use Rattle.c_location.specs.Locations.{same_kind, stands}

-- kinds that pass for the same are the same
same_kind_is : (a b : LocKind) → same_kind a b ≡ true → a ≡ b
same_kind_is Guard Guard e = refl
same_kind_is Guard Cond e = absurd (cc)
same_kind_is Guard Right e = absurd (cc)
same_kind_is Cond Guard e = absurd (cc)
same_kind_is Cond Cond e = refl
same_kind_is Cond Right e = absurd (cc)
same_kind_is Right Guard e = absurd (cc)
same_kind_is Right Cond e = absurd (cc)
same_kind_is Right Right e = refl

-- texts that pass for the same are the same
same_span_is : (s t : Span) → same_span s t ≡ true → s ≡ t
same_span_is s t h =
    let p : s.from ≡ t.from = grind (arith, nat_tests) in
    let q : s.to ≡ t.to = grind (arith, nat_tests) in
    ap (λ x. record { from = x; to = s.to }) p ∙ ap (λ x. record { from = t.from; to = x }) q

-- two tests hold together, so both do
both_of : (x y : Bool) → (x && y) ≡ true → (x ≡ true) × (y ≡ true)
both_of true true h = (refl, refl)
both_of true false h = absurd (cc)
both_of false y h = absurd (cc)

-- what stands at a location has its kind and its text
pub stands_is : (l : Loc) (k : LocKind) (s : Span) → stands l k s ≡ true → (l.kind ≡ k) × (s ≡ l.at)
stands_is l k s h =
    let p = both_of (same_kind l.kind k) (same_span s l.at) h in
    (same_kind_is l.kind k p.0, same_span_is s l.at p.1)
