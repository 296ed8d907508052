-- The first fault of a program is one.
use Rattle.std.proofs.Common.{◌≡◌, ◌≢◌, ℕ, true, ◌||◌, ◌&&◌, nat_lt, nat_eq, List, [], ap, sym, subst, refl, ◌∙◌, arith}
use Rattle.std.specs.Prelude.{nat_le, Contains, if◌then◌else◌}
use Rattle.std.specs.List.{All}
use Rattle.std.proofs.lemmas.Bool.Decides.{nat_tests}
use Rattle.c_types.specs.declared.fault.Fault.{Fault}
use Rattle.c_types.specs.declared.fault.FaultKind.{FaultKind}
use Rattle.c_types.specs.declared.fault.FaultKind.TheVariants.{Unknown, Twice, WrongKind, WrongCount, NotPlace, NotConstant, BadArrayLength, LoopOnly, BadFormat, NoMain}
use Rattle.c_types.specs.declared.fault.TypeFault.{TypeFault}
use Rattle.c_types.specs.declared.fault.TypeFault.TheVariants as reported
use Rattle.c_types.specs.Least.{order, comes_first, IsFirst, Causes}

-- the kind of fault of that number in the list
abbrev kind_at : ℕ → FaultKind
kind_at n =
    if nat_eq n 0 then Unknown else (if nat_eq n 1 then Twice else (if nat_eq n 2 then WrongKind
    else (if nat_eq n 3 then WrongCount else (if nat_eq n 4 then NotPlace else (if nat_eq n 5 then NotConstant
    else (if nat_eq n 6 then BadArrayLength else (if nat_eq n 7 then LoopOnly else (if nat_eq n 8 then BadFormat else NoMain))))))))

kind_back : (k : FaultKind) → kind_at (order k) ≡ k
kind_back Unknown = refl
kind_back Twice = refl
kind_back WrongKind = refl
kind_back WrongCount = refl
kind_back NotPlace = refl
kind_back NotConstant = refl
kind_back BadArrayLength = refl
kind_back LoopOnly = refl
kind_back BadFormat = refl
kind_back NoMain = refl

-- kinds of one number are one
same_kind : (a b : FaultKind) → order a ≡ order b → a ≡ b
same_kind a b e = sym (kind_back a) ∙ ap kind_at e ∙ kind_back b

both_before : (p o q r : ℕ)
    → (nat_lt p q || (nat_eq p q && nat_le o r)) ≡ true → (nat_lt q p || (nat_eq q p && nat_le r o)) ≡ true
    → (p ≡ q) × (o ≡ r)
both_before p o q r a b = (grind (arith, nat_tests), grind (arith, nat_tests))

fault_is : (a b : Fault) → a.place ≡ b.place → a.kind ≡ b.kind → a ≡ b
fault_is a b p k = λ i. record { place = p i; kind = k i }

-- two faults that come before one another are one
one_before : (a b : Fault) → comes_first a b ≡ true → comes_first b a ≡ true → a ≡ b
one_before a b x y =
    let e = both_before a.place (order a.kind) b.place (order b.kind) x y in
    fault_is a b e.0 (same_kind a.kind b.kind e.1)

-- what holds of all holds of one of them
at_member : (P : Fault → Type 0) (fs : List Fault) (f : Fault) → All P fs → Contains fs f → P f
at_member P fs f all found = subst P found.2 (all found.0 f found.1)

-- the first of a list is one
one_first : (fs : List Fault) (f g : Fault) → IsFirst fs f → IsFirst fs g → f ≡ g
one_first fs f g a b =
    one_before f g (at_member (λ h. comes_first f h ≡ true) fs g a.first b.among)
    (at_member (λ h. comes_first g h ≡ true) fs f b.first a.among)

-- ---- what is reported

-- a fault of that kind there, as it is reported
abbrev reported_of : FaultKind → ℕ → TypeFault
reported_of Unknown n = reported.Unknown n
reported_of Twice n = reported.Twice n
reported_of WrongKind n = reported.WrongKind n
reported_of WrongCount n = reported.WrongCount n
reported_of NotPlace n = reported.NotPlace n
reported_of NotConstant n = reported.NotConstant n
reported_of BadArrayLength n = reported.BadArrayLength n
reported_of LoopOnly n = reported.LoopOnly n
reported_of BadFormat n = reported.BadFormat n
reported_of NoMain n = reported.NoMain n

-- the fault, as it is reported
abbrev reported_as : Fault → TypeFault
reported_as f = reported_of f.kind f.place

-- what is reported, other than that memory ran out, is a fault that comes first
first_of : (f : TypeFault) (fs : List Fault) → f ≢ reported.NoMemory → Causes f fs
    → (x : Fault) × IsFirst fs x × (reported_as x ≡ f)
first_of (reported.Unknown n) fs some x = (record { place = n; kind = Unknown }, x, refl)
first_of (reported.Twice n) fs some x = (record { place = n; kind = Twice }, x, refl)
first_of (reported.WrongKind n) fs some x = (record { place = n; kind = WrongKind }, x, refl)
first_of (reported.WrongCount n) fs some x = (record { place = n; kind = WrongCount }, x, refl)
first_of (reported.NotPlace n) fs some x = (record { place = n; kind = NotPlace }, x, refl)
first_of (reported.NotConstant n) fs some x = (record { place = n; kind = NotConstant }, x, refl)
first_of (reported.BadArrayLength n) fs some x = (record { place = n; kind = BadArrayLength }, x, refl)
first_of (reported.LoopOnly n) fs some x = (record { place = n; kind = LoopOnly }, x, refl)
first_of (reported.BadFormat n) fs some x = (record { place = n; kind = BadFormat }, x, refl)
first_of (reported.NoMain n) fs some x = (record { place = n; kind = NoMain }, x, refl)
first_of reported.NoMemory fs some x = absurd (some refl)

-- a program's faults are reported in one way at most
pub one_cause : (fs : List Fault) (f g : TypeFault) → f ≢ reported.NoMemory → g ≢ reported.NoMemory
    → Causes f fs → Causes g fs → f ≡ g
one_cause fs f g m n x y =
    let a = first_of f fs m x in
    let b = first_of g fs n y in
    sym a.2 ∙ ap reported_as (one_first fs a.0 b.0 a.1 b.1) ∙ b.2

-- where there is no fault, none is reported
pub no_cause : (f : TypeFault) → f ≢ reported.NoMemory → Causes f [] → ⊥
no_cause f some x = let a = first_of f [] some x in absurd (omega (arith, a.1.among.1))
