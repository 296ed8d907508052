-- Faults, and which of several is reported: the one at the least place, and of those at one place the
-- first in the order of the kinds.
use Rattle.std.specs.Prelude.{ℕ, ⊤, Bool, true, false, ◌||◌, ◌&&◌, nat_lt, nat_le, nat_eq, ◌≡◌, List, [], ◌∷◌, Option, Some, None, Contains, All, if◌then◌else◌}
use Rattle.c_tree.specs.declared.place.Span.{Span}
use Rattle.c_types.specs.declared.fault.Fault.{Fault}
use Rattle.c_types.specs.declared.fault.FaultKind.{FaultKind}
use Rattle.c_types.specs.declared.fault.FaultKind.TheVariants.{Unknown, Twice, WrongKind, WrongCount, NotPlace, NotConstant, BadArrayLength, LoopOnly, BadFormat, NoMain}
use Rattle.c_types.specs.declared.fault.TypeFault.{TypeFault}
use Rattle.c_types.specs.declared.fault.TypeFault.TheVariants as reported

-- a fault at the first byte of a part
unfoldable pub fault : FaultKind → Span → List Fault
fault kind s = record { place = s.from; kind = kind } ∷ []

-- the same where a test holds, and else none
abbrev pub fault_if : Bool → FaultKind → Span → List Fault
fault_if true kind s = fault kind s
fault_if false kind s = []

-- the order of the kinds
abbrev pub order : FaultKind → ℕ
order Unknown = 0
order Twice = 1
order WrongKind = 2
order WrongCount = 3
order NotPlace = 4
order NotConstant = 5
order BadArrayLength = 6
order LoopOnly = 7
order BadFormat = 8
order NoMain = 9

-- whether a fault is reported rather than another, or is the same
abbrev pub comes_first : Fault → Fault → Bool
comes_first a b =
    nat_lt a.place b.place || (nat_eq a.place b.place && nat_le (order a.kind) (order b.kind))

-- the one of two that is reported
abbrev pub earlier : Option Fault → Option Fault → Option Fault
earlier None b = b
earlier (Some a) None = Some a
earlier (Some a) (Some b) = if comes_first a b then Some a else Some b

-- the one of a list that is reported
unfoldable pub least : List Fault → Option Fault
least [] = None
least (f ∷ fs) = earlier (Some f) (least fs)

-- a fault of the list that comes before all others
pub record IsFirst (fs : List Fault) (f : Fault) : Type 0 where
  pub among : Contains fs f
  pub first : All (λ g. comes_first f g ≡ true) fs

-- the first of these faults is of that kind at that place
abbrev pub IsFirstAt : List Fault → FaultKind → ℕ → Type 0
IsFirstAt fs kind place = IsFirst fs (record { place = place; kind = kind })

-- what a refusal says of a program's faults: it is the first of them; out of memory says nothing
abbrev pub Causes : TypeFault → List Fault → Type 0
Causes (reported.Unknown n) fs = IsFirstAt fs Unknown n
Causes (reported.Twice n) fs = IsFirstAt fs Twice n
Causes (reported.WrongKind n) fs = IsFirstAt fs WrongKind n
Causes (reported.WrongCount n) fs = IsFirstAt fs WrongCount n
Causes (reported.NotPlace n) fs = IsFirstAt fs NotPlace n
Causes (reported.NotConstant n) fs = IsFirstAt fs NotConstant n
Causes (reported.BadArrayLength n) fs = IsFirstAt fs BadArrayLength n
Causes (reported.LoopOnly n) fs = IsFirstAt fs LoopOnly n
Causes (reported.BadFormat n) fs = IsFirstAt fs BadFormat n
Causes (reported.NoMain n) fs = IsFirstAt fs NoMain n
Causes reported.NoMemory fs = ⊤
