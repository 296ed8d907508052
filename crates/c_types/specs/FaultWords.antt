-- Where the fault of a program stands, and what is said of it.
use Rattle.std.specs.Prelude.{ℕ, List, Option, Some, None, codes}
use Rattle.c_types.specs.declared.fault.TypeFault.{TypeFault}
use Rattle.c_types.specs.declared.fault.TypeFault.TheVariants as fault

-- its place in the source; out of memory has none
abbrev pub place_of : TypeFault → Option ℕ
place_of (fault.Unknown place) = Some place
place_of (fault.Twice place) = Some place
place_of (fault.WrongKind place) = Some place
place_of (fault.WrongCount place) = Some place
place_of (fault.NotPlace place) = Some place
place_of (fault.NotConstant place) = Some place
place_of (fault.BadArrayLength place) = Some place
place_of (fault.LoopOnly place) = Some place
place_of (fault.BadFormat place) = Some place
place_of (fault.NoMain place) = Some place
place_of fault.NoMemory = None

-- its words
abbrev pub words_of : TypeFault → List ℕ
words_of (fault.Unknown place) = codes "unknown name"
words_of (fault.Twice place) = codes "declared twice"
words_of (fault.WrongKind place) = codes "wrong kind"
words_of (fault.WrongCount place) = codes "wrong count"
words_of (fault.NotPlace place) = codes "not a place"
words_of (fault.NotConstant place) = codes "not a constant"
words_of (fault.BadArrayLength place) = codes "bad array length"
words_of (fault.LoopOnly place) = codes "outside a loop"
words_of (fault.BadFormat place) = codes "bad format"
words_of (fault.NoMain place) = codes "no main"
words_of fault.NoMemory = codes "out of memory"
