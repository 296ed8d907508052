-- Why a whole read gives no file.
use Rattle.std.specs.Prelude.{◌≡◌, ◌⊎◌, ℕ, ◌<◌, List, length, Option}
use Rattle.fx_io.specs.Faults.{Rose}
use Rattle.fx_io.specs.Held.{IsContent, IsLeft, Lacks}
use Rattle.fx_io.specs.declared.whole.ReadEnd.{ReadEnd}
use Rattle.fx_io.specs.declared.whole.ReadEnd.TheVariants.{Fault, TooLong, NoMemory}

-- the file of this name has more than cap bytes
abbrev pub IsLonger : Option (List (List ℕ × List ℕ)) → List ℕ → ℕ → Type 0
IsLonger held name cap = (bytes : List ℕ) × IsContent held name bytes × (cap < length bytes)

-- why each end comes: a failure or an absent file, a file that is too long, or want of memory
abbrev pub ReadEnds : Option (List (List ℕ × List ℕ)) → List ℕ → ℕ → ℕ → ℕ → ReadEnd → Type 0
ReadEnds held name cap before now Fault = Rose before now ⊎ Lacks held name
ReadEnds held name cap before now (TooLong n) = (n ≡ cap) × IsLonger held name cap
ReadEnds held name cap before now NoMemory = Unit {0}

-- the same of a read of what is left of a chosen file
abbrev pub LeftEnds : Option (List ℕ) → ℕ → ℕ → ℕ → ReadEnd → Type 0
LeftEnds left cap before now Fault = Rose before now
LeftEnds left cap before now (TooLong n) =
    (n ≡ cap) × ((bytes : List ℕ) × IsLeft left bytes × (cap < length bytes))
LeftEnds left cap before now NoMemory = Unit {0}

-- P, if the read ended by a fault
abbrev pub OnFault : ReadEnd → Type 0 → Type 0
OnFault Fault P = P
OnFault (TooLong n) P = Unit {0}
OnFault NoMemory P = Unit {0}
