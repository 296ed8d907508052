-- When a program's locations are not listed.
use Rattle.std.specs.Prelude.{◌≡◌, ◌<◌, ⊤, List, length, min}
use Rattle.c_tree.specs.declared.place.Loc.{Loc}
use Rattle.c_location.specs.declared.fault.LocFault.{LocFault}
use Rattle.c_location.specs.declared.fault.LocFault.TheVariants.{TooMany, NoMemory}

-- what each fault says of all the locations: that they are more than 4,096, and their number, or
-- the largest `u32` where they are more than that; where memory runs out nothing is said
abbrev pub Causes : LocFault → List Loc → Type 0
Causes (TooMany n) all = (n ≡ min (length all) 4294967295) × (4096 < length all)
Causes NoMemory all = ⊤
