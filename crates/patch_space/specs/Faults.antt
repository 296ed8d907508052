-- When the patches of a program are not listed.
use Rattle.std.specs.Prelude.{◌≡◌, ◌<◌, ⊤, List, length, min}
use Rattle.c_tree.specs.declared.place.Loc.{Loc}
use Rattle.patch_space.specs.declared.fault.SpaceFault.{SpaceFault}
use Rattle.patch_space.specs.declared.fault.SpaceFault.TheVariants.{TooManyLocations, NoMemory}

-- what each fault says of all the locations: that they are more than 4,096, and their number, or
-- the largest `u32` where they are more than that; where memory runs out nothing is said
abbrev pub Causes : SpaceFault → List Loc → Type 0
Causes (TooManyLocations n) all = (n ≡ min (length all) 4294967295) × (4096 < length all)
Causes NoMemory all = ⊤
