-- What a space of patches holds.
use Rattle.std.specs.Prelude.{◌≡◌, ℕ, List}
use Rattle.c_tree.specs.declared.place.Loc.{Loc}
use Rattle.c_tree.specs.Tree.{Outer}
use Rattle.c_location.specs.Locations.{locations}
use Rattle.patch_space.specs.Space.{space}
use Rattle.patch_space.specs.declared.patch.Patch.{Patch}

-- the patches by rank, and all locations of the program that they change
pub record Contents : Type 0 where
  pub patches : List Patch
  pub locations : List Loc

-- a space is a program's: it holds the first of the program's patches by rank, as many as were
-- asked for, and all its locations
pub record IsSpaceOf (program : List Outer) (s : Contents) : Type 0 where
  pub max : ℕ
  pub ranked : s.patches ≡ space max program
  pub located : s.locations ≡ locations program
