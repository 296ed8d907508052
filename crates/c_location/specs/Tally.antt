-- Locations that are counted, of which the first few are kept.
use Rattle.std.specs.Prelude.{ℕ, ◌+◌, nat_lt, cond, min, List, [], ◌∷◌, ◌++◌, length}
use Rattle.c_tree.specs.declared.place.Loc.{Loc}
use Rattle.c_location.specs.Locations.{Located}

-- the locations that are kept, and how many were found
pub record Found : Type 0 where
  pub kept : List Loc
  pub count : ℕ

-- one more location is found; at most 4,096 are kept, and the count stops at the largest `u32`
abbrev pub with_one : Found → Loc → Found
with_one f l = record {
  kept = cond (nat_lt (length f.kept) 4096) (f.kept ++ l ∷ []) f.kept;
  count = min (f.count + 1) 4294967295;
}

-- more locations are found, in this order
abbrev pub with_all : Found → List Located → Found
with_all f [] = f
with_all f (x ∷ xs) = with_all (with_one f x.loc) xs

-- nothing is found yet
abbrev pub none_found : Found
none_found = record { kept = []; count = 0 }
