-- The ranks of patches by their locations.
use Rattle.std.specs.Prelude.{ℕ, ◌+◌, nat_eq, if◌then◌else◌, List, [], ◌∷◌, map, Vec}
use Rattle.std.specs.declared.alloc.Global.{Global}
use Rattle.patch_space.specs.declared.patch.Patch.{Patch}

-- the ranks of the patches at the location of a number, rising, where the first of these patches
-- has that rank
abbrev pub ranks_from : ℕ → ℕ → List Patch → List ℕ
ranks_from l i [] = []
ranks_from l i (p ∷ ps) =
    if nat_eq p.loc l then i ∷ ranks_from l (i + 1) ps else ranks_from l (i + 1) ps

-- the same among all patches
abbrev pub ranks_at : ℕ → List Patch → List ℕ
ranks_at l = ranks_from l 0

-- what the lists in a list hold
abbrev pub lists : List (Vec ℕ Global) → List (List ℕ)
lists = map (λ v. v.items)
