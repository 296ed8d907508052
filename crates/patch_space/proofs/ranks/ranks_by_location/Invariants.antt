use Rattle.std.proofs.Common.{◌≡◌, ℕ, ◌<◌, ◌++◌, Some, drop}
use Rattle.std.specs.Prelude.{slice_get, option_map}
use Rattle.patch_space.specs.Ranks.{lists, ranks_from, ranks_at}
use Rattle.patch_space.proofs.ranks.ranks_by_location.Given as goal

-- each list has the first ranks, which are all with those of the patches that are left
abbrev pub invariant-loop-i : goal.invariant-loop-i
invariant-loop-i l =
    (k : ℕ) → k < l.locations
    → option_map (λ ranks. ranks ++ ranks_from k l.i (drop l.i l.patches)) (slice_get (lists l.at.items) k) ≡ Some (ranks_at k l.patches)
