use Rattle.std.proofs.Common.{◌≡◌, ℕ, ◌≤◌, ◌++◌, length, take, drop}
use Rattle.std.specs.List.{flat_map}
use Rattle.c_types.specs.Shown.{tree_of}
use Rattle.patch_space.specs.Space.{patches_from}
use Rattle.patch_space.proofs.space.first_patches.Given as goal

-- there is room for those that are listed, which are the first ones with those of the costs that are left
abbrev pub invariant-loop-cost : goal.invariant-loop-cost
invariant-loop-cost l =
    (length l.patches.items ≤ l.max)
    × (take l.max (l.patches.items ++ flat_map (λ (cost : ℕ). patches_from (tree_of l.program) cost 0 l.locations) (drop l.cost-index l.cost-items)) ≡ take l.max (flat_map (λ (cost : ℕ). patches_from (tree_of l.program) cost 0 l.locations) l.cost-items))
