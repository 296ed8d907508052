use Rattle.std.proofs.Common.{◌≡◌, ◌≤◌, ◌++◌, length, take, drop}
use Rattle.c_types.specs.Shown.{tree_of}
use Rattle.patch_space.specs.Space.{patches_from}
use Rattle.patch_space.proofs.space.add_patches.Given as goal

-- there is room for those that are listed, which are the first ones with those at the locations that are left
abbrev pub invariant-loop-i : goal.invariant-loop-i
invariant-loop-i l =
    (length l.patches.items ≤ l.max)
    × (take l.max (l.patches.items ++ patches_from (tree_of l.program) l.cost l.i (drop l.i l.locations)) ≡ take l.max (l.initial.patches.items ++ patches_from (tree_of l.program) l.cost 0 l.locations))
