-- What a change makes of a part is what contracts see of it.
use Rattle.std.proofs.Common.{◌≡◌, refl}
use Rattle.c_location.specs.declared.change.Change.{Change}
use Rattle.c_location.specs.declared.change.Change.TheVariants.{Replaced, Narrowed, Widened, Guarded}
use Rattle.c_location.specs.Changes.{rewrite_of}
use Rattle.patch_space.specs.Shown.{change}
use Rattle.patch_space.specs.Space.{rewrite_of as rewrite_of_tree}

-- a change makes of a part what it makes over trees
pub rewrite_shown : (made : Change) → rewrite_of made ≡ rewrite_of_tree (change made)
rewrite_shown (Replaced new) = refl
rewrite_shown (Narrowed bound) = refl
rewrite_shown (Widened bound) = refl
rewrite_shown (Guarded test) = refl
