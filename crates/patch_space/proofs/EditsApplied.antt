-- An edit makes one thing, whether candidates are told apart by it or a program is changed.
use Rattle.std.proofs.Common.{refl}
use Rattle.schemas.specs.declared.edit.Edit.TheVariants.{Op, Leaf, Plus, Side, Negate, Take, Narrow, Widen, Guard}
use Rattle.patch_space.specs.Laws.{EditedIsApplied, TestIsApplied}

pub edited_is_applied : EditedIsApplied
edited_is_applied (Op op) e = refl
edited_is_applied (Leaf k a) e = refl
edited_is_applied (Plus up) e = refl
edited_is_applied (Side up) e = refl
edited_is_applied Negate e = refl
edited_is_applied (Take a) e = refl
edited_is_applied (Narrow b) e = refl
edited_is_applied (Widen b) e = refl
edited_is_applied (Guard b) e = refl

pub test_is_applied : TestIsApplied
test_is_applied (Op op) c = refl
test_is_applied (Leaf k a) c = refl
test_is_applied (Plus up) c = refl
test_is_applied (Side up) c = refl
test_is_applied Negate c = refl
test_is_applied (Take a) c = refl
test_is_applied (Narrow b) c = refl
test_is_applied (Widen b) c = refl
test_is_applied (Guard b) c = refl
