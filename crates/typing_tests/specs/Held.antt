-- What the variables of a test hold.
use Rattle.std.specs.Prelude.{ℕ, ℤ, List, [], ◌∷◌, Option, Some, None}
use Rattle.c_tree.specs.declared.stmt.Slot.{Slot}
use Rattle.c_tree.specs.declared.stmt.Slot.TheVariants.{Unset, Global, Local}
use Rattle.c_types.specs.Reads.{Object}

-- each variable of file scope holds the first value, and each local one is an array of both
abbrev pub objects_of : Option ℤ → Option ℤ → Slot → Option Object
objects_of first second Unset = None
objects_of first second (Global n) = Some (first ∷ [])
objects_of first second (Local n) = Some (first ∷ (second ∷ []))
