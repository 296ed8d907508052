-- The values of objects.
use Rattle.std.specs.Prelude.{ℤ, pos, negsuc, List, Option, Some, None, slice_get}

-- the object of a variable: its elements in order, each a number or uninitialised; the object of a variable
-- that is no array has one element
abbrev pub Object : Type 0
Object = List (Option ℤ)

-- the element at a place among them, if there is one and it is initialised
abbrev pub initialised : Option (Option ℤ) → Option ℤ
initialised None = None
initialised (Some value) = value

-- the element of an object with that index, if it is in range and initialised
abbrev pub element_of : Object → ℤ → Option ℤ
element_of object (pos n) = initialised (slice_get object n)
element_of object (negsuc n) = None

-- the same of the object of a variable, if it has one
abbrev pub element_at : Option Object → ℤ → Option ℤ
element_at None index = None
element_at (Some object) index = element_of object index
