-- The line that says what a patch changes.
use Rattle.std.specs.Prelude.{ℕ, List, [], Option, Some, None, option_map, unwrap_or, slice_get}
use Rattle.c_lex.specs.Bytes.{Bytes}
use Rattle.c_tree.specs.declared.place.Loc.{Loc}
use Rattle.c_tree.specs.Tree.{Outer}
use Rattle.patch_text.specs.Lines.{edit_line}
use Rattle.patch_text.specs.declared.line.Form.TheVariants.{Replace, And, Or, Guard}
use Rattle.patch_space.specs.Contents.{Contents}
use Rattle.patch_space.specs.Space.{Change, changed}
use Rattle.patch_space.specs.Space as change
use Rattle.patch_space.specs.declared.patch.Patch.{Patch}

-- the line of a change of that cost at a location of a source
abbrev pub changed_line : Bytes → ℕ → Loc → Change → Bytes
changed_line source cost l (change.replaced new) = edit_line source l.at cost Replace new
changed_line source cost l (change.narrowed bound) = edit_line source l.at cost And bound
changed_line source cost l (change.widened bound) = edit_line source l.at cost Or bound
changed_line source cost l (change.guarded test) = edit_line source l.at cost Guard test

-- the same, if there is a change; else no bytes
abbrev pub line_with_change : Bytes → ℕ → Option (Loc × Change) → Bytes
line_with_change source cost None = []
line_with_change source cost (Some there) = changed_line source cost there.0 there.1

-- the line of a patch of a program with these locations, in the program's source
abbrev pub patched_line : Bytes → List Outer → List Loc → Patch → Bytes
patched_line source p ls patch = line_with_change source patch.cost (changed p ls patch)

-- the line of the patch of a rank in a space, or no bytes where there is no such patch
abbrev pub line_of_rank : Bytes → List Outer → Contents → ℕ → Bytes
line_of_rank source p s i =
    unwrap_or (option_map (patched_line source p s.locations) (slice_get s.patches i)) []
