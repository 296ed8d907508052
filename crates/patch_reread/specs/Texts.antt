-- The patched text: the source with the change that a patch makes.
use Rattle.std.specs.Prelude.{List, Option, Some, None}
use Rattle.c_lex.specs.Bytes.{Bytes}
use Rattle.c_tree.specs.declared.expr.BinOp.TheVariants.{Both, Either}
use Rattle.c_tree.specs.declared.place.Loc.{Loc}
use Rattle.c_tree.specs.Tree.{Outer}
use Rattle.c_location.specs.Locations.{locations}
use Rattle.schemas.specs.declared.edit.Edit.{Edit}
use Rattle.patch_text.specs.Spliced.{replaced, joined, guarded}
use Rattle.patch_space.specs.Space.{Change, changed_at, changed}
use Rattle.patch_space.specs.Space as change
use Rattle.patch_space.specs.declared.patch.Patch.{Patch}

-- a source with a change at a location
abbrev pub changed_text : Bytes → Loc → Change → Bytes
changed_text source l (change.replaced new) = replaced source l.at new
changed_text source l (change.narrowed bound) = joined source l.at Both bound
changed_text source l (change.widened bound) = joined source l.at Either bound
changed_text source l (change.guarded test) = guarded source l.at test

-- the same, if there is a change; else the source as it is
abbrev pub text_with_change : Bytes → Option (Loc × Change) → Bytes
text_with_change source None = source
text_with_change source (Some there) = changed_text source there.0 there.1

-- a program's source with an edit made at a location, if it can be made there
abbrev pub edited_text : Bytes → List Outer → Loc → Edit → Bytes
edited_text source p l edit = text_with_change source (changed_at p edit (Some l))

-- a program's source with a patch of the program
abbrev pub patched_text : Bytes → List Outer → Patch → Bytes
patched_text source p patch = text_with_change source (changed p (locations p) patch)
