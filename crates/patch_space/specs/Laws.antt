-- The laws of patched programs.
use Rattle.std.specs.Prelude.{◌≡◌, List, IsSome, option_map}
use Rattle.std.specs.List.{All}
use Rattle.c_tree.specs.Tree.{Tree, Code, Outer}
use Rattle.c_types.specs.Evidence.{IsChecked, IsOrdered}
use Rattle.c_location.specs.Changes.{guarded}
use Rattle.c_location.specs.Locations.{expression, statement, locations}
use Rattle.schemas.specs.declared.edit.Edit.{Edit}
use Rattle.schemas.specs.Edits.{made}
use Rattle.patch_space.specs.Space.{patches, rewrite_of, change_of, changed, applied}

-- what each of its patches makes of a checked program in text order is a checked program
abbrev pub PatchedIsChecked : Type 0
PatchedIsChecked = (p : List Outer) → IsChecked p → IsOrdered p
    → All (λ patch. IsChecked (applied p (locations p) patch)) (patches p)

-- each patch of a program changes it: the program has its location, and its edit can be made there
abbrev pub PatchesChange : Type 0
PatchesChange = (p : List Outer)
    → All (λ patch. IsSome (changed p (locations p) patch)) (patches p)

-- The new expression that an edit makes, by which candidates are told apart, is what its change puts
-- in the place of the old one. An edit that makes none changes none.
abbrev pub EditedIsApplied : Type 0
EditedIsApplied = (edit : Edit) (e : Tree)
    → option_map (λ c. (rewrite_of c).tree e) (change_of edit (expression e))
    ≡ made (expression e) edit

-- so the test that an edit makes before a statement is that of its change
abbrev pub TestIsApplied : Type 0
TestIsApplied = (edit : Edit) (c : Code)
    → option_map (λ change. (rewrite_of change).code c) (change_of edit (statement c))
    ≡ option_map (λ test. (guarded test).code c) (made (statement c) edit)
