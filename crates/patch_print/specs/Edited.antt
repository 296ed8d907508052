-- The program that an edit makes, and the edits that patches make.
use Rattle.std.specs.Prelude.{ℕ, List, Some}
use Rattle.std.specs.List.{Contains}
use Rattle.c_tree.specs.declared.place.Loc.{Loc}
use Rattle.c_tree.specs.Tree.{Outer}
use Rattle.c_location.specs.Locations.{locations}
use Rattle.schemas.specs.declared.edit.Edit.{Edit}
use Rattle.schemas.specs.Candidates.{candidates}
use Rattle.patch_space.specs.Space.{costs, changed_at, with_change}

-- a program with an edit made at a location, if it can be made there
abbrev pub edited_program : List Outer → Loc → Edit → List Outer
edited_program p l edit = with_change p (changed_at p edit (Some l))

-- the location is one of the program's, and the edit is a candidate there at one of the six costs
pub record IsCandidate (p : List Outer) (l : Loc) (edit : Edit) : Type 0 where
  pub cost : ℕ
  pub is_cost : Contains costs cost
  pub located : Contains (locations p) l
  pub among : Contains (candidates p l cost) edit
