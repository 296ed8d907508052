-- The patches of a program by rank, and what each of them makes of it.
use Rattle.std.specs.Prelude.{ℕ, ◌+◌, List, [], ◌∷◌, ◌++◌, map, take, slice_get, Option, Some, None, option_map}
use Rattle.std.specs.List.{flat_map}
use Rattle.c_tree.specs.declared.expr.BinOp.TheVariants.{Both, Either}
use Rattle.c_tree.specs.declared.place.Loc.{Loc}
use Rattle.c_tree.specs.Parts.{span_of, span_of_code}
use Rattle.c_tree.specs.Tree.{Tree, Outer}
use Rattle.c_location.specs.Changes.{replaced as with_new, combined, guarded as with_test}
use Rattle.c_location.specs.Locations.{Part, expression, statement, locations, part_at}
use Rattle.c_location.specs.Rewrites.{Rewrite, rewritten}
use Rattle.schemas.specs.declared.edit.Edit.{Edit}
use Rattle.schemas.specs.declared.edit.Edit.TheVariants.{Op, Leaf, Plus, Side, Negate, Take, Narrow, Widen, Guard}
use Rattle.schemas.specs.Candidates.{candidates}
use Rattle.schemas.specs.Edits.{bound_tree, edited}
use Rattle.patch_space.specs.declared.patch.Patch.{Patch}

-- the costs that patches have, in order
abbrev pub costs : List ℕ
costs = 1 ∷ 2 ∷ 3 ∷ 4 ∷ 5 ∷ 6 ∷ []

-- the patch that makes an edit at a location, by the location's number
abbrev pub patch_of : ℕ → ℕ → Edit → Patch
patch_of cost n edit = record { cost = cost; loc = n; edit = edit }

-- the patches of a cost at these locations, of which the first has that number: by location, then
-- in the order of its candidates
abbrev pub patches_from : List Outer → ℕ → ℕ → List Loc → List Patch
patches_from program cost n [] = []
patches_from program cost n (l ∷ ls) =
    map (patch_of cost n) (candidates program l cost)
    ++ patches_from program cost (n + 1) ls

-- all patches of a program, by rank: those that cost less first
abbrev pub patches : List Outer → List Patch
patches program = flat_map (λ cost. patches_from program cost 0 (locations program)) costs

-- the first patches, as many as are asked for
abbrev pub space : ℕ → List Outer → List Patch
space max program = take max (patches program)

-- what becomes of the part at a location, over trees
pub data Change : Type 0 where
  -- this stands in its place
  replaced : Tree → Change
  -- it and this, `old && bound`
  narrowed : Tree → Change
  -- it or this, `old || bound`
  widened : Tree → Change
  -- `{ if (test) statement }`
  guarded : Tree → Change

-- what a change makes of the part
abbrev pub rewrite_of : Change → Rewrite
rewrite_of (replaced new) = with_new new
rewrite_of (narrowed bound) = combined Both bound
rewrite_of (widened bound) = combined Either bound
rewrite_of (guarded test) = with_test test

-- The change that an edit makes of a part: the edited expression in its place; a bound with `&&` or
-- `||` after a condition; an `if` with a bound round a statement. An edit of an expression makes
-- none of a statement, nor the other way round.
abbrev pub change_of : Edit → Part → Option Change
change_of (Op op) (expression e) = Some (replaced (edited e (Op op)))
change_of (Leaf k a) (expression e) = Some (replaced (edited e (Leaf k a)))
change_of (Plus up) (expression e) = Some (replaced (edited e (Plus up)))
change_of (Side up) (expression e) = Some (replaced (edited e (Side up)))
change_of Negate (expression e) = Some (replaced (edited e Negate))
change_of (Take a) (expression e) = Some (replaced (edited e (Take a)))
change_of (Narrow b) (expression e) = Some (narrowed (bound_tree b (span_of e)))
change_of (Widen b) (expression e) = Some (widened (bound_tree b (span_of e)))
change_of (Guard b) (statement c) = Some (guarded (bound_tree b (span_of_code c)))
change_of edit part = None

-- the same of what stands there, if anything does
abbrev pub change_there : Edit → Option Part → Option Change
change_there edit None = None
change_there edit (Some part) = change_of edit part

-- the location and the change of an edit that is made there, if it can be made
abbrev pub changed_at : List Outer → Edit → Option Loc → Option (Loc × Change)
changed_at program edit None = None
changed_at program edit (Some l) = option_map (λ c. (l, c)) (change_there edit (part_at l program))

-- the location at which a patch changes a program with these locations, and the change that it
-- makes there
abbrev pub changed : List Outer → List Loc → Patch → Option (Loc × Change)
changed program ls p = changed_at program p.edit (slice_get ls p.loc)

-- the program with a change at a location, if there is one
abbrev pub with_change : List Outer → Option (Loc × Change) → List Outer
with_change program None = program
with_change program (Some c) = rewritten c.0 (rewrite_of c.1) program

-- the program that a patch makes of a program
abbrev pub applied : List Outer → List Loc → Patch → List Outer
applied program ls p = with_change program (changed program ls p)
