-- A patch of a checked program in text order makes a checked program.
use Rattle.std.proofs.Common.{◌≡◌, ℕ, List, Option, Some, None, refl, sym, ap, subst, ◌∙◌, Contains}
use Rattle.std.specs.Prelude.{slice_get, option_map}
use Rattle.c_tree.specs.declared.place.Loc.{Loc}
use Rattle.c_tree.specs.Parts.{span_of, span_of_code}
use Rattle.c_tree.specs.Tree.{Outer}
use Rattle.c_types.specs.Evidence.{IsChecked, IsOrdered}
use Rattle.c_location.specs.Laws.{EachNamesOnePlace}
use Rattle.c_location.specs.Locations.{Part, expression, statement, locations, part_at}
use Rattle.c_location.specs.OnePlace.{NamesOnePlace, opened, filled}
use Rattle.c_location.specs.Rewrites.{Rewrite, rewrite, rewritten}
use Rattle.schemas.specs.declared.edit.Edit.{Edit}
use Rattle.schemas.specs.declared.edit.Edit.TheVariants.{Op, Leaf, Plus, Side, Negate, Take, Narrow, Widen, Guard}
use Rattle.schemas.specs.Candidates.{candidates}
use Rattle.schemas.specs.Edits.{bound_tree, edited}
use Rattle.scope_laws.specs.Laws.{ScopesAgree}
use Rattle.patch_space.specs.declared.patch.Patch.{Patch}
use Rattle.patch_space.specs.Space.{patch_of, Change, replaced, narrowed, widened, guarded, rewrite_of, change_of, change_there, changed_at, with_change, applied}
use Rattle.patch_space.specs.Contents.{Contents, IsSpaceOf}
use Rattle.patch_space.specs.Laws.{PatchedIsChecked}
use Rattle.patch_space.proofs.CandidateChecked.{candidate_checked}
use Rattle.patch_space.proofs.EditedFaults.{rewrite_by}
use Rattle.patch_space.proofs.EachPatch.{each_patch, each_of_space}
use Rattle.patch_space.proofs.FoundPart.{part_among}

module _ (names : EachNamesOnePlace) (agree : ScopesAgree) (p : List Outer) (h : IsChecked p) (text : IsOrdered p) where
  -- two rewrites that make the same of the part at a location make the same of the program
  same_place : (l : Loc) (part : Part) (r q : Rewrite) → part_at l p ≡ Some part → rewrite q part ≡ rewrite r part → rewritten l q p ≡ rewritten l r p
  same_place l part r q is same =
      let one : NamesOnePlace l p = names 0 text.end p l text.placed (part_among l p part is) in
      let here : one.part ≡ part = cc in
      one.changed q
      ∙ ap (λ x. filled (rewrite q x) (opened l p)) here
      ∙ ap (λ x. filled x (opened l p)) same
      ∙ sym (one.changed r ∙ ap (λ x. filled (rewrite r x) (opened l p)) here)

  module _ (l : Loc) (edit : Edit) (new : IsChecked (rewritten l (rewrite_by edit) p)) where
    -- a change that makes of the part what the edit makes
    made_checked : (part : Part) (c : Change) → part_at l p ≡ Some part → rewrite (rewrite_by edit) part ≡ rewrite (rewrite_of c) part
        → IsChecked (rewritten l (rewrite_of c) p)
    made_checked part c is same = subst IsChecked (same_place l part (rewrite_of c) (rewrite_by edit) is same) new

  -- the program with the change of an edit at a part
  part_checked : (l : Loc) (edit : Edit) (part : Part) → part_at l p ≡ Some part → IsChecked (rewritten l (rewrite_by edit) p)
      → IsChecked (with_change p (option_map (λ c. (l, c)) (change_of edit part)))
  part_checked l (Op op) (expression e) is new = made_checked l (Op op) new (expression e) (replaced (edited e (Op op))) is refl
  part_checked l (Leaf k a) (expression e) is new = made_checked l (Leaf k a) new (expression e) (replaced (edited e (Leaf k a))) is refl
  part_checked l (Plus up) (expression e) is new = made_checked l (Plus up) new (expression e) (replaced (edited e (Plus up))) is refl
  part_checked l (Side up) (expression e) is new = made_checked l (Side up) new (expression e) (replaced (edited e (Side up))) is refl
  part_checked l Negate (expression e) is new = made_checked l Negate new (expression e) (replaced (edited e Negate)) is refl
  part_checked l (Take a) (expression e) is new = made_checked l (Take a) new (expression e) (replaced (edited e (Take a))) is refl
  part_checked l (Narrow b) (expression e) is new = made_checked l (Narrow b) new (expression e) (narrowed (bound_tree b (span_of e))) is refl
  part_checked l (Widen b) (expression e) is new = made_checked l (Widen b) new (expression e) (widened (bound_tree b (span_of e))) is refl
  part_checked l (Guard b) (statement c) is new = made_checked l (Guard b) new (statement c) (guarded (bound_tree b (span_of_code c))) is refl
  part_checked l edit part is new = h

  -- the same of what stands at a location, if anything does
  there_checked : (l : Loc) (edit : Edit) (o : Option Part) → part_at l p ≡ o → IsChecked (rewritten l (rewrite_by edit) p)
      → IsChecked (with_change p (option_map (λ c. (l, c)) (change_there edit o)))
  there_checked l edit None is new = h
  there_checked l edit (Some part) is new = part_checked l edit part is new

  -- a candidate makes a checked program
  edit_checked : (l : Loc) (cost : ℕ) (edit : Edit) → Contains (candidates p l cost) edit → IsChecked (with_change p (changed_at p edit (Some l)))
  edit_checked l cost edit among = there_checked l edit (part_at l p) refl (candidate_checked p l cost edit among agree h text)

-- each patch of a checked program in text order makes a checked program
pub patched_checked : EachNamesOnePlace → ScopesAgree → PatchedIsChecked
patched_checked names agree p h text = each_patch p (λ patch. IsChecked (applied p (locations p) patch)) made
  where
    made : (l : Loc) (cost n : ℕ) (edit : Edit) → slice_get (locations p) n ≡ Some l → Contains (candidates p l cost) edit
        → IsChecked (applied p (locations p) (patch_of cost n edit))
    made l cost n edit is among = subst (λ o. IsChecked (with_change p (changed_at p edit o))) (sym is) (edit_checked names agree p h text l cost edit among)

-- so does each of a space of the program
pub space_checked : PatchedIsChecked → (p : List Outer) (s : Contents) → IsChecked p → IsOrdered p → IsSpaceOf p s → (patch : Patch) → Contains s.patches patch
    → IsChecked (applied p s.locations patch)
space_checked law p s h text own patch among =
    subst (λ ls. IsChecked (applied p ls patch)) (sym own.located)
    (each_of_space p s own (λ q. IsChecked (applied p (locations p) q)) (law p h text) patch among)
