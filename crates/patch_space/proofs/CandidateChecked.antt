-- What a candidate makes of a checked program in text order is a checked program.
use Rattle.std.proofs.Common.{ℕ, List, Contains}
use Rattle.std.proofs.lemmas.List.Elements.{All-contains}
use Rattle.c_tree.specs.declared.place.Loc.{Loc}
use Rattle.c_tree.specs.Tree.{Outer}
use Rattle.c_types.specs.declared.scope.Declaration.{Declaration}
use Rattle.c_types.specs.Evidence.{IsChecked, IsOrdered}
use Rattle.c_location.specs.Rewrites.{rewritten}
use Rattle.schemas.specs.declared.edit.Edit.{Edit}
use Rattle.schemas.specs.Candidates.{candidates}
use Rattle.scope_laws.specs.Laws.{ScopesAgree}
use Rattle.patch_space.proofs.CandidatesSee.{candidates_shown}
use Rattle.patch_space.proofs.EditedFaults.{SeesFor, rewrite_by, edited_faultless}
use Rattle.patch_space.proofs.EditedSlots.{edited_is_resolved}
use Rattle.patch_space.proofs.NewTrees.{Sees}
use Rattle.rewrite_laws.proofs.SeesThere.{InProgram}
use Rattle.patch_space.proofs.VisibleThere.{ShowsAll, ShowsFor, visible_there}
use Rattle.patch_space.proofs.WeakerThere.{weaker_there}

module _ (p : List Outer) (l : Loc) (cost : ℕ) (edit : Edit) (among : Contains (candidates p l cost) edit) where
  -- declarations that show what is visible at the location show what a candidate names
  candidate_seen : (ds : List Declaration) → ShowsAll p l ds → Sees ds edit
  candidate_seen ds h = All-contains (Sees ds) (candidates p l cost) edit (candidates_shown ds p l cost h) among

  pub candidate_checked : ScopesAgree → IsChecked p → IsOrdered p → IsChecked (rewritten l (rewrite_by edit) p)
  candidate_checked agree h text =
      let sees : InProgram l (SeesFor edit) (λ ds. Sees ds edit) p =
      weaker_there l (ShowsFor p l) (SeesFor edit) (ShowsAll p l) (λ ds. Sees ds edit) (λ ds e. candidate_seen ds) candidate_seen p (visible_there agree p l h text) in
      record {
        faultless = edited_faultless p l edit h.faultless sees;
        is_resolved = edited_is_resolved p l edit sees h.is_resolved;
      }
