-- The text with a candidate is read as the program with it, since a candidate is the edit of a
-- patch.
use Rattle.std.proofs.Common.{◌≡◌, ℕ, zero, suc, ◌+◌, ◌<◌, List, [], ◌∷◌, ◌++◌, map, length, Option, Some, Result, Ok, Err, sym, ap, subst, ◌∙◌, Contains, Vec, IfOk, arith}
use Rattle.std.specs.Prelude.{slice_get, slice_index_or}
use Rattle.std.specs.declared.alloc.Global.{Global}
use Rattle.std.specs.List.{flat_map}
use Rattle.std.proofs.lemmas.List.{get_or-map, length-map}
use Rattle.std.proofs.lemmas.List.Elements.{All-contains, Contains-append_left, Contains-append_right}
use Rattle.std.proofs.lemmas.Option.{slice_get-get_or, same_Some}
use Rattle.c_lex.specs.Bytes.{Bytes}
use Rattle.c_tree.specs.declared.place.Loc.{Loc}
use Rattle.c_tree.specs.Tree.{Outer}
use Rattle.c_location.specs.Locations.{locations}
use Rattle.schemas.specs.declared.edit.Edit.{Edit}
use Rattle.schemas.specs.Candidates.{candidates}
use Rattle.patch_space.specs.declared.patch.Patch.{Patch}
use Rattle.patch_space.specs.Space.{costs, patch_of, patches_from, patches, changed_at, with_change, applied}
use Rattle.patch_reread.specs.ReadsAgain.{ReadsAs, IsSourceOf, PatchesReadAgain}
use Rattle.patch_reread.specs.Texts.{text_with_change, edited_text, patched_text}
use Rattle.patch_print.specs.Edited.{edited_program, IsCandidate}

-- what a function makes of an element is among what it makes of all
mapped : {A B : Type 0} (f : A → B) (xs : List A) (x : A) → Contains xs x → Contains (map f xs) (f x)
mapped f xs x h =
    (h.0, omega (arith, length-map xs f, h.1), get_or-map f xs h.0 x (f x) h.1 ∙ ap f h.2)

-- an element of one of the lists that are joined
joined : {A B : Type 0} (f : A → List B) (xs : List A) (x : A) (y : B) (k : ℕ) → k < length xs
    → slice_index_or xs k x ≡ x → Contains (f x) y → Contains (flat_map f xs) y
joined f [] x y k lt is h = absurd (omega (arith, lt))
joined f (z ∷ zs) x y zero lt is h =
    Contains-append_left (f z) (flat_map f zs) y (subst (λ t. Contains (f t) y) (sym is) h)
joined f (z ∷ zs) x y (suc k) lt is h =
    Contains-append_right (f z) (flat_map f zs) y (joined f zs x y k (omega (arith, lt)) is h)

-- the patch that makes a candidate at the location of a number is one of those of its cost
module _ (p : List Outer) (l : Loc) (cost n : ℕ) (edit : Edit)
    (among : Contains (candidates p l cost) edit) where
  of_cost : (m k : ℕ) (ls : List Loc) → slice_get ls k ≡ Some l → m + k ≡ n
      → Contains (patches_from p cost m ls) (patch_of cost n edit)
  of_cost m k [] is sum = absurd (cc)
  of_cost m zero (y ∷ ys) is sum =
      let same : y ≡ l = same_Some y l is in
      let here : Contains (candidates p y cost) edit =
      subst (λ z. Contains (candidates p z cost) edit) (sym same) among in
      let first : m ≡ n = omega (arith, sum) in
      Contains-append_left (map (patch_of cost m) (candidates p y cost))
      (patches_from p cost (m + 1) ys) (patch_of cost n edit)
      (subst
      (λ j. Contains (map (patch_of cost m) (candidates p y cost)) (patch_of cost j edit))
      first (mapped (patch_of cost m) (candidates p y cost) edit here))
  of_cost m (suc k) (y ∷ ys) is sum =
      Contains-append_right (map (patch_of cost m) (candidates p y cost))
      (patches_from p cost (m + 1) ys) (patch_of cost n edit)
      (of_cost (m + 1) k ys is (omega (arith, sum)))

-- the text with a candidate is read as the program with it
candidate_reads : PatchesReadAgain → (source : Bytes) (p : List Outer) (l : Loc) (edit : Edit)
    → IsSourceOf source p → IsCandidate p l edit
    → ReadsAs (edited_text source p l edit) (edited_program p l edit)
candidate_reads law source p l edit own h =
    let n : ℕ = h.located.0 in
    let at : slice_get (locations p) n ≡ Some l =
    slice_get-get_or (locations p) n l h.located.1 ∙ ap (λ x. Some x) h.located.2 in
    let patch : Patch = patch_of h.cost n edit in
    let costed : Contains (patches_from p h.cost 0 (locations p)) patch =
    of_cost p l h.cost n edit h.among 0 n (locations p) at (omega arith) in
    let among : Contains (patches p) patch =
    joined (λ cost. patches_from p cost 0 (locations p)) costs h.cost patch h.is_cost.0 h.is_cost.1
    h.is_cost.2 costed in
    let read : ReadsAs (patched_text source p patch) (applied p (locations p) patch) =
    All-contains (λ q. ReadsAs (patched_text source p q) (applied p (locations p) q)) (patches p)
    patch (law source p own) among in
    subst
    (λ o. ReadsAs (text_with_change source (changed_at p edit o))
    (with_change p (changed_at p edit o)))
    at read

-- so is the text that a call gives, if it gives one
pub given_reads : {E : Type 0} → PatchesReadAgain → (source : Bytes) (p : List Outer) (l : Loc) (edit : Edit)
    (r : Result (Vec ℕ Global) E)
    → IfOk r (λ text. text.items ≡ edited_text source p l edit)
    → IsSourceOf source p → IsCandidate p l edit
    → IfOk r (λ text. ReadsAs text.items (edited_program p l edit))
given_reads law source p l edit (Ok text) is own h =
    subst (λ t. ReadsAs t (edited_program p l edit)) (sym is)
    (candidate_reads law source p l edit own h)
given_reads law source p l edit (Err e) is own h = tt
