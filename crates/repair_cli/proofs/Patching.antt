-- What is made of a patch that a job tries.
use Rattle.std.proofs.Common.{◌≡◌, ℕ, ◌<◌, List, [], ◌∷◌, length, get_or, Option, Some, None, Result, Ok, Err, refl, sym, ap, ◌∙◌, Vec, IfOk, Contains, arith}
use Rattle.std.specs.Prelude.{slice_get, option_map, unwrap_or, IsSome}
use Rattle.std.specs.declared.alloc.Global.{Global}
use Rattle.std.proofs.lemmas.Option.{slice_get-get_or, slice_get_within, get_or_from_slice_get}
use Rattle.c_tree.specs.declared.place.Loc.{Loc}
use Rattle.c_tree.specs.Tree.{Outer}
use Rattle.c_location.specs.Locations.{locations}
use Rattle.patch_space.specs.Contents.{Contents, IsSpaceOf}
use Rattle.patch_space.specs.Laws.{PatchesChange}
use Rattle.patch_space.specs.Space.{changed_at, changed}
use Rattle.patch_space.specs.declared.patch.Patch.{Patch}
use Rattle.patch_space.proofs.EachPatch.{space_changes}
use Rattle.patch_reread.specs.Texts.{text_with_change, edited_text}
use Rattle.patch_print.specs.Lines.{patched_line as line_of_patch, line_of_rank}
use Rattle.repair_job.specs.Job.{Job}
use Rattle.repair_job.specs.Patches.{AreTried, patches, patched_text, patched_line}

-- what is found at a place is an element
found_among : {A : Type 0} (xs : List A) (i : ℕ) (x : A) → slice_get xs i ≡ Some x → Contains xs x
found_among xs i x is = (i, slice_get_within xs i x is, get_or_from_slice_get xs i x x is)

-- at each place of a list something is found
there_is : {A : Type 0} (xs : List A) (i : ℕ) → i < length xs → (x : A) × (slice_get xs i ≡ Some x)
there_is [] i lt = absurd (omega (arith, lt))
there_is (x ∷ xs) i lt = (get_or (x ∷ xs) i x, slice_get-get_or (x ∷ xs) i x lt)

-- a patch that changes a program has its location among these
located_by : (p : List Outer) (ls : List Loc) (patch : Patch) → IsSome (changed p ls patch)
    → patch.loc < length ls
located_by p ls patch h = by_found (slice_get ls patch.loc) (λ l is. slice_get_within ls patch.loc l is) h
  where
    by_found : (o : Option Loc) → ((l : Loc) → o ≡ Some l → patch.loc < length ls)
        → IsSome (changed_at p patch.edit o) → patch.loc < length ls
    by_found None within h = absurd (cc)
    by_found (Some l) within h = within l refl

-- the patches that a job tries, in a space, with the patch of a rank
module _ (job : Job) (tried : Contents) (are : AreTried job tried) where
  own : IsSpaceOf job.program tried
  unfolding patches
  own = record {
    max = job.most_patches;
    ranked = are.ranked;
    located = are.located;
  }

  -- has its location in the space
  pub located : PatchesChange → (rank : ℕ) (patch : Patch) → slice_get tried.patches rank ≡ Some patch
      → patch.loc < length tried.locations
  located law rank patch is =
      located_by job.program tried.locations patch
      (space_changes law job.program tried own patch (found_among tried.patches rank patch is))

  -- the source with its edit at its location is its text
  pub spliced : {E : Type 0} (source : List ℕ) → source ≡ job.source
      → (rank : ℕ) (patch : Patch) (l : Loc)
      → slice_get tried.patches rank ≡ Some patch → slice_get tried.locations patch.loc ≡ Some l
      → (r : Result (Vec ℕ Global) E)
      → IfOk r (λ text. text.items ≡ edited_text source job.program l patch.edit)
      → IfOk r (λ text. option_map (patched_text job) (slice_get (patches job) rank) ≡ Some text.items)
  unfolding patched_text
  spliced source same rank patch l is there (Ok text) made =
      let found : slice_get (patches job) rank ≡ Some patch =
      sym (ap (λ ps. slice_get ps rank) are.ranked) ∙ is in
      let here : slice_get (locations job.program) patch.loc ≡ Some l =
      sym (ap (λ ls. slice_get ls patch.loc) are.located) ∙ there in
      ap (option_map (patched_text job)) found
      ∙ ap (λ o. Some (text_with_change job.source (changed_at job.program patch.edit o))) here
      ∙ ap (λ s. Some (edited_text s job.program l patch.edit)) (sym same)
      ∙ ap (λ t. Some t) (sym made)
  spliced source same rank patch l is there (Err e) made = tt

  -- the line of a rank is that of the patch that has it
  pub lined : (source : List ℕ) → source ≡ job.source → (rank : ℕ) → rank < length (patches job)
      → (line : List ℕ) → line ≡ line_of_rank source job.program tried rank
      → option_map (patched_line job) (slice_get (patches job) rank) ≡ Some line
  unfolding patched_line
  lined source same rank lt line made =
      let found = there_is (patches job) rank lt in
      let all : List Loc = locations job.program in
      let is : line_of_rank source job.program tried rank
      ≡ line_of_patch job.source job.program all found.0 =
      ap (λ s. line_of_rank s job.program tried rank) same
      ∙ ap
      (λ ls. unwrap_or
      (option_map (line_of_patch job.source job.program ls) (slice_get tried.patches rank)) [])
      are.located
      ∙ ap
      (λ ps. unwrap_or (option_map (line_of_patch job.source job.program all) (slice_get ps rank)) [])
      are.ranked
      ∙ ap (λ o. unwrap_or (option_map (line_of_patch job.source job.program all) o) []) found.1 in
      ap (option_map (patched_line job)) found.1 ∙ ap (λ t. Some t) (sym (made ∙ is))
