-- What holds of each patch of a program, and that each changes it.
use Rattle.std.proofs.Common.{◌≡◌, ℕ, zero, suc, ◌+◌, List, [], ◌∷◌, map, drop, Option, Some, None, refl, sym, ap, subst, ◌∙◌, add-one, Contains, All}
use Rattle.std.specs.Prelude.{slice_get, option_map, IsSome}
use Rattle.std.specs.List.{flat_map}
use Rattle.std.proofs.lemmas.List.Elements.{All-nil, All-cons, All-head, All-tail, All-append, All-take, All-contains, All-contains_itself}
use Rattle.c_tree.specs.declared.place.Loc.{Loc}
use Rattle.c_tree.specs.Tree.{Outer}
use Rattle.c_location.specs.Locations.{Part, expression, statement, locations, part_at}
use Rattle.schemas.specs.declared.edit.Edit.{Edit}
use Rattle.schemas.specs.declared.edit.Edit.TheVariants.{Op, Leaf, Plus, Side, Negate, Take, Narrow, Widen, Guard}
use Rattle.schemas.specs.Candidates.{candidates, made_there, made_at}
use Rattle.schemas.specs.Laws.{CandidatesCanBeMade}
use Rattle.patch_space.specs.declared.patch.Patch.{Patch}
use Rattle.patch_space.specs.Contents.{Contents, IsSpaceOf}
use Rattle.patch_space.specs.Laws.{PatchesChange}
use Rattle.patch_space.specs.Space.{Change, costs, patch_of, patches_from, patches, space, change_there, changed_at, changed}

-- the location of a number is the first of those that are left after as many
nth : {A : Type 0} (n : ℕ) (xs : List A) (y : A) (ys : List A) → drop n xs ≡ y ∷ ys
    → slice_get xs n ≡ Some y
nth zero xs y ys is = ap (λ zs. slice_get zs 0) is
nth (suc n) [] y ys is = absurd (cc)
nth (suc n) (x ∷ xs) y ys is = nth n xs y ys is

after : {A : Type 0} (n : ℕ) (xs : List A) (y : A) (ys : List A) → drop n xs ≡ y ∷ ys
    → drop (suc n) xs ≡ ys
after zero xs y ys is = ap (λ zs. drop 1 zs) is
after (suc n) [] y ys is = absurd (cc)
after (suc n) (x ∷ xs) y ys is = after n xs y ys is

-- a property that a patch has if its edit is a candidate at its location
module _ (p : List Outer) (P : Patch → Type 0)
    (each : (l : Loc) (cost n : ℕ) (edit : Edit) → slice_get (locations p) n ≡ Some l
    → Contains (candidates p l cost) edit → P (patch_of cost n edit)) where
  -- the patches at a location have it
  at_location : (l : Loc) (cost n : ℕ) → slice_get (locations p) n ≡ Some l → (edits : List Edit)
      → All (Contains (candidates p l cost)) edits → All P (map (patch_of cost n) edits)
  at_location l cost n is [] among = All-nil P
  at_location l cost n is (edit ∷ edits) among =
      let here : Contains (candidates p l cost) edit =
      All-head (Contains (candidates p l cost)) edit edits among in
      All-cons P (patch_of cost n edit) (map (patch_of cost n) edits) (each l cost n edit is here)
      (at_location l cost n is edits (All-tail (Contains (candidates p l cost)) edit edits among))

  -- so do those of a cost
  of_cost : (cost n : ℕ) (ls : List Loc) → drop n (locations p) ≡ ls
      → All P (patches_from p cost n ls)
  of_cost cost n [] is = All-nil P
  of_cost cost n (l ∷ ls) is =
      All-append P (map (patch_of cost n) (candidates p l cost)) (patches_from p cost (n + 1) ls)
      (at_location l cost n (nth n (locations p) l ls is) (candidates p l cost)
      (All-contains_itself (candidates p l cost)))
      (of_cost cost (n + 1) ls
      (ap (λ k. drop k (locations p)) (add-one n) ∙ after n (locations p) l ls is))

  of_costs : (cs : List ℕ) → All P (flat_map (λ cost. patches_from p cost 0 (locations p)) cs)
  of_costs [] = All-nil P
  of_costs (c ∷ cs) =
      All-append P (patches_from p c 0 (locations p))
      (flat_map (λ cost. patches_from p cost 0 (locations p)) cs)
      (of_cost c 0 (locations p) refl) (of_costs cs)

  -- and all of a program
  pub each_patch : All P (patches p)
  each_patch = of_costs costs

-- each of a program's own space has what all its patches have
pub each_of_space : (p : List Outer) (s : Contents) → IsSpaceOf p s → (P : Patch → Type 0)
    → All P (patches p) → (patch : Patch) → Contains s.patches patch → P patch
each_of_space p s own P all patch among =
    let few : All P (space own.max p) = All-take P own.max (patches p) all in
    All-contains P (space own.max p) patch few
    (subst (λ ps. Contains ps patch) own.ranked among)

-- an edit that makes an expression of a part makes a change of it
change_made : (edit : Edit) (o : Option Part) → IsSome (made_there o edit)
    → IsSome (change_there edit o)
change_made edit None h = absurd (cc)
change_made (Op op) (Some (expression e)) h = refl
change_made (Leaf k a) (Some (expression e)) h = refl
change_made (Plus up) (Some (expression e)) h = refl
change_made (Side up) (Some (expression e)) h = refl
change_made Negate (Some (expression e)) h = refl
change_made (Take a) (Some (expression e)) h = refl
change_made (Narrow b) (Some (expression e)) h = refl
change_made (Widen b) (Some (expression e)) h = refl
change_made (Guard b) (Some (expression e)) h = absurd (cc)
change_made (Guard b) (Some (statement c)) h = refl
change_made edit (Some (statement c)) h = absurd (cc)

-- what is there is there still after a map, and was before one
some_mapped : {A B : Type 0} (f : A → B) (o : Option A) → IsSome o → IsSome (option_map f o)
some_mapped f None h = h
some_mapped f (Some x) h = refl

pub some_unmapped : {A B : Type 0} (f : A → B) (o : Option A) → IsSome (option_map f o) → IsSome o
some_unmapped f None h = h
some_unmapped f (Some x) h = refl

-- each patch of a program changes it
pub all_change : CandidatesCanBeMade → PatchesChange
all_change law p = each_patch p (λ patch. IsSome (changed p (locations p) patch)) made
  where
    made : (l : Loc) (cost n : ℕ) (edit : Edit) → slice_get (locations p) n ≡ Some l
        → Contains (candidates p l cost) edit
        → IsSome (changed p (locations p) (patch_of cost n edit))
    made l cost n edit is among =
        let can : IsSome (made_at p l edit) =
        All-contains (λ e. IsSome (made_at p l e)) (candidates p l cost) edit (law p l cost) among in
        let change : IsSome (change_there edit (part_at l p)) = change_made edit (part_at l p) can in
        subst (λ o. IsSome (changed_at p edit o)) (sym is)
        (some_mapped (λ c. (l, c)) (change_there edit (part_at l p)) change)

-- so does each of a space of the program
pub space_changes : PatchesChange → (p : List Outer) (s : Contents) → IsSpaceOf p s
    → (patch : Patch) → Contains s.patches patch → IsSome (changed p s.locations patch)
space_changes law p s own patch among =
    subst (λ ls. IsSome (changed p ls patch)) (sym own.located)
    (each_of_space p s own (λ q. IsSome (changed p (locations p) q)) (law p) patch among)
