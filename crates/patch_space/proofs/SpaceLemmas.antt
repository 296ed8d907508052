-- The first patches, listed cost by cost and location by location.
use Rattle.std.proofs.Common.{◌≡◌, ℕ, zero, suc, ◌+◌, ◌<◌, ◌≤◌, List, [], ◌∷◌, ◌++◌, map, length, take, drop, get_or, refl, sym, ap, ◌∙◌, add-one, append_assoc, drop-cons, length-take, arith}
use Rattle.std.specs.List.{flat_map}
use Rattle.std.proofs.lemmas.List.{take-map}
use Rattle.std.proofs.Math.Seq.{take-append-add}
use Rattle.c_tree.specs.declared.place.Loc.{Loc}
use Rattle.c_tree.specs.Tree.{Outer}
use Rattle.schemas.specs.declared.edit.Edit.{Edit}
use Rattle.schemas.specs.Candidates.{candidates}
use Rattle.patch_space.specs.declared.patch.Patch.{Patch}
use Rattle.patch_space.specs.Space.{patch_of, patches_from}

-- the first elements of a list and of what follows it are those of its first elements and of what follows
pub take_again : {A : Type 0} (k : ℕ) (xs ys : List A) → take k (take k xs ++ ys) ≡ take k (xs ++ ys)
take_again zero xs ys = refl
take_again (suc k) [] ys = refl
take_again (suc k) (x ∷ xs) ys = ap (λ z. x ∷ z) (take_again k xs ys)

-- as many of the others as there is room for
pub take_room : {A B : Type 0} (f : A → B) (k room : ℕ) (xs : List B) (ys : List A) → k ≡ length xs + room → xs ++ map f (take room ys) ≡ take k (xs ++ map f ys)
take_room f k room xs ys is = rw (is, take-append-add) (ap (λ z. xs ++ z) (sym (take-map f room ys)))

-- the patches at one more location are added
pub patches_more : (max : ℕ) (program : List Outer) (cost : ℕ) (ls : List Loc) (i : ℕ) (d : Loc) (edits : List Edit) (listed now all : List Patch) → i < length ls
    → edits ≡ candidates program (get_or ls i d) cost → now ≡ take max (listed ++ map (patch_of cost i) edits)
    → take max (listed ++ patches_from program cost i (drop i ls)) ≡ all → take max (now ++ patches_from program cost (i + 1) (drop (i + 1) ls)) ≡ all
patches_more max program cost ls i d edits listed now all lt same added so_far =
    let rest : List Patch = patches_from program cost (i + 1) (drop (i + 1) ls) in
    let front : drop i ls ≡ get_or ls i d ∷ drop (i + 1) ls = rw add-one (drop-cons ls i d lt) in
    ap (λ z. take max (z ++ rest)) added
    ∙ take_again max (listed ++ map (patch_of cost i) edits) rest
    ∙ ap (take max) (append_assoc listed (map (patch_of cost i) edits) rest)
    ∙ ap (λ z. take max (listed ++ (map (patch_of cost i) z ++ rest))) same
    ∙ sym (ap (λ z. take max (listed ++ patches_from program cost i z)) front)
    ∙ so_far

-- the patches of one more cost are added
pub costs_more : (max : ℕ) (f : ℕ → List Patch) (cs : List ℕ) (i d : ℕ) (listed now all : List Patch) → i < length cs
    → now ≡ take max (listed ++ f (get_or cs i d)) → take max (listed ++ flat_map f (drop i cs)) ≡ all
    → (length now ≤ max) × (take max (now ++ flat_map f (drop (i + 1) cs)) ≡ all)
costs_more max f cs i d listed now all lt added so_far =
    let rest : List Patch = flat_map f (drop (i + 1) cs) in
    let front : drop i cs ≡ get_or cs i d ∷ drop (i + 1) cs = rw add-one (drop-cons cs i d lt) in (
      omega (arith, ap length added, length-take max (listed ++ f (get_or cs i d))),
      ap (λ z. take max (z ++ rest)) added
          ∙ take_again max (listed ++ f (get_or cs i d)) rest
          ∙ ap (take max) (append_assoc listed (f (get_or cs i d)) rest)
          ∙ sym (ap (λ z. take max (listed ++ flat_map f z)) front)
          ∙ so_far,
    )
