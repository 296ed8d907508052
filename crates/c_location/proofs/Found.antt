-- What stands at a location of a program is found, and is the part that the location names.
use Rattle.std.proofs.Common.{◌≡◌, ℕ, zero, suc, Bool, true, false, cond, List, [], ◌∷◌, map, Some, refl, sym, ap, ◌∙◌, true≢false, le_of_suc-le-suc, not-suc-le-zero, Contains, find, option_map}
use Rattle.c_tree.specs.declared.place.Loc.{Loc}
use Rattle.c_tree.specs.Order.{ProgramIn}
use Rattle.c_tree.specs.Tree.{Outer}
use Rattle.c_location.specs.Locations.{Located, Part, is_at, located, locations}
use Rattle.c_location.specs.OnePlace.{NamesOnePlace}
use Rattle.c_location.proofs.Places.{is_at-own}
use Rattle.c_location.proofs.Rises.{Somewhere, here, later}
use Rattle.c_location.proofs.InOrder.{sound_program}

-- a part of the list is at the location, and it is the one that is found
pub record Met (l : Loc) (xs : List Located) : Type 0 where
  pub part : Part
  pub place : Somewhere l part xs
  pub found : option_map (λ x. x.part) (find (is_at l) xs) ≡ Some part

-- a location among those of a list with a first part that is not there is among those of the rest
skip : (l : Loc) (x : Located) (xs : List Located)
    → is_at l x ≡ false → Contains (map (λ x. x.loc) (x ∷ xs)) l → Contains (map (λ x. x.loc) xs) l
skip l x xs off (zero, h, e) = absurd (true≢false (sym (is_at-own l x e) ∙ off))
skip l x xs off (suc k, h, e) = (k, le_of_suc-le-suc h, e)

-- a location is met at the first part of a list, or in the rest
meet_next : (l : Loc) (x : Located) (xs : List Located) (b : Bool) → is_at l x ≡ b → (is_at l x ≡ false → Met l xs) → Met l (x ∷ xs)
meet_next l x xs true e rest = record {
  part = x.part;
  place = here e refl;
  found = ap (λ b. option_map (λ x. x.part) (cond b (Some x) (find (is_at l) xs))) e;
}
meet_next l x xs false e rest = let met = rest e in record {
  part = met.part;
  place = later met.place;
  found = ap (λ b. option_map (λ x. x.part) (cond b (Some x) (find (is_at l) xs))) e ∙ met.found;
}

-- a location among those of a list is met in it
pub meet : (l : Loc) (xs : List Located) → Contains (map (λ x. x.loc) xs) l → Met l xs
meet l [] c = absurd (not-suc-le-zero c.1)
meet l (x ∷ xs) c = meet_next l x xs (is_at l x) refl (λ e. meet l xs (skip l x xs e c))

-- a location of a program in text order names one place
pub names : {from to : ℕ} (p : List Outer) (l : Loc) → ProgramIn from to p → Contains (locations p) l → NamesOnePlace l p
names p l h c =
    let met = meet l (located p) c in
    let spot = (sound_program h).spot l met.part met.place in
    record { part = met.part; found = met.found; covers = spot.covers; one = spot.one; whole = spot.whole; changed = spot.changed }
