-- Where a part that is found at a location stands.
use Rattle.std.proofs.Common.{◌≡◌, suc, Bool, true, false, if◌then◌else◌, List, [], ◌∷◌, map, Option, Some, None, refl, ap, arith, Contains}
use Rattle.std.specs.Prelude.{option_map}
use Rattle.std.specs.List.{find}
use Rattle.c_tree.specs.declared.place.Loc.{Loc}
use Rattle.c_tree.specs.Tree.{Outer}
use Rattle.c_location.specs.Locations.{Part, Located, located, locations, is_at, part_at}
use Rattle.c_location.proofs.Places.{is_at-loc}

-- what is found at a location is at a location of the list
found_among : (l : Loc) (xs : List Located) (x : Located) → find (is_at l) xs ≡ Some x → Contains (map (λ y. y.loc) xs) l
found_among l [] x e = absurd (cc)
found_among l (y ∷ ys) x e = by_test (is_at l y) refl e (λ rest. found_among l ys x rest)
  where
    by_test : (b : Bool) → is_at l y ≡ b → (if b then Some y else find (is_at l) ys) ≡ Some x
        → (find (is_at l) ys ≡ Some x → Contains (map (λ z. z.loc) ys) l) → Contains (map (λ z. z.loc) (y ∷ ys)) l
    by_test true is h rest = (0, omega arith, is_at-loc l y is)
    by_test false is h rest =
        let there : Contains (map (λ z. z.loc) ys) l = rest h in
        (suc there.0, omega (arith, there.1), there.2)

pub part_among : (l : Loc) (p : List Outer) (part : Part) → part_at l p ≡ Some part → Contains (locations p) l
part_among l p part e = by_find (find (is_at l) (located p)) refl
  where
    by_find : (o : Option Located) → find (is_at l) (located p) ≡ o → Contains (locations p) l
    by_find None is = let n : part_at l p ≡ None = ap (option_map (λ x. x.part)) is in absurd (cc)
    by_find (Some x) is = found_among l (located p) x is
