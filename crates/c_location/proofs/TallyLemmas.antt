-- Locations that are found one after another.
use Rattle.std.proofs.Common.{ℕ, ◌+◌, ◌<◌, ◌≤◌, cond, nat_lt, min, List, [], ◌∷◌, ◌++◌, map, length, take, refl, sym, ap, ◌∙◌, append_assoc, arith, length-append, length-take, subst, ◌≡◌}
use Rattle.std.proofs.lemmas.Grind.{common_steps}
use Rattle.std.proofs.lemmas.List.{take_all}
use Rattle.c_tree.specs.declared.place.Loc.{Loc}
use Rattle.c_location.specs.Locations.{Located}
use Rattle.c_location.specs.Tally.{Found, with_one, with_all, none_found}
use Rattle.c_location.proofs.SpanLemmas.{span_of_tree}

-- two lists of locations are found one after the other
pub with_all-append : (f : Found) (xs ys : List Located) → with_all f (xs ++ ys) ≡ with_all (with_all f xs) ys
with_all-append f [] ys = refl
with_all-append f (x ∷ xs) ys = with_all-append (with_one f x.loc) xs ys

pub ruleset tally_steps = (with_all-append, span_of_tree)

-- the locations alone
abbrev pub locs : List Located → List Loc
locs = map (λ x. x.loc)

-- what is kept of one more location
kept-more : (k : ℕ) (xs : List Loc) (x : Loc) → cond (nat_lt (length (take k xs)) k) (take k xs ++ x ∷ []) (take k xs) ≡ take k (xs ++ x ∷ [])
kept-more k xs x = grind (arith, common_steps)

-- the count of one more location
count-more : (k n : ℕ) → min (min n k + 1) k ≡ min (n + 1) k
count-more k n = omega arith

-- what is kept of these locations, and their count
abbrev pub summary : List Loc → Found
summary ls = record { kept = take 4096 ls; count = min (length ls) 4294967295 }

summary-more : (xs : List Loc) (x : Loc) → with_one (summary xs) x ≡ summary (xs ++ x ∷ [])
summary-more xs x = λ i. record {
  kept = kept-more 4096 xs x i;
  count = (count-more 4294967295 (length xs) ∙ ap (λ n. min n 4294967295) (sym (length-append xs (x ∷ [])))) i;
}

with_all-summary : (ls : List Loc) (xs : List Located) → with_all (summary ls) xs ≡ summary (ls ++ locs xs)
with_all-summary ls [] = grind (arith, common_steps)
with_all-summary ls (x ∷ xs) =
    ap (λ f. with_all f xs) (summary-more ls x.loc) ∙ with_all-summary (ls ++ x.loc ∷ []) xs ∙ ap summary (append_assoc ls (x.loc ∷ []) (locs xs))

-- all locations of a list are found
pub with_all-none_found : (xs : List Located) → with_all none_found xs ≡ summary (locs xs)
with_all-none_found xs = with_all-summary [] xs

-- every location was kept, if there are few enough
pub found_kept : (f : Found) (xs : List Located) → f ≡ with_all none_found xs → f.count ≤ 4096 → f.kept ≡ locs xs
found_kept f xs is few =
    let e : f ≡ summary (locs xs) = is ∙ with_all-none_found xs in
    let short : min (length (locs xs)) 4294967295 ≤ 4096 = subst (λ (n : ℕ). n ≤ 4096) (ap (λ (g : Found). g.count) e) few in
    ap (λ (g : Found). g.kept) e ∙ take_all 4096 (locs xs) (omega arith)

-- no more than the limit were kept
pub found_few : (f : Found) (xs : List Located) → f ≡ with_all none_found xs → length f.kept ≤ 4096
found_few f xs is = rw (ap (λ (g : Found). length g.kept) (is ∙ with_all-none_found xs), length-take) (omega arith)

-- the count is right, as far as it goes
pub found_count : (f : Found) (xs : List Located) → f ≡ with_all none_found xs → f.count ≡ min (length (locs xs)) 4294967295
found_count f xs is = ap (λ (g : Found). g.count) (is ∙ with_all-none_found xs)

-- more than the limit are there, if more were counted
pub found_many : (f : Found) (xs : List Located) → f ≡ with_all none_found xs → 4096 < f.count → 4096 < length (locs xs)
found_many f xs is many =
    let most : 4096 < min (length (locs xs)) 4294967295 = subst (λ (n : ℕ). 4096 < n) (found_count f xs is) many in
    omega arith
