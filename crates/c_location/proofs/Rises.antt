-- Located parts that rise strictly between two places of the text, and which of them are at a location.
use Rattle.std.proofs.Common.{◌≡◌, ℕ, zero, suc, ◌<◌, ◌≤◌, true, false, List, [], ◌∷◌, ◌++◌, map, sym, ap, ◌∙◌, le_trans, slice_index_or, length, not-suc-le-zero, All, le_of_suc-le-suc, arith}
use Rattle.std.proofs.lemmas.List.Elements.{All-nil, All-cons, All-contains}
use Rattle.c_tree.specs.declared.place.Loc.{Loc}
use Rattle.c_location.specs.Locations.{Located, Part, is_at}
use Rattle.c_location.specs.OnePlace.{Rising}
use Rattle.c_location.proofs.Places.{Nowhere, none, more, fails, is_at-loc}

-- each part begins at the first place or later and before all that follow it, and all begin before the second place
pub data Rises : ℕ → ℕ → List Located → Type 0 where
  end : {from to : ℕ} → from ≤ to → Rises from to []
  step : {from to : ℕ} {x : Located} {xs : List Located} → from ≤ x.loc.at.from → Rises (suc x.loc.at.from) to xs → Rises from to (x ∷ xs)

-- the two places follow one another
pub rises-order : {from to : ℕ} {xs : List Located} → Rises from to xs → from ≤ to
rises-order (end h) = h
rises-order (step h rest) = let k = rises-order rest in omega arith

-- from an earlier place
pub rises_from : {low from to : ℕ} {xs : List Located} → low ≤ from → Rises from to xs → Rises low to xs
rises_from k (end h) = end (le_trans k h)
rises_from k (step h rest) = step (le_trans k h) rest

-- to a later place
pub rises_to : {from to high : ℕ} {xs : List Located} → to ≤ high → Rises from to xs → Rises from high xs
rises_to k (end h) = end (le_trans h k)
rises_to k (step h rest) = step h (rises_to k rest)

-- parts that rise up to a place, and then parts that rise from there
pub rises-append : {from mid to : ℕ} {xs ys : List Located} → Rises from mid xs → Rises mid to ys → Rises from to (xs ++ ys)
rises-append (end h) later = rises_from h later
rises-append (step h rest) later = step h (rises-append rest later)

-- all locations begin at the first place or later
all_from : {from to : ℕ} (xs : List Located) → Rises from to xs → All (λ l. from ≤ l.at.from) (map (λ x. x.loc) xs)
all_from {from = from} [] h = All-nil (λ m. from ≤ m.at.from)
all_from {from = from} (x ∷ xs) (step h rest) =
    All-cons (λ m. from ≤ m.at.from) x.loc (map (λ x. x.loc) xs) h (all_from {from = from} xs (rises_from (le_trans h (omega arith)) rest))

-- such locations rise
pub rising : {from to : ℕ} (xs : List Located) → Rises from to xs → Rising (map (λ x. x.loc) xs)
rising [] h = tt
rising (x ∷ xs) (step h rest) = (all_from xs rest, rising xs rest)

-- among rising locations two that begin at the same byte are the same
pub same_start : (ls : List Loc) (a b : Loc) (j k : ℕ) → Rising ls → j < length ls → k < length ls
    → slice_index_or ls j a ≡ a → slice_index_or ls k b ≡ b → a.at.from ≡ b.at.from → a ≡ b
same_start [] a b j k r hj hk ea eb same = absurd (not-suc-le-zero hj)
same_start (l ∷ ls) a b zero zero r hj hk ea eb same = sym ea ∙ eb
same_start (l ∷ ls) a b zero (suc k) r hj hk ea eb same =
    let before : l.at.from < b.at.from = All-contains (λ m. l.at.from < m.at.from) ls b r.0 (k, le_of_suc-le-suc hk, eb) in
    let first : l.at.from ≡ a.at.from = ap (λ m. m.at.from) ea in absurd (omega arith)
same_start (l ∷ ls) a b (suc j) zero r hj hk ea eb same =
    let before : l.at.from < a.at.from = All-contains (λ m. l.at.from < m.at.from) ls a r.0 (j, le_of_suc-le-suc hj, ea) in
    let first : l.at.from ≡ b.at.from = ap (λ m. m.at.from) eb in absurd (omega arith)
same_start (l ∷ ls) a b (suc j) (suc k) r hj hk ea eb same =
    same_start ls a b j k r.1 (le_of_suc-le-suc hj) (le_of_suc-le-suc hk) ea eb same

-- a part of the list is at the location
pub data Somewhere (l : Loc) (part : Part) : List Located → Type 0 where
  here : {x : Located} {xs : List Located} → is_at l x ≡ true → x.part ≡ part → Somewhere l part (x ∷ xs)
  later : {x : Located} {xs : List Located} → Somewhere l part xs → Somewhere l part (x ∷ xs)

-- a part at a location begins where the location does
begins_there : (l : Loc) (x : Located) → is_at l x ≡ true → x.loc.at.from ≡ l.at.from
begins_there l x e = ap (λ m. m.at.from) (is_at-loc l x e)

-- what begins elsewhere is not at the location
pub begins_elsewhere : (l : Loc) (x : Located) → (x.loc.at.from ≡ l.at.from → ⊥) → is_at l x ≡ false
begins_elsewhere l x h = fails (is_at l x) (λ e. h (begins_there l x e))

-- a location among rising parts begins at the first place or later
pub not_before : {from to : ℕ} {xs : List Located} {l : Loc} {part : Part} → Rises from to xs → Somewhere l part xs → from ≤ l.at.from
not_before (end h) s = elim s [ ]
not_before {l = l} (step {x = x} h rest) (here e p) = let b = begins_there l x e in omega arith
not_before (step h rest) (later s) = let b = not_before rest s in omega arith

-- a location that begins before the first place is none of theirs
pub nowhere_before : {from to : ℕ} {xs : List Located} {l : Loc} → l.at.from < from → Rises from to xs → Nowhere l xs
nowhere_before k (end h) = none
nowhere_before {l = l} k (step {x = x} h rest) = more (begins_elsewhere l x (λ e. omega arith)) (nowhere_before (omega arith) rest)

-- a location of two lists one after the other is in one of them, and not in the other
pub data Parted (l : Loc) (part : Part) (xs ys : List Located) : Type 0 where
  first : Somewhere l part xs → Nowhere l ys → Parted l part xs ys
  second : Nowhere l xs → Somewhere l part ys → Parted l part xs ys

-- one more part before the first list
parted-more : {l : Loc} {part : Part} {x : Located} {xs ys : List Located}
    → (Somewhere l part ys → is_at l x ≡ false) → Parted l part xs ys → Parted l part (x ∷ xs) ys
parted-more off (first s h) = first (later s) h
parted-more off (second h s) = second (more (off s) h) s

-- rising lists are told apart so
pub parted : {from mid to : ℕ} {l : Loc} {part : Part} (xs ys : List Located)
    → Rises from mid xs → Rises mid to ys → Somewhere l part (xs ++ ys) → Parted l part xs ys
parted [] ys r q s = second none s
parted {l = l} (x ∷ xs) ys (step h rest) q (here e p) =
    let b = begins_there l x e in let k = rises-order rest in first (here e p) (nowhere_before (omega arith) q)
parted {l = l} (x ∷ xs) ys (step h rest) q (later s) =
    parted-more
    (λ s. let b = not_before q s in let k = rises-order rest in begins_elsewhere l x (λ e. omega arith))
    (parted xs ys rest q s)
