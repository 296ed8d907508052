-- Kinds of parts, as the definitions of changes, holes and fillings walk over them; and what holds of a part in text order, from what
-- holds of the parts in it.
use Rattle.std.proofs.Common.{◌≡◌, ℕ, suc, ◌+◌, ◌≤◌, true, false, if◌then◌else◌, List, [], ◌∷◌, ◌++◌, map, sum, refl, sym, ap, ap₂, ◌∙◌, subst, arith}
use Rattle.std.proofs.lemmas.List.Sums.{sum_by-cons}
use Rattle.c_tree.specs.declared.place.Loc.{Loc}
use Rattle.c_location.specs.Locations.{Located, Part, is_at}
use Rattle.c_location.specs.Rewrites.{Rewrite, rewrite}
use Rattle.c_location.specs.OnePlace.{opening, IsOf}
use Rattle.c_location.proofs.Places.{Nowhere, nowhere_left, nowhere_right, nowhere_first, nowhere_rest, is_at-loc}
use Rattle.c_location.proofs.Rises.{Rises, end, step, rises_from, rises_to, rises-append, not_before, begins_elsewhere, Somewhere, here, later, Parted, first, second, parted}

-- what a change makes of a part, how many holes it has, and the part with its holes filled
pub record Kind (T : Type 0) : Type 0 where
  pub to : Loc → Rewrite → T → T
  pub holes : T → ℕ
  pub fill : Part → T → T

-- the location names one place of this part
pub record Spot {T : Type 0} (K : Kind T) (l : Loc) (part : Part) (t : T) : Type 0 where
  pub covers : IsOf l.kind l.at part
  pub one : K.holes (K.to l opening t) ≡ 1
  pub whole : K.fill part (K.to l opening t) ≡ t
  pub changed : (r : Rewrite) → K.to l r t ≡ K.fill (rewrite r part) (K.to l opening t)

-- A part in text order, with the list of located parts in it. They rise between two places; the part has no hole; a change
-- elsewhere leaves it; and a location in it names one place of it.
pub record Sound {T : Type 0} (K : Kind T) (xs : List Located) (from to : ℕ) (t : T) : Type 0 where
  pub rises : Rises from to xs
  pub closed : K.holes t ≡ 0
  pub kept : (q : Part) → K.fill q t ≡ t
  pub stays : (l : Loc) (r : Rewrite) → Nowhere l xs → K.to l r t ≡ t
  pub spot : (l : Loc) (part : Part) → Somewhere l part xs → Spot K l part t

-- from an earlier place
pub sound_from : {T : Type 0} {K : Kind T} {xs : List Located} {low from to : ℕ} {t : T}
    → low ≤ from → Sound K xs from to t → Sound K xs low to t
sound_from h s = record { rises = rises_from h s.rises; closed = s.closed; kept = s.kept; stays = s.stays; spot = s.spot }

-- to a later place
pub sound_to : {T : Type 0} {K : Kind T} {xs : List Located} {from to high : ℕ} {t : T}
    → to ≤ high → Sound K xs from to t → Sound K xs from high t
sound_to h s = record { rises = rises_to h s.rises; closed = s.closed; kept = s.kept; stays = s.stays; spot = s.spot }

-- no location is in an empty list
nothing_there : {A : Type 0} {l : Loc} {part : Part} → Somewhere l part [] → A
nothing_there s = elim s [ ]

-- a part with no location in it
pub leaf : {T : Type 0} (K : Kind T) {from to : ℕ} (t : T)
    → from ≤ to → K.holes t ≡ 0 → ((q : Part) → K.fill q t ≡ t) → ((l : Loc) (r : Rewrite) → K.to l r t ≡ t) → Sound K [] from to t
leaf K t h closed kept stays = record {
  rises = end h;
  closed = closed;
  kept = kept;
  stays = λ l r k. stays l r;
  spot = λ l part s. nothing_there s;
}

-- the same part with the list of located parts in it written otherwise
pub sound_along : {T : Type 0} {K : Kind T} {xs ys : List Located} {from to : ℕ} {t : T}
    → xs ≡ ys → Sound K xs from to t → Sound K ys from to t
sound_along {K = K} {from = from} {to = to} {t = t} e s = subst (λ zs. Sound K zs from to t) e s

-- A whole with one part that can have locations: its changes, holes and fillings are those of the part. (Filling is asked of this part
-- and of this part opened alone, since a hole for a whole statement is filled by its own rule.)
pub record Wraps {A C : Type 0} (KA : Kind A) (KC : Kind C) (whole : A → C) (a : A) : Type 0 where
  pub to : (l : Loc) (r : Rewrite) → KC.to l r (whole a) ≡ whole (KA.to l r a)
  pub holes : (b : A) → KC.holes (whole b) ≡ KA.holes b
  pub fill : (q : Part) → KC.fill q (whole a) ≡ whole (KA.fill q a)
  pub refill : (q : Part) (l : Loc) → KC.fill q (whole (KA.to l opening a)) ≡ whole (KA.fill q (KA.to l opening a))

module _ {A C : Type 0} {KA : Kind A} {KC : Kind C} (whole : A → C) {a : A} (wraps : Wraps KA KC whole a) where
  -- the spot is in the part
  wrapped-spot : (l : Loc) (part : Part) → Spot KA l part a → Spot KC l part (whole a)
  wrapped-spot l part spot =
      let fill = λ (q : Part). ap (KC.fill q) (wraps.to l opening) ∙ wraps.refill q l in
      record {
        covers = spot.covers;
        one = ap KC.holes (wraps.to l opening) ∙ wraps.holes (KA.to l opening a) ∙ spot.one;
        whole = fill part ∙ ap whole spot.whole;
        changed = λ r. wraps.to l r ∙ ap whole (spot.changed r) ∙ sym (fill (rewrite r part));
      }

  -- a whole with one part
  pub wrap : {xs : List Located} {from to : ℕ} → Sound KA xs from to a → Sound KC xs from to (whole a)
  wrap s = record {
    rises = s.rises;
    closed = wraps.holes a ∙ s.closed;
    kept = λ q. wraps.fill q ∙ ap whole (s.kept q);
    stays = λ l r h. wraps.to l r ∙ ap whole (s.stays l r h);
    spot = λ l part h. wrapped-spot l part (s.spot l part h);
  }

-- a whole of two parts: its changes, holes and fillings are those of the parts
pub record Joins {A B C : Type 0} (KA : Kind A) (KB : Kind B) (KC : Kind C) (whole : A → B → C) : Type 0 where
  pub to : (l : Loc) (r : Rewrite) (a : A) (b : B) → KC.to l r (whole a b) ≡ whole (KA.to l r a) (KB.to l r b)
  pub holes : (a : A) (b : B) → KC.holes (whole a b) ≡ KA.holes a + KB.holes b
  pub fill : (q : Part) (a : A) (b : B) → KC.fill q (whole a b) ≡ whole (KA.fill q a) (KB.fill q b)

module _ {A B C : Type 0} {KA : Kind A} {KB : Kind B} {KC : Kind C} (whole : A → B → C) (joins : Joins KA KB KC whole) where
  -- the spot is in the first part
  first-spot : {xs : List Located} {from to : ℕ} (a : A) (b : B) (l : Loc) (part : Part)
      → Spot KA l part a → Nowhere l xs → Sound KB xs from to b → Spot KC l part (whole a b)
  first-spot a b l part spot off sound =
      let to = λ (r : Rewrite). joins.to l r a b ∙ ap (whole (KA.to l r a)) (sound.stays l r off) in
      let open_a : A = KA.to l opening a in
      let fill = λ (q : Part). ap (KC.fill q) (to opening) ∙ joins.fill q open_a b ∙ ap (whole (KA.fill q open_a)) (sound.kept q) in
      record {
        covers = spot.covers;
        one = ap KC.holes (to opening) ∙ joins.holes open_a b ∙ ap₂ (λ m n. m + n) spot.one sound.closed;
        whole = fill part ∙ ap (λ x. whole x b) spot.whole;
        changed = λ r. to r ∙ ap (λ x. whole x b) (spot.changed r) ∙ sym (fill (rewrite r part));
      }

  -- the spot is in the second part
  second-spot : {xs : List Located} {from to : ℕ} (a : A) (b : B) (l : Loc) (part : Part)
      → Nowhere l xs → Sound KA xs from to a → Spot KB l part b → Spot KC l part (whole a b)
  second-spot a b l part off sound spot =
      let to = λ (r : Rewrite). joins.to l r a b ∙ ap (λ x. whole x (KB.to l r b)) (sound.stays l r off) in
      let open_b : B = KB.to l opening b in
      let fill = λ (q : Part). ap (KC.fill q) (to opening) ∙ joins.fill q a open_b ∙ ap (λ x. whole x (KB.fill q open_b)) (sound.kept q) in
      record {
        covers = spot.covers;
        one = ap KC.holes (to opening) ∙ joins.holes a open_b ∙ ap₂ (λ m n. m + n) sound.closed spot.one;
        whole = fill part ∙ ap (whole a) spot.whole;
        changed = λ r. to r ∙ ap (whole a) (spot.changed r) ∙ sym (fill (rewrite r part));
      }

  -- the spot is in one of the parts
  joined-spot : {xs ys : List Located} {from mid to : ℕ} (a : A) (b : B) (l : Loc) (part : Part)
      → Sound KA xs from mid a → Sound KB ys mid to b → Parted l part xs ys → Spot KC l part (whole a b)
  joined-spot a b l part sa sb (first s off) = first-spot a b l part (sa.spot l part s) off sb
  joined-spot a b l part sa sb (second off s) = second-spot a b l part off sa (sb.spot l part s)

  -- a whole of two parts that follow one another in the text
  pub join : {xs ys : List Located} {from mid to : ℕ} {a : A} {b : B}
      → Sound KA xs from mid a → Sound KB ys mid to b → Sound KC (xs ++ ys) from to (whole a b)
  join {xs = xs} {ys = ys} {a = a} {b = b} sa sb = record {
    rises = rises-append sa.rises sb.rises;
    closed = joins.holes a b ∙ ap₂ (λ m n. m + n) sa.closed sb.closed;
    kept = λ q. joins.fill q a b ∙ ap₂ whole (sa.kept q) (sb.kept q);
    stays = λ l r h. joins.to l r a b ∙ ap₂ whole (sa.stays l r (nowhere_left xs ys h)) (sb.stays l r (nowhere_right xs ys h));
    spot = λ l part s. joined-spot a b l part sa sb (parted xs ys sa.rises sb.rises s);
  }

-- two parts of a whole, as one
abbrev pub pairs : {A B : Type 0} → Kind A → Kind B → Kind (A × B)
pairs KA KB = record {
  to = λ l r x. (KA.to l r x.0, KB.to l r x.1);
  holes = λ x. KA.holes x.0 + KB.holes x.1;
  fill = λ q x. (KA.fill q x.0, KB.fill q x.1);
}

-- two parts that follow one another in the text, as one
pub pair : {A B : Type 0} {KA : Kind A} {KB : Kind B} {xs ys : List Located} {from mid to : ℕ} {a : A} {b : B}
    → Sound KA xs from mid a → Sound KB ys mid to b → Sound (pairs KA KB) (xs ++ ys) from to (a, b)
pair sa sb = join (λ a b. (a, b)) (record { to = λ l r a b. refl; holes = λ a b. refl; fill = λ q a b. refl }) sa sb

-- a list of parts of one kind
abbrev pub lists : {A : Type 0} → Kind A → Kind (List A)
lists K = record {
  to = λ l r xs. map (K.to l r) xs;
  holes = λ xs. sum (map K.holes xs);
  fill = λ q xs. map (K.fill q) xs;
}

-- a part, and then more of its kind
pub cons : {A : Type 0} {K : Kind A} {xs ys : List Located} {from mid to : ℕ} {a : A} {rest : List A}
    → Sound K xs from mid a → Sound (lists K) ys mid to rest → Sound (lists K) (xs ++ ys) from to (a ∷ rest)
cons {K = K} sa sb = join (λ a b. a ∷ b) (record {
  to = λ l r a b. refl;
  holes = λ a b. sum_by-cons (λ n. n) (K.holes a) (map K.holes b);
  fill = λ q a b. refl;
}) sa sb

-- A part that is a location itself, over the kind that looks only at what is in it: what becomes of it there, that a hole is put in
-- its place, and that it is put back into the hole.
pub record Placed {T : Type 0} (K : Kind T) (to : Loc → Rewrite → T → T) (own : Rewrite → T → T) (x : Located) (t : T) : Type 0 where
  pub test : (l : Loc) (r : Rewrite) → to l r t ≡ if is_at l x then own r t else K.to l r t
  pub covers : IsOf x.loc.kind x.loc.at x.part
  pub one : K.holes (own opening t) ≡ 1
  pub whole : K.fill x.part (own opening t) ≡ t
  pub changed : (r : Rewrite) → own r t ≡ K.fill (rewrite r x.part) (own opening t)

module _ {T : Type 0} {K : Kind T} {to : Loc → Rewrite → T → T} {own : Rewrite → T → T} {x : Located} {t : T}
    (place : Placed K to own x t) where
  -- the location is the part itself
  own-spot : (l : Loc) → is_at l x ≡ true → Spot (record K { to = to }) l x.part t
  own-spot l e =
      let on = λ (r : Rewrite). place.test l r ∙ ap (λ b. if b then own r t else K.to l r t) e in
      record {
        covers = subst (λ m. IsOf m.kind m.at x.part) (is_at-loc l x e) place.covers;
        one = ap K.holes (on opening) ∙ place.one;
        whole = ap (K.fill x.part) (on opening) ∙ place.whole;
        changed = λ r. on r ∙ place.changed r ∙ sym (ap (K.fill (rewrite r x.part)) (on opening));
      }

  -- the location is inside the part
  inner-spot : (l : Loc) (part : Part) → is_at l x ≡ false → Spot K l part t → Spot (record K { to = to }) l part t
  inner-spot l part e spot =
      let off = λ (r : Rewrite). place.test l r ∙ ap (λ b. if b then own r t else K.to l r t) e in
      record {
        covers = spot.covers;
        one = ap K.holes (off opening) ∙ spot.one;
        whole = ap (K.fill part) (off opening) ∙ spot.whole;
        changed = λ r. off r ∙ spot.changed r ∙ sym (ap (K.fill (rewrite r part)) (off opening));
      }

  -- either
  placed-spot : (l : Loc) (part : Part) {xs : List Located} {until : ℕ}
      → Sound K xs (suc x.loc.at.from) until t → Somewhere l part (x ∷ xs) → Spot (record K { to = to }) l part t
  placed-spot l part s (here e p) = subst (λ q. Spot (record K { to = to }) l q t) p (own-spot l e)
  placed-spot l part s (later k) =
      let b = not_before s.rises k in inner-spot l part (begins_elsewhere l x (λ e. omega arith)) (s.spot l part k)

  -- the part with its place, where what is in it begins after it
  pub placed : {xs : List Located} {from until : ℕ}
      → from ≤ x.loc.at.from → Sound K xs (suc x.loc.at.from) until t → Sound (record K { to = to }) (x ∷ xs) from until t
  placed after s = record {
    rises = step after s.rises;
    closed = s.closed;
    kept = s.kept;
    stays = λ l r h. place.test l r ∙ ap (λ b. if b then own r t else K.to l r t) (nowhere_first h) ∙ s.stays l r (nowhere_rest h);
    spot = λ l part k. placed-spot l part s k;
  }
