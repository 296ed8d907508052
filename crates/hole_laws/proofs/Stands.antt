-- In a checked program in text order the hole at a location stands where the location does.
use Rattle.std.proofs.Common.{◌≡◌, ℕ, suc, ◌<◌, Bool, true, false, if◌then◌else◌, List, [], ◌∷◌, ◌++◌, map, length, Option, Some, None, refl, sym, ap, subst, arith, Contains, All}
use Rattle.std.specs.Prelude.{option_map}
use Rattle.std.specs.List.{find}
use Rattle.std.proofs.lemmas.List.Elements.{All-head, All-tail, All-contains, All-contains_itself}
use Rattle.c_tree.specs.declared.place.Loc.{Loc}
use Rattle.c_tree.specs.declared.place.LocKind.{LocKind}
use Rattle.c_tree.specs.declared.place.LocKind.TheVariants.{Guard, Cond, Right}
use Rattle.c_tree.specs.declared.place.Span.{Span}
use Rattle.c_tree.specs.Parts.{span_of, span_of_code}
use Rattle.c_tree.specs.Tree.{Tree, hole, hole_after, is_pure, Code, Function, Outer}
use Rattle.c_types.specs.Evidence.{IsOrdered}
use Rattle.c_types.specs.Found.{code_found}
use Rattle.c_types.specs.Library.{library}
use Rattle.c_types.specs.Programs.{function_declaration}
use Rattle.c_types.specs.Uses.{Use, uses}
use Rattle.c_location.specs.Laws.{EachNamesOnePlace, LocationsRise}
use Rattle.c_location.specs.Locations.{Located, expression, statement, guard, is_at, located, locations, part_at}
use Rattle.c_location.specs.OnePlace.{IsOf, Rising, opened, holes as count, NamesOnePlace}
use Rattle.c_location.specs.Rewrites.{rewritten}
use Rattle.c_location.proofs.Places.{is_at-loc}
use Rattle.c_meaning.specs.Filled.{hole_of, holed}
use Rattle.rewrite_laws.proofs.Rewritten.{Anywhere, AnywhereCode, keeps}
use Rattle.rewrite_laws.proofs.NumbersThere.{And}
use Rattle.rewrite_laws.proofs.ThereFaults.{function_declaration-kept}
use Rattle.scope_laws.specs.Laws.{ScopesAgree, SeesScope}
use Rattle.scope_laws.specs.Spots.{Spot, spot, spots}
use Rattle.scope_laws.proofs.Every.{Every, nil, cons, head, tail, weaker}
use Rattle.run_laws.specs.Holes.{Names, tree_holes, holes, of_holes}
use Rattle.hole_laws.specs.Laws.{HolesStand}
use Rattle.hole_laws.specs.Places.{StandsIn}
use Rattle.hole_laws.proofs.Fits.{hole_fits}
use Rattle.hole_laws.proofs.Parts.{tree_scope, Counted, as_many}
use Rattle.hole_laws.proofs.Walk.{of_kind, Opens, changed, outers}

-- ---- what is found at a location

module _ (l : Loc) where
  -- a part that begins before others isn't found in their stead
  found_after : (x : Located) (zs ys : List Located) → All (λ (m : Loc). x.loc.at.from < m.at.from) (map (λ (y : Located). y.loc) ys)
      → Every (λ (y : Located). is_at l y ≡ true → find (is_at l) zs ≡ Some y) ys
      → Every (λ (y : Located). is_at l y ≡ true → (if is_at l x then Some x else find (is_at l) zs) ≡ Some y) ys
  found_after x zs [] before h = nil
  found_after x zs (y ∷ ys) before h =
      cons (λ is. by_test (is_at l x) refl is)
      (found_after x zs ys (All-tail (λ (m : Loc). x.loc.at.from < m.at.from) y.loc (map (λ (z : Located). z.loc) ys) before) (tail h))
    where
      first : x.loc.at.from < y.loc.at.from
      first = All-head (λ (m : Loc). x.loc.at.from < m.at.from) y.loc (map (λ (z : Located). z.loc) ys) before

      by_test : (b : Bool) → is_at l x ≡ b → is_at l y ≡ true → (if b then Some x else find (is_at l) zs) ≡ Some y
      by_test true at is =
          let one : x.loc.at.from ≡ l.at.from = ap (λ (m : Loc). m.at.from) (is_at-loc l x at) in
          let other : y.loc.at.from ≡ l.at.from = ap (λ (m : Loc). m.at.from) (is_at-loc l y is) in
          absurd (omega (arith, first, one, other))
      by_test false at is = head h is

  -- each part at the location is the one that is found
  found_each : (xs : List Located) → Rising (map (λ (x : Located). x.loc) xs) → Every (λ (x : Located). is_at l x ≡ true → find (is_at l) xs ≡ Some x) xs
  found_each [] rising = nil
  found_each (x ∷ xs) rising =
      cons (λ is. ap (λ (b : Bool). if b then Some x else find (is_at l) xs) is)
      (found_after x xs xs rising.0 (found_each xs rising.1))

-- ---- what a hole makes of what stands there

-- a list with one element
sole : {H : Names → Type 0} (xs : List Names) → Counted H xs 1 → (ds : Names) × (xs ≡ ds ∷ []) × H ds
sole [] h = absurd (let n : 0 ≡ 1 = h.count in omega (arith, n))
sole (x ∷ []) h = (x, refl, head h.each)
sole (x ∷ y ∷ zs) h = absurd (let n : suc (suc (length zs)) ≡ 1 = h.count in omega (arith, n))

module _ (p : List Outer) (l : Loc) where
  abbrev R : Spot → Type 0
  R u = Contains (spots p) u

  abbrev P : Located → Type 0
  P x = is_at l x ≡ true → part_at l p ≡ Some x.part

  abbrev Q : Use → Type 0
  Q u = Contains (uses p) u

  abbrev H : Names → Type 0
  H = StandsIn p l

  single : (ds : Names) → H ds → Counted H (ds ∷ []) 1
  single ds h = record { each = cons h nil; count = refl }

  -- the text of what is at the location is its own
  own_text : (ds : Names) (o : Option (List ℕ)) (s : Span) → s ≡ l.at → R (spot ds o s) → R (spot ds o l.at)
  own_text ds o s e h = subst (λ t. R (spot ds o t)) e h

  -- an expression there has the one hole in its place, or after it
  opened_tree : (ds : Names) (kind : LocKind) (e : Tree) → IsOf kind (span_of e) (expression e) → tree_holes ds e ≡ [] → H ds
      → Counted H (tree_holes ds ((hole_of kind).tree e)) 1
  opened_tree ds Guard e of none h = absurd of
  opened_tree ds Cond e of none h = by_test (is_pure e)
    where
      by_test : (b : Bool) → Counted H (tree_holes ds (if b then hole else hole_after e)) 1
      by_test true = single ds h
      by_test false = subst (λ (xs : List Names). Counted H (xs ++ ds ∷ []) 1) (sym none) (single ds h)
  opened_tree ds Right e of none h = single ds h

  -- a statement there has it in an `if` round it
  opened_code : (ds : Names) (kind : LocKind) (c : Code) → Guard ≡ kind → code_found of_holes ds c ≡ [] → H ds
      → Counted H (code_found of_holes ds ((hole_of kind).code c)) 1
  opened_code ds kind c is none h =
      subst (λ (k : LocKind). Counted H (code_found of_holes ds ((hole_of k).code c)) 1) is
      (subst (λ (xs : List Names). Counted H ((ds ∷ xs) ++ []) 1) (sym none) (single ds h))

  opens : Opens l (hole_of l.kind) R P Q H
  opens = record {
    tree = λ ds o kind e of is s found u none.
        let here : (of_kind kind e).loc ≡ l = is_at-loc l (of_kind kind e) is in
        let stands : H ds = record {
          initialised = o;
          spot = own_text ds o (span_of e) (ap (λ (m : Loc). m.at) here) s;
          part = expression e;
          found = found is;
          names = u.all;
          in_scope = (tree_scope ds o e).all;
        } in
        subst (λ (k : LocKind). Counted H (tree_holes ds ((hole_of k).tree e)) 1) (ap (λ (m : Loc). m.kind) here) (opened_tree ds kind e of none stands);
    code = λ ds c is s found u scope none.
        let here : (guard c).loc ≡ l = is_at-loc l (guard c) is in
        let stands : H ds = record {
          initialised = None;
          spot = own_text ds None (span_of_code c) (ap (λ (m : Loc). m.at) here) s;
          part = statement c;
          found = found is;
          names = u.all;
          in_scope = scope.all;
        } in
        opened_code ds l.kind c (ap (λ (m : Loc). m.kind) here) none stands;
  }

  module _ (names : EachNamesOnePlace) (rise : LocationsRise) (text : IsOrdered p) where
    -- each part at the location is what stands there
    found_there : Every P (located p)
    found_there =
        weaker (λ x h is. ap (option_map (λ (y : Located). y.part)) (h is))
        (found_each l (located p) (rise 0 text.end p text.placed))

    same : (f : Function) → function_declaration (rewritten l (hole_of l.kind) p) (changed l (hole_of l.kind) f) ≡ function_declaration p f
    same f = function_declaration-kept l (hole_of l.kind) (And Anywhere) AnywhereCode (keeps (hole_of l.kind) (hole_fits l.kind)) p f

    -- all holes of the program with a hole at the location
    walked : Counted H (holes (holed l p)) (count (opened l p))
    walked = outers l (hole_of l.kind) R P Q H opens p same library text.placed (record {
      spots = record { all = All-contains_itself (spots p) };
      located = found_there;
      uses = record { all = All-contains_itself (uses p) };
    })

    pub stands_there : Contains (locations p) l → (ds : Names) × (holes (holed l p) ≡ ds ∷ []) × StandsIn p l ds
    stands_there among =
        let one : NamesOnePlace l p = names 0 text.end p l text.placed among in
        sole (holes (holed l p)) (as_many walked one.one)

-- a scope that stands at the location makes visible what is visible there
pub holes_stand : EachNamesOnePlace → LocationsRise → ScopesAgree → HolesStand
holes_stand names rise agree p h text l among =
    let it = stands_there p l names rise text among in
    let place : StandsIn p l it.0 = it.2 in
    let seen : SeesScope p (record { text = l.at; scope = it.0; initialised = place.initialised }) =
    All-contains (SeesScope p) (spots p) (record { text = l.at; scope = it.0; initialised = place.initialised }) (agree p 0 text.end 0 text.placed (h.faultless 0)) place.spot in
    let covers : l.at.from < l.at.to = seen.covers in
    record {
      scope = it.0;
      one = it.1;
      stands = place;
      sees = seen.sees l.at.from (omega arith) covers;
    }
