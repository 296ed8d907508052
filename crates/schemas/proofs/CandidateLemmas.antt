-- Lists of atoms and edits that are made one after another, and expressions that are made so.
use Rattle.std.proofs.Common.{◌≡◌, ℕ, zero, suc, ◌+◌, ◌-◌, ◌<◌, Bool, true, false, not, ◌||◌, if◌then◌else◌, List, [], ◌∷◌, ◌++◌, map, length, take, drop, get_or, refl, sym, ap, ◌∙◌, add-one, append_assoc, append-nil, drop-cons, arith, length-append}
use Rattle.std.proofs.Math.Seq.{take-nil}
use Rattle.std.specs.List.{list_any}
use Rattle.c_tree.specs.declared.place.LocKind.{LocKind}
use Rattle.c_tree.specs.Tree.{Tree}
use Rattle.c_types.specs.declared.visible.Visible.{Visible}
use Rattle.c_location.specs.Locations.{Part}
use Rattle.schemas.specs.declared.atom.Atom.{Atom}
use Rattle.schemas.specs.declared.edit.Edit.{Edit}
use Rattle.schemas.specs.declared.edit.Edit.TheVariants.{Leaf}
use Rattle.schemas.specs.Atoms.{variable_atom, numbers}
use Rattle.schemas.specs.Edits.{made}
use Rattle.schemas.specs.Candidates.{leaf_edits, edits_of, edits_upto, and_made, and_all_made, old}

-- the elements from one on are it and those after it
pub drop_one : {A : Type 0} (xs : List A) (i : ℕ) (x : A) → i < length xs → x ≡ get_or xs i x → drop i xs ≡ x ∷ drop (i + 1) xs
drop_one xs i x lt is = rw add-one (drop-cons xs i x lt ∙ ap (λ z. z ∷ drop (suc i) xs) (sym is))

-- those of one more place are added
pub leaves_more : (atoms : List Atom) (k count : ℕ) (all now new : List Edit) → k < count → new ≡ now ++ map (λ a. Leaf k a) atoms
    → now ++ leaf_edits atoms k (count - k) ≡ all → new ++ leaf_edits atoms (k + 1) (count - (k + 1)) ≡ all
leaves_more atoms k count all now new lt step so_far =
    let one_less : count - k ≡ suc (count - (k + 1)) = omega arith in
    ap (λ z. z ++ leaf_edits atoms (k + 1) (count - (k + 1))) step
    ∙ append_assoc now (map (λ a. Leaf k a) atoms) (leaf_edits atoms (k + 1) (count - (k + 1)))
    ∙ sym (ap (λ z. now ++ leaf_edits atoms k z) one_less) ∙ so_far

-- one more variable is added, if it is a number and there is room for it
room_more : (v : Visible) (vs : List Visible) (now new : List Atom) (room : ℕ) → 8 - length now ≡ room
    → new ≡ now ++ map variable_atom (take room (numbers (v ∷ []))) → new ++ map variable_atom (take (8 - length new) (numbers vs)) ≡ now ++ map variable_atom (take room (numbers (v ∷ vs)))
room_more v vs now new room is step = by_test v.array room is step
  where
    by_test : (array : Bool) (r : ℕ) → 8 - length now ≡ r → new ≡ now ++ map variable_atom (take r (if not array then v ∷ [] else []))
        → new ++ map variable_atom (take (8 - length new) (numbers vs)) ≡ now ++ map variable_atom (take r (if not array then v ∷ numbers vs else numbers vs))
    by_test true r at step =
        let same : new ≡ now = step ∙ ap (λ z. now ++ map variable_atom z) (take-nil r) ∙ append-nil now in
        ap (λ z. z ++ map variable_atom (take (8 - length z) (numbers vs))) same ∙ ap (λ n. now ++ map variable_atom (take n (numbers vs))) at
    by_test false zero at step =
        let same : new ≡ now = step ∙ append-nil now in
        ap (λ z. z ++ map variable_atom (take (8 - length z) (numbers vs))) same ∙ ap (λ n. now ++ map variable_atom (take n (numbers vs))) at
    by_test false (suc r) at step =
        let one : take r (let none : List Visible = [] in none) ≡ [] = take-nil r in
        let added : new ≡ now ++ variable_atom v ∷ [] = step ∙ ap (λ z. now ++ variable_atom v ∷ map variable_atom z) one in
        let count : length new ≡ length now + 1 = ap length added ∙ length-append now (variable_atom v ∷ []) in
        let left : 8 - length new ≡ r = omega arith in
        ap (λ n. new ++ map variable_atom (take n (numbers vs))) left ∙ ap (λ z. z ++ map variable_atom (take r (numbers vs))) added
        ∙ append_assoc now (variable_atom v ∷ []) (map variable_atom (take r (numbers vs)))

pub variables_more : (vs : List Visible) (i : ℕ) (v : Visible) (all now new : List Atom) → i < length vs → v ≡ get_or vs i v
    → new ≡ now ++ map variable_atom (take (8 - length now) (numbers (v ∷ []))) → now ++ map variable_atom (take (8 - length now) (numbers (drop i vs))) ≡ all
    → new ++ map variable_atom (take (8 - length new) (numbers (drop (i + 1) vs))) ≡ all
variables_more vs i v all now new lt is step so_far =
    room_more v (drop (i + 1) vs) now new (8 - length now) refl step
    ∙ sym (ap (λ z. now ++ map variable_atom (take (8 - length now) (numbers z))) (drop_one vs i v lt is)) ∙ so_far

-- an element that passes a test, sought among what the elements of a list stand for
pub any-map : {A B : Type 0} (test : B → Bool) (view : A → B) (xs : List A) → list_any test (map view xs) ≡ list_any (λ x. test (view x)) xs
any-map test view [] = refl
any-map test view (x ∷ xs) = ap (λ b. test (view x) || b) (any-map test view xs)

-- the expressions that two lists of edits make, one after the other
pub all_made-append : (part : Part) (seen : List Tree) (xs ys : List Edit) → and_all_made part seen (xs ++ ys) ≡ and_all_made part (and_all_made part seen xs) ys
all_made-append part seen [] ys = refl
all_made-append part seen (x ∷ xs) ys = all_made-append part (and_made seen (made part x)) xs ys

-- the edits of one more cost
pub costs_more : (kind : LocKind) (atoms : List Atom) (part : Part) (cost : ℕ) (seen new : List Tree) → 0 < cost → new ≡ and_all_made part seen (edits_of kind atoms part cost)
    → seen ≡ and_all_made part (old part) (edits_upto kind atoms part (cost - 1)) → new ≡ and_all_made part (old part) (edits_upto kind atoms part (cost + 1 - 1))
costs_more kind atoms part cost seen new pos step so_far = with_cost (cost - 1) (omega arith)
  where
    with_cost : (n : ℕ) → cost ≡ suc n → new ≡ and_all_made part (old part) (edits_upto kind atoms part (cost + 1 - 1))
    with_cost n is =
        let this : cost + 1 - 1 ≡ suc n = omega arith in
        let before : cost - 1 ≡ n = omega arith in
        step ∙ ap (λ z. and_all_made part z (edits_of kind atoms part cost)) (so_far ∙ ap (λ z. and_all_made part (old part) (edits_upto kind atoms part z)) before)
        ∙ ap (λ z. and_all_made part (and_all_made part (old part) (edits_upto kind atoms part n)) (edits_of kind atoms part z)) is
        ∙ sym (all_made-append part (old part) (edits_upto kind atoms part n) (edits_of kind atoms part (suc n)))
        ∙ sym (ap (λ z. and_all_made part (old part) (edits_upto kind atoms part z)) this)
