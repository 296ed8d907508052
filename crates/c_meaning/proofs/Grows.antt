-- No part of a run leaves fewer objects than it found, so a block leaves as many.
use Rattle.std.proofs.Common.{◌≡◌, ℕ, zero, suc, ◌+◌, ◌≤◌, ℤ, pos, negsuc, List, [], ◌∷◌, length, take, slice_set, nat_le, nat_lt, Option, Some, None, Bool, true, false, cond, ap, arith, length-append}
use Rattle.std.specs.Prelude.{⊤}
use Rattle.std.proofs.lemmas.List.{length-take}
use Rattle.c_tree.specs.declared.stmt.Slot.{Slot}
use Rattle.c_tree.specs.declared.stmt.Slot.TheVariants.{Unset, Global, Local}
use Rattle.c_tree.specs.declared.stmt.Ty.{Ty}
use Rattle.c_arith.specs.Arith.{convert}
use Rattle.c_stdio.specs.Output.{is_expected}
use Rattle.c_meaning.specs.declared.stop.Flow.{Flow}
use Rattle.c_meaning.specs.World.{Object, World, Out, going, over, waiting, Run, pure, and_then, ◌>>=◌}
use Rattle.c_meaning.specs.Steps.{unit_of, number_of, object_at, cells_of, cell_at, found, with_cell, store_object, store, live_cells, cell_limit, uninitialised, make, attach, known, cut, swap, put_text}
use Rattle.c_meaning.specs.Meaning.{looping, run_body, calls, no_hole}
use Rattle.c_meaning.specs.Laws.{BlocksEnd}
use Rattle.c_meaning.proofs.Related.{Kept, own_body}

-- at least so many objects, where the run goes on
abbrev pub grown : {A : Type 0} → ℕ → Out A → Type 0
grown n (going a x) = n ≤ length x.objects
grown n (over e x) = ⊤
grown n (waiting old x) = ⊤

pub record Grows {A : Type 0} (m : Run A) : Type 0 where
  pub by : (w : World) → grown (length w.objects) (m w)

grown_le : {A : Type 0} (n m : ℕ) (o : Out A) → n ≤ m → grown m o → grown n o
grown_le n m (going a x) le h = omega arith
grown_le n m (over e x) le h = tt
grown_le n m (waiting old x) le h = tt

grown_bind : {A B : Type 0} (n : ℕ) (o : Out A) (f : A → Run B) → grown n o → ((a : A) → Grows (f a)) → grown n (and_then o f)
grown_bind n (going a x) f h k = grown_le n (length x.objects) (f a x) h ((k a).by x)
grown_bind n (over e x) f h k = tt
grown_bind n (waiting old x) f h k = tt

grown_cond : {A : Type 0} (n : ℕ) (b : Bool) (o p : Out A) → grown n o → grown n p → grown n (cond b o p)
grown_cond n true o p h k = h
grown_cond n false o p h k = k

unit_grows : (n : ℕ) (w : World) → grown (length w.objects) (unit_of n w)
unit_grows zero w = tt
unit_grows (suc n) w = omega arith

found_grows : (o : Option (Option ℤ)) (w : World) → grown (length w.objects) (found o w)
found_grows (Some (Some v)) w = omega arith
found_grows (Some None) w = tt
found_grows None w = tt

set_length : {A : Type 0} (xs : List A) (i : ℕ) (x : A) → length xs ≤ length (slice_set xs i x)
set_length [] i x = omega arith
set_length (y ∷ xs) zero x = omega arith
set_length (y ∷ xs) (suc i) x = let h = set_length xs i x in omega arith

store_grows : (number : Option ℕ) (object : Option Object) (at : ℕ) (v : ℤ) (w : World) → grown (length w.objects) (store_object number object at v w)
store_grows (Some number) (Some object) at v w =
    grown_cond (length w.objects) (nat_lt at (length object.cells)) _ _ (set_length w.objects number (with_cell object at (convert object.ty v))) tt
store_grows (Some number) None at v w = tt
store_grows None object at v w = tt

stores : (slot : Slot) (at v : ℤ) → Grows (store slot at v)
stores slot (pos at) v = record { by = λ w. store_grows (number_of slot w) (object_at (number_of slot w) w) at v w }
stores slot (negsuc at) v = record { by = λ w. tt }

makes : (ty : Ty) (count : ℕ) (w : World) → grown (length w.objects) (make ty count w)
makes ty count w = grown_cond (length w.objects) (nat_le (live_cells w.objects + count) cell_limit) _ _ (let h = length-append w.objects (uninitialised ty count ∷ []) in omega arith) tt

attaches : (slot : Slot) (number : ℕ) (w : World) → grown (length w.objects) (attach slot number w)
attaches (Local at) number w = omega arith
attaches (Global at) number w = omega arith
attaches Unset number w = tt

known_grows : (o : Option ℕ) (w : World) → grown (length w.objects) (known o w)
known_grows (Some n) w = omega arith
known_grows None w = tt

puts : (text : List ℕ) (v : ℤ) (w : World) → grown (length w.objects) (put_text text v w)
puts text v w = grown_cond (length w.objects) (is_expected text w.io.expected) _ _ (omega arith) tt

-- what is cut off comes after the first objects
cut_grows : {A : Type 0} (n : ℕ) (o : Out A) → grown n o → grown n (and_then o (λ a. cut n >>= (λ u. pure a)))
cut_grows n (going a x) h = let k = length-take n x.objects in omega arith
cut_grows n (over e x) h = tt
cut_grows n (waiting old x) h = tt

frame_grows : {A : Type 0} (n : ℕ) (frame : List (Option ℕ)) (o : Out A) → grown n o → grown n (and_then o (λ a. swap frame >>= (λ inner. pure a)))
frame_grows n frame (going a x) h = h
frame_grows n frame (over e x) h = tt
frame_grows n frame (waiting old x) h = tt

pub grows : Kept (λ A m n. Grows m)
unfolding looping
grows = record {
  at_pure = λ A a. record { by = λ w. omega arith };
  at_stop = λ A e. record { by = λ w. tt };
  at_bind = λ A B m n f g h k. record { by = λ w. grown_bind (length w.objects) (m w) f (h.by w) k };
  at_unit = record { by = λ w. unit_grows w.units w };
  at_load = λ slot at. record { by = λ w. found_grows (cell_at (cells_of (object_at (number_of slot w) w)) at) w };
  at_store = stores;
  at_make = λ ty count. record { by = makes ty count };
  at_attach = λ slot number. record { by = attaches slot number };
  at_object = λ slot. record { by = λ w. known_grows (number_of slot w) w };
  at_scope = λ A m n h. record { by = λ w. cut_grows (length w.objects) (m w) (h.by w) };
  at_frame = λ A m n h. record { by = λ w. frame_grows (length w.objects) w.frame (m (record w { frame = [] })) (h.by (record w { frame = [] })) };
  at_get = record { by = λ w. omega arith };
  at_scan = record { by = λ w. omega arith };
  at_put = λ text v. record { by = puts text v };
  at_loop = λ s t h k. record { by = λ w. (k (suc w.units)).by w };
}

cut_exact : (n : ℕ) (o : Out Flow) (flow : Flow) (x : World) → grown n o → and_then o (λ a. cut n >>= (λ u. pure a)) ≡ going flow x → length x.objects ≡ n
cut_exact n (going a y) flow x h e =
    let same : record y { objects = take n y.objects } ≡ x = cc in
    let k = length-take n y.objects in
    let l = ap (λ (z : World). length z.objects) same in
    omega arith
cut_exact n (over d y) flow x h e = absurd (cc)
cut_exact n (waiting old y) flow x h e = absurd (cc)

pub blocks_end : BlocksEnd
blocks_end program n body s flow w x e =
    cut_exact (length w.objects) (run_body no_hole program (calls no_hole program n) body w) flow x ((own_body (λ A m k. Grows m) grows program n body).by w) e
