-- A number in a cell is always a value of its object's type.
use Rattle.std.proofs.Common.{◌≡◌, ℕ, zero, suc, ◌+◌, ℤ, pos, negsuc, List, [], ◌∷◌, ◌++◌, length, slice_get, slice_set, nat_le, nat_lt, Option, Some, None, Bool, true, false, cond, subst, refl}
use Rattle.std.specs.Prelude.{All}
use Rattle.std.proofs.lemmas.List.Elements.{All-cons, All-head, All-tail, All-push, All-replicate, All-take}
use Rattle.c_tree.specs.declared.stmt.Slot.{Slot}
use Rattle.c_tree.specs.declared.stmt.Slot.TheVariants.{Unset, Global, Local}
use Rattle.c_tree.specs.declared.stmt.Ty.{Ty}
use Rattle.c_arith.specs.Arith.{convert}
use Rattle.c_stdio.specs.Output.{is_expected, expected_after}
use Rattle.c_arith.proofs.Conversions.{conversion_fits}
use Rattle.c_meaning.specs.declared.stop.End.TheVariants.{Wrong, Trapped, Cells}
use Rattle.c_meaning.specs.World.{Object, World, Out, going, over, waiting, Run, pure, and_then, ◌>>=◌}
use Rattle.c_meaning.specs.Steps.{unit_of, number_of, object_at, cells_of, cell_at, found, with_cell, with_object_cell, store_object, store, live_cells, cell_limit, uninitialised, make, attach, known, cut, swap, with_expected, put_text}
use Rattle.c_meaning.specs.Meaning.{looping}
use Rattle.c_meaning.specs.Laws.{FitsCell, FitsWorld, FitsOut, CellsFit}
use Rattle.c_meaning.proofs.Related.{Kept, own_program, own_exec}

-- the numbers of an object are values of its type
abbrev pub FitsObject : Object → Type 0
FitsObject object = All (FitsCell object.ty) object.cells

-- a part of a run that keeps it so
pub record Fitting {A : Type 0} (m : Run A) : Type 0 where
  pub by : (w : World) → FitsWorld w → FitsOut (m w)

-- ---- lists

get_all : {X : Type 0} (P : X → Type 0) (xs : List X) (i : ℕ) (x : X) → All P xs → slice_get xs i ≡ Some x → P x
get_all P [] i x h e = absurd (cc)
get_all P (y ∷ ys) zero x h e = let same : y ≡ x = cc in subst P same (All-head P y ys h)
get_all P (y ∷ ys) (suc i) x h e = get_all P ys i x (All-tail P y ys h) e

set_all : {X : Type 0} (P : X → Type 0) (xs : List X) (i : ℕ) (a : X) → P a → All P xs → All P (slice_set xs i a)
set_all P [] i a h k = k
set_all P (y ∷ ys) zero a h k = All-cons P a ys h (All-tail P y ys k)
set_all P (y ∷ ys) (suc i) a h k = All-cons P y (slice_set ys i a) (All-head P y ys k) (set_all P ys i a h (All-tail P y ys k))

-- ---- the ways to join parts

fits_bind : {A B : Type 0} (o : Out A) (f : A → Run B) → FitsOut o → ((a : A) → Fitting (f a)) → FitsOut (and_then o f)
fits_bind (going a x) f h k = (k a).by x h
fits_bind (over e x) f h k = h
fits_bind (waiting old x) f h k = h

fits_cond : {A : Type 0} (b : Bool) (o p : Out A) → FitsOut o → FitsOut p → FitsOut (cond b o p)
fits_cond true o p h k = h
fits_cond false o p h k = k

-- ---- the single steps

unit_fits : (n : ℕ) (w : World) → FitsWorld w → FitsOut (unit_of n w)
unit_fits zero w h = h
unit_fits (suc n) w h = h

found_fits : (o : Option (Option ℤ)) (w : World) → FitsWorld w → FitsOut (found o w)
found_fits (Some (Some v)) w h = h
found_fits (Some None) w h = h
found_fits None w h = h

-- the object that a number names
object_fits : (number : Option ℕ) (w : World) (object : Object) → FitsWorld w → object_at number w ≡ Some object → FitsObject object
object_fits (Some number) w object h e = get_all FitsObject w.objects number object h e
object_fits None w object h e = absurd (cc)

-- an object with a converted number in a cell
cell_fits : (object : Object) (index : ℕ) (v : ℤ) → FitsObject object → FitsObject (with_cell object index (convert object.ty v))
cell_fits object index v h = set_all (FitsCell object.ty) object.cells index (Some (convert object.ty v)) (conversion_fits object.ty v) h

store_fits : (number : Option ℕ) (object : Option Object) (index : ℕ) (v : ℤ) (w : World) → FitsWorld w → ((x : Object) → object ≡ Some x → FitsObject x) → FitsOut (store_object number object index v w)
store_fits (Some number) (Some object) index v w h k =
    fits_cond (nat_lt index (length object.cells)) (going (convert object.ty v) (with_object_cell w number object index (convert object.ty v))) (over Trapped w)
    (set_all FitsObject w.objects number (with_cell object index (convert object.ty v)) (cell_fits object index v (k object refl)) h) h
store_fits (Some number) None index v w h k = h
store_fits None object index v w h k = h

stores : (slot : Slot) (at v : ℤ) → Fitting (store slot at v)
stores slot (pos index) v = record { by = λ w h. store_fits (number_of slot w) (object_at (number_of slot w) w) index v w h (λ x e. object_fits (number_of slot w) w x h e) }
stores slot (negsuc index) v = record { by = λ w h. h }

makes : (ty : Ty) (count : ℕ) (w : World) → FitsWorld w → FitsOut (make ty count w)
makes ty count w h =
    fits_cond (nat_le (live_cells w.objects + count) cell_limit) (going (length w.objects) (record w { objects = w.objects ++ uninitialised ty count ∷ [] })) (over Cells w)
    (All-push FitsObject w.objects (uninitialised ty count) h (All-replicate (FitsCell ty) count None tt)) h

attaches : (slot : Slot) (number : ℕ) (w : World) → FitsWorld w → FitsOut (attach slot number w)
attaches (Local at) number w h = h
attaches (Global at) number w h = h
attaches Unset number w h = h

known_fits : (o : Option ℕ) (w : World) → FitsWorld w → FitsOut (known o w)
known_fits (Some n) w h = h
known_fits None w h = h

puts : (text : List ℕ) (v : ℤ) (w : World) → FitsWorld w → FitsOut (put_text text v w)
puts text v w h =
    let x = with_expected w (expected_after text w.io.expected) in
    fits_cond (is_expected text w.io.expected) (going v x) (over Wrong x) h h

cut_fits : {A : Type 0} (n : ℕ) (o : Out A) → FitsOut o → FitsOut (and_then o (λ a. cut n >>= (λ u. pure a)))
cut_fits n (going a x) h = All-take FitsObject n x.objects h
cut_fits n (over e x) h = h
cut_fits n (waiting old x) h = h

frame_fits : {A : Type 0} (frame : List (Option ℕ)) (o : Out A) → FitsOut o → FitsOut (and_then o (λ a. swap frame >>= (λ inner. pure a)))
frame_fits frame (going a x) h = h
frame_fits frame (over e x) h = h
frame_fits frame (waiting old x) h = h

pub fits : Kept (λ A m n. Fitting m)
unfolding looping
fits = record {
  at_pure = λ A a. record { by = λ w h. h };
  at_stop = λ A e. record { by = λ w h. h };
  at_bind = λ A B m n f g h k. record { by = λ w fit. fits_bind (m w) f (h.by w fit) k };
  at_unit = record { by = λ w h. unit_fits w.units w h };
  at_load = λ slot at. record { by = λ w h. found_fits (cell_at (cells_of (object_at (number_of slot w) w)) at) w h };
  at_store = stores;
  at_make = λ ty count. record { by = makes ty count };
  at_attach = λ slot number. record { by = attaches slot number };
  at_object = λ slot. record { by = λ w h. known_fits (number_of slot w) w h };
  at_scope = λ A m n h. record { by = λ w fit. cut_fits (length w.objects) (m w) (h.by w fit) };
  at_frame = λ A m n h. record { by = λ w fit. frame_fits w.frame (m (record w { frame = [] })) (h.by (record w { frame = [] }) fit) };
  at_get = record { by = λ w h. h };
  at_scan = record { by = λ w h. h };
  at_put = λ text v. record { by = puts text v };
  at_loop = λ s t h k. record { by = λ w fit. (k (suc w.units)).by w fit };
}

pub cells_fit : CellsFit
cells_fit = record {
  of_program = λ program w h. (own_program (λ A m n. Fitting m) fits program).by w h;
  of_statement = λ program n code w h. (own_exec (λ A m n. Fitting m) fits program n code).by w h;
}
