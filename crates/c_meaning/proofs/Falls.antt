-- Units only fall, so a loop has the equation that its turns suggest.
use Rattle.std.proofs.Common.{◌≡◌, ℕ, zero, suc, ◌<◌, ◌≤◌, ◌+◌, ℤ, pos, negsuc, List, [], ◌∷◌, ◌++◌, length, nat_le, nat_lt, Option, Some, None, Bool, true, false, cond, refl, ap, arith as numbers}
use Rattle.c_tree.specs.declared.stmt.Slot.{Slot}
use Rattle.c_tree.specs.declared.stmt.Slot.TheVariants.{Unset, Global, Local}
use Rattle.c_tree.specs.declared.stmt.Ty.{Ty}
use Rattle.c_arith.specs.Arith.{convert, is_zero}
use Rattle.c_stdio.specs.Output.{is_expected, expected_after}
use Rattle.c_meaning.specs.declared.stop.End.{End}
use Rattle.c_meaning.specs.declared.stop.End.TheVariants.{Wrong, Trapped, Cells}
use Rattle.c_meaning.specs.declared.stop.Flow.{Flow}
use Rattle.c_meaning.specs.declared.stop.Flow.TheVariants.{Next, Break, Continue, Return}
use Rattle.c_meaning.specs.World.{Object, World, Out, going, over, waiting, Run, pure, stop, and_then, ◌>>=◌, ◌>>◌}
use Rattle.c_meaning.specs.Steps.{unit, unit_of, number_of, object_at, cells_of, cell_at, found, load, with_object_cell, store_object, store, live_cells, cell_limit, uninitialised, make, attach, known, object_of, object_count, cut, scoped, swap, framed, with_expected, get_byte, scan, put_text}
use Rattle.c_meaning.specs.Meaning.{on_zero, on_turn, turn_test_first, turn_body_first, or_again, turns, looping}
use Rattle.c_meaning.specs.Ends.{units_left}
use Rattle.c_meaning.proofs.Related.{Kept}

-- a part of a run that makes no units; a record, so that antt finds the part that a lemma speaks of
pub record Falls {A : Type 0} (m : Run A) : Type 0 where
  pub by : (w : World) → units_left (m w) ≤ w.units

-- a turn that takes a unit where another follows
pub record Turn (m : Run (Option Flow)) : Type 0 where
  pub falls : Falls m
  pub again : (w x : World) → m w ≡ going None x → x.units < w.units

-- ---- the ways to join parts

bind_out : {A B : Type 0} (o : Out A) (f : A → Run B) → ((a : A) → Falls (f a)) → units_left (and_then o f) ≤ units_left o
bind_out (going a w) f h = (h a).by w
bind_out (over e w) f h = omega numbers
bind_out (waiting old w) f h = omega numbers

pub bind_falls : {A B : Type 0} {m : Run A} {f : A → Run B} → Falls m → ((a : A) → Falls (f a)) → Falls (m >>= f)
bind_falls {m = m} {f = f} p h = record { by = λ w. let a : units_left (and_then (m w) f) ≤ units_left (m w) = bind_out (m w) f h in let b : units_left (m w) ≤ w.units = p.by w in omega numbers }

pub pure_falls : {A : Type 0} (a : A) → Falls (pure a)
pure_falls a = record { by = λ w. omega numbers }

pub stop_falls : (A : Type 0) (e : End) → Falls {A = A} (stop e)
stop_falls A e = record { by = λ w. omega numbers }

choice_falls : {A : Type 0} (b : Bool) (o p : Out A) (n : ℕ) → units_left o ≤ n → units_left p ≤ n → units_left (cond b o p) ≤ n
choice_falls true o p n h k = h
choice_falls false o p n h k = k

pub on_zero_falls : {A : Type 0} (v : ℤ) {a b : Run A} → Falls a → Falls b → Falls (on_zero v a b)
on_zero_falls v {a = a} {b = b} p q = record { by = λ w. choice_falls (is_zero v) (a w) (b w) w.units (p.by w) (q.by w) }

pub on_turn_falls : (f : Flow) {m : Run (Option Flow)} → Falls m → Falls (on_turn f m)
on_turn_falls Next p = p
on_turn_falls Continue p = p
on_turn_falls Break p = pure_falls (Some Next)
on_turn_falls (Return v) p = pure_falls (Some (Return v))

-- ---- the single steps

unit_falls_of : (n : ℕ) (w : World) → n ≤ w.units → units_left (unit_of n w) ≤ w.units
unit_falls_of zero w h = omega numbers
unit_falls_of (suc n) w h = omega numbers

pub unit_falls : Falls unit
unit_falls = record { by = λ w. unit_falls_of w.units w (omega numbers) }

found_falls : (o : Option (Option ℤ)) (w : World) → units_left (found o w) ≤ w.units
found_falls (Some (Some v)) w = omega numbers
found_falls (Some None) w = omega numbers
found_falls None w = omega numbers

pub load_falls : (slot : Slot) (at : ℤ) → Falls (load slot at)
load_falls slot at = record { by = λ w. found_falls (cell_at (cells_of (object_at (number_of slot w) w)) at) w }

store_object_falls : (number : Option ℕ) (object : Option Object) (at : ℕ) (v : ℤ) (w : World) → units_left (store_object number object at v w) ≤ w.units
store_object_falls (Some number) (Some object) at v w =
    choice_falls (nat_lt at (length object.cells)) (going (convert object.ty v) (with_object_cell w number object at (convert object.ty v))) (over Trapped w) w.units (omega numbers) (omega numbers)
store_object_falls (Some number) None at v w = omega numbers
store_object_falls None object at v w = omega numbers

pub store_falls : (slot : Slot) (at : ℤ) (v : ℤ) → Falls (store slot at v)
store_falls slot (pos at) v = record { by = λ w. store_object_falls (number_of slot w) (object_at (number_of slot w) w) at v w }
store_falls slot (negsuc at) v = record { by = λ w. omega numbers }

pub make_falls : (ty : Ty) (count : ℕ) → Falls (make ty count)
make_falls ty count = record {
  by = λ w.
      choice_falls (nat_le (live_cells w.objects + count) cell_limit) (going (length w.objects) (record w { objects = w.objects ++ uninitialised ty count ∷ [] })) (over Cells w) w.units (omega numbers) (omega numbers);
}

pub attach_falls : (slot : Slot) (number : ℕ) → Falls (attach slot number)
attach_falls (Local at) number = record { by = λ w. omega numbers }
attach_falls (Global at) number = record { by = λ w. omega numbers }
attach_falls Unset number = record { by = λ w. omega numbers }

known_falls : (o : Option ℕ) (w : World) → units_left (known o w) ≤ w.units
known_falls (Some number) w = omega numbers
known_falls None w = omega numbers

pub object_falls : (slot : Slot) → Falls (object_of slot)
object_falls slot = record { by = λ w. known_falls (number_of slot w) w }

pub count_falls : Falls object_count
count_falls = record { by = λ w. omega numbers }

pub cut_falls : (count : ℕ) → Falls (cut count)
cut_falls count = record { by = λ w. omega numbers }

pub scoped_falls : {A : Type 0} {m : Run A} → Falls m → Falls (scoped m)
scoped_falls p = bind_falls count_falls (λ n. bind_falls p (λ a. bind_falls (cut_falls n) (λ u. pure_falls a)))

pub swap_falls : (frame : List (Option ℕ)) → Falls (swap frame)
swap_falls frame = record { by = λ w. omega numbers }

pub framed_falls : {A : Type 0} {m : Run A} → Falls m → Falls (framed m)
framed_falls p = bind_falls (swap_falls []) (λ outer. bind_falls p (λ a. bind_falls (swap_falls outer) (λ inner. pure_falls a)))

pub get_falls : Falls get_byte
get_falls = record { by = λ w. omega numbers }

pub scan_falls : Falls scan
scan_falls = record { by = λ w. omega numbers }

pub put_falls : (text : List ℕ) (v : ℤ) → Falls (put_text text v)
put_falls text v = record {
  by = λ w.
      choice_falls (is_expected text w.io.expected) (going v (with_expected w (expected_after text w.io.expected))) (over Wrong (with_expected w (expected_after text w.io.expected))) w.units (omega numbers) (omega numbers);
}

-- no part of a run makes units
pub falls : Kept (λ A m n. Falls m)
unfolding looping
falls = record {
  at_pure = λ A a. pure_falls a;
  at_stop = λ A e. stop_falls A e;
  at_bind = λ A B m n f g h k. bind_falls h k;
  at_unit = unit_falls;
  at_load = load_falls;
  at_store = store_falls;
  at_make = make_falls;
  at_attach = attach_falls;
  at_object = object_falls;
  at_scope = λ A m n h. scoped_falls h;
  at_frame = λ A m n h. framed_falls h;
  at_get = get_falls;
  at_scan = scan_falls;
  at_put = put_falls;
  at_loop = λ s t h k. record { by = λ w. (k (suc w.units)).by w };
}

-- ---- loops

again_same : (o : Out (Option Flow)) (m n : Run Flow) → ((x : World) → o ≡ going None x → m x ≡ n x) → and_then o (λ r. or_again r m) ≡ and_then o (λ r. or_again r n)
again_same (going (Some f) x) m n h = refl
again_same (going None x) m n h = h x refl
again_same (over e x) m n h = refl
again_same (waiting old x) m n h = refl

-- more turns than there are units change nothing
turns_enough : (turn : Run (Option Flow)) → Turn turn → (n m : ℕ) (w : World) → w.units < n → w.units < m → turns turn n w ≡ turns turn m w
turns_enough turn t zero m w hn hm = absurd (omega numbers)
turns_enough turn t (suc n) zero w hn hm = absurd (omega numbers)
turns_enough turn t (suc n) (suc m) w hn hm = again_same (turn w) (turns turn n) (turns turn m) (λ x e. let lt : x.units < w.units = t.again w x e in turns_enough turn t n m x (omega numbers) (omega numbers))

-- a loop is one turn, and then the loop again
pub looping-turn : (turn : Run (Option Flow)) → Turn turn → (w : World) → looping turn w ≡ and_then (turn w) (λ o. or_again o (looping turn))
unfolding looping
looping-turn turn t w = again_same (turn w) (turns turn w.units) (looping turn) (λ x e. let lt : x.units < w.units = t.again w x e in turns_enough turn t w.units (suc x.units) x lt (omega numbers))

-- where a part of a run goes on, its first part went on
pub bind_going : {A B : Type 0} (o : Out A) (f : A → Run B) (b : B) (x : World) → and_then o f ≡ going b x → (a : A) × (y : World) × (o ≡ going a y) × (f a y ≡ going b x)
bind_going (going a y) f b x h = (a, y, refl, h)
bind_going (over e y) f b x h = absurd (cc)
bind_going (waiting old y) f b x h = absurd (cc)

pub units_going : {A : Type 0} {m : Run A} → Falls m → (w x : World) (a : A) → m w ≡ going a x → x.units ≤ w.units
units_going {m = m} p w x a h = let e = ap units_left h in let le : units_left (m w) ≤ w.units = p.by w in omega numbers

unit_strict : (n : ℕ) (w x : World) → n ≡ w.units → unit_of n w ≡ going tt x → x.units < w.units
unit_strict zero w x same h = absurd (cc)
unit_strict (suc n) w x same h = let e : record w { units = n } ≡ x = cc in let u = ap (λ (z : World). z.units) e in omega numbers

-- what begins with a unit and makes none takes one
pub unit_first : {B : Type 0} (f : Unit {0} → Run B) → ((u : Unit {0}) → Falls (f u)) → (w x : World) (b : B) → and_then (unit w) f ≡ going b x → x.units < w.units
unit_first f h w x b e =
    let parts = bind_going (unit w) f b x e in
    let y = parts.1 in
    let lt : y.units < w.units = unit_strict w.units w y refl parts.2 in
    let le : x.units ≤ y.units = units_going (h parts.0) y x b parts.3 in
    omega numbers

pub test_turn : (test : Run ℤ) (body : Run Flow) (step : Run (Unit {0})) → Falls test → Falls body → Falls step → Turn (turn_test_first test body step)
test_turn test body step p q r =
    let rest : (u : Unit {0}) → Falls (test >>= (λ v. on_zero v (pure (Some Next)) (body >>= (λ flow. on_turn flow (step >> pure None))))) =
    λ u. bind_falls p (λ v. on_zero_falls v (pure_falls (Some Next)) (bind_falls q (λ flow. on_turn_falls flow (bind_falls r (λ u. pure_falls None))))) in
    record {
      falls = bind_falls unit_falls rest;
      again = λ w x e. unit_first (λ _. test >>= (λ v. on_zero v (pure (Some Next)) (body >>= (λ flow. on_turn flow (step >> pure None))))) rest w x None e;
    }

on_turn_strict : (f : Flow) (m : Run (Option Flow)) (w y x : World) → on_turn f m y ≡ going None x → y.units ≤ w.units → ((z : World) → m y ≡ going None x → x.units < y.units) → x.units < w.units
on_turn_strict Next m w y x e le h = let lt = h x e in omega numbers
on_turn_strict Continue m w y x e le h = let lt = h x e in omega numbers
on_turn_strict Break m w y x e le h = absurd (cc)
on_turn_strict (Return v) m w y x e le h = absurd (cc)

pub body_turn : (body : Run Flow) (test : Run ℤ) → Falls body → Falls test → Turn (turn_body_first body test)
body_turn body test q p =
    let last : (u : Unit {0}) → Falls (test >>= (λ v. on_zero v (pure (Some Next)) (pure {A = Option Flow} None))) = λ u. bind_falls p (λ v. on_zero_falls v (pure_falls (Some Next)) (pure_falls None)) in
    record {
      falls = bind_falls q (λ flow. on_turn_falls flow (bind_falls unit_falls last));
      again = λ w x e.
          let parts = bind_going (body w) (λ flow. on_turn flow (unit >> (test >>= (λ v. on_zero v (pure (Some Next)) (pure None))))) None x e in
          let le : parts.1.units ≤ w.units = units_going q w parts.1 parts.0 parts.2 in
          on_turn_strict parts.0 (unit >> (test >>= (λ v. on_zero v (pure (Some Next)) (pure None)))) w parts.1 x parts.3 le (λ z h. unit_first (λ _. test >>= (λ v. on_zero v (pure (Some Next)) (pure None))) last parts.1 x None h);
    }
