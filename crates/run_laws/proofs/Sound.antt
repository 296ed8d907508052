-- Parts of a run that keep the state typed by the scope in which they stand.
use Rattle.std.proofs.Common.{◌≡◌, ℕ, zero, suc, ◌+◌, ◌≤◌, ℤ, pos, List, [], ◌∷◌, ◌++◌, length, slice_get, Option, Some, None, Bool, true, false, cond, refl, ◌∙◌, arith}
use Rattle.std.proofs.lemmas.List.{length-replicate}
use Rattle.std.proofs.lemmas.List.Elements.{All-cons}
use Rattle.c_tree.specs.declared.stmt.Slot.{Slot}
use Rattle.c_tree.specs.declared.stmt.Slot.TheVariants.{Unset, Global, Local}
use Rattle.c_tree.specs.declared.stmt.Ty.{Ty}
use Rattle.c_tree.specs.declared.stmt.Shape.{Shape}
use Rattle.c_tree.specs.declared.stmt.Shape.TheVariants.{Scalar, Array as Cells}
use Rattle.c_tree.specs.Tree.{Variable}
use Rattle.c_arith.specs.Arith.{is_zero}
use Rattle.c_types.specs.declared.scope.Declaration.{Declaration}
use Rattle.c_types.specs.declared.scope.Storage.{Storage}
use Rattle.c_types.specs.declared.scope.Storage.TheVariants.{Static, Automatic}
use Rattle.c_types.specs.Slots.{slot_in, numbered_variable, numbered}
use Rattle.c_types.specs.Statements.{is_array, variable_declaration, declared}
use Rattle.c_meaning.specs.declared.stop.End.{End}
use Rattle.c_meaning.specs.declared.stop.End.TheVariants.{Budget}
use Rattle.c_meaning.specs.declared.stop.Flow.{Flow}
use Rattle.c_meaning.specs.declared.stop.Flow.TheVariants.{Next, Break, Continue, Return}
use Rattle.c_meaning.specs.World.{World, Run, pure, stop, lift, used, ◌>>=◌, ◌>>◌}
use Rattle.c_meaning.specs.Steps.{unit, load, store, uninitialised, make, attach, scoped}
use Rattle.c_meaning.specs.Meaning.{on_zero, unless, jump, on_next, on_turn, turn_test_first, turn_body_first, or_again, turns, looping, cell_count, make_variable, store_zeros}
use Rattle.run_laws.specs.Typed.{HasObject, HasCells, IsTypedBy, Keeps}
use Rattle.run_laws.specs.Places.{HasSlotIn, below}
use Rattle.run_laws.proofs.Keeping.{AllWithin, all_within_more, keeps_refl, typed_moves, Any, From, from_going, from_over, from_bind, unit_keeps, load_keeps, store_keeps, make_keeps, lift_keeps, scoped_keeps, file_below, local_attached, global_attached, local_cells, global_cells}

-- where a part of a program stands: what is shown where the run waits, the scope of the file, whether a call may stand
-- there, the slots that are kept, and the scope
pub record Context : Type 1 where
  pub waits : World → Type 0
  pub file : List Declaration
  pub may_call : Type 0
  pub slots : Slot → Type 0
  pub scope : List Declaration
  pub in_scope : AllWithin slots scope
  pub in_file : AllWithin slots file

-- a state is typed by the scope, and where calls may be made, by that of the file
pub record At (k : Context) (w : World) : Type 0 where
  pub typed : IsTypedBy k.scope w
  pub of_file : k.may_call → IsTypedBy k.file w

pub record Sound {A : Type 0} (k : Context) (m : Run A) : Type 0 where
  pub by : (w : World) → At k w → From k.waits k.slots Any w (m w)

pub at_moves : (k : Context) (w x : World) → Keeps k.slots w x → At k w → At k x
at_moves k w x h at = record {
  typed = typed_moves k.slots k.scope w x k.in_scope h at.typed;
  of_file = λ c. typed_moves k.slots k.file w x k.in_file h (at.of_file c);
}

-- ---- the ways to join parts

pub bound : {k : Context} {A B : Type 0} {m : Run A} {f : A → Run B} → Sound k m → ((a : A) → Sound k (f a)) → Sound k (m >>= f)
bound {k = k} {m = m} {f = f} h g = record { by = λ w at. from_bind (m w) f (h.by w at) (λ a x keeps any. (g a).by x (at_moves k w x keeps at)) }

pub pures : {k : Context} {A : Type 0} (a : A) → Sound k (pure a)
pures {k = k} a = record { by = λ w at. from_going a w (keeps_refl k.slots w) tt }

pub stops : {k : Context} {A : Type 0} (e : End) → Sound k (stop {A = A} e)
stops e = record { by = λ w at. from_over e w }

pub units : {k : Context} → Sound k unit
units {k = k} = record { by = λ w at. unit_keeps k.slots w }

pub loads : {k : Context} (slot : Slot) (at : ℤ) → Sound k (load slot at)
loads {k = k} slot i = record { by = λ w at. load_keeps k.slots slot i w }

pub stores : {k : Context} (slot : Slot) (at v : ℤ) → Sound k (store slot at v)
stores {k = k} slot i v = record { by = λ w at. store_keeps k.slots slot i v w }

pub lifts : {k : Context} {A : Type 0} (o : Option A) → Sound k (lift o)
lifts {k = k} o = record { by = λ w at. lift_keeps k.slots o w }

pub used_sound : {k : Context} {m : Run (Option ℤ)} → Sound k m → Sound k (used m)
used_sound h = bound h lifts

pub some_sound : {k : Context} {m : Run ℤ} → Sound k m → Sound k (m >>= (λ v. pure (Some v)))
some_sound h = bound h (λ v. pures (Some v))

pub chosen : {k : Context} {A : Type 0} (b : Bool) (m n : Run A) → Sound k m → Sound k n → Sound k (λ w. cond b (m w) (n w))
chosen true m n h g = h
chosen false m n h g = g

pub on_zero_sound : {k : Context} {A : Type 0} (v : ℤ) (m n : Run A) → Sound k m → Sound k n → Sound k (on_zero v m n)
on_zero_sound v m n h g = chosen (is_zero v) m n h g

pub unless_sound : {k : Context} (o : Option ℤ) (m : Run ℤ) → Sound k m → Sound k (unless o m)
unless_sound (Some v) m h = pures v
unless_sound None m h = h

pub on_next_sound : {k : Context} (f : Flow) (m : Run Flow) → Sound k m → Sound k (on_next f m)
on_next_sound Next m h = h
on_next_sound Break m h = pures Break
on_next_sound Continue m h = pures Continue
on_next_sound (Return v) m h = pures (Return v)

pub on_turn_sound : {k : Context} (f : Flow) (m : Run (Option Flow)) → Sound k m → Sound k (on_turn f m)
on_turn_sound Next m h = h
on_turn_sound Continue m h = h
on_turn_sound Break m h = pures (Some Next)
on_turn_sound (Return v) m h = pures (Some (Return v))

pub test_turn_sound : {k : Context} (t : Run ℤ) (b : Run Flow) (p : Run (Unit {0})) → Sound k t → Sound k b → Sound k p → Sound k (turn_test_first t b p)
test_turn_sound t b p h g l =
    bound units (λ x. bound h (λ v. on_zero_sound v (pure (Some Next)) (b >>= (λ flow. on_turn flow (p >> pure None))) (pures (Some Next))
    (bound g (λ flow. on_turn_sound flow (p >> pure None) (bound l (λ y. pures None))))))

pub body_turn_sound : {k : Context} (b : Run Flow) (t : Run ℤ) → Sound k b → Sound k t → Sound k (turn_body_first b t)
body_turn_sound b t g h =
    bound g (λ flow. on_turn_sound flow (unit >> (t >>= (λ v. on_zero v (pure (Some Next)) (pure None))))
    (bound units (λ x. bound h (λ v. on_zero_sound v (pure (Some Next)) (pure None) (pures (Some Next)) (pures None)))))

or_again_sound : {k : Context} (o : Option Flow) (m : Run Flow) → Sound k m → Sound k (or_again o m)
or_again_sound (Some f) m h = pures f
or_again_sound None m h = h

turns_sound : {k : Context} (t : Run (Option Flow)) → Sound k t → (n : ℕ) → Sound k (turns t n)
turns_sound t h zero = stops Budget
turns_sound t h (suc n) = bound h (λ o. or_again_sound o (turns t n) (turns_sound t h n))

pub loop_sound : {k : Context} (t : Run (Option Flow)) → Sound k t → Sound k (looping t)
unfolding looping
loop_sound t h = record { by = λ w at. (turns_sound t h (suc w.units)).by w at }

pub jump_sound : {k : Context} (f : Flow) → Sound k (jump f)
jump_sound f = bound units (λ x. pures f)

pub scope_sound : {k : Context} {A : Type 0} (m : Run A) → Sound k m → Sound k (scoped m)
scope_sound m h = record { by = λ w at. scoped_keeps m (h.by w at) }

pub zeros_sound : {k : Context} (slot : Slot) (at n : ℕ) → Sound k (store_zeros slot at n)
zeros_sound slot at zero = pures tt
zeros_sound slot at (suc n) = bound (stores slot (pos at) (pos 0)) (λ v. zeros_sound slot (suc at) n)

-- ---- new variables

-- the slots that were given before number n
abbrev pub before : Storage → ℕ → Slot → Type 0
before Automatic n = below n
before Static n = file_below n

pub before_more : (storage : Storage) (n m : ℕ) → n ≤ m → (slot : Slot) → before storage n slot → before storage m slot
before_more Automatic n m le (Local at) h = omega arith
before_more Automatic n m le (Global at) h = tt
before_more Automatic n m le Unset h = tt
before_more Static n m le (Local at) h = tt
before_more Static n m le (Global at) h = omega arith
before_more Static n m le Unset h = tt

pub own_before : (storage : Storage) (n : ℕ) → before storage (suc n) (slot_in storage n)
own_before Automatic n = omega arith
own_before Static n = omega arith

-- a variable among those before
pub within_cons : (storage : Storage) (n : ℕ) (ty : Ty) (v : Variable) (ds : List Declaration) → AllWithin (before storage n) ds
    → AllWithin (before storage (suc n)) (variable_declaration ty (numbered_variable (slot_in storage n) v) ∷ ds)
within_cons storage n ty v ds h =
    All-cons (λ (d : Declaration). HasSlotIn (before storage (suc n)) d.entity) _ ds (own_before storage n)
    (all_within_more (before storage n) (before storage (suc n)) (before_more storage n (suc n) (omega arith)) ds h)

pub within_declared : (storage : Storage) (n m : ℕ) (ty : Ty) (vs : List Variable) (here around : List Declaration) → n + length vs ≡ m → AllWithin (before storage n) (here ++ around)
    → AllWithin (before storage m) (declared ty (numbered (slot_in storage) n vs) here ++ around)
within_declared storage n m ty [] here around e h = all_within_more (before storage n) (before storage m) (before_more storage n m (omega arith)) (here ++ around) h
within_declared storage n m ty (v ∷ vs) here around e h =
    within_declared storage (suc n) m ty vs (variable_declaration ty (numbered_variable (slot_in storage n) v) ∷ here) around (omega arith) (within_cons storage n ty v (here ++ around) h)

attached : {W : World → Type 0} (storage : Storage) (n number : ℕ) (ty : Ty) (count : ℕ) (array : Bool) → (array ≡ false → count ≡ 1) → (w : World) → slice_get w.objects number ≡ Some (uninitialised ty count)
    → From {A = Unit {0}} W (before storage n) (λ u x. HasObject x (slot_in storage n) ty array) w (attach (slot_in storage n) number w)
attached Automatic n number ty count array one w h =
    local_attached n number w (uninitialised ty count) ty array h refl (λ e. length-replicate count None ∙ one e)
attached Static n number ty count array one w h =
    global_attached n number w (uninitialised ty count) ty array h refl (λ e. length-replicate count None ∙ one e)

pub variable_from : {W : World → Type 0} (storage : Storage) (n : ℕ) (ty : Ty) (count : ℕ) (array : Bool) → (array ≡ false → count ≡ 1) → (w : World)
    → From {A = Unit {0}} W (before storage n) (λ u x. HasObject x (slot_in storage n) ty array) w (make_variable ty (slot_in storage n) count w)
variable_from storage n ty count array one w =
    from_bind (make ty count w) (λ number. attach (slot_in storage n) number) (make_keeps (before storage n) ty count w)
    (λ number x keeps lives. attached storage n number ty count array one x lives)

celled : {W : World → Type 0} (storage : Storage) (n number : ℕ) (ty : Ty) (count : ℕ) (w : World) → slice_get w.objects number ≡ Some (uninitialised ty count)
    → From {A = Unit {0}} W (before storage n) (λ u x. HasCells x (slot_in storage n) count) w (attach (slot_in storage n) number w)
celled Automatic n number ty count w h = local_cells n number count w (uninitialised ty count) h (length-replicate count None)
celled Static n number ty count w h = global_cells n number count w (uninitialised ty count) h (length-replicate count None)

pub cells_from : {W : World → Type 0} (storage : Storage) (n : ℕ) (ty : Ty) (count : ℕ) (w : World)
    → From {A = Unit {0}} W (before storage n) (λ u x. HasCells x (slot_in storage n) count) w (make_variable ty (slot_in storage n) count w)
cells_from storage n ty count w =
    from_bind (make ty count w) (λ number. attach (slot_in storage n) number) (make_keeps (before storage n) ty count w)
    (λ number x keeps lives. celled storage n number ty count x lives)

pub one_cell : (shape : Shape) (listed : ℕ) → is_array shape ≡ false → cell_count shape listed ≡ 1
one_cell Scalar listed h = refl
one_cell (Cells n) listed h = absurd (cc)
