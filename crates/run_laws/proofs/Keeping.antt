-- What each single step of a run leaves as it is: the objects that slots name, and the live objects.
use Rattle.std.proofs.Common.{◌≡◌, ℕ, zero, suc, ◌+◌, ◌<◌, ℤ, pos, negsuc, List, [], ◌∷◌, ◌++◌, length, take, get_or, slice_get, slice_set, nat_le, nat_lt, Option, Some, None, Bool, true, false, cond, refl, sym, ap, ◌∙◌, arith}
use Rattle.std.specs.Prelude.{⊤, All}
use Rattle.std.proofs.lemmas.List.Elements.{All-nil, All-cons, All-head, All-tail}
use Rattle.std.proofs.lemmas.Option.{slice_get_within}
use Rattle.c_tree.specs.declared.stmt.Slot.{Slot}
use Rattle.c_tree.specs.declared.stmt.Slot.TheVariants.{Unset, Global, Local}
use Rattle.c_tree.specs.declared.stmt.Ty.{Ty}
use Rattle.c_arith.specs.Arith.{convert}
use Rattle.c_types.specs.declared.scope.Declaration.{Declaration}
use Rattle.c_types.specs.declared.scope.Entity.{Entity}
use Rattle.c_types.specs.declared.scope.Entity.TheVariants.{Variable, Function, Library, Printf, Scanf}
use Rattle.c_meaning.specs.declared.stop.End.{End}
use Rattle.c_meaning.specs.World.{Object, World, Out, going, over, waiting, Run, pure, lift, and_then, ◌>>=◌}
use Rattle.c_meaning.specs.Steps.{unit, unit_of, named, number_of, object_at, cells_of, cell_at, found, load, with_cell, with_object_cell, store_object, store, live_cells, cell_limit, uninitialised, make, bind, attach, known, object_of, cut, scoped, swap, framed}
use Rattle.run_laws.specs.Typed.{HasObject, HasCells, EntityHasObject, IsTypedBy, Keeps, every_slot}
use Rattle.run_laws.specs.Places.{below, HasSlotIn}

-- ---- lists

pub All-left : {X : Type 0} (P : X → Type 0) (xs ys : List X) → All P (xs ++ ys) → All P xs
All-left P [] ys h = All-nil P
All-left P (x ∷ xs) ys h = All-cons P x xs (All-head P x (xs ++ ys) h) (All-left P xs ys (All-tail P x (xs ++ ys) h))

pub All-right : {X : Type 0} (P : X → Type 0) (xs ys : List X) → All P (xs ++ ys) → All P ys
All-right P [] ys h = h
All-right P (x ∷ xs) ys h = All-right P xs ys (All-tail P x (xs ++ ys) h)

-- an object of the same type with as many cells
abbrev pub Like : Object → Object → Type 0
Like a b = (a.ty ≡ b.ty) × (length a.cells ≡ length b.cells)

set_length : {X : Type 0} (xs : List X) (i : ℕ) (x : X) → length (slice_set xs i x) ≡ length xs
set_length [] i x = refl
set_length (y ∷ xs) zero x = refl
set_length (y ∷ xs) (suc i) x = ap suc (set_length xs i x)

some_same : {X : Type 0} {x y : X} → Some x ≡ Some y → x ≡ y
some_same h = cc

like_same : (a b : Object) → a ≡ b → Like a b
like_same a b h = (ap (λ (o : Object). o.ty) h, ap (λ (o : Object). length o.cells) h)

-- where an object is set to one like it, each object is like it was
set_alike : (xs : List Object) (i k : ℕ) (a old o : Object) → slice_get xs i ≡ Some old → Like a old → slice_get xs k ≡ Some o
    → (n : Object) × (slice_get (slice_set xs i a) k ≡ Some n) × Like n o
set_alike [] i k a old o h like g = absurd (cc)
set_alike (x ∷ xs) zero zero a old o h like g =
    let same : old ≡ o = some_same (sym h ∙ g) in
    (a, refl, (like.0 ∙ ap (λ (o : Object). o.ty) same, like.1 ∙ ap (λ (o : Object). length o.cells) same))
set_alike (x ∷ xs) zero (suc k) a old o h like g = (o, g, (refl, refl))
set_alike (x ∷ xs) (suc i) zero a old o h like g = (o, g, (refl, refl))
set_alike (x ∷ xs) (suc i) (suc k) a old o h like g = set_alike xs i k a old o h like g

append_get : {X : Type 0} (xs ys : List X) (k : ℕ) (x : X) → slice_get xs k ≡ Some x → slice_get (xs ++ ys) k ≡ Some x
append_get [] ys k x h = absurd (cc)
append_get (y ∷ xs) ys zero x h = h
append_get (y ∷ xs) ys (suc k) x h = append_get xs ys k x h

last_get : {X : Type 0} (xs : List X) (x : X) → slice_get (xs ++ x ∷ []) (length xs) ≡ Some x
last_get [] x = refl
last_get (y ∷ xs) x = last_get xs x

take_get : {X : Type 0} (xs : List X) (n k : ℕ) → k < n → slice_get (take n xs) k ≡ slice_get xs k
take_get xs zero k h = absurd (omega arith)
take_get [] (suc n) k h = refl
take_get (x ∷ xs) (suc n) zero h = refl
take_get (x ∷ xs) (suc n) (suc k) h = take_get xs n k (omega arith)

bind_same : (at n : ℕ) (xs : List (Option ℕ)) → named (slice_get (bind at n xs) at) ≡ Some n
bind_same zero n [] = refl
bind_same zero n (x ∷ xs) = refl
bind_same (suc at) n [] = bind_same at n []
bind_same (suc at) n (x ∷ xs) = bind_same at n xs

bind_other : (at n k : ℕ) (xs : List (Option ℕ)) → k < at → named (slice_get (bind at n xs) k) ≡ named (slice_get xs k)
bind_other zero n k xs h = absurd (omega arith)
bind_other (suc at) n zero [] h = refl
bind_other (suc at) n zero (x ∷ xs) h = refl
bind_other (suc at) n (suc k) [] h = bind_other at n k [] (omega arith)
bind_other (suc at) n (suc k) (x ∷ xs) h = bind_other at n k xs (omega arith)

-- ---- states

pub keeps_refl : (S : Slot → Type 0) (w : World) → Keeps S w w
keeps_refl S w = record {
  names = λ slot s. refl;
  lives = λ number object h. record { object = object; lives = h; same_type = refl; same_length = refl };
}

pub keeps_trans : (S : Slot → Type 0) (w x y : World) → Keeps S w x → Keeps S x y → Keeps S w y
keeps_trans S w x y h k = record {
  names = λ slot s. k.names slot s ∙ h.names slot s;
  lives = λ number object e.
      let one = h.lives number object e in
      let two = k.lives number one.object one.lives in
      record { object = two.object; lives = two.lives; same_type = two.same_type ∙ one.same_type; same_length = two.same_length ∙ one.same_length };
}

-- fewer slots
pub keeps_fewer : (S T : Slot → Type 0) (w x : World) → ((slot : Slot) → T slot → S slot) → Keeps S w x → Keeps T w x
keeps_fewer S T w x f h = record { names = λ slot t. h.names slot (f slot t); lives = h.lives }

-- the slots of the variables of a scope
abbrev pub AllWithin : (Slot → Type 0) → List Declaration → Type 0
AllWithin S ds = All (λ (d : Declaration). HasSlotIn S d.entity) ds

within_more : (S T : Slot → Type 0) → ((slot : Slot) → S slot → T slot) → (e : Entity) → HasSlotIn S e → HasSlotIn T e
within_more S T f (Variable slot ty array) h = f slot h
within_more S T f (Function ret params body defined) h = tt
within_more S T f (Library ret params) h = tt
within_more S T f Printf h = tt
within_more S T f Scanf h = tt

pub all_within_more : (S T : Slot → Type 0) → ((slot : Slot) → S slot → T slot) → (ds : List Declaration) → AllWithin S ds → AllWithin T ds
all_within_more S T f ds h k d lt = within_more S T f (get_or ds k d).entity (h k d lt)

object_moves : (S : Slot → Type 0) (w x : World) (e : Entity) → HasSlotIn S e → Keeps S w x → EntityHasObject w e → EntityHasObject x e
object_moves S w x (Variable slot ty array) s k h =
    let l = k.lives h.number h.object h.lives in
    record {
      number = h.number;
      object = l.object;
      names = k.names slot s ∙ h.names;
      lives = l.lives;
      typed = l.same_type ∙ h.typed;
      single = λ e. l.same_length ∙ h.single e;
    }
object_moves S w x (Function ret params body defined) s k h = tt
object_moves S w x (Library ret params) s k h = tt
object_moves S w x Printf s k h = tt
object_moves S w x Scanf s k h = tt

-- a scope types a state where it typed one before it
pub typed_moves : (S : Slot → Type 0) (ds : List Declaration) (w x : World) → AllWithin S ds → Keeps S w x → IsTypedBy ds w → IsTypedBy ds x
typed_moves S ds w x within k h i d lt = object_moves S w x (get_or ds i d).entity (within i d lt) k (h i d lt)

-- ---- what a part of a run comes to

-- nothing more is said of a value
abbrev pub Any : {A : Type 0} → A → World → Type 0
Any a x = ⊤

-- from a state it keeps these slots and has a value of which something is said; where it waits, another is said
abbrev pub comes_to : {A : Type 0} → (World → Type 0) → (Slot → Type 0) → (A → World → Type 0) → World → Out A → Type 0
comes_to W S Q w (going a x) = Keeps S w x × Q a x
comes_to W S Q w (over e x) = ⊤
comes_to W S Q w (waiting old x) = W x

pub record From {A : Type 0} (W : World → Type 0) (S : Slot → Type 0) (Q : A → World → Type 0) (w : World) (o : Out A) : Type 0 where
  pub by : comes_to W S Q w o

pub from_going : {A : Type 0} {W : World → Type 0} {S : Slot → Type 0} {Q : A → World → Type 0} {w : World} (a : A) (x : World) → Keeps S w x → Q a x → From W S Q w (going a x)
from_going a x k q = record { by = (k, q) }

pub from_over : {A : Type 0} {W : World → Type 0} {S : Slot → Type 0} {Q : A → World → Type 0} {w : World} (e : End) (x : World) → From {A = A} W S Q w (over e x)
from_over e x = record { by = tt }

-- other slots, and something else of the value
pub from_other : {A : Type 0} {W : World → Type 0} {S : Slot → Type 0} {Q : A → World → Type 0} {w : World} (T : Slot → Type 0) (R : A → World → Type 0) (v : World) (o : Out A)
    → ((a : A) (x : World) → Keeps S w x → Q a x → Keeps T v x × R a x) → From W S Q w o → From W T R v o
from_other T R v (going a x) f h = record { by = f a x h.by.0 h.by.1 }
from_other T R v (over e x) f h = record { by = tt }
from_other T R v (waiting old x) f h = record { by = h.by }

pub from_bind : {A B : Type 0} {W : World → Type 0} {S : Slot → Type 0} {Q : A → World → Type 0} {R : B → World → Type 0} {w : World} (o : Out A) (f : A → Run B)
    → From W S Q w o → ((a : A) (x : World) → Keeps S w x → Q a x → From W S R x (f a x)) → From W S R w (and_then o f)
from_bind {S = S} {R = R} {w = w} (going a x) f h k =
    from_other S R w (f a x) (λ b y m r. (keeps_trans S w x y h.by.0 m, r)) (k a x h.by.0 h.by.1)
from_bind (over e x) f h k = record { by = tt }
from_bind (waiting old x) f h k = record { by = h.by }

pub from_cond : {A : Type 0} {W : World → Type 0} {S : Slot → Type 0} {Q : A → World → Type 0} {w : World} (b : Bool) (o p : Out A) → (b ≡ true → From W S Q w o) → (b ≡ false → From W S Q w p) → From W S Q w (cond b o p)
from_cond true o p h k = h refl
from_cond false o p h k = k refl

-- ---- the single steps

-- another list of objects that are like those before
objects_keep : (S : Slot → Type 0) (w : World) (os : List Object) → ((k : ℕ) (o : Object) → slice_get w.objects k ≡ Some o → (n : Object) × (slice_get os k ≡ Some n) × Like n o) → Keeps S w (record w { objects = os })
objects_keep S w os f = record {
  names = λ slot s. names slot;
  lives = λ number object h.
      let l = f number object h in
      record { object = l.0; lives = l.1; same_type = l.2.0; same_length = l.2.1 };
}
  where
    names : (slot : Slot) → number_of slot (record w { objects = os }) ≡ number_of slot w
    names (Local at) = refl
    names (Global at) = refl
    names Unset = refl

module _ {W : World → Type 0} (S : Slot → Type 0) where
  unit_of_keeps : (n : ℕ) (w : World) → From {A = Unit {0}} W S Any w (unit_of n w)
  unit_of_keeps zero w = from_over _ w
  unit_of_keeps (suc n) w = from_going tt _ (record { names = λ slot s. names slot; lives = λ number object h. record { object = object; lives = h; same_type = refl; same_length = refl } }) tt
    where
      names : (slot : Slot) → number_of slot (record w { units = n }) ≡ number_of slot w
      names (Local at) = refl
      names (Global at) = refl
      names Unset = refl

  pub unit_keeps : (w : World) → From {A = Unit {0}} W S Any w (unit w)
  unit_keeps w = unit_of_keeps w.units w

  found_keeps : (o : Option (Option ℤ)) (w : World) → From W S Any w (found o w)
  found_keeps (Some (Some v)) w = from_going v w (keeps_refl S w) tt
  found_keeps (Some None) w = from_over _ w
  found_keeps None w = from_over _ w

  pub load_keeps : (slot : Slot) (index : ℤ) (w : World) → From W S Any w (load slot index w)
  load_keeps slot index w = found_keeps (cell_at (cells_of (object_at (number_of slot w) w)) index) w

  store_object_keeps : (number : Option ℕ) (object : Option Object) (index : ℕ) (v : ℤ) (w : World) → object_at number w ≡ object → From W S Any w (store_object number object index v w)
  store_object_keeps (Some number) (Some object) index v w h =
      let u = convert object.ty v in
      let new = with_cell object index u in
      from_cond (nat_lt index (length object.cells)) (going u (with_object_cell w number object index u)) (over _ w)
      (λ e. from_going u _ (objects_keep S w (slice_set w.objects number new) (λ k o g. set_alike w.objects number k new object o h (refl, set_length object.cells index (Some u)) g)) tt)
      (λ e. from_over _ w)
  store_object_keeps (Some number) None index v w h = from_over _ w
  store_object_keeps None object index v w h = from_over _ w

  pub store_keeps : (slot : Slot) (index v : ℤ) (w : World) → From W S Any w (store slot index v w)
  store_keeps slot (pos index) v w = store_object_keeps (number_of slot w) (object_at (number_of slot w) w) index v w refl
  store_keeps slot (negsuc index) v w = from_over _ w

  -- the new object
  pub make_keeps : (ty : Ty) (count : ℕ) (w : World) → From W S (λ n x. slice_get x.objects n ≡ Some (uninitialised ty count)) w (make ty count w)
  make_keeps ty count w =
      from_cond (nat_le (live_cells w.objects + count) cell_limit) (going (length w.objects) (record w { objects = w.objects ++ uninitialised ty count ∷ [] })) (over _ w)
      (λ e. from_going (length w.objects) _ (objects_keep S w (w.objects ++ uninitialised ty count ∷ []) (λ k o g. (o, append_get w.objects _ k o g, (refl, refl)))) (last_get w.objects (uninitialised ty count)))
      (λ e. from_over _ w)

  known_keeps : (o : Option ℕ) (w : World) → From W S (λ n x. (o ≡ Some n) × (x ≡ w)) w (known o w)
  known_keeps (Some n) w = from_going n w (keeps_refl S w) (refl, refl)
  known_keeps None w = from_over _ w

  pub object_of_keeps : (slot : Slot) (w : World) → From W S (λ n x. (number_of slot w ≡ Some n) × (x ≡ w)) w (object_of slot w)
  object_of_keeps slot w = known_keeps (number_of slot w) w

  pub lift_keeps : {A : Type 0} (o : Option A) (w : World) → From W S Any w (lift o w)
  lift_keeps (Some a) w = from_going a w (keeps_refl S w) tt
  lift_keeps None w = from_over _ w

-- ---- scopes that end

cut_names : (w x : World) (n : ℕ) (slot : Slot) → number_of slot (record x { objects = take n x.objects }) ≡ number_of slot x
cut_names w x n (Local at) = refl
cut_names w x n (Global at) = refl
cut_names w x n Unset = refl

cut_keeps : (S : Slot → Type 0) (w x : World) → Keeps S w x → Keeps S w (record x { objects = take (length w.objects) x.objects })
cut_keeps S w x k = record {
  names = λ slot s. cut_names w x (length w.objects) slot ∙ k.names slot s;
  lives = λ number object h.
      let l = k.lives number object h in
      record {
        object = l.object;
        lives = take_get x.objects (length w.objects) number (slice_get_within w.objects number object h) ∙ l.lives;
        same_type = l.same_type;
        same_length = l.same_length;
      };
}

scope_ends : {A : Type 0} {W : World → Type 0} {S : Slot → Type 0} {Q : A → World → Type 0} {w : World} (o : Out A) → From W S Q w o → From W S Any w (and_then o (λ a. cut (length w.objects) >>= (λ u. pure a)))
scope_ends {S = S} {w = w} (going a x) h = record { by = (cut_keeps S w x h.by.0, tt) }
scope_ends (over e x) h = record { by = tt }
scope_ends (waiting old x) h = record { by = h.by }

pub scoped_keeps : {A : Type 0} {W : World → Type 0} {S : Slot → Type 0} {Q : A → World → Type 0} {w : World} (m : Run A) → From W S Q w (m w) → From W S Any w (scoped m w)
scoped_keeps {w = w} m h = scope_ends (m w) h

-- a call's own variables, of which it has none at first
abbrev pub of_file : Slot → Type 0
of_file (Local at) = ⊥
of_file (Global at) = ⊤
of_file Unset = ⊤

frame_keeps : (w x : World) → Keeps of_file (record w { frame = [] }) x → Keeps every_slot w (record x { frame = w.frame })
frame_keeps w x k = record { names = λ slot s. names slot; lives = λ number object h. let l = k.lives number object h in record { object = l.object; lives = l.lives; same_type = l.same_type; same_length = l.same_length } }
  where
    names : (slot : Slot) → number_of slot (record x { frame = w.frame }) ≡ number_of slot w
    names (Local at) = refl
    names (Global at) = k.names (Global at) tt
    names Unset = refl

frame_ends : {A : Type 0} {W : World → Type 0} {Q : A → World → Type 0} (w : World) (o : Out A) → From W of_file Q (record w { frame = [] }) o → From W every_slot Any w (and_then o (λ a. swap w.frame >>= (λ inner. pure a)))
frame_ends w (going a x) h = record { by = (frame_keeps w x h.by.0, tt) }
frame_ends w (over e x) h = record { by = tt }
frame_ends w (waiting old x) h = record { by = h.by }

pub framed_keeps : {A : Type 0} {W : World → Type 0} {Q : A → World → Type 0} (w : World) (m : Run A) → From W of_file Q (record w { frame = [] }) (m (record w { frame = [] })) → From W every_slot Any w (framed m w)
framed_keeps w m h = frame_ends w (m (record w { frame = [] })) h

-- ---- new variables

-- the slots of file scope before number n
abbrev pub file_below : ℕ → Slot → Type 0
file_below n (Local at) = ⊤
file_below n (Global at) = at < n
file_below n Unset = ⊤

local_keeps : (n number : ℕ) (w : World) → Keeps (below n) w (record w { frame = bind n number w.frame })
local_keeps n number w = record { names = names; lives = λ k object h. record { object = object; lives = h; same_type = refl; same_length = refl } }
  where
    names : (slot : Slot) → below n slot → number_of slot (record w { frame = bind n number w.frame }) ≡ number_of slot w
    names (Local at) h = bind_other n number at w.frame h
    names (Global at) h = refl
    names Unset h = refl

global_keeps : (n number : ℕ) (w : World) → Keeps (file_below n) w (record w { globals = bind n number w.globals })
global_keeps n number w = record { names = names; lives = λ k object h. record { object = object; lives = h; same_type = refl; same_length = refl } }
  where
    names : (slot : Slot) → file_below n slot → number_of slot (record w { globals = bind n number w.globals }) ≡ number_of slot w
    names (Local at) h = refl
    names (Global at) h = bind_other n number at w.globals h
    names Unset h = refl

-- a slot that is bound names the object
pub local_attached : {W : World → Type 0} (n number : ℕ) (w : World) (object : Object) (ty : Ty) (array : Bool) → slice_get w.objects number ≡ Some object → object.ty ≡ ty → (array ≡ false → length object.cells ≡ 1)
    → From {A = Unit {0}} W (below n) (λ u x. HasObject x (Local n) ty array) w (attach (Local n) number w)
local_attached n number w object ty array lives typed single =
    from_going tt _ (local_keeps n number w) (record { number = number; object = object; names = bind_same n number w.frame; lives = lives; typed = typed; single = single })

pub global_attached : {W : World → Type 0} (n number : ℕ) (w : World) (object : Object) (ty : Ty) (array : Bool) → slice_get w.objects number ≡ Some object → object.ty ≡ ty → (array ≡ false → length object.cells ≡ 1)
    → From {A = Unit {0}} W (file_below n) (λ u x. HasObject x (Global n) ty array) w (attach (Global n) number w)
global_attached n number w object ty array lives typed single =
    from_going tt _ (global_keeps n number w) (record { number = number; object = object; names = bind_same n number w.globals; lives = lives; typed = typed; single = single })

-- and its object has as many cells
pub local_cells : {W : World → Type 0} (n number count : ℕ) (w : World) (object : Object) → slice_get w.objects number ≡ Some object → length object.cells ≡ count
    → From {A = Unit {0}} W (below n) (λ u x. HasCells x (Local n) count) w (attach (Local n) number w)
local_cells n number count w object lives many =
    from_going tt _ (local_keeps n number w) (record { number = number; object = object; names = bind_same n number w.frame; lives = lives; many = many })

pub global_cells : {W : World → Type 0} (n number count : ℕ) (w : World) (object : Object) → slice_get w.objects number ≡ Some object → length object.cells ≡ count
    → From {A = Unit {0}} W (file_below n) (λ u x. HasCells x (Global n) count) w (attach (Global n) number w)
global_cells n number count w object lives many =
    from_going tt _ (global_keeps n number w) (record { number = number; object = object; names = bind_same n number w.globals; lives = lives; many = many })
