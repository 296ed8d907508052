-- Wherever a run of a checked program with a hole at a location waits, the state shows what is visible at the location.
use Rattle.std.proofs.Common.{◌≡◌, ℤ, Bool, List, [], ◌∷◌, Option, Some, None, refl, sym, ap, subst, ◌∙◌, Contains, All}
use Rattle.std.proofs.lemmas.List.Elements.{All-nil, All-cons, All-head, All-tail, All-weaker, All-contains}
use Rattle.c_tree.specs.declared.place.Loc.{Loc}
use Rattle.c_tree.specs.declared.stmt.Slot.{Slot}
use Rattle.c_tree.specs.declared.stmt.Slot.TheVariants.{Unset, Global, Local}
use Rattle.c_tree.specs.declared.stmt.Ty.{Ty}
use Rattle.c_tree.specs.Tree.{Outer}
use Rattle.c_types.specs.declared.visible.Visible.{Visible}
use Rattle.c_types.specs.Evidence.{IsChecked}
use Rattle.c_types.specs.Laws.{NamesAreResolved}
use Rattle.c_types.specs.Uses.{Use, uses, IsResolved}
use Rattle.c_types.specs.Visible.{visible_at}
use Rattle.c_meaning.specs.Ends.{first_world}
use Rattle.c_meaning.specs.Filled.{holed, with_tape, answer_from, from_tape, untaped}
use Rattle.c_meaning.specs.Laws.{FitsCell, FitsWorld, FitsOut}
use Rattle.c_meaning.specs.Meaning.{run_program}
use Rattle.c_meaning.specs.Steps.{number_of}
use Rattle.c_meaning.specs.World.{Object, World, Out, going, over, waiting}
use Rattle.scope_laws.specs.Seen.{IsMeant}
use Rattle.run_laws.specs.Holes.{Names, holes}
use Rattle.run_laws.specs.Laws.{IsTypedByOne, HolesAreTyped, HolesFit, ShowsVariable, TypedStatesShowVariables}
use Rattle.run_laws.specs.Typed.{IsTypedBy, Keeps, every_slot, KeepsObjects, IsSteady, KeepsNumbers}
use Rattle.hole_laws.specs.Laws.{HoledIsChecked, HolesStand, ShowsName, ShowsLocation, WaitingRunsShowLocations, FilledRunsShowLocations}
use Rattle.hole_laws.specs.Places.{part_uses, HoleStands}

-- what follows of each element from two things
each : {A : Type 0} (B C D : A → Type 0) → ((x : A) → B x → C x → D x) → (xs : List A) → All B xs → All C xs → All D xs
each B C D f [] h k = All-nil D
each B C D f (x ∷ xs) h k =
    All-cons D x xs (f x (All-head B x xs h) (All-head C x xs k)) (each B C D f xs (All-tail B x xs h) (All-tail C x xs k))

-- the only element of a list
only : {A : Type 0} (x y : A) (xs : List A) → xs ≡ x ∷ [] → Contains xs y → y ≡ x
only {A} x y xs is among =
    All-contains (λ (z : A). z ≡ x) (x ∷ []) y (All-cons (λ (z : A). z ≡ x) x [] refl (All-nil (λ (z : A). z ≡ x))) (subst (λ (ys : List A). Contains ys y) is among)

-- a state that is typed by the scope at a location shows what is visible there
module _ (resolved : NamesAreResolved) (show : TypedStatesShowVariables) (p : List Outer) (h : IsChecked p) (l : Loc) (hole : HoleStands p l) where
  shows_location : (w : World) → IsTypedBy hole.scope w → FitsWorld w → ShowsLocation p l w
  shows_location w typed fits = record {
    visible =
        All-weaker (IsMeant hole.scope) (λ (v : Visible). ShowsVariable w v.slot v.ty v.array)
        (λ v m. show hole.scope w typed fits v.word v.slot v.ty v.array m) (visible_at l.at.from p) hole.sees.meant;
    hole = hole;
    named =
        each (Contains (uses p)) (λ (u : Use). u.scope ≡ hole.scope) (ShowsName w) name_shown
        (part_uses hole.scope hole.stands.initialised hole.stands.part) hole.stands.names hole.stands.in_scope;
  }
    where
      name_shown : (u : Use) → Contains (uses p) u → u.scope ≡ hole.scope → ShowsName w u
      name_shown u among same =
          let is : IsResolved u = All-contains IsResolved (uses p) u (resolved p h) among in
          record {
            ty = is.ty;
            array = is.array;
            denotes = is.denotes;
            shows = show u.scope w (subst (λ (ds : Names). IsTypedBy ds w) (sym same) typed) fits u.word u.slot is.ty is.array is.denotes;
            indexed = is.indexed;
          }

pub runs_show : HoledIsChecked → HolesStand → NamesAreResolved → HolesAreTyped → HolesFit → TypedStatesShowVariables → WaitingRunsShowLocations
runs_show checked stand resolved typed fit show p h text l among filling steady numbers old w x fits waits =
    let q : List Outer = holed l p in
    let hole : HoleStands p l = stand p h text l among in
    let one : IsTypedByOne (holes q) x = typed q (checked p h (Some l)) filling steady old w x waits in
    let same : one.scope ≡ hole.scope = only hole.scope one.scope (holes q) hole.one one.is_scope in
    shows_location resolved show p h l hole x (subst (λ (ds : Names). IsTypedBy ds x) same one.typed) (fit q filling numbers old w x fits waits)

-- ---- answers

-- the tape is no part of the objects
names_still : (tape : List (Option ℤ)) (w : World) (slot : Slot) → number_of slot (with_tape tape w) ≡ number_of slot w
names_still tape w (Local at) = refl
names_still tape w (Global at) = refl
names_still tape w Unset = refl

keeps_all : (tape : List (Option ℤ)) (w : World) → Keeps every_slot w (with_tape tape w)
keeps_all tape w = record {
  names = λ slot any. names_still tape w slot;
  lives = λ n object is. record { object = object; lives = is; same_type = refl; same_length = refl };
}

-- answers leave the variables their objects and their numbers
answers_keep : (tape : List (Option ℤ)) (old : Option ℤ) (w : World) → KeepsObjects w (answer_from tape old w)
answers_keep [] old w = record {
  names = λ slot any. refl;
  lives = λ n object is. record { object = object; lives = is; same_type = refl; same_length = refl };
}
answers_keep (Some v ∷ rest) old w = keeps_all rest w
answers_keep (None ∷ rest) old w = tt

answers_fit : (tape : List (Option ℤ)) (old : Option ℤ) (w : World) → FitsWorld w → FitsOut (answer_from tape old w)
answers_fit [] old w h = h
answers_fit (Some v ∷ rest) old w h = h
answers_fit (None ∷ rest) old w h = h

tape_steady : IsSteady from_tape
tape_steady = record { by = λ old w. answers_keep w.tape old w }

tape_fits : KeepsNumbers from_tape
tape_fits = record { by = λ old w h. answers_fit w.tape old w h }

-- a run that waits without its answers waits with them
with_answers : (old : Option ℤ) (x : World) (run : Out ℤ) → untaped run ≡ waiting old x → (y : World) × (run ≡ waiting old y) × (with_tape [] y ≡ x)
with_answers old x (going a w) e = let f : going a (with_tape [] w) ≡ waiting old x = e in absurd (cc)
with_answers old x (over end w) e = let f : over end (with_tape [] w) ≡ waiting old x = e in absurd (cc)
with_answers old x (waiting before w) e =
    let f : waiting before (with_tape [] w) ≡ waiting old x = e in
    let value : before ≡ old = cc in
    let state : with_tape [] w ≡ x = cc in
    (w, ap (λ (o : Option ℤ). waiting o w) value, state)

-- what a state shows it shows without the answers
variable_untaped : (w : World) (slot : Slot) (ty : Ty) (array : Bool) → ShowsVariable w slot ty array → ShowsVariable (with_tape [] w) slot ty array
variable_untaped w slot ty array h = record {
  has = record {
    number = h.has.number;
    object = h.has.object;
    names = names_still [] w slot ∙ h.has.names;
    lives = h.has.lives;
    typed = h.has.typed;
    single = h.has.single;
  };
  values = h.values;
}

location_untaped : (p : List Outer) (l : Loc) (w : World) → ShowsLocation p l w → ShowsLocation p l (with_tape [] w)
location_untaped p l w h = record {
  visible =
      All-weaker (λ (v : Visible). ShowsVariable w v.slot v.ty v.array) (λ (v : Visible). ShowsVariable (with_tape [] w) v.slot v.ty v.array)
      (λ v k. variable_untaped w v.slot v.ty v.array k) (visible_at l.at.from p) h.visible;
  hole = h.hole;
  named =
      All-weaker (ShowsName w) (ShowsName (with_tape [] w))
      (λ u k. record { ty = k.ty; array = k.array; denotes = k.denotes; shows = variable_untaped w u.slot k.ty k.array k.shows; indexed = k.indexed })
      (part_uses h.hole.scope h.hole.stands.initialised h.hole.stands.part) h.named;
}

pub filled_show : WaitingRunsShowLocations → FilledRunsShowLocations
filled_show law p h text l among t limit answers old x is =
    let start : World = with_tape answers (first_world t limit) in
    let it = with_answers old x (run_program from_tape (holed l p) start) is in
    let fits : FitsWorld start = All-nil (λ (object : Object). All (FitsCell object.ty) object.cells) in
    subst (ShowsLocation p l) it.2
    (location_untaped p l it.0 (law p h text l among from_tape tape_steady tape_fits old start it.0 fits it.1))
