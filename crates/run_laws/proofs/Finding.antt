-- In the evaluation of a checked expression each name finds its object.
use Rattle.std.proofs.Common.{◌≡◌, ℕ, zero, suc, ℤ, List, [], ◌∷◌, map, length, codes, Option, Some, None, Bool, true, false, refl, sym, ap, ap₂, ◌∙◌, subst}
use Rattle.std.specs.Prelude.{Contains}
use Rattle.c_tree.specs.declared.place.Span.{Span}
use Rattle.c_tree.specs.declared.program.Param.{Param}
use Rattle.c_tree.specs.declared.stmt.Slot.{Slot}
use Rattle.c_tree.specs.declared.stmt.Ty.{Ty}
use Rattle.c_tree.specs.declared.stmt.Ty.TheVariants.{Int}
use Rattle.c_tree.specs.Tree.{Tree, constant, name, index, call, unary, cast, binary, choice, assign, bump, comma, hole, hole_after, Args, no_args, value, format, address, Function, Outer}
use Rattle.c_arith.specs.Arith.{is_zero}
use Rattle.c_types.specs.Arguments.{is_place}
use Rattle.c_types.specs.Formats as kinds
use Rattle.c_types.specs.Scopes.{denoted}
use Rattle.c_types.specs.Slots.{entity_slot, resolved_tree, resolved_args}
use Rattle.c_types.specs.declared.scope.Declaration.{Declaration}
use Rattle.c_stdio.specs.Formats as printing
use Rattle.c_meaning.specs.declared.argument.Argument.{Argument}
use Rattle.c_meaning.specs.declared.argument.Argument.TheVariants.{Number, Array, Format, Place}
use Rattle.c_meaning.specs.World.{World, Out, going, over, waiting, used}
use Rattle.c_meaning.specs.Meaning.{Filling, Called, slot_of, definition, params_of, takes_array, rest_of, passed, eval, index_of, evals}
use Rattle.run_laws.specs.Typed.{HasObject, IsTypedBy, Keeps, IsSteady}
use Rattle.run_laws.specs.Holes.{Names}
use Rattle.run_laws.specs.Reads.{Then, Chosen, FindsObject, FindsArray, FindsPlace, Takes, TakesAll, is_element, IsCallable, Inside, Finds, FindsIndex, FindsArgs}
use Rattle.run_laws.specs.Passing.{IsArrayName}
use Rattle.run_laws.proofs.Well.{first_ty, IsNameOf, Suits, ShapedOne, Shaped, AllValues, IsIntPlace, IsCall, Well, WellArgs}
use Rattle.run_laws.proofs.Formats.{conversions-agree}
use Rattle.run_laws.proofs.Keeping.{From}
use Rattle.run_laws.proofs.Sound.{Context, At, Sound, at_moves, used_sound}
use Rattle.run_laws.proofs.Runs.{CallsKeep, denoted_object, array_denoted, shaped_suit, passed_from, eval_sound, index_sound, evals_from}

-- what follows a part that goes on
pub then_holds : {A : Type 0} {W : World → Type 0} {S : Slot → Type 0} {Q : A → World → Type 0} {w : World} (o : Out A) (T : A → World → Type 0) → From W S Q w o → ((a : A) (x : World) → Keeps S w x → T a x) → Then o T
then_holds (going a x) T h f = f a x h.by.0
then_holds (over e x) T h f = tt
then_holds (waiting old x) T h f = tt

-- the same with what is said of the value
pub then_made : {A : Type 0} {W : World → Type 0} {S : Slot → Type 0} {Q : A → World → Type 0} {w : World} (o : Out A) (T : A → World → Type 0) → From W S Q w o → ((a : A) (x : World) → Keeps S w x → Q a x → T a x) → Then o T
then_made (going a x) T h f = f a x h.by.0 h.by.1
then_made (over e x) T h f = tt
then_made (waiting old x) T h f = tt

-- the same with two things that are said of it
pub then_both : {A : Type 0} {W : World → Type 0} {S : Slot → Type 0} {Q R : A → World → Type 0} {w : World} (o : Out A) (T : A → World → Type 0) → From W S Q w o → From W S R w o
    → ((a : A) (x : World) → Keeps S w x → Q a x → R a x → T a x) → Then o T
then_both (going a x) T h k f = f a x h.by.0 h.by.1 k.by.1
then_both (over e x) T h k f = tt
then_both (waiting old x) T h k f = tt

-- where arguments suit the parameters, it is so in a call
abbrev pub CallsFind : List Declaration → Type 0 → List Outer → Inside → Type 0
CallsFind file may_call program inside =
    (word : List ℕ) (gs : List Argument) (x : World) → may_call → IsTypedBy file x → Suits (params_of (definition word program)) gs x → inside word gs x

-- the object of a name
name_found : (ds : Names) (w : World) (word : List ℕ) (array : Bool) → IsNameOf ds word array → IsTypedBy ds w → FindsObject w (entity_slot (denoted ds word)) array
name_found ds w word array n typed =
    let same : n.slot ≡ entity_slot (denoted ds word) = ap entity_slot (sym n.denotes) in
    record { ty = n.ty; has = subst (λ (s : Slot). HasObject w s n.ty array) same (denoted_object ds w word n.slot n.ty array typed n.denotes) }

array_found : (ds : Names) (ty : Ty) (e : Tree) (w : World) → IsArrayName ds ty e → IsTypedBy ds w → FindsArray w (slot_of e)
array_found ds ty e w a typed =
    let array = array_denoted ds ty e a in record { ty = ty; has = denoted_object ds w array.0 (slot_of e) ty true typed array.1 }

pub chosen_by : (b : Bool) (P Q : Type 0) → (b ≡ true → P) → (b ≡ false → Q) → Chosen b P Q
chosen_by true P Q f g = f refl
chosen_by false P Q f g = g refl

module _ (program : List Outer) (scopes : List Names) (there may_call : Type 0) (sure : there) (ds : Names) where
  place_found : (e : Tree) (w : World) → is_place e ≡ true → Well program scopes there may_call ds true e → IsTypedBy ds w → FindsPlace (resolved_tree ds e) w
  place_found (name word slot s) w is h typed = name_found ds w word false (h sure) typed
  place_found (index word slot e s) w is h typed = name_found ds w word true h.0 typed
  place_found (constant n word s) w is h typed = absurd (cc)
  place_found (call word args s) w is h typed = absurd (cc)
  place_found (unary o e s) w is h typed = absurd (cc)
  place_found (cast ty e s) w is h typed = absurd (cc)
  place_found (binary o l r s) w is h typed = absurd (cc)
  place_found (choice t a b s) w is h typed = absurd (cc)
  place_found (assign o place e s) w is h typed = absurd (cc)
  place_found (bump pre up place s) w is h typed = absurd (cc)
  place_found (comma l r s) w is h typed = absurd (cc)
  place_found hole w is h typed = absurd (cc)
  place_found (hole_after e) w is h typed = absurd (cc)

-- ---- calls

-- no argument for none, and one number for one value that no array is taken for
none_given : (ps : List Param) (gs : List Argument) (w : World) → Shaped ps no_args gs w → gs ≡ []
none_given ps [] w h = refl
none_given ps (g ∷ gs) w h = absurd h

is_number : (ty : Ty) (g : Argument) (w : World) → ShapedOne false ty g w → (v : ℤ) × (g ≡ Number v)
is_number ty (Number v) w h = (v, refl)
is_number ty (Array n) w h = absurd h
is_number ty (Format f) w h = absurd h
is_number ty (Place slot i) w h = absurd h

one_given : (e : Tree) (gs : List Argument) (w : World) → Shaped [] (value e no_args) gs w → (v : ℤ) × (gs ≡ Number v ∷ [])
one_given e [] w h = absurd h
one_given e (g ∷ gs) w h =
    let number = is_number Int g w h.0 in (number.0, ap₂ (λ (a : Argument) as_. a ∷ as_) number.1 (none_given [] gs w h.1))

-- so many numbers for as many values
numbers_given : (n : ℕ) (args : Args) (gs : List Argument) (w : World) → AllValues n args → Shaped [] args gs w → (vs : List ℤ) × (gs ≡ map (λ v. Number v) vs) × (n ≡ length vs)
numbers_given zero no_args [] w h k = ([], refl, refl)
numbers_given zero no_args (g ∷ gs) w h k = absurd k
numbers_given zero (value e rest) gs w h k = absurd h
numbers_given zero (format f s rest) gs w h k = absurd h
numbers_given zero (address e rest) gs w h k = absurd h
numbers_given (suc n) no_args gs w h k = absurd h
numbers_given (suc n) (value e rest) [] w h k = absurd k
numbers_given (suc n) (value e rest) (g ∷ gs) w h k =
    let number = is_number Int g w k.0 in
    let more = numbers_given n rest gs w h k.1 in
    (number.0 ∷ more.0, ap₂ (λ (a : Argument) as_. a ∷ as_) number.1 more.1, ap suc more.2)
numbers_given (suc n) (format f s rest) gs w h k = absurd h
numbers_given (suc n) (address e rest) gs w h k = absurd h

-- each parameter takes its argument
takes_one : (p : Param) (b : Bool) (g : Argument) (w : World) → p.array ≡ b → ShapedOne b p.ty g w → Takes p g w
takes_one p true (Number v) w e h = absurd h
takes_one p true (Array n) w e h = (e, h)
takes_one p true (Format f) w e h = h
takes_one p true (Place slot i) w e h = h
takes_one p false (Number v) w e h = e
takes_one p false (Array n) w e h = absurd h
takes_one p false (Format f) w e h = h
takes_one p false (Place slot i) w e h = h

takes_all : (ps : List Param) (args : Args) (gs : List Argument) (w : World) → AllValues (length ps) args → Shaped ps args gs w → TakesAll ps gs w
takes_all [] no_args [] w h k = tt
takes_all [] no_args (g ∷ gs) w h k = k
takes_all [] (value e rest) gs w h k = absurd h
takes_all [] (format f s rest) gs w h k = absurd h
takes_all [] (address e rest) gs w h k = absurd h
takes_all (p ∷ ps) no_args gs w h k = absurd h
takes_all (p ∷ ps) (value e rest) [] w h k = k
takes_all (p ∷ ps) (value e rest) (g ∷ gs) w h k = (takes_one p p.array g w refl k.0, takes_all ps rest gs w h k.1)
takes_all (p ∷ ps) (format f s rest) gs w h k = absurd h
takes_all (p ∷ ps) (address e rest) gs w h k = absurd h

-- the arguments of one number
number_callable : (program : List Outer) (word : List ℕ) (e : Tree) (gs : List Argument) (w : World) → definition word program ≡ None → Shaped (params_of (definition word program)) (value e no_args) gs w
    → ((v : ℤ) → IsCallable program w word (value e no_args) (Number v ∷ [])) → IsCallable program w word (value e no_args) gs
number_callable program word e gs w none shaped make =
    let one = one_given e gs w (subst (λ (o : Option Function). Shaped (params_of o) (value e no_args) gs w) none shaped) in
    subst (λ (as_ : List Argument). IsCallable program w word (value e no_args) as_) (sym one.1) (make one.0)

printf_callable : (program : List Outer) (f : List ℕ) (s : Span) (rest : Args) (n : ℕ) (gs : List Argument) (w : World) → kinds.conversions f ≡ Some n → AllValues n rest → Shaped [] (format f s rest) gs w
    → IsCallable program w (codes "printf") (format f s rest) gs
printf_callable program f s rest n [] w is all shaped = absurd shaped
printf_callable program f s rest n (g ∷ gs) w is all shaped =
    let given = numbers_given n rest gs w all shaped.1 in
    let count : printing.conversions f ≡ Some (length given.0) = sym (conversions-agree f) ∙ is ∙ ap (λ k. Some k) given.2 in
    subst (λ (as_ : List Argument). IsCallable program w (codes "printf") (format f s rest) as_) (sym (ap₂ (λ (a : Argument) as_. a ∷ as_) shaped.0 given.1)) (IsCallable.printf (format f s rest) f given.0 count)

scanf_callable : (program : List Outer) (ds : Names) (ps : List Param) (s : Span) (e : Tree) (gs : List Argument) (w : World) → IsIntPlace ds e → Shaped ps (format (codes "%d") s (address e no_args)) gs w → IsTypedBy ds w
    → IsCallable program w (codes "scanf") (format (codes "%d") s (address e no_args)) gs
scanf_callable program ds ps s e [] w is shaped typed = absurd shaped
scanf_callable program ds ps s e (g ∷ []) w is shaped typed = absurd shaped.1
scanf_callable program ds ps s e (g ∷ (a ∷ gs)) w is shaped typed =
    let has : HasObject w (slot_of e) Int (is_element e) = subst (λ (z : Slot). HasObject w z Int (is_element e)) (sym is.is_slot) (denoted_object ds w is.word is.slot Int (is_element e) typed is.denotes) in
    let rest : gs ≡ [] = none_given (rest_of (rest_of ps)) gs w shaped.1.1 in
    let all : g ∷ (a ∷ gs) ≡ Format (codes "%d") ∷ (Place (slot_of e) shaped.1.0.0 ∷ []) =
    ap₂ (λ (x : Argument) as_. x ∷ as_) shaped.0 (ap₂ (λ (x : Argument) as_. x ∷ as_) shaped.1.0.1 rest) in
    subst (λ (as_ : List Argument). IsCallable program w (codes "scanf") (format (codes "%d") s (address e no_args)) as_) (sym all)
    (IsCallable.scanf s e shaped.1.0.0 has (is.single shaped.1.0.0 shaped.1.0.2))

-- a call that can be made takes the arguments that it is given
callable : (program : List Outer) (ds : Names) (word : List ℕ) (args : Args) (gs : List Argument) (w : World) → IsCall program ds word args → Shaped (params_of (definition word program)) args gs w → IsTypedBy ds w
    → IsCallable program w word args gs
callable program ds word args gs w IsCall.getchar shaped typed =
    subst (λ (as_ : List Argument). IsCallable program w (codes "getchar") no_args as_) (sym (none_given (params_of (definition (codes "getchar") program)) gs w shaped)) (IsCallable.getchar no_args)
callable program ds word args gs w (IsCall.putchar e none) shaped typed = number_callable program (codes "putchar") e gs w none shaped (λ v. IsCallable.putchar (value e no_args) v)
callable program ds word args gs w (IsCall.abs e none) shaped typed = number_callable program (codes "abs") e gs w none shaped (λ v. IsCallable.abs (value e no_args) v)
callable program ds word args gs w (IsCall.exit e none) shaped typed = number_callable program (codes "exit") e gs w none shaped (λ v. IsCallable.exit (value e no_args) v)
callable program ds word args gs w (IsCall.printf f s rest n is all none) shaped typed =
    printf_callable program f s rest n gs w is all (subst (λ (o : Option Function). Shaped (params_of o) (format f s rest) gs w) none shaped)
callable program ds word args gs w (IsCall.scanf s e place) shaped typed = scanf_callable program ds (params_of (definition (codes "scanf") program)) s e gs w place shaped typed
callable program ds word args gs w (IsCall.own _ _ f body free found is all) shaped typed =
    IsCallable.own word args gs free (record {
      function = f;
      is = found;
      body = body;
      has_body = is;
      takes = takes_all f.params args gs w all (subst (λ (o : Option Function). Shaped (params_of o) args gs w) found shaped);
    })

module _ (filling : Filling) (steady : IsSteady filling) (program : List Outer) (scopes : List Names) (there : Type 0) (sure : there) (called : Called) (k : Context)
    (at_hole : (ds : Names) → Contains scopes ds → (x : World) → IsTypedBy ds x → k.waits x) (keep : CallsKeep k.waits k.file k.may_call program called)
    (inside : Inside) (enter : CallsFind k.file k.may_call program inside) where
  abbrev Good : Bool → Tree → Type 0
  Good wanted e = Well program scopes there k.may_call k.scope wanted e

  abbrev slotted : Tree → Tree
  slotted = resolved_tree k.scope

  sound : (wanted : Bool) (e : Tree) → Good wanted e → Sound k (eval filling program called (slotted e))
  sound = eval_sound filling steady program scopes there called k at_hole keep

  place_sound : (e : Tree) → Good true e → Sound k (index_of filling program called (slotted e))
  place_sound = index_sound filling steady program scopes there called k at_hole keep

  mutual
    pub finds : (wanted : Bool) (e : Tree) → Good wanted e → (w : World) → At k w → Finds filling program called inside wanted (slotted e) w
    finds wanted (constant n word s) h w at = tt
    finds wanted (name word slot s) h w at = name_found k.scope w word false (h sure) at.typed
    finds wanted (index word slot e s) h w at = (
      finds true e h.1 w at,
      then_holds (used (eval filling program called (slotted e)) w) _ ((used_sound (sound true e h.1)).by w at)
          (λ i x keeps. name_found k.scope x word true h.0 (at_moves k w x keeps at).typed),
    )
    finds wanted (call word args s) h w at = (
      finds_args args (params_of (definition word program)) h.1 w at,
      then_made (evals filling program called (params_of (definition word program)) (resolved_args k.scope args) w) _
          (evals_from filling steady program scopes there called k at_hole keep args (params_of (definition word program)) h.1 w at)
          (λ gs x keeps shaped.
          let here = at_moves k w x keeps at in (
            callable program k.scope word (resolved_args k.scope args) gs x (h.2 sure).0 shaped here.typed,
            (h.2 sure).1,
            enter word gs x h.0 (here.of_file h.0) (shaped_suit (params_of (definition word program)) (resolved_args k.scope args) gs x shaped),
          )),
    )
    finds wanted (unary o e s) h w at = finds true e h w at
    finds wanted (cast ty e s) h w at = finds true e h w at
    finds wanted (binary o l r s) h w at = (
      finds true l h.0 w at,
      then_holds (used (eval filling program called (slotted l)) w) _ ((used_sound (sound true l h.0)).by w at)
          (λ a x keeps none. finds true r h.1 x (at_moves k w x keeps at)),
    )
    finds wanted (choice t a b s) h w at = (
      finds true t h.0 w at,
      then_holds (used (eval filling program called (slotted t)) w) _ ((used_sound (sound true t h.0)).by w at)
          (λ v x keeps. chosen_by (is_zero v) _ _
          (λ z. finds true b h.1.1 x (at_moves k w x keeps at))
          (λ z. finds true a h.1.0 x (at_moves k w x keeps at))),
    )
    finds wanted (assign o place e s) h w at = (
      finds_index place h.0 h.1.0 w at,
      then_holds (index_of filling program called (slotted place) w) _ ((place_sound place h.1.0).by w at)
          (λ i x keeps.
          let here = at_moves k w x keeps at in (
            finds true e h.1.1 x here,
            then_holds (used (eval filling program called (slotted e)) x) _ ((used_sound (sound true e h.1.1)).by x here)
                (λ v y more. place_found program scopes there k.may_call sure k.scope place y h.0 h.1.0 (at_moves k x y more here).typed),
          )),
    )
    finds wanted (bump pre up place s) h w at = (
      finds_index place h.0 h.1 w at,
      then_holds (index_of filling program called (slotted place) w) _ ((place_sound place h.1).by w at)
          (λ i x keeps. place_found program scopes there k.may_call sure k.scope place x h.0 h.1 (at_moves k w x keeps at).typed),
    )
    finds wanted (comma l r s) h w at = (
      finds false l h.0 w at,
      then_holds (eval filling program called (slotted l) w) _ ((sound false l h.0).by w at)
          (λ o x keeps. finds true r h.1 x (at_moves k w x keeps at)),
    )
    finds wanted hole h w at = tt
    finds wanted (hole_after e) h w at = finds true e h.0 w at

    finds_index : (e : Tree) → is_place e ≡ true → Good true e → (w : World) → At k w → FindsIndex filling program called inside (slotted e) w
    finds_index (index word slot e s) is h w at = finds true e h.1 w at
    finds_index (name word slot s) is h w at = tt
    finds_index (constant n word s) is h w at = absurd (cc)
    finds_index (call word args s) is h w at = absurd (cc)
    finds_index (unary o e s) is h w at = absurd (cc)
    finds_index (cast ty e s) is h w at = absurd (cc)
    finds_index (binary o l r s) is h w at = absurd (cc)
    finds_index (choice t a b s) is h w at = absurd (cc)
    finds_index (assign o place e s) is h w at = absurd (cc)
    finds_index (bump pre up place s) is h w at = absurd (cc)
    finds_index (comma l r s) is h w at = absurd (cc)
    finds_index hole is h w at = absurd (cc)
    finds_index (hole_after e) is h w at = absurd (cc)

    finds_args : (args : Args) (ps : List Param) → WellArgs program scopes there k.may_call k.scope ps args → (w : World) → At k w
        → FindsArgs filling program called inside ps (resolved_args k.scope args) w
    finds_args no_args ps h w at = tt
    finds_args (value e rest) ps h w at = (
      chosen_by (takes_array ps) _ _
          (λ a. array_found k.scope (first_ty ps) (resolved_tree k.scope e) w (h.0 a) at.typed)
          (λ a. finds true e (h.1.0 a) w at),
      then_holds (passed (takes_array ps) (slot_of (slotted e)) (used (eval filling program called (slotted e))) w) _
          (passed_from k (takes_array ps) (first_ty ps) e _ w at h.0 (λ a. used_sound (sound true e (h.1.0 a))))
          (λ a x keeps. finds_args rest (rest_of ps) h.1.1 x (at_moves k w x keeps at)),
    )
    finds_args (format f s rest) ps h w at = finds_args rest (rest_of ps) h w at
    finds_args (address e rest) ps h w at = (
      finds_index e h.0 h.1.0 w at,
      then_holds (index_of filling program called (slotted e) w) _ ((place_sound e h.1.0).by w at)
          (λ i x keeps.
          let here = at_moves k w x keeps at in (
            place_found program scopes there k.may_call sure k.scope e x h.0 h.1.0 here.typed,
            finds_args rest (rest_of ps) h.1.1 x here,
          )),
    )
