-- Expressions, declarations and statements of a program keep the state typed by the scope in which they stand.
use Rattle.std.proofs.Common.{◌≡◌, ℕ, suc, ◌+◌, ◌-◌, ◌≤◌, ℤ, pos, List, [], ◌∷◌, ◌++◌, length, Option, Some, None, Bool, true, false, cond, refl, sym, ap, ◌∙◌, subst, arith, slice_get}
use Rattle.std.specs.Prelude.{Contains, map}
use Rattle.std.proofs.lemmas.List.Elements.{All-cons}
use Rattle.c_tree.specs.declared.program.Param.{Param}
use Rattle.c_tree.specs.declared.stmt.Slot.{Slot}
use Rattle.c_tree.specs.declared.stmt.Ty.{Ty}
use Rattle.c_tree.specs.declared.stmt.Ty.TheVariants.{Int}
use Rattle.c_tree.specs.Tree.{Tree, constant, name, index, call, unary, cast, binary, choice, assign, bump, comma, hole, hole_after, Args, no_args, value, format, address, Initial, bare_start, one_start, list_start, Variable, First, no_first, first_act, first_vars, Code, empty, act, block, if_then, if_else, while, do_while, for, give, break, continue, Body, done, next, vars, Outer}
use Rattle.c_arith.specs.Arith.{op, prefix, convert}
use Rattle.c_types.specs.declared.scope.Declaration.{Declaration}
use Rattle.c_types.specs.declared.scope.Entity.TheVariants.{Variable as VariableEntity}
use Rattle.c_types.specs.declared.scope.Storage.{Storage}
use Rattle.c_types.specs.declared.scope.Storage.TheVariants.{Automatic}
use Rattle.c_types.specs.Scopes.{denoted}
use Rattle.c_types.specs.Slots.{first_count, code_count, slot_in, numbered_variable, numbered, numbered_first, resolved_tree, resolved_args, resolved_option, resolved_initial, resolved_variables, resolved_first, resolved_code, resolved_body}
use Rattle.c_types.specs.Statements.{is_array, variable_declaration, declared, first_declared}
use Rattle.std.specs.Str.{bytes_eq}
use Rattle.c_meaning.specs.declared.argument.Argument.{Argument}
use Rattle.c_meaning.specs.declared.argument.Argument.TheVariants.{Number, Array, Format, Place}
use Rattle.c_meaning.specs.declared.stop.End.TheVariants.{Trapped}
use Rattle.c_meaning.specs.declared.stop.Flow.TheVariants.{Next, Break, Continue, Return}
use Rattle.c_meaning.specs.World.{World, Out, going, over, waiting, Run, pure, used, ◌>>=◌, ◌>>◌}
use Rattle.c_meaning.specs.Steps.{unit, object_of, number_of}
use Rattle.c_meaning.specs.Meaning.{Filling, Called, decided, bump_op, slot_of, definition, params_of, takes_array, rest_of, passed, cell_count, make_variable, eval, index_of, evals, perform, store_list, declare_object, declare_local, declare, begin, test_of, step_of, exec, run_body, declare_global, declare_globals}
use Rattle.run_laws.specs.Typed.{HasObject, EntityHasObject, IsTypedBy, Keeps, every_slot, KeepsObjects, IsSteady}
use Rattle.run_laws.specs.Holes.{Names}
use Rattle.run_laws.specs.Passing.{IsArrayName}
use Rattle.run_laws.proofs.Well.{first_ty, SuitsOne, Suits, ShapedOne, IndexIs, Shaped, Well, WellArgs, WellOption, WellList, WellInitial, WellVariables, WellFirst, WellCode, WellBody}
use Rattle.run_laws.specs.Places.{below}
use Rattle.run_laws.specs.Reads.{IsLive}
use Rattle.run_laws.proofs.Keeping.{AllWithin, all_within_more, keeps_refl, keeps_fewer, typed_moves, Any, From, from_going, from_over, from_other, from_bind, object_of_keeps}
use Rattle.run_laws.proofs.Sound.{Context, At, Sound, at_moves, bound, pures, stops, units, loads, stores, lifts, used_sound, some_sound, on_zero_sound, unless_sound, on_next_sound, test_turn_sound, body_turn_sound, loop_sound, jump_sound, scope_sound, zeros_sound, before, before_more, within_cons, within_declared, variable_from, one_cell}

-- ---- variables and arguments

-- the object of the variable that a word denotes
pub denoted_object : (ds : List Declaration) (w : World) (word : List ℕ) (slot : Slot) (ty : Ty) (array : Bool) → IsTypedBy ds w → denoted ds word ≡ Some (VariableEntity slot ty array) → HasObject w slot ty array
denoted_object [] w word slot ty array h e = absurd (cc)
denoted_object (d ∷ ds) w word slot ty array h e =
    by_test (bytes_eq d.word word) (λ k. denoted_object ds w word slot ty array (λ i x lt. h (suc i) x (omega arith)) k) e
  where
    by_test : (b : Bool) → (denoted ds word ≡ Some (VariableEntity slot ty array) → HasObject w slot ty array) → cond b (Some d.entity) (denoted ds word) ≡ Some (VariableEntity slot ty array) → HasObject w slot ty array
    by_test true rest is = let same : d.entity ≡ VariableEntity slot ty array = cc in subst (EntityHasObject w) same (h 0 d (omega arith))
    by_test false rest is = rest is

live_moves : (S : Slot → Type 0) (w x : World) (n : ℕ) (ty : Ty) → Keeps S w x → IsLive w n ty → IsLive x n ty
live_moves S w x n ty k h = let l = k.lives n h.object h.lives in record { object = l.object; lives = l.lives; typed = l.same_type ∙ h.typed }

suits_one_moves : (S : Slot → Type 0) (w x : World) (array : Bool) (ty : Ty) (a : Argument) → Keeps S w x → SuitsOne array ty a w → SuitsOne array ty a x
suits_one_moves S w x array ty (Number v) k h = tt
suits_one_moves S w x array ty (Array n) k h = (h.0, live_moves S w x n ty k h.1)
suits_one_moves S w x array ty (Format f) k h = tt
suits_one_moves S w x array ty (Place slot i) k h = tt

pub suits_moves : (S : Slot → Type 0) (w x : World) (ps : List Param) (gs : List Argument) → Keeps S w x → Suits ps gs w → Suits ps gs x
suits_moves S w x ps [] k h = tt
suits_moves S w x ps (a ∷ gs) k h = (suits_one_moves S w x (takes_array ps) (first_ty ps) a k h.0, suits_moves S w x (rest_of ps) gs k h.1)

shaped_one_moves : (S : Slot → Type 0) (w x : World) (array : Bool) (ty : Ty) (a : Argument) → Keeps S w x → ShapedOne array ty a w → ShapedOne array ty a x
shaped_one_moves S w x true ty (Number v) k h = h
shaped_one_moves S w x true ty (Array n) k h = live_moves S w x n ty k h
shaped_one_moves S w x true ty (Format f) k h = h
shaped_one_moves S w x true ty (Place slot i) k h = h
shaped_one_moves S w x false ty (Number v) k h = h
shaped_one_moves S w x false ty (Array n) k h = h
shaped_one_moves S w x false ty (Format f) k h = h
shaped_one_moves S w x false ty (Place slot i) k h = h

one_suits : (array : Bool) (ty : Ty) (a : Argument) (w : World) → ShapedOne array ty a w → SuitsOne array ty a w
one_suits true ty (Number v) w h = tt
one_suits true ty (Array n) w h = (refl, h)
one_suits true ty (Format f) w h = tt
one_suits true ty (Place slot i) w h = tt
one_suits false ty (Number v) w h = tt
one_suits false ty (Array n) w h = absurd h
one_suits false ty (Format f) w h = tt
one_suits false ty (Place slot i) w h = tt

-- arguments suit the parameters for which they are given
pub shaped_suit : (ps : List Param) (args : Args) (gs : List Argument) (w : World) → Shaped ps args gs w → Suits ps gs w
shaped_suit ps no_args [] w h = tt
shaped_suit ps no_args (g ∷ gs) w h = absurd h
shaped_suit ps (value e rest) [] w h = tt
shaped_suit ps (value e rest) (g ∷ gs) w h = (one_suits (takes_array ps) (first_ty ps) g w h.0, shaped_suit (rest_of ps) rest gs w h.1)
shaped_suit ps (format f s rest) [] w h = tt
shaped_suit ps (format f s rest) (g ∷ gs) w h =
    (subst (λ (a : Argument). SuitsOne (takes_array ps) (first_ty ps) a w) (sym h.0) tt, shaped_suit (rest_of ps) rest gs w h.1)
shaped_suit ps (address e rest) [] w h = tt
shaped_suit ps (address e rest) (g ∷ gs) w h =
    (subst (λ (a : Argument). SuitsOne (takes_array ps) (first_ty ps) a w) (sym h.0.1) tt, shaped_suit (rest_of ps) rest gs w h.1)

-- the word of an array's name denotes the array
pub array_denoted : (ds : Names) (ty : Ty) (e : Tree) → IsArrayName ds ty e → (word : List ℕ) × (denoted ds word ≡ Some (VariableEntity (slot_of e) ty true))
array_denoted ds ty (name word slot s) h = (word, h)
array_denoted ds ty (constant n word s) h = absurd h
array_denoted ds ty (index word slot e s) h = absurd h
array_denoted ds ty (call word args s) h = absurd h
array_denoted ds ty (unary o e s) h = absurd h
array_denoted ds ty (cast tz e s) h = absurd h
array_denoted ds ty (binary o l r s) h = absurd h
array_denoted ds ty (choice t a b s) h = absurd h
array_denoted ds ty (assign o place e s) h = absurd h
array_denoted ds ty (bump pre up place s) h = absurd h
array_denoted ds ty (comma l r s) h = absurd h
array_denoted ds ty hole h = absurd h
array_denoted ds ty (hole_after e) h = absurd h

-- the object of an array is live
array_live : (ds : List Declaration) (w : World) (ty : Ty) (e : Tree) (n : ℕ) → IsTypedBy ds w → IsArrayName ds ty e → number_of (slot_of e) w ≡ Some n → IsLive w n ty
array_live ds w ty e n h a is =
    let array = array_denoted ds ty e a in
    let has = denoted_object ds w array.0 (slot_of e) ty true h array.1 in
    let same : Some has.number ≡ Some n = sym has.names ∙ is in
    let number : has.number ≡ n = cc in
    record { object = has.object; lives = ap (λ k. slice_get w.objects k) (sym number) ∙ has.lives; typed = has.typed }

pub passed_from : (k : Context) (array : Bool) (ty : Ty) (e : Tree) (m : Run ℤ) (w : World) → At k w → (array ≡ true → IsArrayName k.scope ty (resolved_tree k.scope e)) → (array ≡ false → Sound k m)
    → From k.waits k.slots (λ a x. ShapedOne array ty a x) w (passed array (slot_of (resolved_tree k.scope e)) m w)
passed_from k true ty e m w at f g =
    from_bind (object_of (slot_of (resolved_tree k.scope e)) w) (λ n. pure (Array n)) (object_of_keeps k.slots (slot_of (resolved_tree k.scope e)) w)
    (λ n x keeps is. from_going (Array n) x (keeps_refl k.slots x) (subst (λ (z : World). IsLive z n ty) (sym is.1) (array_live k.scope w ty (resolved_tree k.scope e) n at.typed (f refl) is.0)))
passed_from k false ty e m w at f g =
    from_bind (m w) (λ v. pure (Number v)) ((g refl).by w at) (λ v x keeps any. from_going (Number v) x (keeps_refl k.slots x) tt)

-- a context with more slots, of the same program
pub fewer_slots : {A : Type 0} {W : World → Type 0} (S T : Slot → Type 0) (w : World) (o : Out A) → ((slot : Slot) → T slot → S slot) → From W S Any w o → From W T Any w o
fewer_slots S T w o f h = from_other T Any w o (λ a x k q. (keeps_fewer S T w x f k, tt)) h

-- ---- holes

hole_out : (k : Context) (w : World) (o : Out ℤ) → ((x : World) → IsTypedBy k.scope x → k.waits x) → At k w → KeepsObjects w o → From k.waits k.slots Any w o
hole_out k w (going v x) f at h = from_going v x (keeps_fewer every_slot k.slots w x (λ slot s. tt) h) tt
hole_out k w (over e x) f at h = from_over e x
hole_out k w (waiting old x) f at h =
    record { by = f x (typed_moves k.slots k.scope w x k.in_scope (keeps_fewer every_slot k.slots w x (λ slot s. tt) h) at.typed) }

-- a call keeps every slot, in a state that is typed by the scope of the file, where the arguments suit the parameters
abbrev pub CallsKeep : (World → Type 0) → List Declaration → Type 0 → List Outer → Called → Type 0
CallsKeep W file may_call program called =
    (word : List ℕ) (gs : List Argument) (w : World) → may_call → IsTypedBy file w → Suits (params_of (definition word program)) gs w → From W every_slot Any w (called word gs w)

module _ (filling : Filling) (steady : IsSteady filling) (program : List Outer) (scopes : List Names) (there : Type 0) (called : Called) where
  module _ (k : Context) (at_hole : (ds : Names) → Contains scopes ds → (x : World) → IsTypedBy ds x → k.waits x) (keep : CallsKeep k.waits k.file k.may_call program called) where
    hole_sound : (old : Option ℤ) → Contains scopes k.scope → Sound k (filling old)
    hole_sound old h = record { by = λ w at. hole_out k w (filling old w) (at_hole k.scope h) at (steady.by old w) }

    mutual
      pub eval_sound : (wanted : Bool) (t : Tree) → Well program scopes there k.may_call k.scope wanted t → Sound k (eval filling program called (resolved_tree k.scope t))
      eval_sound wanted (constant n word s) h = pures (Some n)
      eval_sound wanted (name word slot s) h = some_sound (loads _ (pos 0))
      eval_sound wanted (index word slot v s) h = bound (used_sound (eval_sound true v h.1)) (λ i. some_sound (loads _ i))
      eval_sound wanted (call word args s) h = record {
        by = λ w at.
            from_bind (evals filling program called (params_of (definition word program)) (resolved_args k.scope args) w) (λ gs. called word gs)
            (evals_from args (params_of (definition word program)) h.1 w at)
            (λ gs x keeps shaped. fewer_slots every_slot k.slots x (called word gs x) (λ slot s. tt)
            (keep word gs x h.0 ((at_moves k w x keeps at).of_file h.0) (shaped_suit (params_of (definition word program)) (resolved_args k.scope args) gs x shaped)));
      }
      eval_sound wanted (unary o v s) h = bound (used_sound (eval_sound true v h)) (λ a. some_sound (lifts (prefix Int o a)))
      eval_sound wanted (cast ty v s) h = bound (used_sound (eval_sound true v h)) (λ a. pures (Some (convert ty a)))
      eval_sound wanted (binary o l r s) h =
          bound (used_sound (eval_sound true l h.0)) (λ a. some_sound (unless_sound (decided o a) _ (bound (used_sound (eval_sound true r h.1)) (λ b. lifts (op Int o a b)))))
      eval_sound wanted (choice t a b s) h =
          bound (used_sound (eval_sound true t h.0)) (λ v. some_sound (on_zero_sound v _ _ (used_sound (eval_sound true b h.1.1)) (used_sound (eval_sound true a h.1.0))))
      eval_sound wanted (assign None place v s) h = bound (index_sound place h.1.0) (λ i. bound (used_sound (eval_sound true v h.1.1)) (λ a. some_sound (stores _ i a)))
      eval_sound wanted (assign (Some o) place v s) h =
          bound (index_sound place h.1.0) (λ i. bound (used_sound (eval_sound true v h.1.1)) (λ a. bound (loads _ i) (λ old. bound (lifts (op Int o old a)) (λ new. some_sound (stores _ i new)))))
      eval_sound wanted (bump pre up place s) h =
          bound (index_sound place h.1) (λ i. bound (loads _ i) (λ old. bound (lifts (op Int (bump_op up) old (pos 1))) (λ new. bound (stores _ i new) (λ u. pures (Some (cond pre u old))))))
      eval_sound wanted (comma l r s) h = bound (eval_sound false l h.0) (λ o. some_sound (used_sound (eval_sound true r h.1)))
      eval_sound wanted hole h = some_sound (hole_sound None h)
      eval_sound wanted (hole_after v) h = bound (used_sound (eval_sound true v h.0)) (λ a. some_sound (hole_sound (Some a) h.1))

      pub index_sound : (t : Tree) → Well program scopes there k.may_call k.scope true t → Sound k (index_of filling program called (resolved_tree k.scope t))
      index_sound (constant n word s) h = stops Trapped
      index_sound (name word slot s) h = pures (pos 0)
      index_sound (index word slot v s) h = used_sound (eval_sound true v h.1)
      index_sound (call word args s) h = stops Trapped
      index_sound (unary o v s) h = stops Trapped
      index_sound (cast ty v s) h = stops Trapped
      index_sound (binary o l r s) h = stops Trapped
      index_sound (choice t a b s) h = stops Trapped
      index_sound (assign o place v s) h = stops Trapped
      index_sound (bump pre up place s) h = stops Trapped
      index_sound (comma l r s) h = stops Trapped
      index_sound hole h = stops Trapped
      index_sound (hole_after v) h = stops Trapped

      pub evals_from : (args : Args) (ps : List Param) → WellArgs program scopes there k.may_call k.scope ps args → (w : World) → At k w
          → From k.waits k.slots (λ gs x. Shaped ps (resolved_args k.scope args) gs x) w (evals filling program called ps (resolved_args k.scope args) w)
      evals_from no_args ps h w at = from_going [] w (keeps_refl k.slots w) tt
      evals_from (value v rest) ps h w at =
          from_bind (passed (takes_array ps) (slot_of (resolved_tree k.scope v)) (used (eval filling program called (resolved_tree k.scope v))) w) _
          (passed_from k (takes_array ps) (first_ty ps) v _ w at h.0 (λ e. used_sound (eval_sound true v (h.1.0 e))))
          (λ a x keeps suits.
          from_bind (evals filling program called (rest_of ps) (resolved_args k.scope rest) x) (λ gs. pure (a ∷ gs))
          (evals_from rest (rest_of ps) h.1.1 x (at_moves k w x keeps at))
          (λ gs y more all. from_going (a ∷ gs) y (keeps_refl k.slots y) (shaped_one_moves k.slots x y (takes_array ps) (first_ty ps) a more suits, all)))
      evals_from (format f s rest) ps h w at =
          from_bind (evals filling program called (rest_of ps) (resolved_args k.scope rest) w) (λ gs. pure (Format f ∷ gs))
          (evals_from rest (rest_of ps) h w at)
          (λ gs y more all. from_going (Format f ∷ gs) y (keeps_refl k.slots y) (refl, all))
      evals_from (address v rest) ps h w at =
          from_bind (index_of filling program called (resolved_tree k.scope v) w) _
          (indexed_from v h.1.0 w at)
          (λ i x keeps indexed.
          from_bind (evals filling program called (rest_of ps) (resolved_args k.scope rest) x) (λ gs. pure (Place (slot_of (resolved_tree k.scope v)) i ∷ gs))
          (evals_from rest (rest_of ps) h.1.1 x (at_moves k w x keeps at))
          (λ gs y more all. from_going (Place (slot_of (resolved_tree k.scope v)) i ∷ gs) y (keeps_refl k.slots y) ((i, refl, indexed), all)))

      -- the index of a name is 0
      indexed_from : (t : Tree) → Well program scopes there k.may_call k.scope true t → (w : World) → At k w
          → From k.waits k.slots (λ i x. IndexIs (resolved_tree k.scope t) i) w (index_of filling program called (resolved_tree k.scope t) w)
      indexed_from (name word slot s) h w at = from_going (pos 0) w (keeps_refl k.slots w) refl
      indexed_from (index word slot v s) h w at = (used_sound (eval_sound true v h.1)).by w at
      indexed_from (constant n word s) h w at = from_over _ w
      indexed_from (call word args s) h w at = from_over _ w
      indexed_from (unary o v s) h w at = from_over _ w
      indexed_from (cast ty v s) h w at = from_over _ w
      indexed_from (binary o l r s) h w at = from_over _ w
      indexed_from (choice t a b s) h w at = from_over _ w
      indexed_from (assign o place v s) h w at = from_over _ w
      indexed_from (bump pre up place s) h w at = from_over _ w
      indexed_from (comma l r s) h w at = from_over _ w
      indexed_from hole h w at = from_over _ w
      indexed_from (hole_after v) h w at = from_over _ w

    pub perform_sound : (t : Tree) → Well program scopes there k.may_call k.scope false t → Sound k (perform filling program called (resolved_tree k.scope t))
    perform_sound t h = bound (eval_sound false t h) (λ o. pures tt)

    pub test_sound : (t : Option Tree) → WellOption program scopes there k.may_call k.scope true t → Sound k (test_of filling program called (resolved_option k.scope t))
    test_sound None h = pures (pos 1)
    test_sound (Some t) h = used_sound (eval_sound true t h)

    pub step_sound : (t : Option Tree) → WellOption program scopes there k.may_call k.scope false t → Sound k (step_of filling program called (resolved_option k.scope t))
    step_sound None h = pures tt
    step_sound (Some t) h = perform_sound t h

    list_sound : (slot : Slot) (at : ℕ) (es : List Tree) → WellList program scopes there k.may_call k.scope es → Sound k (store_list filling program called slot at (map (resolved_tree k.scope) es))
    list_sound slot at [] h = pures tt
    list_sound slot at (e ∷ es) h = bound (used_sound (eval_sound true e h.0)) (λ v. bound (stores slot (pos at) v) (λ u. list_sound slot (suc at) es h.1))

  -- ---- declarations

  module _ (W : World → Type 0) (file : List Declaration) (may_call : Type 0) (at_hole : (ds : Names) → Contains scopes ds → (x : World) → IsTypedBy ds x → W x) (keep : CallsKeep W file may_call program called) (storage : Storage) (files : (n : ℕ) → AllWithin (before storage n) file) where
    -- where the variables before number n have their slots
    abbrev pub context : (n : ℕ) (ds : List Declaration) → AllWithin (before storage n) ds → Context
    context n ds h = record { waits = W; file = file; may_call = may_call; slots = before storage n; scope = ds; in_scope = h; in_file = files n }

    module _ (n : ℕ) (ty : Ty) (v : Variable) (ds : List Declaration) (h : AllWithin (before storage n) ds) where
      -- what the variable declares
      abbrev it : Declaration
      it = variable_declaration ty (numbered_variable (slot_in storage n) v)

      -- where it is declared
      abbrev inner : Context
      inner = context (suc n) (it ∷ ds) (within_cons storage n ty v ds h)

      pub has_typed : (w x : World) → At (context n ds h) w → Keeps (before storage n) w x → HasObject x (slot_in storage n) ty (is_array v.shape) → IsTypedBy (it ∷ ds) x
      has_typed w x at keeps has = All-cons (λ (c : Declaration). EntityHasObject x c.entity) it ds has (typed_moves (before storage n) ds w x h keeps at.typed)

      -- it is made, and what follows stands in its scope
      pub made_from : (count : ℕ) (rest : Run (Unit {0})) → (is_array v.shape ≡ false → count ≡ 1) → Sound inner rest → (w : World) → At (context n ds h) w
          → From W (before storage n) (λ u x. IsTypedBy (it ∷ ds) x) w ((make_variable ty (slot_in storage n) count >>= (λ u. rest)) w)
      made_from count rest one sound w at =
          from_bind (make_variable ty (slot_in storage n) count w) (λ u. rest) (variable_from storage n ty count (is_array v.shape) one w)
          (λ u x keeps has.
          let typed = has_typed w x at keeps has in
          from_other (before storage n) (λ a y. IsTypedBy (it ∷ ds) y) x (rest x)
          (λ a y more any. (keeps_fewer (before storage (suc n)) (before storage n) x y (before_more storage n (suc n) (omega arith)) more, typed_moves (before storage (suc n)) (it ∷ ds) x y (within_cons storage n ty v ds h) more typed))
          (sound.by x (record { typed = typed; of_file = λ c. typed_moves (before storage n) file w x (files n) keeps (at.of_file c) })))

      pub bare_from : (w : World) → At (context n ds h) w → From W (before storage n) (λ u x. IsTypedBy (it ∷ ds) x) w (make_variable ty (slot_in storage n) (cell_count v.shape 0) w)
      bare_from w at =
          from_other (before storage n) (λ u x. IsTypedBy (it ∷ ds) x) w (make_variable ty (slot_in storage n) (cell_count v.shape 0) w)
          (λ u x keeps has. (keeps, has_typed w x at keeps has))
          (variable_from storage n ty (cell_count v.shape 0) (is_array v.shape) (one_cell v.shape 0) w)

      pub object_from : (start : Initial) → WellInitial program scopes there may_call (it ∷ ds) start → (w : World) → At (context n ds h) w
          → From W (before storage n) (λ u x. IsTypedBy (it ∷ ds) x) w (declare_object filling program called ty (slot_in storage n) v.shape (resolved_initial (it ∷ ds) start) w)
      object_from bare_start well w at = bare_from w at
      object_from (one_start e) well w at =
          made_from (cell_count v.shape 1) _ (one_cell v.shape 1)
          (bound (used_sound (eval_sound inner at_hole keep true e well)) (λ a. bound (stores (slot_in storage n) (pos 0) a) (λ u. pures tt))) w at
      object_from (list_start es) well w at =
          let count = length (map (resolved_tree (it ∷ ds)) es) in
          made_from (cell_count v.shape count) _ (one_cell v.shape count)
          (bound (list_sound inner at_hole keep (slot_in storage n) 0 es well) (λ u. zeros_sound (slot_in storage n) count (cell_count v.shape count - count))) w at

    -- after a unit
    unit_from : (n : ℕ) (ds : List Declaration) (h : AllWithin (before storage n) ds) (Q : Unit {0} → World → Type 0) (m : Run (Unit {0})) → ((w : World) → At (context n ds h) w → From W (before storage n) Q w (m w))
        → (w : World) → At (context n ds h) w → From W (before storage n) Q w ((unit >> m) w)
    unit_from n ds h Q m f w at = from_bind (unit w) (λ u. m) (units.by w at) (λ u x keeps any. f x (at_moves (context n ds h) w x keeps at))

    pub local_from : (n : ℕ) (ty : Ty) (v : Variable) (ds : List Declaration) (h : AllWithin (before storage n) ds) (start : Initial) → WellInitial program scopes there may_call (it n ty v ds h ∷ ds) start → (w : World) → At (context n ds h) w
        → From W (before storage n) (λ u x. IsTypedBy (it n ty v ds h ∷ ds) x) w (declare_local filling program called ty (slot_in storage n) v.shape (resolved_initial (it n ty v ds h ∷ ds) start) w)
    local_from n ty v ds h bare_start well w at = bare_from n ty v ds h w at
    local_from n ty v ds h (one_start e) well w at = unit_from n ds h (λ u x. IsTypedBy (it n ty v ds h ∷ ds) x) _ (object_from n ty v ds h (one_start e) well) w at
    local_from n ty v ds h (list_start es) well w at = unit_from n ds h (λ u x. IsTypedBy (it n ty v ds h ∷ ds) x) _ (object_from n ty v ds h (list_start es) well) w at

    pub global_from : (n : ℕ) (ty : Ty) (v : Variable) (ds : List Declaration) (h : AllWithin (before storage n) ds) (start : Initial) → WellInitial program scopes there may_call (it n ty v ds h ∷ ds) start → (w : World) → At (context n ds h) w
        → From W (before storage n) (λ u x. IsTypedBy (it n ty v ds h ∷ ds) x) w (declare_global filling program called ty (slot_in storage n) v.shape (resolved_initial (it n ty v ds h ∷ ds) start) w)
    global_from n ty v ds h bare_start well w at =
        made_from n ty v ds h (cell_count v.shape 0) _ (one_cell v.shape 0) (zeros_sound (slot_in storage n) 0 (cell_count v.shape 0)) w at
    global_from n ty v ds h (one_start e) well w at = object_from n ty v ds h (one_start e) well w at
    global_from n ty v ds h (list_start es) well w at = object_from n ty v ds h (list_start es) well w at

    pub declare_from : (n : ℕ) (ty : Ty) (vs : List Variable) (here around : List Declaration) (h : AllWithin (before storage n) (here ++ around)) → WellVariables program scopes there may_call storage here around n ty vs
        → (w : World) → At (context n (here ++ around) h) w
        → From W (before storage n) (λ u x. IsTypedBy (declared ty (numbered (slot_in storage) n vs) here ++ around) x) w (declare filling program called ty (resolved_variables here around ty (numbered (slot_in storage) n vs)) w)
    declare_from n ty [] here around h well w at = from_going tt w (keeps_refl (before storage n) w) at.typed
    declare_from n ty (v ∷ vs) here around h well w at =
        let d = variable_declaration ty (numbered_variable (slot_in storage n) v) in
        let more = declare filling program called ty (resolved_variables (d ∷ here) around ty (numbered (slot_in storage) (suc n) vs)) in
        from_bind (declare_local filling program called ty (slot_in storage n) v.shape (resolved_initial (d ∷ (here ++ around)) v.start) w) (λ u. more)
        (local_from n ty v (here ++ around) h v.start well.0 w at)
        (λ u x keeps typed.
        from_other (before storage n) (λ u x. IsTypedBy (declared ty (numbered (slot_in storage) n (v ∷ vs)) here ++ around) x) x (more x)
        (λ b y k q. (keeps_fewer (before storage (suc n)) (before storage n) x y (before_more storage n (suc n) (omega arith)) k, q))
        (declare_from (suc n) ty vs (d ∷ here) around (within_cons storage n ty v (here ++ around) h) well.1 x
        (record { typed = typed; of_file = λ c. typed_moves (before storage n) file w x (files n) keeps (at.of_file c) })))

    pub globals_from : (n : ℕ) (ty : Ty) (vs : List Variable) (here around : List Declaration) (h : AllWithin (before storage n) (here ++ around)) → WellVariables program scopes there may_call storage here around n ty vs
        → (w : World) → At (context n (here ++ around) h) w
        → From W (before storage n) (λ u x. IsTypedBy (declared ty (numbered (slot_in storage) n vs) here ++ around) x) w (declare_globals filling program called ty (resolved_variables here around ty (numbered (slot_in storage) n vs)) w)
    globals_from n ty [] here around h well w at = from_going tt w (keeps_refl (before storage n) w) at.typed
    globals_from n ty (v ∷ vs) here around h well w at =
        let d = variable_declaration ty (numbered_variable (slot_in storage n) v) in
        let more = declare_globals filling program called ty (resolved_variables (d ∷ here) around ty (numbered (slot_in storage) (suc n) vs)) in
        from_bind (declare_global filling program called ty (slot_in storage n) v.shape (resolved_initial (d ∷ (here ++ around)) v.start) w) (λ u. more)
        (global_from n ty v (here ++ around) h v.start well.0 w at)
        (λ u x keeps typed.
        from_other (before storage n) (λ u x. IsTypedBy (declared ty (numbered (slot_in storage) n (v ∷ vs)) here ++ around) x) x (more x)
        (λ b y k q. (keeps_fewer (before storage (suc n)) (before storage n) x y (before_more storage n (suc n) (omega arith)) k, q))
        (globals_from (suc n) ty vs (d ∷ here) around (within_cons storage n ty v (here ++ around) h) well.1 x
        (record { typed = typed; of_file = λ c. typed_moves (before storage n) file w x (files n) keeps (at.of_file c) })))

  -- ---- statements

  module _ (W : World → Type 0) (file : List Declaration) (may_call : Type 0) (at_hole : (ds : Names) → Contains scopes ds → (x : World) → IsTypedBy ds x → W x) (keep : CallsKeep W file may_call program called) (files : (n : ℕ) → AllWithin (before Automatic n) file) where
    abbrev inside : (n : ℕ) (ds : List Declaration) → AllWithin (below n) ds → Context
    inside n ds h = context W file may_call at_hole keep Automatic files n ds h

    pub later : (n m : ℕ) (ds : List Declaration) → n ≤ m → AllWithin (below n) ds → AllWithin (below m) ds
    later n m ds le h = all_within_more (below n) (below m) (before_more Automatic n m le) ds h

    -- a part in which the slots begin later
    from_later : {A : Type 0} (n m : ℕ) (w : World) (o : Out A) → n ≤ m → From W (below m) Any w o → From W (below n) Any w o
    from_later n m w o le h = fewer_slots (below m) (below n) w o (before_more Automatic n m le) h

    sound_later : {A : Type 0} (n m : ℕ) (ds : List Declaration) (r : Run A) (h : AllWithin (below n) ds) (le : n ≤ m) → Sound (inside m ds (later n m ds le h)) r → Sound (inside n ds h) r
    sound_later n m ds r h le sound = record { by = λ w at. from_later n m w (r w) le (sound.by w (record { typed = at.typed; of_file = at.of_file })) }

    pub within_first : (n : ℕ) (i : First) (ds : List Declaration) → AllWithin (below n) ds → AllWithin (below (n + first_count i)) (first_declared (numbered_first n i) ++ ds)
    within_first n no_first ds h = later n (n + 0) ds (omega arith) h
    within_first n (first_act e) ds h = later n (n + 0) ds (omega arith) h
    within_first n (first_vars ty vs) ds h = within_declared Automatic n (n + length vs) ty vs [] ds refl h

    pub begin_from : (n : ℕ) (i : First) (ds : List Declaration) (h : AllWithin (below n) ds) → WellFirst program scopes there may_call ds n i → (w : World) → At (inside n ds h) w
        → From W (below n) (λ u x. IsTypedBy (first_declared (numbered_first n i) ++ ds) x) w (begin filling program called (resolved_first ds (numbered_first n i)) w)
    begin_from n no_first ds h well w at = from_going tt w (keeps_refl (below n) w) at.typed
    begin_from n (first_act e) ds h well w at =
        from_other (below n) (λ u x. IsTypedBy ds x) w (perform filling program called (resolved_tree ds e) w)
        (λ u x keeps any. (keeps, typed_moves (below n) ds w x h keeps at.typed))
        ((perform_sound (inside n ds h) at_hole keep e well).by w at)
    begin_from n (first_vars ty vs) ds h well w at = declare_from W file may_call at_hole keep Automatic files n ty vs [] ds h well w at

    -- what follows a part after which the scope is larger
    then_sound : {A B : Type 0} (n m : ℕ) (ds es : List Declaration) (h : AllWithin (below n) ds) (g : AllWithin (below m) es) → n ≤ m → (o : Run A) (r : Run B)
        → ((w : World) → At (inside n ds h) w → From W (below n) (λ u x. IsTypedBy es x) w (o w)) → Sound (inside m es g) r → Sound (inside n ds h) (o >> r)
    then_sound n m ds es h g le o r first rest = record {
      by = λ w at.
          from_bind (o w) (λ u. r) (first w at)
          (λ u x keeps typed. from_later n m x (r x) le (rest.by x (record { typed = typed; of_file = λ c. typed_moves (below n) file w x (files n) keeps (at.of_file c) })));
    }

    mutual
      pub exec_sound : (c : Code) (n : ℕ) (ds : List Declaration) (h : AllWithin (below n) ds) → WellCode program scopes there may_call ds n c → Sound (inside n ds h) (exec filling program called (resolved_code ds n c))
      exec_sound (empty s) n ds h well = pures Next
      exec_sound (act e s) n ds h well = bound units (λ x. bound (perform_sound (inside n ds h) at_hole keep e well) (λ y. pures Next))
      exec_sound (block body s) n ds h well = scope_sound _ (body_sound body n [] ds h well)
      exec_sound (if_then t a s) n ds h well =
          bound units (λ x. bound (used_sound (eval_sound (inside n ds h) at_hole keep true t well.0)) (λ v. on_zero_sound v _ _ (pures Next) (exec_sound a n ds h well.1)))
      exec_sound (if_else t a b s) n ds h well =
          bound units (λ x. bound (used_sound (eval_sound (inside n ds h) at_hole keep true t well.0)) (λ v. on_zero_sound v _ _
          (sound_later n (n + code_count a) ds _ h (omega arith) (exec_sound b (n + code_count a) ds (later n (n + code_count a) ds (omega arith) h) well.1.1))
          (exec_sound a n ds h well.1.0)))
      exec_sound (while t a s) n ds h well = loop_sound _ (test_turn_sound _ _ (pure tt) (used_sound (eval_sound (inside n ds h) at_hole keep true t well.0)) (exec_sound a n ds h well.1) (pures tt))
      exec_sound (do_while a t s) n ds h well = loop_sound _ (body_turn_sound _ _ (exec_sound a n ds h well.0) (used_sound (eval_sound (inside n ds h) at_hole keep true t well.1)))
      exec_sound (for i t u a s) n ds h well =
          let es = first_declared (numbered_first n i) ++ ds in
          let m = n + first_count i in
          let g = within_first n i ds h in
          scope_sound _ (then_sound n m ds es h g (omega arith) _ _ (begin_from n i ds h well.0)
          (loop_sound _ (test_turn_sound _ _ _ (test_sound (inside m es g) at_hole keep t well.1.0) (exec_sound a m es g well.1.1.1) (step_sound (inside m es g) at_hole keep u well.1.1.0))))
      exec_sound (give None s) n ds h well = jump_sound (Return None)
      exec_sound (give (Some e) s) n ds h well = bound units (λ x. bound (used_sound (eval_sound (inside n ds h) at_hole keep true e well)) (λ v. pures (Return (Some v))))
      exec_sound (break s) n ds h well = jump_sound Break
      exec_sound (continue s) n ds h well = jump_sound Continue

      pub body_sound : (b : Body) (n : ℕ) (here around : List Declaration) (h : AllWithin (below n) (here ++ around)) → WellBody program scopes there may_call here around n b → Sound (inside n (here ++ around) h) (run_body filling program called (resolved_body here around n b))
      body_sound done n here around h well = pures Next
      body_sound (next c rest) n here around h well =
          bound (exec_sound c n (here ++ around) h well.0) (λ flow. on_next_sound flow _
          (sound_later n (n + code_count c) (here ++ around) _ h (omega arith)
          (body_sound rest (n + code_count c) here around (later n (n + code_count c) (here ++ around) (omega arith) h) well.1)))
      body_sound (vars ty vs rest) n here around h well =
          let es = declared ty (numbered (slot_in Automatic) n vs) here in
          let m = n + length vs in
          let g = within_declared Automatic n m ty vs here around refl h in
          then_sound n m (here ++ around) (es ++ around) h g (omega arith) _ _
          (declare_from W file may_call at_hole keep Automatic files n ty vs here around h well.0)
          (body_sound rest m es around g well.1)
