-- Calls, the objects of file scope, and whole programs keep states typed.
use Rattle.std.proofs.Common.{◌≡◌, ◌≢◌, ℕ, zero, suc, ◌+◌, ℤ, pos, negsuc, List, [], ◌∷◌, ◌++◌, length, drop, Option, Some, None, Bool, true, false, is_some, refl, sym, ap, ◌∙◌, subst, arith, codes, append-nil}
use Rattle.std.specs.Prelude.{⊤, All, Contains}
use Rattle.std.specs.Str.{bytes_eq}
use Rattle.std.proofs.lemmas.List.Elements.{All-nil, All-cons}
use Rattle.c_tree.specs.declared.program.Param.{Param}
use Rattle.c_tree.specs.declared.stmt.Slot.{Slot}
use Rattle.c_tree.specs.declared.stmt.Slot.TheVariants.{Unset, Global, Local}
use Rattle.c_tree.specs.declared.stmt.Ty.{Ty}
use Rattle.c_tree.specs.declared.stmt.Ty.TheVariants.{Int}
use Rattle.c_tree.specs.Tree.{Variable, Body, Function, Outer, outer_vars, outer_func}
use Rattle.c_arith.specs.Arith.{fitting, byte_of}
use Rattle.c_stdio.specs.declared.scan.Scan.{Scan}
use Rattle.c_stdio.specs.declared.scan.Scan.TheVariants.{Number as Read, End as AtEnd, NoNumber, TooWide}
use Rattle.c_stdio.specs.Io.{Io}
use Rattle.c_stdio.specs.Output.{is_expected, expected_after}
use Rattle.c_stdio.specs.Scanning.{input_after}
use Rattle.c_types.specs.declared.scope.Declaration.{Declaration}
use Rattle.c_types.specs.declared.scope.Storage.TheVariants.{Static, Automatic}
use Rattle.c_types.specs.Programs.{param_declaration, params_declared, function_declaration, definition_faults}
use Rattle.c_types.specs.Slots.{slot_in, numbered, numbered_param, numbered_params, resolved_variables, resolved_body, resolved_definition, resolved_function, resolved_outers}
use Rattle.c_types.specs.Statements.{declared}
use Rattle.c_meaning.specs.declared.argument.Argument.{Argument}
use Rattle.c_meaning.specs.declared.argument.Argument.TheVariants.{Number, Array, Format, Place}
use Rattle.c_meaning.specs.declared.stop.End.TheVariants.{Trapped, Exit, Wrong}
use Rattle.c_meaning.specs.World.{World, Out, going, over, waiting, Run, pure, stop, lift, used, ◌>>◌}
use Rattle.c_meaning.specs.Steps.{unit, store, attach, number_of, scoped, framed, get_byte, scan, put_text, with_input, with_expected}
use Rattle.c_meaning.specs.Library.{one_number, call_getchar, call_putchar, numbers, text_with, call_printf, store_read, read_to, call_scanf, absolute, call_abs, call_exit, library}
use Rattle.c_meaning.specs.Meaning.{Filling, Called, definition, params_of, make_variable, run_body, bind_param, bind_params, enter_body, enter, user_call, calls, call_limit, make_globals, declare_globals, run_program}
use Rattle.run_laws.specs.Typed.{HasObject, EntityHasObject, IsTypedBy, Keeps, every_slot, IsSteady}
use Rattle.run_laws.specs.Holes.{Names}
use Rattle.run_laws.proofs.Well.{SuitsOne, Suits, WellVariables, WellDefinition}
use Rattle.run_laws.specs.Places.{HasSlotIn, below}
use Rattle.run_laws.proofs.Keeping.{AllWithin, all_within_more, keeps_refl, keeps_fewer, typed_moves, Any, From, from_going, from_over, from_other, from_bind, from_cond, store_keeps, scoped_keeps, framed_keeps, of_file, file_below, local_attached}
use Rattle.run_laws.proofs.Sound.{Context, At, Sound, bound, pures, stops, units, stores, lifts, some_sound, chosen, before, before_more, within_declared, variable_from, cells_from}
use Rattle.run_laws.specs.Reads.{Then, Inside}
use Rattle.run_laws.specs.Bodies.{FindsBody, FindsParam, FindsParams, InDefinition, InFunction, FindsCall, in_calls}
use Rattle.run_laws.proofs.Finding.{then_holds, then_made, CallsFind}
use Rattle.run_laws.proofs.Bodies.{body_finds}
use Rattle.run_laws.proofs.Leads.{Gives, body_left, main_gives}
use Rattle.run_laws.proofs.Runs.{fewer_slots, suits_moves, CallsKeep, globals_from, body_sound}

-- ---- the library

-- another test under way
with_io : (S : Slot → Type 0) (w : World) (io : Io) → Keeps S w (record w { io = io })
with_io S w io = record { names = λ slot s. names slot; lives = λ number object h. record { object = object; lives = h; same_type = refl; same_length = refl } }
  where
    names : (slot : Slot) → number_of slot (record w { io = io }) ≡ number_of slot w
    names (Local at) = refl
    names (Global at) = refl
    names Unset = refl

puts_from : (W : World → Type 0) (S : Slot → Type 0) (bytes : List ℕ) (v : ℤ) (w : World) → From W S Any w (put_text bytes v w)
puts_from W S bytes v w =
    let x = with_expected w (expected_after bytes w.io.expected) in
    from_cond (is_expected bytes w.io.expected) (going v x) (over Wrong x) (λ e. from_going v x (with_io S w x.io) tt) (λ e. from_over Wrong x)

module _ {k : Context} where
  gets : Sound k get_byte
  gets = record { by = λ w at. from_going _ _ (with_io k.slots w (with_input w (drop 1 w.io.input)).io) tt }

  scans : Sound k scan
  scans = record { by = λ w at. from_going _ _ (with_io k.slots w (with_input w (input_after w.io.input)).io) tt }

  puts : (bytes : List ℕ) (v : ℤ) → Sound k (put_text bytes v)
  puts bytes v = record { by = λ w at. puts_from k.waits k.slots bytes v w }

  one_number_sound : (gs : List Argument) → Sound k (one_number gs)
  one_number_sound [] = stops Trapped
  one_number_sound (Number v ∷ []) = pures v
  one_number_sound (Number v ∷ a ∷ gs) = stops Trapped
  one_number_sound (Array n ∷ gs) = stops Trapped
  one_number_sound (Format f ∷ gs) = stops Trapped
  one_number_sound (Place slot i ∷ gs) = stops Trapped

  getchar_sound : (gs : List Argument) → Sound k (call_getchar gs)
  getchar_sound [] = some_sound gets
  getchar_sound (a ∷ gs) = stops Trapped

  putchar_sound : (gs : List Argument) → Sound k (call_putchar gs)
  putchar_sound gs = bound (one_number_sound gs) (λ v. some_sound (puts (byte_of v ∷ []) (pos (byte_of v))))

  printf_sound : (gs : List Argument) → Sound k (call_printf gs)
  printf_sound [] = stops Trapped
  printf_sound (Number v ∷ gs) = stops Trapped
  printf_sound (Array n ∷ gs) = stops Trapped
  printf_sound (Format f ∷ gs) = bound (lifts (numbers gs)) (λ vs. some_sound (bound (lifts (text_with f vs)) (λ bytes. puts bytes (pos (length bytes)))))
  printf_sound (Place slot i ∷ gs) = stops Trapped

  store_read_sound : (slot : Slot) (i : ℤ) (found : Scan) → Sound k (store_read slot i found)
  store_read_sound slot i (Read v) = bound (stores slot i v) (λ u. pures (pos 1))
  store_read_sound slot i AtEnd = pures (negsuc 0)
  store_read_sound slot i NoNumber = pures (pos 0)
  store_read_sound slot i TooWide = stops Trapped

  read_to_sound : (gs : List Argument) → Sound k (read_to gs)
  read_to_sound [] = stops Trapped
  read_to_sound (Number v ∷ gs) = stops Trapped
  read_to_sound (Array n ∷ gs) = stops Trapped
  read_to_sound (Format f ∷ gs) = stops Trapped
  read_to_sound (Place slot i ∷ []) = bound scans (λ found. some_sound (store_read_sound slot i found))
  read_to_sound (Place slot i ∷ a ∷ gs) = stops Trapped

  scanf_sound : (gs : List Argument) → Sound k (call_scanf gs)
  scanf_sound [] = stops Trapped
  scanf_sound (Number v ∷ gs) = stops Trapped
  scanf_sound (Array n ∷ gs) = stops Trapped
  scanf_sound (Format f ∷ gs) = chosen (bytes_eq f (codes "%d")) (read_to gs) (stop Trapped) (read_to_sound gs) (stops Trapped)
  scanf_sound (Place slot i ∷ gs) = stops Trapped

  abs_sound : (gs : List Argument) → Sound k (call_abs gs)
  abs_sound gs = bound (one_number_sound gs) (λ v. some_sound (lifts (fitting Int (absolute v))))

  exit_sound : (gs : List Argument) → Sound k (call_exit gs)
  exit_sound gs = bound (one_number_sound gs) (λ v. stops (Exit v))

no_declaration : (S : Slot → Type 0) → AllWithin S []
no_declaration S = All-nil (λ (d : Declaration). HasSlotIn S d.entity)

none_typed : (w : World) → IsTypedBy [] w
none_typed w = All-nil (λ (d : Declaration). EntityHasObject w d.entity)

-- a context in which nothing is in scope
abbrev nowhere : (World → Type 0) → Context
nowhere W = record { waits = W; file = []; may_call = ⊥; slots = every_slot; scope = []; in_scope = no_declaration every_slot; in_file = no_declaration every_slot }

at_nowhere : (W : World → Type 0) (w : World) → At (nowhere W) w
at_nowhere W w = record { typed = none_typed w; of_file = λ c. none_typed w }

library_from : (W : World → Type 0) (word : List ℕ) (gs : List Argument) (m : Run (Option ℤ)) (w : World) → From W every_slot Any w (m w) → From W every_slot Any w (library word gs m w)
library_from W word gs m w h =
    let at = at_nowhere W w in
    from_cond (bytes_eq word (codes "getchar")) (call_getchar gs w) _ (λ e. (getchar_sound {k = nowhere W} gs).by w at) (λ e.
    from_cond (bytes_eq word (codes "putchar")) (call_putchar gs w) _ (λ e. (putchar_sound {k = nowhere W} gs).by w at) (λ e.
    from_cond (bytes_eq word (codes "printf")) (call_printf gs w) _ (λ e. (printf_sound {k = nowhere W} gs).by w at) (λ e.
    from_cond (bytes_eq word (codes "scanf")) (call_scanf gs w) _ (λ e. (scanf_sound {k = nowhere W} gs).by w at) (λ e.
    from_cond (bytes_eq word (codes "abs")) (call_abs gs w) _ (λ e. (abs_sound {k = nowhere W} gs).by w at) (λ e.
    from_cond (bytes_eq word (codes "exit")) (call_exit gs w) (m w) (λ e. (exit_sound {k = nowhere W} gs).by w at) (λ e. h))))))

-- ---- parameters

within_param : (n : ℕ) (p : Param) (ds : List Declaration) → AllWithin (below n) ds → AllWithin (below (suc n)) (param_declaration (numbered_param n p) ∷ ds)
within_param n p ds h =
    All-cons (λ (d : Declaration). HasSlotIn (below (suc n)) d.entity) _ ds (omega arith) (all_within_more (below n) (below (suc n)) (before_more Automatic n (suc n) (omega arith)) ds h)

within_params : (n m : ℕ) (ps : List Param) (here around : List Declaration) → n + length ps ≡ m → AllWithin (below n) (here ++ around) → AllWithin (below m) (params_declared (numbered_params n ps) here ++ around)
within_params n m [] here around e h = all_within_more (below n) (below m) (before_more Automatic n m (omega arith)) (here ++ around) h
within_params n m (p ∷ ps) here around e h = within_params (suc n) m ps (param_declaration (numbered_param n p) ∷ here) around (omega arith) (within_param n p (here ++ around) h)

-- nothing is said of a state
abbrev every_world : World → Type 0
every_world w = ⊤

-- the slots of parameters are set
params_set : (n : ℕ) (ps : List Param) → All (λ (p : Param). p.slot ≢ Unset) (numbered_params n ps)
params_set n [] = All-nil (λ (p : Param). p.slot ≢ Unset)
params_set n (p ∷ ps) = All-cons (λ (p : Param). p.slot ≢ Unset) (numbered_param n p) (numbered_params (suc n) ps) (λ h. cc) (params_set (suc n) ps)

no_array : (b : Bool) (n : ℕ) → b ≡ true → b ≡ false → n ≡ 1
no_array b n h k = absurd (cc)

has_param : (n : ℕ) (p : Param) (ds : List Declaration) (w x : World) → AllWithin (below n) ds → IsTypedBy ds w → Keeps (below n) w x → HasObject x (Local n) p.ty p.array → IsTypedBy (param_declaration (numbered_param n p) ∷ ds) x
has_param n p ds w x h typed keeps has = All-cons (λ (c : Declaration). EntityHasObject x c.entity) _ ds has (typed_moves (below n) ds w x h keeps typed)

module _ {W : World → Type 0} where
  param_from : (n : ℕ) (p : Param) (a : Argument) (ds : List Declaration) (w : World) → AllWithin (below n) ds → IsTypedBy ds w → SuitsOne p.array p.ty a w
      → From W (below n) (λ u x. IsTypedBy (param_declaration (numbered_param n p) ∷ ds) x) w (bind_param p.ty (Local n) a w)
  param_from n p (Number v) ds w h typed suits =
      from_bind (make_variable p.ty (Local n) 1 w) _ (variable_from Automatic n p.ty 1 p.array (λ e. refl) w)
      (λ u x keeps has.
      let all = has_param n p ds w x h typed keeps has in
      from_other (below n) (λ u y. IsTypedBy (param_declaration (numbered_param n p) ∷ ds) y) x _
      (λ a y more any. (keeps_fewer (below (suc n)) (below n) x y (before_more Automatic n (suc n) (omega arith)) more, typed_moves (below (suc n)) (param_declaration (numbered_param n p) ∷ ds) x y (within_param n p ds h) more all))
      (from_bind (store (Local n) (pos 0) v x) (λ u. pure tt) (store_keeps (below (suc n)) (Local n) (pos 0) v x) (λ u y more any. from_going {Q = Any} tt y (keeps_refl (below (suc n)) y) tt)))
  param_from n p (Array m) ds w h typed suits =
      from_other (below n) (λ u x. IsTypedBy (param_declaration (numbered_param n p) ∷ ds) x) w (attach (Local n) m w)
      (λ u x keeps has. (keeps, has_param n p ds w x h typed keeps has))
      (local_attached n m w suits.1.object p.ty p.array suits.1.lives suits.1.typed (no_array p.array _ suits.0))
  param_from n p (Format f) ds w h typed suits = from_over _ w
  param_from n p (Place slot i) ds w h typed suits = from_over _ w

  params_from : (n : ℕ) (ps : List Param) (gs : List Argument) (here around : List Declaration) (w : World) → AllWithin (below n) (here ++ around) → IsTypedBy (here ++ around) w → Suits (numbered_params n ps) gs w
      → From W (below n) (λ u x. IsTypedBy (params_declared (numbered_params n ps) here ++ around) x) w (bind_params (numbered_params n ps) gs w)
  params_from n [] [] here around w h typed suits = from_going tt w (keeps_refl (below n) w) typed
  params_from n [] (a ∷ gs) here around w h typed suits = from_over _ w
  params_from n (p ∷ ps) [] here around w h typed suits = from_over _ w
  params_from n (p ∷ ps) (a ∷ gs) here around w h typed suits =
      let d = param_declaration (numbered_param n p) in
      let rest = bind_params (numbered_params (suc n) ps) gs in
      from_bind (bind_param p.ty (Local n) a w) (λ u. rest) (param_from n p a (here ++ around) w h typed suits.0)
      (λ u x keeps all.
      from_other (below n) (λ u x. IsTypedBy (params_declared (numbered_params n (p ∷ ps)) here ++ around) x) x (rest x)
      (λ b y more q. (keeps_fewer (below (suc n)) (below n) x y (before_more Automatic n (suc n) (omega arith)) more, q))
      (params_from (suc n) ps gs (d ∷ here) around x (within_param n p (here ++ around) h) all (suits_moves (below n) w x (numbered_params (suc n) ps) gs keeps suits.1)))

then_each : {A : Type 0} (o : Out A) (T : A → World → Type 0) → ((a : A) (x : World) → T a x) → Then o T
then_each (going a x) T h = h a x
then_each (over e x) T h = tt
then_each (waiting old x) T h = tt

-- a number is stored where it can be
param_finds : (n : ℕ) (p : Param) (a : Argument) (w : World) → FindsParam (numbered_param n p) a w
param_finds n p (Number v) w =
    then_made {W = every_world} (make_variable p.ty (Local n) 1 w) _ (cells_from {W = every_world} Automatic n p.ty 1 w) (λ u x keeps cells. cells)
param_finds n p (Array m) w = tt
param_finds n p (Format f) w = tt
param_finds n p (Place slot i) w = tt

params_find : (n : ℕ) (ps : List Param) (gs : List Argument) (w : World) → FindsParams (numbered_params n ps) gs w
params_find n [] gs w = tt
params_find n (p ∷ ps) [] w = tt
params_find n (p ∷ ps) (a ∷ gs) w = (param_finds n p a w, then_each (bind_param p.ty (Local n) a w) _ (λ u x. params_find (suc n) ps gs x))

-- ---- functions

pub of_file_below : (n : ℕ) (slot : Slot) → of_file slot → below n slot
of_file_below n (Local at) h = absurd h
of_file_below n (Global at) h = tt
of_file_below n Unset h = tt

module _ (program : List Outer) (scopes : List Names) (file : List Declaration) where
  -- the body of a definition has no fault
  abbrev pub BodyFaultless : List Declaration → Function → Option Body → Type 0
  BodyFaultless around f body =
      definition_faults f.ret (params_declared (numbered_params 0 f.params) []) around (resolved_definition (params_declared (numbered_params 0 f.params) []) around (length f.params) body) ≡ []

  -- a definition stands in the program: the declarations before it are those of the file, and its body is well-formed
  pub record IsKnown (f : Function) : Type 0 where
    pub around : List Declaration
    pub written : Function
    pub is : f ≡ resolved_function around written
    pub in_file : (w : World) → IsTypedBy file w → IsTypedBy around w
    pub at_file : AllWithin of_file around
    pub well : WellDefinition program scopes ⊤ ⊤ (params_declared (numbered_params 0 written.params) []) around (length written.params) written.body
    pub faultless : BodyFaultless around written written.body

  abbrev pub IsKnownIfAny : Option Function → Type 0
  IsKnownIfAny None = ⊤
  IsKnownIfAny (Some f) = IsKnown f

module _ (filling : Filling) (steady : IsSteady filling) (program : List Outer) (scopes : List Names) (file : List Declaration) (W : World → Type 0)
    (at_hole : (ds : Names) → Contains scopes ds → (x : World) → IsTypedBy ds x → W x) (at_file : AllWithin of_file file) (known : (word : List ℕ) → IsKnownIfAny program scopes file (definition word program)) where
  empty_frame : (x : World) → Keeps of_file x (record x { frame = [] })
  empty_frame x = record { names = names; lives = λ number object h. record { object = object; lives = h; same_type = refl; same_length = refl } }
    where
      names : (slot : Slot) → of_file slot → number_of slot (record x { frame = [] }) ≡ number_of slot x
      names (Local at) h = absurd h
      names (Global at) h = refl
      names Unset h = refl

  pub files : (n : ℕ) → AllWithin (before Automatic n) file
  files n = all_within_more of_file (below n) (of_file_below n) file at_file

  module _ (called : Called) (keep : CallsKeep W file ⊤ program called) where
    body_from : (around : List Declaration) (f : Function) (body : Option Body) (gs : List Argument) (w : World) → AllWithin of_file around → IsTypedBy around w → IsTypedBy file w → Suits (numbered_params 0 f.params) gs w
        → WellDefinition program scopes ⊤ ⊤ (params_declared (numbered_params 0 f.params) []) around (length f.params) body
        → From W every_slot Any w (enter_body (run_body filling program called) (resolved_function around f) (resolved_definition (params_declared (numbered_params 0 f.params) []) around (length f.params) body) gs w)
    body_from around f None gs w outer typed all suits well = from_over _ w
    body_from around f (Some body) gs w outer typed all suits well =
        let ps = numbered_params 0 f.params in
        let here = params_declared ps [] in
        let n = length f.params in
        let within : AllWithin (below n) (here ++ around) = within_params 0 n f.params [] around (omega arith) (all_within_more of_file (below 0) (of_file_below 0) around outer) in
        let sound = body_sound filling steady program scopes ⊤ called W file ⊤ at_hole keep files body n here around within well in
        from_bind (unit w) _ ((units {k = nowhere W}).by w (at_nowhere W w))
        (λ u x keeps any.
        let y : World = record x { frame = [] } in
        let emptied : Keeps of_file x y = empty_frame x in
        let typed_there : IsTypedBy around y = typed_moves of_file around x y outer emptied (typed_moves every_slot around w x (all_within_more of_file every_slot (λ slot s. tt) around outer) keeps typed) in
        let file_there : IsTypedBy file y = typed_moves of_file file x y at_file emptied (typed_moves every_slot file w x (all_within_more of_file every_slot (λ slot s. tt) file at_file) keeps all) in
        let suits_there = suits_moves of_file x y ps gs emptied (suits_moves every_slot w x ps gs keeps suits) in
        let run : From W of_file Any y ((bind_params ps gs >> run_body filling program called (resolved_body here around n body)) y) =
        from_bind (bind_params ps gs y) _ (from_other of_file (λ u z. IsTypedBy (here ++ around) z) y (bind_params ps gs y) (λ u z k q. (keeps_fewer (below 0) of_file y z (of_file_below 0) k, q)) (params_from 0 f.params gs [] around y (all_within_more of_file (below 0) (of_file_below 0) around outer) typed_there suits_there))
        (λ u z more good. fewer_slots (below n) of_file z _ (of_file_below n) (sound.by z (record { typed = good; of_file = λ c. typed_moves of_file file y z at_file more file_there }))) in
        from_bind (framed (scoped (bind_params ps gs >> run_body filling program called (resolved_body here around n body))) x) _
        (framed_keeps x (scoped (bind_params ps gs >> run_body filling program called (resolved_body here around n body))) (scoped_keeps (bind_params ps gs >> run_body filling program called (resolved_body here around n body)) run))
        (λ flow z more any. from_going _ z (keeps_refl every_slot z) tt))

    call_from : (o : Option Function) (gs : List Argument) (w : World) → IsKnownIfAny program scopes file o → IsTypedBy file w → Suits (params_of o) gs w → From W every_slot Any w (enter (run_body filling program called) o gs w)
    call_from None gs w is all suits = from_over _ w
    call_from (Some f) gs w is all suits =
        let raw = resolved_function is.around is.written in
        subst (λ (g : Function). From W every_slot Any w (enter (run_body filling program called) (Some g) gs w)) (sym is.is)
        (body_from is.around is.written is.written.body gs w is.at_file (is.in_file w all) all (subst (λ (g : Function). Suits g.params gs w) is.is suits) is.well)

    module _ (inside : Inside) (enter : CallsFind file ⊤ program inside) where
      body_found : (around : List Declaration) (f : Function) (body : Option Body) (gs : List Argument) (w : World) → AllWithin of_file around → IsTypedBy around w → IsTypedBy file w → Suits (numbered_params 0 f.params) gs w
          → WellDefinition program scopes ⊤ ⊤ (params_declared (numbered_params 0 f.params) []) around (length f.params) body
          → BodyFaultless program scopes file around f body
          → InDefinition (FindsBody filling program called inside) (run_body filling program called) (resolved_function around f) (resolved_definition (params_declared (numbered_params 0 f.params) []) around (length f.params) body) gs w
      body_found around f None gs w outer typed all suits well free = tt
      body_found around f (Some body) gs w outer typed all suits well free =
          let ps = numbered_params 0 f.params in
          let here = params_declared ps [] in
          let n = length f.params in
          let within : AllWithin (below n) (here ++ around) = within_params 0 n f.params [] around (omega arith) (all_within_more of_file (below 0) (of_file_below 0) around outer) in (
            params_set 0 f.params,
            then_holds (unit w) _ ((units {k = nowhere W}).by w (at_nowhere W w))
                (λ u x keeps.
                let y : World = record x { frame = [] } in
                let emptied : Keeps of_file x y = empty_frame x in
                let typed_there : IsTypedBy around y = typed_moves of_file around x y outer emptied (typed_moves every_slot around w x (all_within_more of_file every_slot (λ slot s. tt) around outer) keeps typed) in
                let file_there : IsTypedBy file y = typed_moves of_file file x y at_file emptied (typed_moves every_slot file w x (all_within_more of_file every_slot (λ slot s. tt) file at_file) keeps all) in
                let suits_there = suits_moves of_file x y ps gs emptied (suits_moves every_slot w x ps gs keeps suits) in (
                  params_find 0 f.params gs y,
                  then_made {W = W} (bind_params ps gs y) _ (params_from 0 f.params gs [] around y (all_within_more of_file (below 0) (of_file_below 0) around outer) typed_there suits_there)
                      (λ o z more good. (
                        body_finds filling steady program scopes ⊤ tt called inside W file ⊤ at_hole keep enter files body n here around within well z
                            (record { typed = good; of_file = λ c. typed_moves of_file file y z at_file (keeps_fewer (below 0) of_file y z (of_file_below 0) more) file_there }),
                        body_left filling program called f.ret (resolved_body here around n body) here around free z,
                      )),
                )),
          )

      call_found : (o : Option Function) (gs : List Argument) (w : World) → IsKnownIfAny program scopes file o → IsTypedBy file w → Suits (params_of o) gs w → InFunction (FindsBody filling program called inside) (run_body filling program called) o gs w
      call_found None gs w is all suits = tt
      call_found (Some f) gs w is all suits =
          subst (λ (g : Function). InFunction (FindsBody filling program called inside) (run_body filling program called) (Some g) gs w) (sym is.is)
          (body_found is.around is.written is.written.body gs w is.at_file (is.in_file w all) all (subst (λ (g : Function). Suits g.params gs w) is.is suits) is.well is.faultless)

  user_from : (n : ℕ) (o : Option Function) (gs : List Argument) (w : World) → IsKnownIfAny program scopes file o → IsTypedBy file w → Suits (params_of o) gs w → From W every_slot Any w (user_call filling program n o gs w)
  unfolding user_call
  user_from zero o gs w is all suits = from_over _ w
  user_from (suc n) o gs w is all suits =
      call_from (calls filling program n)
      (λ word given x c typed good. library_from W word given (user_call filling program n (definition word program) given) x (user_from n (definition word program) given x (known word) typed good))
      o gs w is all suits

  pub calls_keep : (n : ℕ) → CallsKeep W file ⊤ program (calls filling program n)
  calls_keep n word gs w c typed suits = library_from W word gs (user_call filling program n (definition word program) gs) w (user_from n (definition word program) gs w (known word) typed suits)

  pub found_in : (n : ℕ) (o : Option Function) (gs : List Argument) (w : World) → IsKnownIfAny program scopes file o → IsTypedBy file w → Suits (params_of o) gs w → FindsCall filling program n o gs w
  unfolding FindsCall
  found_in zero o gs w is all suits = tt
  found_in (suc n) o gs w is all suits =
      call_found (calls filling program n) (calls_keep n) (λ word given x. FindsCall filling program n (definition word program) given x)
      (λ word given x c typed good. found_in n (definition word program) given x (known word) typed good) o gs w is all suits

  -- a call of `main` gives a value
  pub main_called : (n : ℕ) (f : Function) (gs : List Argument) → IsKnown program scopes file f → bytes_eq f.word (codes "main") ≡ true → is_some f.ret ≡ true
      → Gives (λ o. is_some o ≡ true) (user_call filling program n (Some f) gs)
  unfolding user_call
  main_called zero f gs is named has = record { by = λ w. tt }
  main_called (suc n) f gs is named has =
      let around = is.around in
      let raw = resolved_function around is.written in
      subst (λ (g : Function). Gives (λ o. is_some o ≡ true) (enter (run_body filling program (calls filling program n)) (Some g) gs)) (sym is.is)
      (main_gives filling program (calls filling program n) raw raw.body (params_declared (numbered_params 0 is.written.params) []) around gs
      (ap (λ (g : Function). bytes_eq g.word (codes "main")) (sym is.is) ∙ named) (ap (λ (g : Function). is_some g.ret) (sym is.is) ∙ has) is.faultless)

  pub calls_find : (n : ℕ) → CallsFind file ⊤ program (in_calls filling program n)
  calls_find n word gs x c typed suits = found_in n (definition word program) gs x (known word) typed suits

  pub main_from : (w : World) → IsTypedBy file w → From W every_slot Any w (used (user_call filling program call_limit (definition (codes "main") program) []) w)
  main_from w typed =
      from_bind (user_call filling program call_limit (definition (codes "main") program) [] w) lift (user_from call_limit (definition (codes "main") program) [] w (known (codes "main")) typed tt)
      (λ o x keeps any. (lifts {k = nowhere W} o).by x (at_nowhere W x))

-- ---- the objects of file scope

-- the declarations at file scope after all that follows, where some stand there before, with slots from number n on
abbrev pub scope_at_end : List Outer → List Declaration → ℕ → List Outer → List Declaration
scope_at_end file here n [] = here
scope_at_end file here n (outer_vars ty vs ∷ rest) = scope_at_end file (declared ty (numbered (slot_in Static) n vs) here) (n + length vs) rest
scope_at_end file here n (outer_func f ∷ rest) = scope_at_end file (function_declaration file f ∷ here) n rest

-- the initialisers of file scope are well-formed
abbrev pub WellGlobals : List Outer → List Names → List Outer → List Declaration → ℕ → List Outer → Type 0
WellGlobals program scopes file here n [] = ⊤
WellGlobals program scopes file here n (outer_vars ty vs ∷ rest) =
    WellVariables program scopes ⊤ ⊥ Static here [] n ty vs × WellGlobals program scopes file (declared ty (numbered (slot_in Static) n vs) here) (n + length vs) rest
WellGlobals program scopes file here n (outer_func f ∷ rest) = WellGlobals program scopes file (function_declaration file f ∷ here) n rest

-- no slot
abbrev pub no_slot : Slot → Type 0
no_slot slot = ⊥

none_kept : (S : Slot → Type 0) (w x : World) → Keeps S w x → Keeps no_slot w x
none_kept S w x k = keeps_fewer S no_slot w x (λ slot s. absurd s) k

pub within_globals : (n : ℕ) (ty : Ty) (vs : List Variable) (here : List Declaration) → AllWithin (file_below n) here → AllWithin (file_below (n + length vs)) (declared ty (numbered (slot_in Static) n vs) here)
within_globals n ty vs here h =
    subst (λ (ds : List Declaration). AllWithin (file_below (n + length vs)) ds) (append-nil (declared ty (numbered (slot_in Static) n vs) here))
    (within_declared Static n (n + length vs) ty vs here [] refl (subst (λ (ds : List Declaration). AllWithin (file_below n) ds) (sym (append-nil here)) h))

module _ (filling : Filling) (steady : IsSteady filling) (program : List Outer) (scopes : List Names) (W : World → Type 0) (at_hole : (ds : Names) → Contains scopes ds → (x : World) → IsTypedBy ds x → W x) (called : Called) (file : List Outer) where
  pub variables_from : (n : ℕ) (ty : Ty) (vs : List Variable) (here : List Declaration) → AllWithin (file_below n) here → WellVariables program scopes ⊤ ⊥ Static here [] n ty vs → (w : World) → IsTypedBy here w
      → From W no_slot (λ u x. IsTypedBy (declared ty (numbered (slot_in Static) n vs) here) x) w (declare_globals filling program called ty (resolved_variables here [] ty (numbered (slot_in Static) n vs)) w)
  variables_from n ty vs here h well w typed =
      let ends = declared ty (numbered (slot_in Static) n vs) here in
      from_other no_slot (λ u x. IsTypedBy ends x) w (declare_globals filling program called ty (resolved_variables here [] ty (numbered (slot_in Static) n vs)) w)
      (λ u x k q. (none_kept (file_below n) w x k, subst (λ (ds : List Declaration). IsTypedBy ds x) (append-nil ends) q))
      (globals_from filling steady program scopes ⊤ called W [] ⊥ at_hole (λ word gs x c t s. absurd c) Static (λ m. no_declaration (file_below m)) n ty vs here []
      (subst (λ (ds : List Declaration). AllWithin (file_below n) ds) (sym (append-nil here)) h) well w
      (record { typed = subst (λ (ds : List Declaration). IsTypedBy ds w) (sym (append-nil here)) typed; of_file = λ c. absurd c }))

  pub globals_made : (p : List Outer) (here : List Declaration) (n : ℕ) → AllWithin (file_below n) here → WellGlobals program scopes file here n p → (w : World) → IsTypedBy here w
      → From W no_slot (λ u x. IsTypedBy (scope_at_end file here n p) x) w (make_globals filling program called (resolved_outers file here n p) w)
  globals_made [] here n h well w typed = from_going tt w (keeps_refl no_slot w) typed
  globals_made (outer_vars ty vs ∷ p) here n h well w typed =
      let more = declared ty (numbered (slot_in Static) n vs) here in
      from_bind (declare_globals filling program called ty (resolved_variables here [] ty (numbered (slot_in Static) n vs)) w) (λ u. make_globals filling program called (resolved_outers file more (n + length vs) p))
      (variables_from n ty vs here h well.0 w typed)
      (λ u x keeps good. globals_made p more (n + length vs) (within_globals n ty vs here h) well.1 x good)
  globals_made (outer_func f ∷ p) here n h well w typed =
      globals_made p (function_declaration file f ∷ here) n (All-cons (λ (d : Declaration). HasSlotIn (file_below n) d.entity) _ here tt h) well w (All-cons (λ (d : Declaration). EntityHasObject w d.entity) _ here tt typed)

-- ---- the program

module _ (filling : Filling) (steady : IsSteady filling) (program : List Outer) (scopes : List Names) (file : List Outer) (here : List Declaration) (W : World → Type 0)
    (at_hole : (ds : Names) → Contains scopes ds → (x : World) → IsTypedBy ds x → W x) (at_file : AllWithin of_file (scope_at_end file here 0 file)) (begins : AllWithin (file_below 0) here)
    (known : (word : List ℕ) → IsKnownIfAny program scopes (scope_at_end file here 0 file) (definition word program)) (globals : WellGlobals program scopes file here 0 file) (is : resolved_outers file here 0 file ≡ program) where
  pub program_from : (w : World) → IsTypedBy here w → From W no_slot Any w (run_program filling program w)
  program_from w typed =
      let called = calls filling program call_limit in
      from_bind (make_globals filling program called program w) _
      (subst (λ (q : List Outer). From W no_slot (λ u x. IsTypedBy (scope_at_end file here 0 file) x) w (make_globals filling program called q w)) is
      (globals_made filling steady program scopes W at_hole called file file here 0 begins globals w typed))
      (λ u x keeps good. fewer_slots every_slot no_slot x _ (λ slot s. tt) (main_from filling steady program scopes (scope_at_end file here 0 file) W at_hole at_file known x good))
