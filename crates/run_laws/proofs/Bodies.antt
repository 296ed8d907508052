-- In the statements and declarations of a checked program each name finds its object.
use Rattle.std.proofs.Common.{◌≡◌, ◌≢◌, ℕ, zero, suc, ◌+◌, ◌≤◌, ℤ, pos, List, [], ◌∷◌, ◌++◌, length, map, Option, Some, None, Bool, true, false, refl, ◌∙◌, arith}
use Rattle.std.specs.Prelude.{⊤, Contains}
use Rattle.c_tree.specs.declared.stmt.Slot.{Slot}
use Rattle.c_tree.specs.declared.stmt.Slot.TheVariants.{Unset}
use Rattle.c_tree.specs.declared.stmt.Ty.{Ty}
use Rattle.c_tree.specs.Tree.{Tree, Initial, bare_start, one_start, list_start, Variable, First, no_first, first_act, first_vars, Code, empty, act, block, if_then, if_else, while, do_while, for, give, break, continue, Body, done, next, vars, Outer}
use Rattle.c_arith.specs.Arith.{is_zero}
use Rattle.c_types.specs.declared.scope.Declaration.{Declaration}
use Rattle.c_types.specs.declared.scope.Storage.{Storage}
use Rattle.c_types.specs.declared.scope.Storage.TheVariants.{Static, Automatic}
use Rattle.c_types.specs.Slots.{first_count, code_count, slot_in, numbered_variable, numbered, numbered_first, resolved_tree, resolved_option, resolved_initial, resolved_variables, resolved_first, resolved_code, resolved_body}
use Rattle.c_types.specs.Statements.{is_array, variable_declaration, declared, first_declared}
use Rattle.c_meaning.specs.declared.stop.Flow.{Flow}
use Rattle.c_meaning.specs.declared.stop.Flow.TheVariants.{Next, Break, Continue, Return}
use Rattle.c_meaning.specs.World.{World, Out, going, over, waiting, Run, and_then, pure, used, ◌>>◌}
use Rattle.c_meaning.specs.Steps.{unit, store}
use Rattle.c_meaning.specs.Meaning.{Filling, Called, cell_count, make_variable, eval, declare_local, declare, begin, exec, declare_global}
use Rattle.run_laws.specs.Typed.{HasCells, IsTypedBy, Keeps, IsSteady}
use Rattle.run_laws.specs.Holes.{Names}
use Rattle.run_laws.specs.Places.{below}
use Rattle.run_laws.specs.Reads.{Then, Inside, Finds}
use Rattle.run_laws.specs.Bodies.{IfNext, IfStays, IfAgain, InTestTurn, InBodyTurn, InTurns, unit_for, listed, cells_made, HoldsList, FindsOption, FindsList, FindsInitial, FindsLocals, FindsGlobals, FindsFirst, FindsCode, FindsBody}
use Rattle.run_laws.proofs.Well.{Well, WellOption, WellList, WellInitial, WellVariables, WellFirst, WellCode, WellBody}
use Rattle.run_laws.proofs.Keeping.{AllWithin, typed_moves}
use Rattle.run_laws.proofs.Sound.{Context, At, Sound, at_moves, units, stores, pures, used_sound, test_turn_sound, body_turn_sound, before, own_before, within_cons, within_declared, variable_from, cells_from, one_cell}
use Rattle.run_laws.proofs.Runs.{CallsKeep, eval_sound, test_sound, step_sound, has_typed, local_from, global_from, declare_from, within_first, later, begin_from, exec_sound}
use Rattle.run_laws.proofs.Finding.{then_holds, then_made, then_both, chosen_by, CallsFind, finds}

if_next : (f : Flow) (P : Type 0) → P → IfNext f P
if_next Next P p = p
if_next Break P p = tt
if_next Continue P p = tt
if_next (Return v) P p = tt

if_stays : (f : Flow) (P : Type 0) → P → IfStays f P
if_stays Next P p = p
if_stays Continue P p = p
if_stays Break P p = tt
if_stays (Return v) P p = tt

if_again : (o : Option Flow) (P : Type 0) → P → IfAgain o P
if_again (Some f) P p = tt
if_again None P p = p

-- a slot that is kept still names an object of as many cells
cells_move : (S : Slot → Type 0) (w x : World) (slot : Slot) (count : ℕ) → S slot → Keeps S w x → HasCells w slot count → HasCells x slot count
cells_move S w x slot count own keeps has =
    let now = keeps.lives has.number has.object has.lives in
    record { number = has.number; object = now.object; names = keeps.names slot own ∙ has.names; lives = now.lives; many = now.same_length ∙ has.many }

-- the slots of declared variables are set
slot_set : (storage : Storage) (n : ℕ) → slot_in storage n ≢ Unset
slot_set Automatic n h = cc
slot_set Static n h = cc

-- what holds after both of two parts holds of the second after the first
then_bind : {A B : Type 0} (o : Out A) (f : A → Run B) (T : B → World → Type 0) → Then o (λ a x. Then (f a x) T) → Then (and_then o f) T
then_bind (going a x) f T h = h
then_bind (over e x) f T h = tt
then_bind (waiting old x) f T h = tt

-- ---- loops

module _ (k : Context) where
  -- it is so in each state that is typed
  abbrev Always : (World → Type 0) → Type 0
  Always T = (w : World) → At k w → T w

  test_turn : (T B S : World → Type 0) (t : Run ℤ) (b : Run Flow) → Always T → Always B → Always S → Sound k t → Sound k b → Always (InTestTurn T t B b S)
  test_turn T B S t b f g l st sb w at =
      then_holds (unit w) _ ((units {k = k}).by w at) (λ u x keeps.
      let here = at_moves k w x keeps at in (
        f x here,
        then_holds (t x) _ (st.by x here) (λ v y more.
            let after = at_moves k x y more here in
            chosen_by (is_zero v) ⊤ _ (λ z. tt) (λ z. (g y after, then_holds (b y) _ (sb.by y after) (λ flow q last. if_stays flow _ (l q (at_moves k y q last after)))))),
      ))

  body_turn : (B T : World → Type 0) (b : Run Flow) → Always B → Always T → Sound k b → Always (InBodyTurn B b T)
  body_turn B T b g f sb w at = (
    g w at,
    then_holds (b w) _ (sb.by w at) (λ flow x keeps.
        let here = at_moves k w x keeps at in
        if_stays flow _ (then_holds (unit x) _ ((units {k = k}).by x here) (λ u y more. f y (at_moves k x y more here)))),
  )

  in_turns : (T : World → Type 0) (t : Run (Option Flow)) → Always T → Sound k t → (n : ℕ) → Always (InTurns T t n)
  in_turns T t f s zero w at = tt
  in_turns T t f s (suc n) w at = (f w at, then_holds (t w) _ (s.by w at) (λ o x keeps. if_again o _ (in_turns T t f s n x (at_moves k w x keeps at))))

module _ (filling : Filling) (steady : IsSteady filling) (program : List Outer) (scopes : List Names) (there : Type 0) (sure : there) (called : Called) (inside : Inside) where
  -- ---- initialisers

  module _ (k : Context) (at_hole : (ds : Names) → Contains scopes ds → (x : World) → IsTypedBy ds x → k.waits x) (keep : CallsKeep k.waits k.file k.may_call program called) (enter : CallsFind k.file k.may_call program inside) where
    tree_finds : (wanted : Bool) (e : Tree) → Well program scopes there k.may_call k.scope wanted e → (w : World) → At k w → Finds filling program called inside wanted (resolved_tree k.scope e) w
    tree_finds wanted e h w at = finds filling steady program scopes there sure called k at_hole keep inside enter wanted e h w at

    value_sound : (e : Tree) → Well program scopes there k.may_call k.scope true e → Sound k (used (eval filling program called (resolved_tree k.scope e)))
    value_sound e h = used_sound (eval_sound filling steady program scopes there called k at_hole keep true e h)

    option_finds : (wanted : Bool) (o : Option Tree) → WellOption program scopes there k.may_call k.scope wanted o → (w : World) → At k w → FindsOption filling program called inside wanted (resolved_option k.scope o) w
    option_finds wanted None h w at = tt
    option_finds wanted (Some e) h w at = tree_finds wanted e h w at

    module _ (slot : Slot) (own : k.slots slot) (count : ℕ) where
      list_finds : (i : ℕ) (es : List Tree) → i + length (map (resolved_tree k.scope) es) ≤ count → WellList program scopes there k.may_call k.scope es → (w : World) → At k w → HasCells w slot count
          → FindsList filling program called inside slot count i (map (resolved_tree k.scope) es) w
      list_finds i [] le h w at has = has
      list_finds i (e ∷ es) le h w at has = (
        tree_finds true e h.0 w at,
        then_holds (used (eval filling program called (resolved_tree k.scope e)) w) _ ((value_sound e h.0).by w at) (λ v x keeps.
            let here = at_moves k w x keeps at in
            let still = cells_move k.slots w x slot count own keeps has in (
              still,
              omega arith,
              then_holds (store slot (pos i) v x) _ ((stores {k = k} slot (pos i) v).by x here)
                  (λ q y more. list_finds (suc i) es (omega arith) h.1 y (at_moves k x y more here) (cells_move k.slots x y slot count own more still)),
            )),
      )

      initial_finds : (start : Initial) → listed (resolved_initial k.scope start) ≤ count → WellInitial program scopes there k.may_call k.scope start → (w : World) → At k w → HasCells w slot count
          → FindsInitial filling program called inside slot count (resolved_initial k.scope start) w
      initial_finds bare_start le h w at has = has
      initial_finds (one_start e) le h w at has = (
        tree_finds true e h w at,
        then_holds (used (eval filling program called (resolved_tree k.scope e)) w) _ ((value_sound e h).by w at) (λ v x keeps. (cells_move k.slots w x slot count own keeps has, omega arith)),
      )
      initial_finds (list_start es) le h w at has = list_finds 0 es (omega arith) h w at has

  -- ---- declarations

  module _ (W : World → Type 0) (file : List Declaration) (may_call : Type 0) (at_hole : (ds : Names) → Contains scopes ds → (x : World) → IsTypedBy ds x → W x) (keep : CallsKeep W file may_call program called)
      (enter : CallsFind file may_call program inside) (storage : Storage) (files : (n : ℕ) → AllWithin (before storage n) file) where
    abbrev place : (n : ℕ) (ds : List Declaration) → AllWithin (before storage n) ds → Context
    place n ds h = record { waits = W; file = file; may_call = may_call; slots = before storage n; scope = ds; in_scope = h; in_file = files n }

    module _ (n : ℕ) (ty : Ty) (v : Variable) (ds : List Declaration) (h : AllWithin (before storage n) ds) where
      abbrev it : Declaration
      it = variable_declaration ty (numbered_variable (slot_in storage n) v)

      abbrev inner : Context
      inner = place (suc n) (it ∷ ds) (within_cons storage n ty v ds h)

      -- the object is made, and then its initialiser is evaluated
      start_finds : (start : Initial) (count : ℕ) → (is_array v.shape ≡ false → count ≡ 1) → listed (resolved_initial (it ∷ ds) start) ≤ count → WellInitial program scopes there may_call (it ∷ ds) start
          → (w : World) → At (place n ds h) w
          → Then (make_variable ty (slot_in storage n) count w) (λ u x. HasCells x (slot_in storage n) count × FindsInitial filling program called inside (slot_in storage n) count (resolved_initial (it ∷ ds) start) x)
      start_finds start count one holds well w at =
          then_both (make_variable ty (slot_in storage n) count w) _ (variable_from {W = W} storage n ty count (is_array v.shape) one w) (cells_from {W = W} storage n ty count w)
          (λ u x keeps has cells. (
            cells,
            initial_finds inner at_hole keep enter (slot_in storage n) (own_before storage n) count start holds well x
                (record { typed = has_typed filling steady program scopes there called W file may_call at_hole keep storage files n ty v ds h w x at keeps has; of_file = λ c. typed_moves (before storage n) file w x (files n) keeps (at.of_file c) })
                cells,
          ))

      -- the same after the unit of a declaration in a function
      paid_finds : (start : Initial) → HoldsList v.shape (resolved_initial (it ∷ ds) start) → WellInitial program scopes there may_call (it ∷ ds) start → (w : World) → At (place n ds h) w
          → Then ((unit_for (resolved_initial (it ∷ ds) start) >> make_variable ty (slot_in storage n) (cells_made v.shape (resolved_initial (it ∷ ds) start))) w)
          (λ u x. HasCells x (slot_in storage n) (cells_made v.shape (resolved_initial (it ∷ ds) start))
          × FindsInitial filling program called inside (slot_in storage n) (cells_made v.shape (resolved_initial (it ∷ ds) start)) (resolved_initial (it ∷ ds) start) x)
      paid_finds bare_start holds well w at = start_finds bare_start (cell_count v.shape 0) (one_cell v.shape 0) holds well w at
      paid_finds (one_start e) holds well w at =
          then_bind (unit w) _ _ (then_holds (unit w) _ ((units {k = place n ds h}).by w at)
          (λ u x keeps. start_finds (one_start e) (cell_count v.shape 1) (one_cell v.shape 1) holds well x (at_moves (place n ds h) w x keeps at)))
      paid_finds (list_start es) holds well w at =
          let count = length (map (resolved_tree (it ∷ ds)) es) in
          then_bind (unit w) _ _ (then_holds (unit w) _ ((units {k = place n ds h}).by w at)
          (λ u x keeps. start_finds (list_start es) (cell_count v.shape count) (one_cell v.shape count) holds well x (at_moves (place n ds h) w x keeps at)))

    locals_find : (n : ℕ) (ty : Ty) (vs : List Variable) (here around : List Declaration) (h : AllWithin (before storage n) (here ++ around)) → WellVariables program scopes there may_call storage here around n ty vs
        → (w : World) → At (place n (here ++ around) h) w → FindsLocals filling program called inside ty (resolved_variables here around ty (numbered (slot_in storage) n vs)) w
    locals_find n ty [] here around h well w at = tt
    locals_find n ty (v ∷ vs) here around h well w at =
        let d = variable_declaration ty (numbered_variable (slot_in storage n) v) in
        let start = resolved_initial (d ∷ (here ++ around)) v.start in (
          slot_set storage n,
          well.2,
          paid_finds n ty v (here ++ around) h v.start well.2 well.0 w at,
          then_made (declare_local filling program called ty (slot_in storage n) v.shape start w) _
              (local_from filling steady program scopes there called W file may_call at_hole keep storage files n ty v (here ++ around) h v.start well.0 w at)
              (λ o x keeps typed.
              locals_find (suc n) ty vs (d ∷ here) around (within_cons storage n ty v (here ++ around) h) well.1
              x
              (record { typed = typed; of_file = λ c. typed_moves (before storage n) file w x (files n) keeps (at.of_file c) })),
        )

    pub globals_find : (n : ℕ) (ty : Ty) (vs : List Variable) (here around : List Declaration) (h : AllWithin (before storage n) (here ++ around)) → WellVariables program scopes there may_call storage here around n ty vs
        → (w : World) → At (place n (here ++ around) h) w → FindsGlobals filling program called inside ty (resolved_variables here around ty (numbered (slot_in storage) n vs)) w
    globals_find n ty [] here around h well w at = tt
    globals_find n ty (v ∷ vs) here around h well w at =
        let d = variable_declaration ty (numbered_variable (slot_in storage n) v) in
        let start = resolved_initial (d ∷ (here ++ around)) v.start in (
          slot_set storage n,
          well.2,
          start_finds n ty v (here ++ around) h v.start (cells_made v.shape start) (one_cell v.shape (listed start)) well.2 well.0 w at,
          then_made (declare_global filling program called ty (slot_in storage n) v.shape start w) _
              (global_from filling steady program scopes there called W file may_call at_hole keep storage files n ty v (here ++ around) h v.start well.0 w at)
              (λ o x keeps typed.
              globals_find (suc n) ty vs (d ∷ here) around (within_cons storage n ty v (here ++ around) h) well.1
              x
              (record { typed = typed; of_file = λ c. typed_moves (before storage n) file w x (files n) keeps (at.of_file c) })),
        )

  -- ---- statements

  module _ (W : World → Type 0) (file : List Declaration) (may_call : Type 0) (at_hole : (ds : Names) → Contains scopes ds → (x : World) → IsTypedBy ds x → W x) (keep : CallsKeep W file may_call program called)
      (enter : CallsFind file may_call program inside) (files : (n : ℕ) → AllWithin (before Automatic n) file) where
    abbrev here_at : (n : ℕ) (ds : List Declaration) → AllWithin (below n) ds → Context
    here_at n ds h = record { waits = W; file = file; may_call = may_call; slots = below n; scope = ds; in_scope = h; in_file = files n }

    expression_finds : (n : ℕ) (ds : List Declaration) (h : AllWithin (below n) ds) (wanted : Bool) (e : Tree) → Well program scopes there may_call ds wanted e → (w : World) → At (here_at n ds h) w → Finds filling program called inside wanted (resolved_tree ds e) w
    expression_finds n ds h wanted e well w at = tree_finds (here_at n ds h) at_hole keep enter wanted e well w at

    number_sound : (n : ℕ) (ds : List Declaration) (h : AllWithin (below n) ds) (e : Tree) → Well program scopes there may_call ds true e → Sound (here_at n ds h) (used (eval filling program called (resolved_tree ds e)))
    number_sound n ds h e well = value_sound (here_at n ds h) at_hole keep enter e well

    code_sound : (c : Code) (n : ℕ) (ds : List Declaration) (h : AllWithin (below n) ds) → WellCode program scopes there may_call ds n c → Sound (here_at n ds h) (exec filling program called (resolved_code ds n c))
    code_sound c n ds h well = exec_sound filling steady program scopes there called W file may_call at_hole keep files c n ds h well

    more_slots : (n m : ℕ) (ds : List Declaration) → n ≤ m → AllWithin (below n) ds → AllWithin (below m) ds
    more_slots n m ds le h = later filling steady program scopes there called W file may_call at_hole keep files n m ds le h

    first_finds : (n : ℕ) (i : First) (ds : List Declaration) (h : AllWithin (below n) ds) → WellFirst program scopes there may_call ds n i → (w : World) → At (here_at n ds h) w
        → FindsFirst filling program called inside (resolved_first ds (numbered_first n i)) w
    first_finds n no_first ds h well w at = tt
    first_finds n (first_act e) ds h well w at = expression_finds n ds h false e well w at
    first_finds n (first_vars ty vs) ds h well w at = locals_find W file may_call at_hole keep enter Automatic files n ty vs [] ds h well w at

    mutual
      code_finds : (c : Code) (n : ℕ) (ds : List Declaration) (h : AllWithin (below n) ds) → WellCode program scopes there may_call ds n c → (w : World) → At (here_at n ds h) w
          → FindsCode filling program called inside (resolved_code ds n c) w
      code_finds (empty s) n ds h well w at = tt
      code_finds (act e s) n ds h well w at =
          then_holds (unit w) _ ((units {k = here_at n ds h}).by w at) (λ o x keeps. expression_finds n ds h false e well x (at_moves (here_at n ds h) w x keeps at))
      code_finds (block body s) n ds h well w at = body_finds body n [] ds h well w at
      code_finds (if_then t a s) n ds h well w at =
          let k = here_at n ds h in
          then_holds (unit w) _ ((units {k = k}).by w at) (λ o x keeps.
          let here = at_moves k w x keeps at in (
            expression_finds n ds h true t well.0 x here,
            then_holds (used (eval filling program called (resolved_tree ds t)) x) _ ((number_sound n ds h t well.0).by x here) (λ v y more.
                let after = at_moves k x y more here in
                chosen_by (is_zero v) ⊤ _ (λ z. tt) (λ z. code_finds a n ds h well.1 y after)),
          ))
      code_finds (if_else t a b s) n ds h well w at =
          let k = here_at n ds h in
          then_holds (unit w) _ ((units {k = k}).by w at) (λ o x keeps.
          let here = at_moves k w x keeps at in (
            expression_finds n ds h true t well.0 x here,
            then_holds (used (eval filling program called (resolved_tree ds t)) x) _ ((number_sound n ds h t well.0).by x here) (λ v y more.
                let after = at_moves k x y more here in
                chosen_by (is_zero v) _ _
                (λ z. code_finds b (n + code_count a) ds (more_slots n (n + code_count a) ds (omega arith) h) well.1.1 y (record { typed = after.typed; of_file = after.of_file }))
                (λ z. code_finds a n ds h well.1.0 y after)),
          ))
      code_finds (while t a s) n ds h well w at =
          let k = here_at n ds h in
          let ts = number_sound n ds h t well.0 in
          let bs = code_sound a n ds h well.1 in
          in_turns k _ _
          (test_turn k _ _ (λ x. ⊤) _ _ (λ x here. expression_finds n ds h true t well.0 x here)
          (λ x here. code_finds a n ds h well.1 x here) (λ x here. tt) ts bs)
          (test_turn_sound _ _ (pure tt) ts bs (pures tt)) (suc w.units) w at
      code_finds (do_while a t s) n ds h well w at =
          let k = here_at n ds h in
          let ts = number_sound n ds h t well.1 in
          let bs = code_sound a n ds h well.0 in
          in_turns k _ _
          (body_turn k _ _ _ (λ x here. code_finds a n ds h well.0 x here)
          (λ x here. expression_finds n ds h true t well.1 x here) bs)
          (body_turn_sound _ _ bs ts) (suc w.units) w at
      code_finds (for f t q a s) n ds h well w at =
          let i = numbered_first n f in
          let es = first_declared i ++ ds in
          let m = n + first_count f in
          let g : AllWithin (below m) es = within_first filling steady program scopes there called W file may_call at_hole keep files n f ds h in
          let k = here_at m es g in
          let ts = test_sound filling steady program scopes there called k at_hole keep t well.1.0 in
          let bs = code_sound a m es g well.1.1.1 in
          let ss = step_sound filling steady program scopes there called k at_hole keep q well.1.1.0 in (
            first_finds n f ds h well.0 w at,
            then_made (begin filling program called (resolved_first ds i) w) _ (begin_from filling steady program scopes there called W file may_call at_hole keep files n f ds h well.0 w at) (λ o x keeps typed.
                let here : At k x = record { typed = typed; of_file = λ c. typed_moves (below n) file w x (files n) keeps (at.of_file c) } in
                in_turns k _ _
                (test_turn k _ _ _ _ _ (λ y after. option_finds k at_hole keep enter true t well.1.0 y after)
                (λ y after. code_finds a m es g well.1.1.1 y after)
                (λ y after. option_finds k at_hole keep enter false q well.1.1.0 y after) ts bs)
                (test_turn_sound _ _ _ ts bs ss) (suc x.units) x here),
          )
      code_finds (give e s) n ds h well w at =
          then_holds (unit w) _ ((units {k = here_at n ds h}).by w at) (λ o x keeps. option_finds (here_at n ds h) at_hole keep enter true e well x (at_moves (here_at n ds h) w x keeps at))
      code_finds (break s) n ds h well w at = tt
      code_finds (continue s) n ds h well w at = tt

      pub body_finds : (b : Body) (n : ℕ) (here around : List Declaration) (h : AllWithin (below n) (here ++ around)) → WellBody program scopes there may_call here around n b
          → (w : World) → At (here_at n (here ++ around) h) w → FindsBody filling program called inside (resolved_body here around n b) w
      body_finds done n here around h well w at = tt
      body_finds (next c rest) n here around h well w at =
          let ds = here ++ around in (
            code_finds c n ds h well.0 w at,
            then_holds (exec filling program called (resolved_code ds n c) w) _ ((code_sound c n ds h well.0).by w at) (λ flow x keeps.
                let after = at_moves (here_at n ds h) w x keeps at in
                if_next flow _
                (body_finds rest (n + code_count c) here around (more_slots n (n + code_count c) ds (omega arith) h) well.1 x (record { typed = after.typed; of_file = after.of_file }))),
          )
      body_finds (vars ty vs rest) n here around h well w at =
          let ws = numbered (slot_in Automatic) n vs in
          let rs = resolved_variables here around ty ws in
          let es = declared ty ws here in
          let m = n + length vs in
          let g : AllWithin (below m) (es ++ around) = within_declared Automatic n m ty vs here around refl h in (
            locals_find W file may_call at_hole keep enter Automatic files n ty vs here around h well.0 w at,
            then_made (declare filling program called ty rs w) _ (declare_from filling steady program scopes there called W file may_call at_hole keep Automatic files n ty vs here around h well.0 w at)
                (λ o x keeps typed. body_finds rest m es around g well.1 x (record { typed = typed; of_file = λ c. typed_moves (below n) file w x (files n) keeps (at.of_file c) })),
          )
