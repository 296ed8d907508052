-- A run looks at no span and no spelling of a constant.
use Rattle.std.proofs.Common.{◌≡◌, ℕ, zero, suc, ◌-◌, pos, List, [], ◌∷◌, map, codes, Option, Some, None, Bool, true, false, ◌&&◌, if◌then◌else◌, option_map, refl, sym, ap, ◌∙◌}
use Rattle.std.specs.Str.{bytes_eq}
use Rattle.std.proofs.lemmas.List.{length-map}
use Rattle.c_tree.specs.declared.stmt.Slot.{Slot}
use Rattle.c_tree.specs.declared.stmt.Ty.{Ty}
use Rattle.c_tree.specs.declared.stmt.Ty.TheVariants.{Int}
use Rattle.c_tree.specs.declared.stmt.Shape.{Shape}
use Rattle.c_tree.specs.declared.program.Param.{Param}
use Rattle.c_tree.specs.Tree.{Tree, constant, name, index, call, unary, cast, binary, choice, assign, bump, comma, hole, hole_after, Args, no_args, value, format, address, Initial, bare_start, one_start, list_start, Variable, First, no_first, first_act, first_vars, Code, empty, act, block, if_then, if_else, while, do_while, for, give, break, continue, Body, done, next, vars, Function, Outer, outer_vars, outer_func}
use Rattle.c_arith.specs.Arith.{op, prefix, convert}
use Rattle.c_stdio.specs.declared.test.Test.{Test}
use Rattle.c_meaning.specs.declared.argument.Argument.{Argument}
use Rattle.c_meaning.specs.declared.argument.Argument.TheVariants.{Format, Place}
use Rattle.c_meaning.specs.declared.stop.Flow.{Flow}
use Rattle.c_meaning.specs.declared.stop.Flow.TheVariants.{Next, Break, Continue, Return}
use Rattle.c_meaning.specs.World.{Run, pure, lift, used, ◌>>=◌, ◌>>◌}
use Rattle.c_meaning.specs.Steps.{unit, load, store, scoped, framed}
use Rattle.c_meaning.specs.Library as io
use Rattle.c_meaning.specs.Meaning.{Filling, Called, on_zero, unless, on_next, turn_test_first, turn_of_while, turn_body_first, looping, decided, bump_op, slot_of, is_defined, definition, params_of, takes_array, rest_of, passed, cell_count, make_variable, store_zeros, eval, index_of, evals, perform, store_list, declare_object, declare_local, declare, begin, test_of, step_of, exec, run_body, declare_global, declare_globals, make_globals, bind_param, bind_params, result_of, enter_body, enter, call_limit, user_call, calls, no_hole, run_program, own_run}
use Rattle.c_meaning.specs.Ends.{outcome_of, units_left, first_world, outcome, units_taken}
use Rattle.bare_laws.specs.Plain.{plain, plain_args, plain_option, plain_initial, plain_variable, plain_first, plain_code, plain_body, plain_param, plain_maybe, plain_function, plain_program}

-- ---- places, parameters and definitions

-- a place has the same slot
slot-same : (e : Tree) → slot_of (plain e) ≡ slot_of e
slot-same (constant n word s) = refl
slot-same (name word slot s) = refl
slot-same (index word slot e s) = refl
slot-same (call word x s) = refl
slot-same (unary o e s) = refl
slot-same (cast ty e s) = refl
slot-same (binary o l r s) = refl
slot-same (choice t a b s) = refl
slot-same (assign o place e s) = refl
slot-same (bump before up place s) = refl
slot-same (comma l r s) = refl
slot-same hole = refl
slot-same (hole_after e) = refl

-- the first parameter takes an array as before
takes-same : (ps : List Param) → takes_array (map plain_param ps) ≡ takes_array ps
takes-same [] = refl
takes-same (p ∷ ps) = refl

-- the parameters after the first are those after the first
rest-same : (ps : List Param) → rest_of (map plain_param ps) ≡ map plain_param (rest_of ps)
rest-same [] = refl
rest-same (p ∷ ps) = refl

-- a function that may be absent, without spans and the spelling of constants
abbrev plain_callee : Option Function → Option Function
plain_callee = option_map plain_function

-- a body is there as before
body_there-same : (b : Option Body) → is_defined (plain_maybe b) ≡ is_defined b
body_there-same None = refl
body_there-same (Some body) = refl

-- a word names the same function
definition-same : (word : List ℕ) (p : List Outer)
    → definition word (plain_program p) ≡ plain_callee (definition word p)
definition-same word [] = refl
definition-same word (outer_vars ty vs ∷ rest) = definition-same word rest
definition-same word (outer_func f ∷ rest) =
    ap
    (λ b. if bytes_eq f.word word && b then Some (plain_function f)
    else definition word (plain_program rest))
    (body_there-same f.body)
    ∙ by_test (bytes_eq f.word word && is_defined f.body) (definition-same word rest)
  where
    by_test : (b : Bool)
        → definition word (plain_program rest) ≡ plain_callee (definition word rest)
        → (if b then Some (plain_function f) else definition word (plain_program rest))
        ≡ plain_callee (if b then Some f else definition word rest)
    by_test true h = refl
    by_test false h = h

params_of-same : (f : Option Function)
    → params_of (plain_callee f) ≡ map plain_param (params_of f)
params_of-same None = refl
params_of-same (Some f) = refl

-- so a call of it has the same parameters
called_params-same : (word : List ℕ) (p : List Outer)
    → params_of (definition word (plain_program p))
    ≡ map plain_param (params_of (definition word p))
called_params-same word p =
    ap params_of (definition-same word p) ∙ params_of-same (definition word p)

-- ---- expressions, statements and blocks, where calls do the same

module _ (filling : Filling) (p : List Outer) (c d : Called) (same : c ≡ d) where
  -- the arguments after the first, where those for any parameters are the same
  rests-same : (ps : List Param) (x : Args)
      → ((qs : List Param)
      → evals filling (plain_program p) c (map plain_param qs) (plain_args x)
      ≡ evals filling p d qs x)
      → evals filling (plain_program p) c (rest_of (map plain_param ps)) (plain_args x)
      ≡ evals filling p d (rest_of ps) x
  rests-same ps x h =
      ap (λ qs. evals filling (plain_program p) c qs (plain_args x)) (rest-same ps)
      ∙ h (rest_of ps)

  mutual
    -- an expression has the same value after the same run
    eval-same : (e : Tree) → eval filling (plain_program p) c (plain e) ≡ eval filling p d e
    eval-same (constant n word s) = refl
    eval-same (name word slot s) = refl
    eval-same (index word slot e s) = λ i. do
      at ← used (eval-same e i)
      v ← load slot at
      pure (Some v)
    eval-same (call word x s) =
        (λ i. evals filling (plain_program p) c (called_params-same word p i) (plain_args x)
        >>= (λ gs. c word gs))
        ∙ (λ i. evals-same (params_of (definition word p)) x i >>= (λ gs. same i word gs))
    eval-same (unary o e s) = λ i. do
      a ← used (eval-same e i)
      v ← lift (prefix Int o a)
      pure (Some v)
    eval-same (cast ty e s) = λ i. do
      v ← used (eval-same e i)
      pure (Some (convert ty v))
    eval-same (binary o l r s) = λ i. do
      a ← used (eval-same l i)
      v ← unless (decided o a) (used (eval-same r i) >>= (λ b. lift (op Int o a b)))
      pure (Some v)
    eval-same (choice t a b s) = λ i. do
      u ← used (eval-same t i)
      v ← on_zero u (used (eval-same b i)) (used (eval-same a i))
      pure (Some v)
    eval-same (assign None place e s) = λ i. do
      at ← index-same place i
      v ← used (eval-same e i)
      u ← store (slot-same place i) at v
      pure (Some u)
    eval-same (assign (Some o) place e s) = λ i. do
      at ← index-same place i
      v ← used (eval-same e i)
      old ← load (slot-same place i) at
      new ← lift (op Int o old v)
      u ← store (slot-same place i) at new
      pure (Some u)
    eval-same (bump before up place s) = λ i. do
      at ← index-same place i
      old ← load (slot-same place i) at
      new ← lift (op Int (bump_op up) old (pos 1))
      u ← store (slot-same place i) at new
      pure (Some (if before then u else old))
    eval-same (comma l r s) = λ i. do
      o ← eval-same l i
      v ← used (eval-same r i)
      pure (Some v)
    eval-same hole = refl
    eval-same (hole_after e) = λ i. do
      old ← used (eval-same e i)
      v ← filling (Some old)
      pure (Some v)

    -- so has the index of a place
    index-same : (e : Tree)
        → index_of filling (plain_program p) c (plain e) ≡ index_of filling p d e
    index-same (constant n word s) = refl
    index-same (name word slot s) = refl
    index-same (index word slot e s) = ap used (eval-same e)
    index-same (call word x s) = refl
    index-same (unary o e s) = refl
    index-same (cast ty e s) = refl
    index-same (binary o l r s) = refl
    index-same (choice t a b s) = refl
    index-same (assign o place e s) = refl
    index-same (bump before up place s) = refl
    index-same (comma l r s) = refl
    index-same hole = refl
    index-same (hole_after e) = refl

    -- and so have arguments
    evals-same : (ps : List Param) (x : Args)
        → evals filling (plain_program p) c (map plain_param ps) (plain_args x)
        ≡ evals filling p d ps x
    evals-same ps no_args = refl
    evals-same ps (value e x) = λ i. do
      a ← passed (takes-same ps i) (slot-same e i) (used (eval-same e i))
      gs ← rests-same ps x (λ qs. evals-same qs x) i
      pure (a ∷ gs)
    evals-same ps (format f s x) = λ i. do
      gs ← rests-same ps x (λ qs. evals-same qs x) i
      pure (Format f ∷ gs)
    evals-same ps (address e x) = λ i. do
      at ← index-same e i
      gs ← rests-same ps x (λ qs. evals-same qs x) i
      pure (Place (slot-same e i) at ∷ gs)

  perform-same : (e : Tree)
      → perform filling (plain_program p) c (plain e) ≡ perform filling p d e
  perform-same e = λ i. eval-same e i >>= (λ o. pure tt)

  list-same : (slot : Slot) (at : ℕ) (es : List Tree)
      → store_list filling (plain_program p) c slot at (map plain es)
      ≡ store_list filling p d slot at es
  list-same slot at [] = refl
  list-same slot at (e ∷ es) = λ i. do
    v ← used (eval-same e i)
    u ← store slot (pos at) v
    list-same slot (suc at) es i

  -- an object is made and initialised alike
  object-same : (ty : Ty) (slot : Slot) (shape : Shape) (start : Initial)
      → declare_object filling (plain_program p) c ty slot shape (plain_initial start)
      ≡ declare_object filling p d ty slot shape start
  object-same ty slot shape bare_start = refl
  object-same ty slot shape (one_start e) = λ i. do
    make_variable ty slot (cell_count shape 1)
    v ← used (eval-same e i)
    u ← store slot (pos 0) v
    pure tt
  object-same ty slot shape (list_start es) = λ i. do
    make_variable ty slot (cell_count shape (length-map es plain i))
    list-same slot 0 es i
    store_zeros slot (length-map es plain i)
        (cell_count shape (length-map es plain i) - length-map es plain i)

  local-same : (ty : Ty) (slot : Slot) (shape : Shape) (start : Initial)
      → declare_local filling (plain_program p) c ty slot shape (plain_initial start)
      ≡ declare_local filling p d ty slot shape start
  local-same ty slot shape bare_start = object-same ty slot shape bare_start
  local-same ty slot shape (one_start e) =
      ap (λ (m : Run (Unit {0})). unit >> m) (object-same ty slot shape (one_start e))
  local-same ty slot shape (list_start es) =
      ap (λ (m : Run (Unit {0})). unit >> m) (object-same ty slot shape (list_start es))

  declare-same : (ty : Ty) (vs : List Variable)
      → declare filling (plain_program p) c ty (map plain_variable vs)
      ≡ declare filling p d ty vs
  declare-same ty [] = refl
  declare-same ty (v ∷ vs) =
      λ i. local-same ty v.slot v.shape v.start i >> declare-same ty vs i

  begin-same : (f : First)
      → begin filling (plain_program p) c (plain_first f) ≡ begin filling p d f
  begin-same no_first = refl
  begin-same (first_act e) = perform-same e
  begin-same (first_vars ty vs) = declare-same ty vs

  test-same : (e : Option Tree)
      → test_of filling (plain_program p) c (plain_option e) ≡ test_of filling p d e
  test-same None = refl
  test-same (Some e) = ap used (eval-same e)

  step-same : (e : Option Tree)
      → step_of filling (plain_program p) c (plain_option e) ≡ step_of filling p d e
  step-same None = refl
  step-same (Some e) = perform-same e

  mutual
    -- a statement leads to the same place after the same run
    exec-same : (st : Code)
        → exec filling (plain_program p) c (plain_code st) ≡ exec filling p d st
    exec-same (empty s) = refl
    exec-same (act e s) = λ i. do
      unit
      perform-same e i
      pure Next
    exec-same (block body s) = λ i. scoped (body-same body i)
    exec-same (if_then t a s) = λ i. do
      unit
      v ← used (eval-same t i)
      on_zero v (pure Next) (exec-same a i)
    exec-same (if_else t a b s) = λ i. do
      unit
      v ← used (eval-same t i)
      on_zero v (exec-same b i) (exec-same a i)
    exec-same (while t a s) =
        λ i. looping (turn_of_while (used (eval-same t i)) (exec-same a i))
    exec-same (do_while a t s) =
        λ i. looping (turn_body_first (exec-same a i) (used (eval-same t i)))
    exec-same (for f t u a s) =
        λ i. scoped
        (begin-same f i
        >> looping (turn_test_first (test-same t i) (exec-same a i) (step-same u i)))
    exec-same (give None s) = refl
    exec-same (give (Some e) s) = λ i. do
      unit
      v ← used (eval-same e i)
      pure (Return (Some v))
    exec-same (break s) = refl
    exec-same (continue s) = refl

    -- so do the items of a block
    body-same : (b : Body)
        → run_body filling (plain_program p) c (plain_body b) ≡ run_body filling p d b
    body-same done = refl
    body-same (next st rest) = λ i. do
      flow ← exec-same st i
      on_next flow (body-same rest i)
    body-same (vars ty vs rest) = λ i. do
      declare-same ty vs i
      body-same rest i

  global-same : (ty : Ty) (slot : Slot) (shape : Shape) (start : Initial)
      → declare_global filling (plain_program p) c ty slot shape (plain_initial start)
      ≡ declare_global filling p d ty slot shape start
  global-same ty slot shape bare_start = refl
  global-same ty slot shape (one_start e) = object-same ty slot shape (one_start e)
  global-same ty slot shape (list_start es) = object-same ty slot shape (list_start es)

  globals-same : (ty : Ty) (vs : List Variable)
      → declare_globals filling (plain_program p) c ty (map plain_variable vs)
      ≡ declare_globals filling p d ty vs
  globals-same ty [] = refl
  globals-same ty (v ∷ vs) =
      λ i. global-same ty v.slot v.shape v.start i >> globals-same ty vs i

  -- the objects of file scope are made alike
  made-same : (rest : List Outer)
      → make_globals filling (plain_program p) c (plain_program rest)
      ≡ make_globals filling p d rest
  made-same [] = refl
  made-same (outer_vars ty vs ∷ rest) = λ i. globals-same ty vs i >> made-same rest i
  made-same (outer_func f ∷ rest) = made-same rest

-- ---- calls

-- parameters are made alike
bound-same : (ps : List Param) (gs : List Argument)
    → bind_params (map plain_param ps) gs ≡ bind_params ps gs
bound-same [] [] = refl
bound-same [] (a ∷ gs) = refl
bound-same (p ∷ ps) [] = refl
bound-same (p ∷ ps) (a ∷ gs) = λ i. bind_param p.ty p.slot a >> bound-same ps gs i

-- what a function gave is the same
result-same : (f : Function) (flow : Flow) → result_of (plain_function f) flow ≡ result_of f flow
result-same f Next = refl
result-same f Break = refl
result-same f Continue = refl
result-same f (Return None) = refl
result-same f (Return (Some v)) = refl

module _ (go on : Body → Run Flow) (same : (b : Body) → go (plain_body b) ≡ on b) where
  -- a function is entered alike where bodies run alike
  entered_body-same : (f : Function) (b : Option Body) (gs : List Argument)
      → enter_body go (plain_function f) (plain_maybe b) gs ≡ enter_body on f b gs
  entered_body-same f None gs = refl
  entered_body-same f (Some body) gs = λ i. do
    unit
    flow ← framed (scoped (bound-same f.params gs i >> same body i))
    pure (result-same f flow i)

  entered-same : (f : Option Function) (gs : List Argument)
      → enter go (plain_callee f) gs ≡ enter on f gs
  entered-same None gs = refl
  entered-same (Some f) gs = entered_body-same f f.body gs

module _ (filling : Filling) (p : List Outer) where
  -- calls do the same, where so many more may be live
  abbrev CallAlike : ℕ → Type 0
  CallAlike n = (f : Option Function) (gs : List Argument)
      → user_call filling (plain_program p) n (plain_callee f) gs ≡ user_call filling p n f gs

  -- so does the call of the function that a word names
  named-same : (n : ℕ) → CallAlike n → (word : List ℕ) (gs : List Argument)
      → user_call filling (plain_program p) n (definition word (plain_program p)) gs
      ≡ user_call filling p n (definition word p) gs
  named-same n h word gs =
      ap (λ f. user_call filling (plain_program p) n f gs) (definition-same word p)
      ∙ h (definition word p) gs

  -- and a call of the library or of such a function
  called-same : (n : ℕ) → CallAlike n
      → calls filling (plain_program p) n ≡ calls filling p n
  called-same n h = λ i word gs. io.library word gs (named-same n h word gs i)

  -- so it is with every call, however many may be live
  user-same : (n : ℕ) → CallAlike n
  unfolding user_call
  user-same zero f gs = refl
  user-same (suc n) f gs =
      entered-same
      (run_body filling (plain_program p) (calls filling (plain_program p) n))
      (run_body filling p (calls filling p n))
      (body-same filling p (calls filling (plain_program p) n) (calls filling p n)
      (called-same n (user-same n)))
      f gs

  -- a run of a program looks at no span and no spelling of a constant
  pub run-same : run_program filling (plain_program p) ≡ run_program filling p
  run-same = λ i. do
    made-same filling p (calls filling (plain_program p) call_limit)
        (calls filling p call_limit) (called-same call_limit (user-same call_limit)) p i
    used (named-same call_limit (user-same call_limit) (codes "main") [] i)

-- ---- programs that are the same

-- programs that are the same but for spans and the spelling of constants run alike
own-alike : (p q : List Outer) → plain_program p ≡ plain_program q → own_run p ≡ own_run q
own-alike p q h = sym (run-same no_hole p) ∙ ap own_run h ∙ run-same no_hole q

-- so they have the same outcome on every test, after as many units
pub run-alike : (p q : List Outer) → plain_program p ≡ plain_program q → (test : Test) (limit : ℕ)
    → (outcome p test limit ≡ outcome q test limit)
    × (units_taken p test limit ≡ units_taken q test limit)
run-alike p q h test limit =
    let same : own_run p ≡ own_run q = own-alike p q h in (
      ap (λ run. outcome_of test.status (run (first_world test limit))) same,
      ap (λ run. limit - units_left (run (first_world test limit))) same,
    )
