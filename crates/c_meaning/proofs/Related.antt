-- Two runs of one program are related where what its holes do is, for each relation that the single steps keep. All
-- laws of runs are instances of this.
use Rattle.std.proofs.Common.{ℕ, zero, suc, ◌-◌, ℤ, pos, negsuc, List, [], ◌∷◌, length, Option, Some, None, Bool, true, false, cond, codes}
use Rattle.std.specs.Str.{bytes_eq}
use Rattle.c_tree.specs.declared.stmt.Slot.{Slot}
use Rattle.c_tree.specs.declared.stmt.Ty.{Ty}
use Rattle.c_tree.specs.declared.stmt.Ty.TheVariants.{Int}
use Rattle.c_tree.specs.declared.stmt.Shape.{Shape}
use Rattle.c_tree.specs.declared.program.Param.{Param}
use Rattle.c_tree.specs.Tree.{Tree, constant, name, index, call, unary, cast, binary, choice, assign, bump, comma, hole, hole_after, Args, no_args, value, format, address, Initial, bare_start, one_start, list_start, Variable, First, no_first, first_act, first_vars, Code, empty, act, block, if_then, if_else, while, do_while, for, give, break, continue, Body, done, next, vars, Function, Outer, outer_vars, outer_func}
use Rattle.c_arith.specs.Arith.{is_zero, op, prefix, convert, fitting, byte_of}
use Rattle.c_stdio.specs.declared.scan.Scan.{Scan}
use Rattle.c_stdio.specs.declared.scan.Scan.TheVariants.{Number as Read, End as AtEnd, NoNumber, TooWide}
use Rattle.c_meaning.specs.declared.argument.Argument.{Argument}
use Rattle.c_meaning.specs.declared.argument.Argument.TheVariants.{Number, Array, Format, Place}
use Rattle.c_meaning.specs.declared.stop.End.{End}
use Rattle.c_meaning.specs.declared.stop.End.TheVariants.{Trapped, Budget, Depth, Exit}
use Rattle.c_meaning.specs.declared.stop.Flow.{Flow}
use Rattle.c_meaning.specs.declared.stop.Flow.TheVariants.{Next, Break, Continue, Return}
use Rattle.c_meaning.specs.World.{Run, pure, stop, lift, used, ◌>>=◌, ◌>>◌}
use Rattle.c_meaning.specs.Steps.{unit, load, store, make, attach, object_of, scoped, framed, get_byte, scan, put_text}
use Rattle.c_meaning.specs.Library.{one_number, call_getchar, call_putchar, numbers, text_with, print, call_printf, store_read, read_to, call_scanf, absolute, call_abs, call_exit, library}
use Rattle.c_meaning.specs.Meaning.{on_zero, unless, on_next, on_turn, turn_test_first, turn_body_first, or_again, turns, looping, decided, bump_op, slot_of, definition, params_of, takes_array, rest_of, passed, cell_count, make_variable, store_zeros, eval, index_of, evals, perform, store_list, declare_object, declare_local, declare, begin, test_of, step_of, exec, run_body, declare_global, declare_globals, make_globals, bind_param, bind_params, result_of, enter_body, enter, user_call, calls, no_hole, call_limit, run_program}

-- a relation between two runs that the single steps, their joins and loops keep
pub record Kept (R : (A : Type 0) → Run A → Run A → Type 0) : Type 1 where
  pub at_pure : (A : Type 0) (a : A) → R A (pure a) (pure a)
  pub at_stop : (A : Type 0) (e : End) → R A (stop e) (stop e)
  pub at_bind : (A B : Type 0) (m n : Run A) (f g : A → Run B) → R A m n → ((a : A) → R B (f a) (g a)) → R B (m >>= f) (n >>= g)
  pub at_unit : R (Unit {0}) unit unit
  pub at_load : (slot : Slot) (at : ℤ) → R ℤ (load slot at) (load slot at)
  pub at_store : (slot : Slot) (at v : ℤ) → R ℤ (store slot at v) (store slot at v)
  pub at_make : (ty : Ty) (count : ℕ) → R ℕ (make ty count) (make ty count)
  pub at_attach : (slot : Slot) (number : ℕ) → R (Unit {0}) (attach slot number) (attach slot number)
  pub at_object : (slot : Slot) → R ℕ (object_of slot) (object_of slot)
  pub at_scope : (A : Type 0) (m n : Run A) → R A m n → R A (scoped m) (scoped n)
  pub at_frame : (A : Type 0) (m n : Run A) → R A m n → R A (framed m) (framed n)
  pub at_get : R ℤ get_byte get_byte
  pub at_scan : R Scan scan scan
  pub at_put : (text : List ℕ) (v : ℤ) → R ℤ (put_text text v) (put_text text v)
  pub at_loop : (s t : Run (Option Flow)) → R (Option Flow) s t → ((n : ℕ) → R Flow (turns s n) (turns t n)) → R Flow (looping s) (looping t)

module _ (R : (A : Type 0) → Run A → Run A → Type 0) (kept : Kept R) where
  -- ---- the ways to join parts

  bound : {A B : Type 0} {m n : Run A} {f g : A → Run B} → R A m n → ((a : A) → R B (f a) (g a)) → R B (m >>= f) (n >>= g)
  bound {A = A} {B = B} {m = m} {n = n} {f = f} {g = g} h k = kept.at_bind A B m n f g h k

  chosen : (A : Type 0) (b : Bool) (m n p q : Run A) → R A m p → R A n q → R A (λ w. cond b (m w) (n w)) (λ w. cond b (p w) (q w))
  chosen A true m n p q h k = h
  chosen A false m n p q h k = k

  on_zero_related : (A : Type 0) (v : ℤ) (m n p q : Run A) → R A m p → R A n q → R A (on_zero v m n) (on_zero v p q)
  on_zero_related A v m n p q h k = chosen A (is_zero v) m n p q h k

  lifted : (A : Type 0) (o : Option A) → R A (lift o) (lift o)
  lifted A (Some a) = kept.at_pure A a
  lifted A None = kept.at_stop A Trapped

  lift_related : (o : Option ℤ) → R ℤ (lift o) (lift o)
  lift_related = lifted ℤ

  used_related : {m n : Run (Option ℤ)} → R (Option ℤ) m n → R ℤ (used m) (used n)
  used_related h = bound h lift_related

  some_related : {m n : Run ℤ} → R ℤ m n → R (Option ℤ) (m >>= (λ v. pure (Some v))) (n >>= (λ v. pure (Some v)))
  some_related h = bound h (λ v. kept.at_pure (Option ℤ) (Some v))

  unless_related : (o : Option ℤ) (m n : Run ℤ) → R ℤ m n → R ℤ (unless o m) (unless o n)
  unless_related (Some v) m n h = kept.at_pure ℤ v
  unless_related None m n h = h

  on_next_related : (f : Flow) (m n : Run Flow) → R Flow m n → R Flow (on_next f m) (on_next f n)
  on_next_related Next m n h = h
  on_next_related Break m n h = kept.at_pure Flow Break
  on_next_related Continue m n h = kept.at_pure Flow Continue
  on_next_related (Return v) m n h = kept.at_pure Flow (Return v)

  on_turn_related : (f : Flow) (m n : Run (Option Flow)) → R (Option Flow) m n → R (Option Flow) (on_turn f m) (on_turn f n)
  on_turn_related Next m n h = h
  on_turn_related Continue m n h = h
  on_turn_related Break m n h = kept.at_pure (Option Flow) (Some Next)
  on_turn_related (Return v) m n h = kept.at_pure (Option Flow) (Some (Return v))

  test_turn_related : (t u : Run ℤ) (b c : Run Flow) (p q : Run (Unit {0})) → R ℤ t u → R Flow b c → R (Unit {0}) p q → R (Option Flow) (turn_test_first t b p) (turn_test_first u c q)
  test_turn_related t u b c p q h k l =
      bound kept.at_unit (λ x. bound h (λ v. on_zero_related (Option Flow) v (pure (Some Next)) (b >>= (λ flow. on_turn flow (p >> pure None))) (pure (Some Next)) (c >>= (λ flow. on_turn flow (q >> pure None))) (kept.at_pure (Option Flow) (Some Next))
      (bound k (λ flow. on_turn_related flow (p >> pure None) (q >> pure None) (bound l (λ y. kept.at_pure (Option Flow) None))))))

  body_turn_related : (b c : Run Flow) (t u : Run ℤ) → R Flow b c → R ℤ t u → R (Option Flow) (turn_body_first b t) (turn_body_first c u)
  body_turn_related b c t u k h =
      bound k (λ flow. on_turn_related flow (unit >> (t >>= (λ v. on_zero v (pure (Some Next)) (pure None)))) (unit >> (u >>= (λ v. on_zero v (pure (Some Next)) (pure None))))
      (bound kept.at_unit (λ x. bound h (λ v. on_zero_related (Option Flow) v (pure (Some Next)) (pure None) (pure (Some Next)) (pure None) (kept.at_pure (Option Flow) (Some Next)) (kept.at_pure (Option Flow) None)))))

  or_again_related : (o : Option Flow) (m n : Run Flow) → R Flow m n → R Flow (or_again o m) (or_again o n)
  or_again_related (Some f) m n h = kept.at_pure Flow f
  or_again_related None m n h = h

  turns_related : (s t : Run (Option Flow)) → R (Option Flow) s t → (n : ℕ) → R Flow (turns s n) (turns t n)
  turns_related s t h zero = kept.at_stop Flow Budget
  turns_related s t h (suc n) = bound h (λ o. or_again_related o (turns s n) (turns t n) (turns_related s t h n))

  loop_related : (s t : Run (Option Flow)) → R (Option Flow) s t → R Flow (looping s) (looping t)
  loop_related s t h = kept.at_loop s t h (turns_related s t h)

  -- ---- objects and the library

  variable_related : (ty : Ty) (slot : Slot) (count : ℕ) → R (Unit {0}) (make_variable ty slot count) (make_variable ty slot count)
  variable_related ty slot count = bound (kept.at_make ty count) (λ n. kept.at_attach slot n)

  zeros_related : (slot : Slot) (at n : ℕ) → R (Unit {0}) (store_zeros slot at n) (store_zeros slot at n)
  zeros_related slot at zero = kept.at_pure (Unit {0}) tt
  zeros_related slot at (suc n) = bound (kept.at_store slot (pos at) (pos 0)) (λ v. zeros_related slot (suc at) n)

  passed_related : (b : Bool) (slot : Slot) (m n : Run ℤ) → R ℤ m n → R Argument (passed b slot m) (passed b slot n)
  passed_related true slot m n h = bound (kept.at_object slot) (λ k. kept.at_pure Argument (Array k))
  passed_related false slot m n h = bound h (λ v. kept.at_pure Argument (Number v))

  one_number_related : (gs : List Argument) → R ℤ (one_number gs) (one_number gs)
  one_number_related [] = kept.at_stop ℤ Trapped
  one_number_related (Number v ∷ []) = kept.at_pure ℤ v
  one_number_related (Number v ∷ a ∷ gs) = kept.at_stop ℤ Trapped
  one_number_related (Array n ∷ gs) = kept.at_stop ℤ Trapped
  one_number_related (Format f ∷ gs) = kept.at_stop ℤ Trapped
  one_number_related (Place slot i ∷ gs) = kept.at_stop ℤ Trapped

  getchar_related : (gs : List Argument) → R (Option ℤ) (call_getchar gs) (call_getchar gs)
  getchar_related [] = some_related kept.at_get
  getchar_related (a ∷ gs) = kept.at_stop (Option ℤ) Trapped

  print_related : (f : List ℕ) (vs : List ℤ) → R ℤ (print f vs) (print f vs)
  print_related f vs = bound (lifted (List ℕ) (text_with f vs)) (λ bytes. kept.at_put bytes (pos (length bytes)))

  printf_related : (gs : List Argument) → R (Option ℤ) (call_printf gs) (call_printf gs)
  printf_related [] = kept.at_stop (Option ℤ) Trapped
  printf_related (Number v ∷ gs) = kept.at_stop (Option ℤ) Trapped
  printf_related (Array n ∷ gs) = kept.at_stop (Option ℤ) Trapped
  printf_related (Format f ∷ gs) = bound (lifted (List ℤ) (numbers gs)) (λ vs. some_related (print_related f vs))
  printf_related (Place slot i ∷ gs) = kept.at_stop (Option ℤ) Trapped

  store_read_related : (slot : Slot) (i : ℤ) (found : Scan) → R ℤ (store_read slot i found) (store_read slot i found)
  store_read_related slot i (Read v) = bound (kept.at_store slot i v) (λ u. kept.at_pure ℤ (pos 1))
  store_read_related slot i AtEnd = kept.at_pure ℤ (negsuc 0)
  store_read_related slot i NoNumber = kept.at_pure ℤ (pos 0)
  store_read_related slot i TooWide = kept.at_stop ℤ Trapped

  read_to_related : (gs : List Argument) → R (Option ℤ) (read_to gs) (read_to gs)
  read_to_related [] = kept.at_stop (Option ℤ) Trapped
  read_to_related (Number v ∷ gs) = kept.at_stop (Option ℤ) Trapped
  read_to_related (Array n ∷ gs) = kept.at_stop (Option ℤ) Trapped
  read_to_related (Format f ∷ gs) = kept.at_stop (Option ℤ) Trapped
  read_to_related (Place slot i ∷ []) = bound kept.at_scan (λ found. some_related (store_read_related slot i found))
  read_to_related (Place slot i ∷ a ∷ gs) = kept.at_stop (Option ℤ) Trapped

  scanf_related : (gs : List Argument) → R (Option ℤ) (call_scanf gs) (call_scanf gs)
  scanf_related [] = kept.at_stop (Option ℤ) Trapped
  scanf_related (Number v ∷ gs) = kept.at_stop (Option ℤ) Trapped
  scanf_related (Array n ∷ gs) = kept.at_stop (Option ℤ) Trapped
  scanf_related (Format f ∷ gs) = chosen (Option ℤ) (bytes_eq f (codes "%d")) (read_to gs) (stop Trapped) (read_to gs) (stop Trapped) (read_to_related gs) (kept.at_stop (Option ℤ) Trapped)
  scanf_related (Place slot i ∷ gs) = kept.at_stop (Option ℤ) Trapped

  library_related : (word : List ℕ) (gs : List Argument) (m n : Run (Option ℤ)) → R (Option ℤ) m n → R (Option ℤ) (library word gs m) (library word gs n)
  library_related word gs m n h =
      chosen (Option ℤ) (bytes_eq word (codes "getchar")) (call_getchar gs) _ (call_getchar gs) _ (getchar_related gs)
      (chosen (Option ℤ) (bytes_eq word (codes "putchar")) (call_putchar gs) _ (call_putchar gs) _ (bound (one_number_related gs) (λ v. some_related (kept.at_put (byte_of v ∷ []) (pos (byte_of v)))))
      (chosen (Option ℤ) (bytes_eq word (codes "printf")) (call_printf gs) _ (call_printf gs) _ (printf_related gs)
      (chosen (Option ℤ) (bytes_eq word (codes "scanf")) (call_scanf gs) _ (call_scanf gs) _ (scanf_related gs)
      (chosen (Option ℤ) (bytes_eq word (codes "abs")) (call_abs gs) _ (call_abs gs) _ (bound (one_number_related gs) (λ v. some_related (lift_related (fitting Int (absolute v)))))
      (chosen (Option ℤ) (bytes_eq word (codes "exit")) (call_exit gs) m (call_exit gs) n (bound (one_number_related gs) (λ v. kept.at_stop (Option ℤ) (Exit v))) h)))))

  param_related : (ty : Ty) (slot : Slot) (a : Argument) → R (Unit {0}) (bind_param ty slot a) (bind_param ty slot a)
  param_related ty slot (Number v) = bound (variable_related ty slot 1) (λ u. bound (kept.at_store slot (pos 0) v) (λ u. kept.at_pure (Unit {0}) tt))
  param_related ty slot (Array n) = kept.at_attach slot n
  param_related ty slot (Format f) = kept.at_stop (Unit {0}) Trapped
  param_related ty slot (Place at i) = kept.at_stop (Unit {0}) Trapped

  params_related : (ps : List Param) (gs : List Argument) → R (Unit {0}) (bind_params ps gs) (bind_params ps gs)
  params_related [] [] = kept.at_pure (Unit {0}) tt
  params_related [] (a ∷ gs) = kept.at_stop (Unit {0}) Trapped
  params_related (p ∷ ps) [] = kept.at_stop (Unit {0}) Trapped
  params_related (p ∷ ps) (a ∷ gs) = bound (param_related p.ty p.slot a) (λ u. params_related ps gs)

  enter_body_related : (go to : Body → Run Flow) → ((b : Body) → R Flow (go b) (to b)) → (f : Function) (body : Option Body) (gs : List Argument) → R (Option ℤ) (enter_body go f body gs) (enter_body to f body gs)
  enter_body_related go to h f None gs = kept.at_stop (Option ℤ) Trapped
  enter_body_related go to h f (Some body) gs =
      bound kept.at_unit (λ u. bound (kept.at_frame Flow (scoped (bind_params f.params gs >> go body)) (scoped (bind_params f.params gs >> to body)) (kept.at_scope Flow (bind_params f.params gs >> go body) (bind_params f.params gs >> to body) (bound (params_related f.params gs) (λ u. h body))))
      (λ flow. kept.at_pure (Option ℤ) (result_of f flow)))

  enter_related : (go to : Body → Run Flow) → ((b : Body) → R Flow (go b) (to b)) → (f : Option Function) (gs : List Argument) → R (Option ℤ) (enter go f gs) (enter to f gs)
  enter_related go to h None gs = kept.at_stop (Option ℤ) Trapped
  enter_related go to h (Some f) gs = enter_body_related go to h f f.body gs

  -- ---- expressions, statements and blocks, where the two holes are related

  module _ (d e : Option ℤ → Run ℤ) (same : (old : Option ℤ) → R ℤ (d old) (e old)) (P : List Outer) where
    module _ (c g : List ℕ → List Argument → Run (Option ℤ)) (h : (word : List ℕ) (gs : List Argument) → R (Option ℤ) (c word gs) (g word gs)) where
      mutual
        pub eval_related : (t : Tree) → R (Option ℤ) (eval d P c t) (eval e P g t)
        eval_related (constant n word s) = kept.at_pure (Option ℤ) (Some n)
        eval_related (name word slot s) = some_related (kept.at_load slot (pos 0))
        eval_related (index word slot v s) = bound (used_related (eval_related v)) (λ i. some_related (kept.at_load slot i))
        eval_related (call word args s) = bound (evals_related (params_of (definition word P)) args) (λ gs. h word gs)
        eval_related (unary o v s) = bound (used_related (eval_related v)) (λ a. some_related (lift_related (prefix Int o a)))
        eval_related (cast ty v s) = bound (used_related (eval_related v)) (λ a. kept.at_pure (Option ℤ) (Some (convert ty a)))
        eval_related (binary o l r s) =
            bound (used_related (eval_related l)) (λ a. some_related (unless_related (decided o a) (used (eval d P c r) >>= (λ b. lift (op Int o a b))) (used (eval e P g r) >>= (λ b. lift (op Int o a b))) (bound (used_related (eval_related r)) (λ b. lift_related (op Int o a b)))))
        eval_related (choice t a b s) = bound (used_related (eval_related t)) (λ v. some_related (on_zero_related ℤ v (used (eval d P c b)) (used (eval d P c a)) (used (eval e P g b)) (used (eval e P g a)) (used_related (eval_related b)) (used_related (eval_related a))))
        eval_related (assign None place v s) = bound (index_related place) (λ i. bound (used_related (eval_related v)) (λ a. some_related (kept.at_store (slot_of place) i a)))
        eval_related (assign (Some o) place v s) =
            bound (index_related place) (λ i. bound (used_related (eval_related v)) (λ a. bound (kept.at_load (slot_of place) i) (λ old. bound (lift_related (op Int o old a)) (λ new. some_related (kept.at_store (slot_of place) i new)))))
        eval_related (bump before up place s) =
            bound (index_related place) (λ i. bound (kept.at_load (slot_of place) i) (λ old. bound (lift_related (op Int (bump_op up) old (pos 1))) (λ new. bound (kept.at_store (slot_of place) i new) (λ u. kept.at_pure (Option ℤ) (Some (cond before u old))))))
        eval_related (comma l r s) = bound (eval_related l) (λ o. some_related (used_related (eval_related r)))
        eval_related hole = some_related (same None)
        eval_related (hole_after v) = bound (used_related (eval_related v)) (λ a. some_related (same (Some a)))

        pub index_related : (t : Tree) → R ℤ (index_of d P c t) (index_of e P g t)
        index_related (constant n word s) = kept.at_stop ℤ Trapped
        index_related (name word slot s) = kept.at_pure ℤ (pos 0)
        index_related (index word slot v s) = used_related (eval_related v)
        index_related (call word args s) = kept.at_stop ℤ Trapped
        index_related (unary o v s) = kept.at_stop ℤ Trapped
        index_related (cast ty v s) = kept.at_stop ℤ Trapped
        index_related (binary o l r s) = kept.at_stop ℤ Trapped
        index_related (choice t a b s) = kept.at_stop ℤ Trapped
        index_related (assign o place v s) = kept.at_stop ℤ Trapped
        index_related (bump before up place s) = kept.at_stop ℤ Trapped
        index_related (comma l r s) = kept.at_stop ℤ Trapped
        index_related hole = kept.at_stop ℤ Trapped
        index_related (hole_after v) = kept.at_stop ℤ Trapped

        pub evals_related : (ps : List Param) (args : Args) → R (List Argument) (evals d P c ps args) (evals e P g ps args)
        evals_related ps no_args = kept.at_pure (List Argument) []
        evals_related ps (value v rest) = bound (passed_related (takes_array ps) (slot_of v) (used (eval d P c v)) (used (eval e P g v)) (used_related (eval_related v))) (λ a. bound (evals_related (rest_of ps) rest) (λ gs. kept.at_pure (List Argument) (a ∷ gs)))
        evals_related ps (format f s rest) = bound (evals_related (rest_of ps) rest) (λ gs. kept.at_pure (List Argument) (Format f ∷ gs))
        evals_related ps (address v rest) = bound (index_related v) (λ i. bound (evals_related (rest_of ps) rest) (λ gs. kept.at_pure (List Argument) (Place (slot_of v) i ∷ gs)))

      perform_related : (v : Tree) → R (Unit {0}) (perform d P c v) (perform e P g v)
      perform_related v = bound (eval_related v) (λ o. kept.at_pure (Unit {0}) tt)

      store_list_related : (slot : Slot) (at : ℕ) (vs : List Tree) → R (Unit {0}) (store_list d P c slot at vs) (store_list e P g slot at vs)
      store_list_related slot at [] = kept.at_pure (Unit {0}) tt
      store_list_related slot at (v ∷ vs) = bound (used_related (eval_related v)) (λ a. bound (kept.at_store slot (pos at) a) (λ u. store_list_related slot (suc at) vs))

      object_related : (ty : Ty) (slot : Slot) (shape : Shape) (start : Initial) → R (Unit {0}) (declare_object d P c ty slot shape start) (declare_object e P g ty slot shape start)
      object_related ty slot shape bare_start = variable_related ty slot (cell_count shape 0)
      object_related ty slot shape (one_start v) = bound (variable_related ty slot (cell_count shape 1)) (λ u. bound (used_related (eval_related v)) (λ a. bound (kept.at_store slot (pos 0) a) (λ u. kept.at_pure (Unit {0}) tt)))
      object_related ty slot shape (list_start vs) = bound (variable_related ty slot (cell_count shape (length vs))) (λ u. bound (store_list_related slot 0 vs) (λ u. zeros_related slot (length vs) (cell_count shape (length vs) - length vs)))

      local_related : (ty : Ty) (slot : Slot) (shape : Shape) (start : Initial) → R (Unit {0}) (declare_local d P c ty slot shape start) (declare_local e P g ty slot shape start)
      local_related ty slot shape bare_start = object_related ty slot shape bare_start
      local_related ty slot shape (one_start v) = bound kept.at_unit (λ u. object_related ty slot shape (one_start v))
      local_related ty slot shape (list_start vs) = bound kept.at_unit (λ u. object_related ty slot shape (list_start vs))

      declare_related : (ty : Ty) (vs : List Variable) → R (Unit {0}) (declare d P c ty vs) (declare e P g ty vs)
      declare_related ty [] = kept.at_pure (Unit {0}) tt
      declare_related ty (v ∷ vs) = bound (local_related ty v.slot v.shape v.start) (λ u. declare_related ty vs)

      begin_related : (f : First) → R (Unit {0}) (begin d P c f) (begin e P g f)
      begin_related no_first = kept.at_pure (Unit {0}) tt
      begin_related (first_act v) = perform_related v
      begin_related (first_vars ty vs) = declare_related ty vs

      test_related : (v : Option Tree) → R ℤ (test_of d P c v) (test_of e P g v)
      test_related None = kept.at_pure ℤ (pos 1)
      test_related (Some v) = used_related (eval_related v)

      step_related : (v : Option Tree) → R (Unit {0}) (step_of d P c v) (step_of e P g v)
      step_related None = kept.at_pure (Unit {0}) tt
      step_related (Some v) = perform_related v

      mutual
        pub exec_related : (st : Code) → R Flow (exec d P c st) (exec e P g st)
        exec_related (empty s) = kept.at_pure Flow Next
        exec_related (act v s) = bound kept.at_unit (λ x. bound (perform_related v) (λ y. kept.at_pure Flow Next))
        exec_related (block body s) = kept.at_scope Flow (run_body d P c body) (run_body e P g body) (body_related body)
        exec_related (if_then test a s) = bound kept.at_unit (λ x. bound (used_related (eval_related test)) (λ v. on_zero_related Flow v (pure Next) (exec d P c a) (pure Next) (exec e P g a) (kept.at_pure Flow Next) (exec_related a)))
        exec_related (if_else test a b s) = bound kept.at_unit (λ x. bound (used_related (eval_related test)) (λ v. on_zero_related Flow v (exec d P c b) (exec d P c a) (exec e P g b) (exec e P g a) (exec_related b) (exec_related a)))
        exec_related (while test body s) = loop_related _ _ (test_turn_related _ _ _ _ (pure tt) (pure tt) (used_related (eval_related test)) (exec_related body) (kept.at_pure (Unit {0}) tt))
        exec_related (do_while body test s) = loop_related _ _ (body_turn_related _ _ _ _ (exec_related body) (used_related (eval_related test)))
        exec_related (for first test step body s) =
            kept.at_scope Flow (begin d P c first >> looping (turn_test_first (test_of d P c test) (exec d P c body) (step_of d P c step))) (begin e P g first >> looping (turn_test_first (test_of e P g test) (exec e P g body) (step_of e P g step)))
            (bound (begin_related first) (λ u. loop_related _ _ (test_turn_related _ _ _ _ _ _ (test_related test) (exec_related body) (step_related step))))
        exec_related (give None s) = bound kept.at_unit (λ x. kept.at_pure Flow (Return None))
        exec_related (give (Some v) s) = bound kept.at_unit (λ x. bound (used_related (eval_related v)) (λ y. kept.at_pure Flow (Return (Some y))))
        exec_related (break s) = bound kept.at_unit (λ x. kept.at_pure Flow Break)
        exec_related (continue s) = bound kept.at_unit (λ x. kept.at_pure Flow Continue)

        pub body_related : (b : Body) → R Flow (run_body d P c b) (run_body e P g b)
        body_related done = kept.at_pure Flow Next
        body_related (next st rest) = bound (exec_related st) (λ f. on_next_related f (run_body d P c rest) (run_body e P g rest) (body_related rest))
        body_related (vars ty vs rest) = bound (declare_related ty vs) (λ u. body_related rest)

      global_related : (ty : Ty) (slot : Slot) (shape : Shape) (start : Initial) → R (Unit {0}) (declare_global d P c ty slot shape start) (declare_global e P g ty slot shape start)
      global_related ty slot shape bare_start = bound (variable_related ty slot (cell_count shape 0)) (λ u. zeros_related slot 0 (cell_count shape 0))
      global_related ty slot shape (one_start v) = object_related ty slot shape (one_start v)
      global_related ty slot shape (list_start vs) = object_related ty slot shape (list_start vs)

      globals_related : (ty : Ty) (vs : List Variable) → R (Unit {0}) (declare_globals d P c ty vs) (declare_globals e P g ty vs)
      globals_related ty [] = kept.at_pure (Unit {0}) tt
      globals_related ty (v ∷ vs) = bound (global_related ty v.slot v.shape v.start) (λ u. globals_related ty vs)

      make_globals_related : (outers : List Outer) → R (Unit {0}) (make_globals d P c outers) (make_globals e P g outers)
      make_globals_related [] = kept.at_pure (Unit {0}) tt
      make_globals_related (outer_vars ty vs ∷ rest) = bound (globals_related ty vs) (λ u. make_globals_related rest)
      make_globals_related (outer_func f ∷ rest) = make_globals_related rest

    -- calls are related, however many may be live
    pub user_related : (n : ℕ) (f : Option Function) (gs : List Argument) → R (Option ℤ) (user_call d P n f gs) (user_call e P n f gs)
    unfolding user_call
    user_related zero f gs = kept.at_stop (Option ℤ) Depth
    user_related (suc n) f gs =
        enter_related (run_body d P (calls d P n)) (run_body e P (calls e P n)) (body_related (calls d P n) (calls e P n) (λ word given. library_related word given (user_call d P n (definition word P) given) (user_call e P n (definition word P) given) (user_related n (definition word P) given))) f gs

    pub calls_related : (n : ℕ) (word : List ℕ) (gs : List Argument) → R (Option ℤ) (calls d P n word gs) (calls e P n word gs)
    calls_related n word gs = library_related word gs (user_call d P n (definition word P) gs) (user_call e P n (definition word P) gs) (user_related n (definition word P) gs)

    -- so are runs of the whole program
    pub program_related : R ℤ (run_program d P) (run_program e P)
    program_related = bound (make_globals_related (calls d P call_limit) (calls e P call_limit) (calls_related call_limit) P) (λ u. used_related (user_related call_limit (definition (codes "main") P) []))

-- ---- a program's own run is related to itself

module _ (R : (A : Type 0) → Run A → Run A → Type 0) (kept : Kept R) (P : List Outer) where
  no_hole_related : (old : Option ℤ) → R ℤ (no_hole old) (no_hole old)
  no_hole_related old = kept.at_stop ℤ Trapped

  pub own_program : R ℤ (run_program no_hole P) (run_program no_hole P)
  own_program = program_related R kept no_hole no_hole no_hole_related P

  module _ (n : ℕ) where
    own_calls : (word : List ℕ) (gs : List Argument) → R (Option ℤ) (calls no_hole P n word gs) (calls no_hole P n word gs)
    own_calls = calls_related R kept no_hole no_hole no_hole_related P n

    pub own_eval : (t : Tree) → R (Option ℤ) (eval no_hole P (calls no_hole P n) t) (eval no_hole P (calls no_hole P n) t)
    own_eval = eval_related R kept no_hole no_hole no_hole_related P (calls no_hole P n) (calls no_hole P n) own_calls

    pub own_value : (t : Tree) → R ℤ (used (eval no_hole P (calls no_hole P n) t)) (used (eval no_hole P (calls no_hole P n) t))
    own_value t = used_related R kept (own_eval t)

    pub own_test : (t : Option Tree) → R ℤ (test_of no_hole P (calls no_hole P n) t) (test_of no_hole P (calls no_hole P n) t)
    own_test = test_related R kept no_hole no_hole no_hole_related P (calls no_hole P n) (calls no_hole P n) own_calls

    pub own_step : (t : Option Tree) → R (Unit {0}) (step_of no_hole P (calls no_hole P n) t) (step_of no_hole P (calls no_hole P n) t)
    own_step = step_related R kept no_hole no_hole no_hole_related P (calls no_hole P n) (calls no_hole P n) own_calls

    pub own_exec : (st : Code) → R Flow (exec no_hole P (calls no_hole P n) st) (exec no_hole P (calls no_hole P n) st)
    own_exec = exec_related R kept no_hole no_hole no_hole_related P (calls no_hole P n) (calls no_hole P n) own_calls

    pub own_body : (b : Body) → R Flow (run_body no_hole P (calls no_hole P n) b) (run_body no_hole P (calls no_hole P n) b)
    own_body = body_related R kept no_hole no_hole no_hole_related P (calls no_hole P n) (calls no_hole P n) own_calls
