-- Where control leads from the statements of a function without a fault: out of a loop only inside of it, and by a
-- `return` that has a value exactly where the function has a result.
use Rattle.std.proofs.Common.{◌≡◌, ℕ, zero, suc, ℤ, pos, List, [], ◌++◌, Option, Some, None, is_some, Bool, true, false, not, cond, refl, ap, ◌∙◌, codes}
use Rattle.std.specs.Prelude.{⊤}
use Rattle.std.specs.Str.{bytes_eq}
use Rattle.c_tree.specs.declared.place.Span.{Span}
use Rattle.c_tree.specs.declared.stmt.Ty.{Ty}
use Rattle.c_tree.specs.Tree.{Tree, Code, empty, act, block, if_then, if_else, while, do_while, for, give, break, continue, Body, done, next, vars, Function, Outer}
use Rattle.c_arith.specs.Arith.{is_zero}
use Rattle.c_types.specs.declared.fault.FaultKind.TheVariants.{WrongKind, LoopOnly}
use Rattle.c_types.specs.declared.scope.Declaration.{Declaration}
use Rattle.c_types.specs.declared.scope.Storage.TheVariants.{Automatic}
use Rattle.c_types.specs.Expressions.{as_number, faults}
use Rattle.c_types.specs.Statements.{declared, first_declared, clause_faults, variables_faults, return_faults, code_faults, body_faults}
use Rattle.c_types.specs.Programs.{definition_faults}
use Rattle.c_types.proofs.Checked.{none_left, none_right, no_fault}
use Rattle.c_meaning.specs.declared.argument.Argument.{Argument}
use Rattle.c_meaning.specs.declared.stop.End.{End}
use Rattle.c_meaning.specs.declared.stop.End.TheVariants.{Trapped, Budget}
use Rattle.c_meaning.specs.declared.stop.Flow.{Flow}
use Rattle.c_meaning.specs.declared.stop.Flow.TheVariants.{Next, Break, Continue, Return}
use Rattle.c_meaning.specs.World.{World, Out, going, over, waiting, Run, and_then, pure, stop, used, ◌>>=◌, ◌>>◌}
use Rattle.c_meaning.specs.Steps.{unit, object_count, cut, scoped, swap, framed}
use Rattle.c_meaning.specs.Meaning.{Filling, Called, on_zero, jump, on_next, on_turn, turn_test_first, turn_body_first, or_again, turns, looping, eval, perform, declare, begin, test_of, step_of, exec, run_body, bind_params, returned, result_of, enter_body}
use Rattle.run_laws.specs.Reads.{Then}
use Rattle.run_laws.specs.Bodies.{LeavesBody}
use Rattle.run_laws.proofs.Called.{no_such, not_true}

-- ---- parts that give such values

-- where a part goes on, it is so of its value
pub record Gives {A : Type 0} (P : A → Type 0) (m : Run A) : Type 0 where
  pub by : (w : World) → Then (m w) (λ a x. P a)

then_bind : {A B : Type 0} (P : A → Type 0) (Q : B → Type 0) (o : Out A) (f : A → Run B) → Then o (λ a x. P a) → ((a : A) → P a → Gives Q (f a)) → Then (and_then o f) (λ b x. Q b)
then_bind P Q (going a x) f h g = (g a h).by x
then_bind P Q (over e x) f h g = tt
then_bind P Q (waiting old x) f h g = tt

then_any : {A : Type 0} (o : Out A) → Then o (λ a x. ⊤)
then_any (going a x) = tt
then_any (over e x) = tt
then_any (waiting old x) = tt

gives_bind : {A B : Type 0} (P : A → Type 0) (Q : B → Type 0) (m : Run A) (f : A → Run B) → Gives P m → ((a : A) → P a → Gives Q (f a)) → Gives Q (m >>= f)
gives_bind P Q m f h g = record { by = λ w. then_bind P Q (m w) f (h.by w) g }

-- whatever comes before
gives_then : {A B : Type 0} (Q : B → Type 0) (m : Run A) (f : A → Run B) → ((a : A) → Gives Q (f a)) → Gives Q (m >>= f)
gives_then Q m f g = record { by = λ w. then_bind (λ a. ⊤) Q (m w) f (then_any (m w)) (λ a p. g a) }

gives_after : {A B : Type 0} (Q : B → Type 0) (m : Run A) (n : Run B) → Gives Q n → Gives Q (m >> n)
gives_after Q m n g = record { by = λ w. then_bind (λ a. ⊤) Q (m w) (λ a. n) (then_any (m w)) (λ a p. g) }

gives_pure : {A : Type 0} (P : A → Type 0) (a : A) → P a → Gives P (pure a)
gives_pure P a h = record { by = λ w. h }

gives_stop : {A : Type 0} (P : A → Type 0) (e : End) → Gives P (stop e)
gives_stop P e = record { by = λ w. tt }

gives_chosen : {A : Type 0} (P : A → Type 0) (b : Bool) (m n : Run A) → Gives P m → Gives P n → Gives P (λ w. cond b (m w) (n w))
gives_chosen P true m n h g = h
gives_chosen P false m n h g = g

gives_on_zero : {A : Type 0} (P : A → Type 0) (v : ℤ) (m n : Run A) → Gives P m → Gives P n → Gives P (on_zero v m n)
gives_on_zero P v m n h g = gives_chosen P (is_zero v) m n h g

gives_framed : {A : Type 0} (P : A → Type 0) (m : Run A) → Gives P m → Gives P (framed m)
gives_framed P m h =
    gives_then P (swap []) (λ outer. m >>= (λ a. swap outer >>= (λ inner. pure a)))
    (λ outer. gives_bind P P m (λ a. swap outer >>= (λ inner. pure a)) h (λ a p. gives_then P (swap outer) (λ inner. pure a) (λ inner. gives_pure P a p)))

gives_scoped : {A : Type 0} (P : A → Type 0) (m : Run A) → Gives P m → Gives P (scoped m)
gives_scoped P m h =
    gives_then P object_count (λ count. m >>= (λ a. cut count >> pure a))
    (λ count. gives_bind P P m (λ a. cut count >> pure a) h (λ a p. gives_after P (cut count) (pure a) (gives_pure P a p)))

-- ---- where statements lead

-- control may lead there from a statement of a function with that result, which stands in a loop or not
abbrev pub Leads : Option Ty → Bool → Flow → Type 0
Leads ret in_loop Next = ⊤
Leads ret in_loop Break = in_loop ≡ true
Leads ret in_loop Continue = in_loop ≡ true
Leads ret in_loop (Return v) = is_some v ≡ is_some ret

-- the same of a turn of a loop
abbrev LeadsOn : Option Ty → Bool → Option Flow → Type 0
LeadsOn ret in_loop (Some flow) = Leads ret in_loop flow
LeadsOn ret in_loop None = ⊤

module _ (ret : Option Ty) (in_loop : Bool) where
  next_leads : (flow : Flow) (rest : Run Flow) → Leads ret in_loop flow → Gives (Leads ret in_loop) rest → Gives (Leads ret in_loop) (on_next flow rest)
  next_leads Next rest h g = g
  next_leads Break rest h g = gives_pure (Leads ret in_loop) Break h
  next_leads Continue rest h g = gives_pure (Leads ret in_loop) Continue h
  next_leads (Return v) rest h g = gives_pure (Leads ret in_loop) (Return v) h

  turn_leads : (flow : Flow) (rest : Run (Option Flow)) → Leads ret true flow → Gives (LeadsOn ret in_loop) rest → Gives (LeadsOn ret in_loop) (on_turn flow rest)
  turn_leads Next rest h g = g
  turn_leads Continue rest h g = g
  turn_leads Break rest h g = gives_pure (LeadsOn ret in_loop) (Some Next) tt
  turn_leads (Return v) rest h g = gives_pure (LeadsOn ret in_loop) (Some (Return v)) h

  test_turn_leads : (test : Run ℤ) (body : Run Flow) (step : Run (Unit {0})) → Gives (Leads ret true) body → Gives (LeadsOn ret in_loop) (turn_test_first test body step)
  test_turn_leads test body step h =
      let P = LeadsOn ret in_loop in
      gives_after P unit _ (gives_then P test _ (λ v. gives_on_zero P v (pure (Some Next)) (body >>= (λ flow. on_turn flow (step >> pure None))) (gives_pure P (Some Next) tt)
      (gives_bind (Leads ret true) P body _ h (λ flow l. turn_leads flow (step >> pure None) l (gives_after P step (pure None) (gives_pure P None tt))))))

  body_turn_leads : (body : Run Flow) (test : Run ℤ) → Gives (Leads ret true) body → Gives (LeadsOn ret in_loop) (turn_body_first body test)
  body_turn_leads body test h =
      let P = LeadsOn ret in_loop in
      gives_bind (Leads ret true) P body _ h (λ flow l. turn_leads flow (unit >> (test >>= (λ v. on_zero v (pure (Some Next)) (pure None)))) l
      (gives_after P unit _ (gives_then P test _ (λ v. gives_on_zero P v (pure (Some Next)) (pure None) (gives_pure P (Some Next) tt) (gives_pure P None tt)))))

  again_leads : (o : Option Flow) (more : Run Flow) → LeadsOn ret in_loop o → Gives (Leads ret in_loop) more → Gives (Leads ret in_loop) (or_again o more)
  again_leads (Some flow) more h g = gives_pure (Leads ret in_loop) flow h
  again_leads None more h g = g

  turns_lead : (turn : Run (Option Flow)) → Gives (LeadsOn ret in_loop) turn → (n : ℕ) → Gives (Leads ret in_loop) (turns turn n)
  turns_lead turn h zero = gives_stop (Leads ret in_loop) Budget
  turns_lead turn h (suc n) = gives_bind (LeadsOn ret in_loop) (Leads ret in_loop) turn _ h (λ o l. again_leads o (turns turn n) l (turns_lead turn h n))

  loop_leads : (turn : Run (Option Flow)) → Gives (LeadsOn ret in_loop) turn → Gives (Leads ret in_loop) (looping turn)
  unfolding looping
  loop_leads turn h = record { by = λ w. (turns_lead turn h (suc w.units)).by w }

  jump_leads : (flow : Flow) → Leads ret in_loop flow → Gives (Leads ret in_loop) (jump flow)
  jump_leads flow h = gives_after (Leads ret in_loop) unit (pure flow) (gives_pure (Leads ret in_loop) flow h)

-- a `return` without a fault fits the result
none_returned : (ret : Option Ty) (s : Span) → return_faults ret None s ≡ [] → is_some {T = ℤ} None ≡ is_some ret
none_returned None s h = refl
none_returned (Some ty) s h = no_such WrongKind s h

value_returned : (ret : Option Ty) (e : Tree) (v : ℤ) (s : Span) → return_faults ret (Some e) s ≡ [] → is_some (Some v) ≡ is_some ret
value_returned None e v s h = no_such WrongKind s h
value_returned (Some ty) e v s h = refl

module _ (filling : Filling) (program : List Outer) (called : Called) (ret : Option Ty) where
  mutual
    code_leads : (c : Code) (ds : List Declaration) (in_loop : Bool) → code_faults ret ds in_loop c ≡ [] → Gives (Leads ret in_loop) (exec filling program called c)
    code_leads (empty s) ds in_loop h = gives_pure (Leads ret in_loop) Next tt
    code_leads (act e s) ds in_loop h =
        gives_after (Leads ret in_loop) unit _ (gives_after (Leads ret in_loop) (perform filling program called e) (pure Next) (gives_pure (Leads ret in_loop) Next tt))
    code_leads (block body s) ds in_loop h = gives_scoped (Leads ret in_loop) (run_body filling program called body) (body_leads body [] ds in_loop h)
    code_leads (if_then t a s) ds in_loop h =
        let P = Leads ret in_loop in
        gives_after P unit _ (gives_then P (used (eval filling program called t)) _ (λ v.
        gives_on_zero P v (pure Next) (exec filling program called a) (gives_pure P Next tt) (code_leads a ds in_loop (none_right (as_number ds t ++ faults ds t) _ h))))
    code_leads (if_else t a b s) ds in_loop h =
        let P = Leads ret in_loop in
        let rest = none_right (as_number ds t ++ faults ds t) _ h in
        gives_after P unit _ (gives_then P (used (eval filling program called t)) _ (λ v.
        gives_on_zero P v (exec filling program called b) (exec filling program called a) (code_leads b ds in_loop (none_right (code_faults ret ds in_loop a) _ rest)) (code_leads a ds in_loop (none_left _ _ rest))))
    code_leads (while t a s) ds in_loop h =
        loop_leads ret in_loop _ (test_turn_leads ret in_loop (used (eval filling program called t)) (exec filling program called a) (pure tt) (code_leads a ds true (none_right (as_number ds t ++ faults ds t) _ h)))
    code_leads (do_while a t s) ds in_loop h =
        loop_leads ret in_loop _ (body_turn_leads ret in_loop (exec filling program called a) (used (eval filling program called t)) (code_leads a ds true (none_left _ _ h)))
    code_leads (for i t u a s) ds in_loop h =
        gives_scoped (Leads ret in_loop) _ (gives_after (Leads ret in_loop) (begin filling program called i) _
        (loop_leads ret in_loop _ (test_turn_leads ret in_loop (test_of filling program called t) (exec filling program called a) (step_of filling program called u)
        (code_leads a (first_declared i ++ ds) true (none_right (clause_faults ds i t u) _ h)))))
    code_leads (give None s) ds in_loop h = jump_leads ret in_loop (Return None) (none_returned ret s (none_left _ _ h))
    code_leads (give (Some e) s) ds in_loop h =
        let P = Leads ret in_loop in
        gives_after P unit _ (gives_then P (used (eval filling program called e)) _ (λ v. gives_pure P (Return (Some v)) (value_returned ret e v s (none_left _ _ h))))
    code_leads (break s) ds in_loop h = jump_leads ret in_loop Break (not_true in_loop (no_fault (not in_loop) LoopOnly s h))
    code_leads (continue s) ds in_loop h = jump_leads ret in_loop Continue (not_true in_loop (no_fault (not in_loop) LoopOnly s h))

    pub body_leads : (b : Body) (here around : List Declaration) (in_loop : Bool) → body_faults ret here around in_loop b ≡ [] → Gives (Leads ret in_loop) (run_body filling program called b)
    body_leads done here around in_loop h = gives_pure (Leads ret in_loop) Next tt
    body_leads (next c rest) here around in_loop h =
        gives_bind (Leads ret in_loop) (Leads ret in_loop) (exec filling program called c) _ (code_leads c (here ++ around) in_loop (none_left _ _ h))
        (λ flow l. next_leads ret in_loop flow (run_body filling program called rest) l (body_leads rest here around in_loop (none_right (code_faults ret (here ++ around) in_loop c) _ h)))
    body_leads (vars ty vs rest) here around in_loop h =
        gives_after (Leads ret in_loop) (declare filling program called ty vs) _ (body_leads rest (declared ty vs here) around in_loop (none_right (variables_faults Automatic here around ty vs) _ h))

  pub leaves : (flow : Flow) → Leads ret false flow → LeavesBody ret flow
  leaves Next h = tt
  leaves Break h = absurd (cc)
  leaves Continue h = absurd (cc)
  leaves (Return v) h = h

  then_leaves : (o : Out Flow) → Then o (λ flow x. Leads ret false flow) → Then o (λ flow x. LeavesBody ret flow)
  then_leaves (going flow x) h = leaves flow h
  then_leaves (over e x) h = tt
  then_leaves (waiting old x) h = tt

  -- so control leaves the body of a function as it may
  pub body_left : (b : Body) (here around : List Declaration) → body_faults ret here around false b ≡ [] → (w : World) → Then (run_body filling program called b w) (λ flow x. LeavesBody ret flow)
  body_left b here around h w = then_leaves (run_body filling program called b w) ((body_leads b here around false h).by w)

-- ---- the value of `main`

-- what `main` gives where control leaves its body so
main_given : (f : Function) → bytes_eq f.word (codes "main") ≡ true → is_some f.ret ≡ true → (flow : Flow) → LeavesBody f.ret flow → is_some (result_of f flow) ≡ true
main_given f named has Next h = ap (λ (b : Bool). is_some (cond b (Some (pos 0)) None)) named
main_given f named has Break h = absurd h
main_given f named has Continue h = absurd h
main_given f named has (Return None) h = let wrong : false ≡ true = h ∙ has in absurd (cc)
main_given f named has (Return (Some v)) h = given f.ret has
  where
    given : (ret : Option Ty) → is_some ret ≡ true → is_some (returned ret v) ≡ true
    given None k = absurd (cc)
    given (Some ty) k = refl

-- so its call gives a value
pub main_gives : (filling : Filling) (program : List Outer) (called : Called) (f : Function) (body : Option Body) (here around : List Declaration) (gs : List Argument)
    → bytes_eq f.word (codes "main") ≡ true → is_some f.ret ≡ true → definition_faults f.ret here around body ≡ [] → Gives (λ o. is_some o ≡ true) (enter_body (run_body filling program called) f body gs)
main_gives filling program called f None here around gs named has h = gives_stop (λ o. is_some o ≡ true) Trapped
main_gives filling program called f (Some body) here around gs named has h =
    let go = bind_params f.params gs >> run_body filling program called body in
    gives_after (λ o. is_some o ≡ true) unit _
    (gives_bind (Leads f.ret false) (λ o. is_some o ≡ true) (framed (scoped go)) _
    (gives_framed (Leads f.ret false) (scoped go) (gives_scoped (Leads f.ret false) go
    (gives_after (Leads f.ret false) (bind_params f.params gs) (run_body filling program called body) (body_leads filling program called f.ret body here around false h))))
    (λ flow l. gives_pure (λ o. is_some o ≡ true) (result_of f flow) (main_given f named has flow (leaves filling program called f.ret flow l))))
