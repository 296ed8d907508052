-- In a program without a fault each call passes arrays by their names.
use Rattle.std.proofs.Common.{◌≡◌, ℕ, suc, ◌+◌, Bool, true, false, cond, List, [], ◌∷◌, ◌++◌, map, length, Option, Some, None, refl, sym, ap, ◌∙◌, subst}
use Rattle.std.specs.Prelude.{All}
use Rattle.std.specs.List.{flat_map}
use Rattle.std.proofs.lemmas.List.Elements.{All-nil, All-cons, All-append}
use Rattle.c_tree.specs.declared.program.Param.{Param}
use Rattle.c_tree.specs.declared.stmt.Ty.{Ty}
use Rattle.c_tree.specs.Parts.{span_of}
use Rattle.c_tree.specs.Tree.{Tree, constant, name, index, call, unary, cast, binary, choice, assign, bump, comma, hole, hole_after, Args, no_args, value, format, address, Initial, bare_start, one_start, list_start, Variable, First, no_first, first_act, first_vars, Code, empty, act, block, if_then, if_else, while, do_while, for, give, break, continue, Body, done, next, vars, Outer}
use Rattle.c_types.specs.declared.fault.FaultKind.TheVariants.{Twice}
use Rattle.c_types.specs.declared.kinds.Wanted.{Wanted}
use Rattle.c_types.specs.declared.kinds.Wanted.TheVariants.{Scalar, ArrayOf}
use Rattle.c_types.specs.declared.scope.Declaration.{Declaration}
use Rattle.c_types.specs.declared.scope.Storage.{Storage}
use Rattle.c_types.specs.declared.scope.Storage.TheVariants.{Automatic}
use Rattle.c_types.specs.Arguments.{converted, wanted, value_faults, format_faults, address_faults, call_faults}
use Rattle.c_types.specs.Expressions.{index_faults, place_faults, as_number, as_void, faults, args_faults}
use Rattle.c_types.specs.Found.{option_found, initial_found, variables_found, first_found, code_found, body_found, definition_found}
use Rattle.c_types.specs.Kinds.{kind}
use Rattle.c_types.specs.Least.{fault_if}
use Rattle.c_types.specs.Programs.{definition_faults}
use Rattle.c_types.specs.Scopes.{denoted, is_declared}
use Rattle.c_types.specs.Slots.{first_count, code_count, slot_in, numbered_variable, numbered, numbered_first, resolved_tree, resolved_args, resolved_option, resolved_initial, resolved_variable, resolved_variables, resolved_first, resolved_code, resolved_body, resolved_definition}
use Rattle.c_types.specs.Statements.{variable_declaration, declared, length_faults, as_numbers, initial_faults, number_option, void_option, variable_faults, variables_faults, first_declared, first_faults, return_faults, code_faults, body_faults}
use Rattle.c_types.proofs.Checked.{none_left, none_right}
use Rattle.c_meaning.specs.Meaning.{definition, params_of}
use Rattle.run_laws.specs.Holes.{Names}
use Rattle.run_laws.specs.Passing.{IsArrayName, PassesArrays, Call, PassesByName, tree_calls, args_calls, of_calls}
use Rattle.run_laws.proofs.Called.{array_name, array_kind, Plain, plain_format, plain_address, plain_flag, AllStand, wanted_for, WantsEach, wants_head, wants_rest}
use Rattle.run_laws.proofs.Faultless.{wants_params, declared-resolved, first_declared-resolved, agree_variable, agree_declared, agree_first}

-- ---- arguments

plain_param : (w : Wanted) (p : Param) → w ≡ wanted_for p → Plain w
plain_param w p is = subst Plain (sym is) (plain_flag p.array p.ty)

module _ (ds : Names) where
  -- what stands at an array parameter
  value_named : (w : Wanted) (p : Param) (e : Tree) → w ≡ wanted_for p → value_faults w (kind ds (resolved_tree ds e)) (span_of (resolved_tree ds e)) ≡ [] → p.array ≡ true → IsArrayName ds p.ty (resolved_tree ds e)
  value_named w p e is h array =
      let e' = resolved_tree ds e in
      let wants : w ≡ ArrayOf p.ty = is ∙ ap (λ (b : Bool). cond b (ArrayOf p.ty) Scalar) array in
      array_name ds e p.ty (array_kind (kind ds e') p.ty (span_of e') (ap (λ (x : Wanted). value_faults x (kind ds e') (span_of e')) (sym wants) ∙ h))

  args_pass : (m : ℕ → Wanted) (i : ℕ) (ps : List Param) (args : Args) → WantsEach m i ps → args_faults ds m i (resolved_args ds args) ≡ [] → PassesArrays ds ps (resolved_args ds args)
  args_pass m i [] args wants h = tt
  args_pass m i (p ∷ ps) no_args wants h = tt
  args_pass m i (p ∷ ps) (value e rest) wants h =
      let e' = resolved_tree ds e in
      let own = none_left (value_faults (m i) (kind ds e') (span_of e') ++ faults ds e') _ h in (
        value_named (m i) p e (wants_head m i p ps wants) (none_left _ _ own),
        args_pass m (suc i) ps rest (wants_rest m i (p ∷ ps) wants) (none_right (value_faults (m i) (kind ds e') (span_of e') ++ faults ds e') _ h),
      )
  args_pass m i (p ∷ ps) (format text s rest) wants h = plain_format (m i) text s (plain_param (m i) p (wants_head m i p ps wants)) (none_left _ _ h)
  args_pass m i (p ∷ ps) (address e rest) wants h =
      let e' = resolved_tree ds e in
      plain_address (m i) ds e' (plain_param (m i) p (wants_head m i p ps wants)) (none_left _ _ (none_left (address_faults (m i) ds e' ++ faults ds e') _ h))

-- ---- expressions

module _ (program : List Outer) (there : Type 0) where
  abbrev pub AllPass : List Call → Type 0
  AllPass cs = All (PassesByName program) cs

  module _ (ds : Names) (agree : AllStand program there ds) where
    -- the faults of a part, without those of its kind
    number_part : (e : Tree) → as_number ds (resolved_tree ds e) ++ faults ds (resolved_tree ds e) ≡ [] → faults ds (resolved_tree ds e) ≡ []
    number_part e h = none_right (as_number ds (resolved_tree ds e)) _ h

    void_part : (e : Tree) → as_void ds (resolved_tree ds e) ++ faults ds (resolved_tree ds e) ≡ [] → faults ds (resolved_tree ds e) ≡ []
    void_part e h = none_right (as_void ds (resolved_tree ds e)) _ h

    place_part : (e : Tree) → place_faults ds (resolved_tree ds e) ++ faults ds (resolved_tree ds e) ≡ [] → faults ds (resolved_tree ds e) ≡ []
    place_part e h = none_right (place_faults ds (resolved_tree ds e)) _ h

    mutual
      tree_passes : (e : Tree) → faults ds (resolved_tree ds e) ≡ [] → AllPass (tree_calls ds (resolved_tree ds e))
      tree_passes (constant n word s) h = All-nil (PassesByName program)
      tree_passes (name word slot s) h = All-nil (PassesByName program)
      tree_passes (index word slot e s) h = tree_passes e (number_part e (none_right (index_faults (denoted ds word) s) _ h))
      tree_passes (call word args s) h =
          let args' = resolved_args ds args in
          let given : args_faults ds (wanted (denoted ds word) (converted args')) 0 args' ≡ [] = none_right (call_faults (denoted ds word) args' s) _ h in
          All-cons (PassesByName program) _ _
          (args_pass ds (wanted (denoted ds word) (converted args')) 0 (params_of (definition word program)) args
          (wants_params program [] there ds agree (converted args') word args' s (definition word program) refl (none_left _ _ h)) given)
          (args_passes (wanted (denoted ds word) (converted args')) 0 args given)
      tree_passes (unary o e s) h = tree_passes e (number_part e h)
      tree_passes (cast ty e s) h = tree_passes e (number_part e h)
      tree_passes (binary o l r s) h =
          let l' = resolved_tree ds l in
          All-append (PassesByName program) _ _ (tree_passes l (number_part l (none_left (as_number ds l' ++ faults ds l') _ h))) (tree_passes r (number_part r (none_right (as_number ds l' ++ faults ds l') _ h)))
      tree_passes (choice t a b s) h =
          let t' = resolved_tree ds t in
          let a' = resolved_tree ds a in
          let rest = none_right (as_number ds t' ++ faults ds t') _ h in
          All-append (PassesByName program) _ _ (tree_passes t (number_part t (none_left (as_number ds t' ++ faults ds t') _ h)))
          (All-append (PassesByName program) _ _ (tree_passes a (number_part a (none_left (as_number ds a' ++ faults ds a') _ rest))) (tree_passes b (number_part b (none_right (as_number ds a' ++ faults ds a') _ rest))))
      tree_passes (assign o place e s) h =
          let p' = resolved_tree ds place in
          All-append (PassesByName program) _ _ (tree_passes place (place_part place (none_left (place_faults ds p' ++ faults ds p') _ h))) (tree_passes e (number_part e (none_right (place_faults ds p' ++ faults ds p') _ h)))
      tree_passes (bump pre up place s) h = tree_passes place (place_part place h)
      tree_passes (comma l r s) h =
          let l' = resolved_tree ds l in
          All-append (PassesByName program) _ _ (tree_passes l (void_part l (none_left (as_void ds l' ++ faults ds l') _ h))) (tree_passes r (number_part r (none_right (as_void ds l' ++ faults ds l') _ h)))
      tree_passes hole h = All-nil (PassesByName program)
      tree_passes (hole_after e) h = tree_passes e (number_part e h)

      args_passes : (m : ℕ → Wanted) (i : ℕ) (args : Args) → args_faults ds m i (resolved_args ds args) ≡ [] → AllPass (args_calls ds (resolved_args ds args))
      args_passes m i no_args h = All-nil (PassesByName program)
      args_passes m i (value e rest) h =
          let e' = resolved_tree ds e in
          let own = none_left (value_faults (m i) (kind ds e') (span_of e') ++ faults ds e') _ h in
          All-append (PassesByName program) _ _ (tree_passes e (none_right (value_faults (m i) (kind ds e') (span_of e')) _ own))
          (args_passes m (suc i) rest (none_right (value_faults (m i) (kind ds e') (span_of e') ++ faults ds e') _ h))
      args_passes m i (format text s rest) h = args_passes m (suc i) rest (none_right (format_faults (m i) text s) _ h)
      args_passes m i (address e rest) h =
          let e' = resolved_tree ds e in
          let own = none_left (address_faults (m i) ds e' ++ faults ds e') _ h in
          All-append (PassesByName program) _ _ (tree_passes e (none_right (address_faults (m i) ds e') _ own))
          (args_passes m (suc i) rest (none_right (address_faults (m i) ds e' ++ faults ds e') _ h))

    number_passes : (e : Tree) → as_number ds (resolved_tree ds e) ++ faults ds (resolved_tree ds e) ≡ [] → AllPass (tree_calls ds (resolved_tree ds e))
    number_passes e h = tree_passes e (number_part e h)

    void_passes : (e : Tree) → as_void ds (resolved_tree ds e) ++ faults ds (resolved_tree ds e) ≡ [] → AllPass (tree_calls ds (resolved_tree ds e))
    void_passes e h = tree_passes e (void_part e h)

    number_option_passes : (o : Option Tree) → number_option ds (resolved_option ds o) ≡ [] → AllPass (option_found of_calls ds (resolved_option ds o))
    number_option_passes None h = All-nil (PassesByName program)
    number_option_passes (Some e) h = number_passes e h

    void_option_passes : (o : Option Tree) → void_option ds (resolved_option ds o) ≡ [] → AllPass (option_found of_calls ds (resolved_option ds o))
    void_option_passes None h = All-nil (PassesByName program)
    void_option_passes (Some e) h = void_passes e h

    list_passes : (es : List Tree) → as_numbers ds (map (resolved_tree ds) es) ≡ [] → AllPass (flat_map (tree_calls ds) (map (resolved_tree ds) es))
    list_passes [] h = All-nil (PassesByName program)
    list_passes (e ∷ es) h =
        let e' = resolved_tree ds e in
        All-append (PassesByName program) _ _ (number_passes e (none_left (as_number ds e' ++ faults ds e') _ h)) (list_passes es (none_right (as_number ds e' ++ faults ds e') _ h))

    initial_passes : (word : List ℕ) (start : Initial) → initial_faults ds (resolved_initial ds start) ≡ [] → AllPass (initial_found of_calls ds word (resolved_initial ds start))
    initial_passes word bare_start h = All-nil (PassesByName program)
    initial_passes word (one_start e) h = number_passes e h
    initial_passes word (list_start es) h = list_passes es h

  -- ---- declarations and statements

  pub variables_pass : (storage : Storage) (ty : Ty) (n : ℕ) (vs : List Variable) (here around : List Declaration) → AllStand program there (here ++ around)
      → variables_faults storage here around ty (resolved_variables here around ty (numbered (slot_in storage) n vs)) ≡ [] → AllPass (variables_found of_calls here around ty (resolved_variables here around ty (numbered (slot_in storage) n vs)))
  variables_pass storage ty n [] here around agree h = All-nil (PassesByName program)
  variables_pass storage ty n (v ∷ vs) here around agree h =
      let w = numbered_variable (slot_in storage n) v in
      let d = variable_declaration ty w in
      let r = resolved_variable here around ty w in
      let more : AllStand program there (d ∷ (here ++ around)) = agree_variable program [] there (slot_in storage n) ty v (here ++ around) agree in
      let own = none_left (variable_faults storage here around ty r) _ h in
      let starts = none_left (initial_faults (d ∷ (here ++ around)) r.start) _ (none_right (length_faults r.shape r.start r.span) _ (none_right (fault_if (is_declared here r.word) Twice r.span) _ own)) in
      All-append (PassesByName program) _ _ (initial_passes (d ∷ (here ++ around)) more v.word v.start starts)
      (variables_pass storage ty (suc n) vs (d ∷ here) around more (none_right (variable_faults storage here around ty r) _ h))

  first_passes : (ds : List Declaration) (n : ℕ) (f : First) → AllStand program there ds → first_faults ds (resolved_first ds (numbered_first n f)) ≡ [] → AllPass (first_found of_calls ds (resolved_first ds (numbered_first n f)))
  first_passes ds n no_first agree h = All-nil (PassesByName program)
  first_passes ds n (first_act e) agree h = void_passes ds agree e h
  first_passes ds n (first_vars ty vs) agree h = variables_pass Automatic ty n vs [] ds agree h

  module _ (ret : Option Ty) where
    mutual
      code_passes : (c : Code) (ds : List Declaration) (agree : AllStand program there ds) (n : ℕ) (in_loop : Bool) → code_faults ret ds in_loop (resolved_code ds n c) ≡ [] → AllPass (code_found of_calls ds (resolved_code ds n c))
      code_passes (empty s) ds agree n in_loop h = All-nil (PassesByName program)
      code_passes (act e s) ds agree n in_loop h = void_passes ds agree e h
      code_passes (block body s) ds agree n in_loop h = body_passes body [] ds agree n in_loop h
      code_passes (if_then t a s) ds agree n in_loop h =
          let t' = resolved_tree ds t in
          All-append (PassesByName program) _ _ (number_passes ds agree t (none_left (as_number ds t' ++ faults ds t') _ h)) (code_passes a ds agree n in_loop (none_right (as_number ds t' ++ faults ds t') _ h))
      code_passes (if_else t a b s) ds agree n in_loop h =
          let t' = resolved_tree ds t in
          let rest = none_right (as_number ds t' ++ faults ds t') _ h in
          All-append (PassesByName program) _ _ (number_passes ds agree t (none_left (as_number ds t' ++ faults ds t') _ h))
          (All-append (PassesByName program) _ _ (code_passes a ds agree n in_loop (none_left _ _ rest))
          (code_passes b ds agree (n + code_count a) in_loop (none_right (code_faults ret ds in_loop (resolved_code ds n a)) _ rest)))
      code_passes (while t a s) ds agree n in_loop h =
          let t' = resolved_tree ds t in
          All-append (PassesByName program) _ _ (number_passes ds agree t (none_left (as_number ds t' ++ faults ds t') _ h)) (code_passes a ds agree n true (none_right (as_number ds t' ++ faults ds t') _ h))
      code_passes (do_while a t s) ds agree n in_loop h =
          All-append (PassesByName program) _ _ (code_passes a ds agree n true (none_left _ _ h)) (number_passes ds agree t (none_right (code_faults ret ds true (resolved_code ds n a)) _ h))
      code_passes (for f t u a s) ds agree n in_loop h =
          let i = numbered_first n f in
          let es = first_declared i ++ ds in
          let same : first_declared (resolved_first ds i) ++ ds ≡ es = ap (λ z. z ++ ds) (first_declared-resolved ds i) in
          let all : AllStand program there es = agree_first program [] there n f ds agree in
          let k = n + first_count f in
          let ds' = first_declared (resolved_first ds i) ++ ds in
          let firsts = first_faults ds (resolved_first ds i) in
          let clauses : firsts ++ (number_option ds' (resolved_option es t) ++ void_option ds' (resolved_option es u)) ≡ [] = none_left _ _ h in
          let rest = none_right firsts _ clauses in
          let tests : number_option es (resolved_option es t) ≡ [] = ap (λ z. number_option z (resolved_option es t)) (sym same) ∙ none_left _ _ rest in
          let steps : void_option es (resolved_option es u) ≡ [] =
          ap (λ z. void_option z (resolved_option es u)) (sym same) ∙ none_right (number_option ds' (resolved_option es t)) _ rest in
          let arms : code_faults ret es true (resolved_code es k a) ≡ [] =
          ap (λ z. code_faults ret z true (resolved_code es k a)) (sym same)
          ∙ none_right (firsts ++ (number_option ds' (resolved_option es t) ++ void_option ds' (resolved_option es u))) _ h in
          All-append (PassesByName program) _ _ (first_passes ds n f agree (none_left firsts _ clauses))
          (subst (λ (z : List Declaration). AllPass (option_found of_calls z (resolved_option es t) ++ (option_found of_calls z (resolved_option es u) ++ code_found of_calls z (resolved_code es k a)))) (sym same)
          (All-append (PassesByName program) _ _ (number_option_passes es all t tests)
          (All-append (PassesByName program) _ _ (void_option_passes es all u steps) (code_passes a es all k true arms))))
      code_passes (give e s) ds agree n in_loop h = number_option_passes ds agree e (none_right (return_faults ret (resolved_option ds e) s) _ h)
      code_passes (break s) ds agree n in_loop h = All-nil (PassesByName program)
      code_passes (continue s) ds agree n in_loop h = All-nil (PassesByName program)

      body_passes : (b : Body) (here around : List Declaration) (agree : AllStand program there (here ++ around)) (n : ℕ) (in_loop : Bool)
          → body_faults ret here around in_loop (resolved_body here around n b) ≡ [] → AllPass (body_found of_calls here around (resolved_body here around n b))
      body_passes done here around agree n in_loop h = All-nil (PassesByName program)
      body_passes (next c rest) here around agree n in_loop h =
          All-append (PassesByName program) _ _ (code_passes c (here ++ around) agree n in_loop (none_left _ _ h))
          (body_passes rest here around agree (n + code_count c) in_loop (none_right (code_faults ret (here ++ around) in_loop (resolved_code (here ++ around) n c)) _ h))
      body_passes (vars ty vs rest) here around agree n in_loop h =
          let ws = numbered (slot_in Automatic) n vs in
          let rs = resolved_variables here around ty ws in
          let same : declared ty rs here ≡ declared ty ws here = declared-resolved here around ty ws here in
          let body = resolved_body (declared ty ws here) around (n + length vs) rest in
          let inner : body_faults ret (declared ty ws here) around in_loop body ≡ [] =
          ap (λ z. body_faults ret z around in_loop body) (sym same) ∙ none_right (variables_faults Automatic here around ty rs) _ h in
          All-append (PassesByName program) _ _ (variables_pass Automatic ty n vs here around agree (none_left _ _ h))
          (subst (λ (z : List Declaration). AllPass (body_found of_calls z around body)) (sym same)
          (body_passes rest (declared ty ws here) around (agree_declared program [] there Automatic ty n vs here around agree) (n + length vs) in_loop inner))

  pub definition_passes : (ret : Option Ty) (b : Option Body) (here around : List Declaration) (agree : AllStand program there (here ++ around)) (n : ℕ)
      → definition_faults ret here around (resolved_definition here around n b) ≡ [] → AllPass (definition_found of_calls here around (resolved_definition here around n b))
  definition_passes ret None here around agree n h = All-nil (PassesByName program)
  definition_passes ret (Some body) here around agree n h = body_passes ret body here around agree n false h
