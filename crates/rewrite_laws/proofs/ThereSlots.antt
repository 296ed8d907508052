-- A rewrite after which each name at a location has the slot of its variable, with the declarations that are in scope there,
-- leaves every name of a resolved program with its slot.
use Rattle.std.proofs.Common.{◌≡◌, ℕ, suc, ◌+◌, Bool, true, false, if◌then◌else◌, List, [], ◌∷◌, ◌++◌, map, length, Option, Some, None, refl, sym, ap, ap₂, ◌∙◌}
use Rattle.std.proofs.lemmas.List.{length-map}
use Rattle.c_tree.specs.declared.place.Loc.{Loc}
use Rattle.c_tree.specs.declared.place.LocKind.{LocKind}
use Rattle.c_tree.specs.declared.place.LocKind.TheVariants.{Guard, Cond, Right}
use Rattle.c_tree.specs.declared.stmt.Slot.{Slot}
use Rattle.c_tree.specs.declared.stmt.Ty.{Ty}
use Rattle.c_tree.specs.Parts.{span_of, span_of_code}
use Rattle.c_tree.specs.Tree.{Tree, constant, name, index, call, unary, cast, binary, choice, assign, bump, comma, hole, hole_after, Args, no_args, value, format, address, Initial, bare_start, one_start, list_start, Variable, First, no_first, first_act, first_vars, Code, empty, act, block, if_then, if_else, while, do_while, for, give, break, continue, Body, done, next, vars, Function, Outer, outer_vars, outer_func}
use Rattle.c_types.specs.declared.scope.Declaration.{Declaration}
use Rattle.c_types.specs.declared.scope.Storage.TheVariants.{Static, Automatic}
use Rattle.c_types.specs.Library.{library}
use Rattle.c_types.specs.Programs.{params_declared, function_declaration}
use Rattle.c_types.specs.Scopes.{denoted}
use Rattle.c_types.specs.Slots.{first_count, code_count, body_count, slot_in, entity_slot, numbered_variable, numbered, numbered_params, resolved_tree, resolved_args, resolved_option, resolved_initial, resolved_variable, resolved_variables, numbered_first, resolved_first, resolved_code, resolved_body, resolved_definition, resolved_function, resolved_outers, resolved}
use Rattle.c_types.specs.Statements.{variable_declaration, declared, first_declared}
use Rattle.c_location.specs.Locations.{stands}
use Rattle.c_location.specs.Rewrites.{Rewrite, at_tree, at_code, to_tree, to_args, to_test, to_step, to_value, to_initial, to_variable, to_first, to_code, to_body, to_definition, rewritten}
use Rattle.rewrite_laws.proofs.SeesThere.{Here, HereCode, InTree, InArgs, InPart, InOption, InStep, InTrees, InInitial, InVariables, InFirst, InCode, InBody, InDefinition, InOuters, InProgram}

-- after the rewrite of what stands at a location each name there has its slot, where it had it before; a statement declares as
-- many variables as before
pub record KeepsSlots (S : List Declaration → Tree → Type 0) (C : List Declaration → Type 0) (r : Rewrite) : Type 0 where
  pub tree : (ds : List Declaration) (e : Tree) → S ds e → resolved_tree ds e ≡ e → resolved_tree ds (r.tree e) ≡ r.tree e
  pub code : (ds : List Declaration) (n : ℕ) (c : Code) → C ds → resolved_code ds n c ≡ c → resolved_code ds n (r.code c) ≡ r.code c
  pub count : (c : Code) → code_count (r.code c) ≡ code_count c

-- declarators whose names are resolved have the slots that are given to them
numbered-same : (slot : ℕ → Slot) (n : ℕ) (here around : List Declaration) (ty : Ty) (vs : List Variable)
    → resolved_variables here around ty (numbered slot n vs) ≡ vs → numbered slot n vs ≡ vs
numbered-same slot n here around ty [] h = refl
numbered-same slot n here around ty (v ∷ vs) h =
    let first : resolved_variable here around ty (numbered_variable (slot n) v) ≡ v = cc in
    let d = variable_declaration ty (numbered_variable (slot n) v) in
    let rest : resolved_variables (d ∷ here) around ty (numbered slot (suc n) vs) ≡ vs = cc in
    let own : slot n ≡ v.slot = ap (λ (w : Variable). w.slot) first in
    ap₂ (λ (w : Variable) (ws : List Variable). w ∷ ws) (λ i. record v { slot = own i }) (numbered-same slot (suc n) (d ∷ here) around ty vs rest)

module _ (l : Loc) (r : Rewrite) (S : List Declaration → Tree → Type 0) (C : List Declaration → Type 0) (keeps : KeepsSlots S C r) where
  module _ (ds : List Declaration) where
    -- a part that can be a location, given what its inside becomes
    at_chosen : (kind : LocKind) (e : Tree) → Here l S C kind ds e → resolved_tree ds e ≡ e → resolved_tree ds (to_tree l r e) ≡ to_tree l r e
        → resolved_tree ds (at_tree l r kind e (to_tree l r e)) ≡ at_tree l r kind e (to_tree l r e)
    at_chosen kind e h was inside = by_test (stands l kind (span_of e)) refl
      where
        by_test : (b : Bool) → stands l kind (span_of e) ≡ b → resolved_tree ds (if b then r.tree e else to_tree l r e) ≡ (if b then r.tree e else to_tree l r e)
        by_test true is = keeps.tree ds e (h is) was
        by_test false is = inside

    mutual
      tree-slots : (e : Tree) → InTree l S C ds e → resolved_tree ds e ≡ e → resolved_tree ds (to_tree l r e) ≡ to_tree l r e
      tree-slots (constant n word s) h was = refl
      tree-slots (name word slot s) h was = was
      tree-slots (index word slot e s) h was =
          let own : entity_slot (denoted ds word) ≡ slot = cc in
          let part : resolved_tree ds e ≡ e = cc in
          ap₂ (λ v x. index word v x s) own (tree-slots e h part)
      tree-slots (call word x s) h was =
          let part : resolved_args ds x ≡ x = cc in
          ap (λ y. call word y s) (args-slots x h part)
      tree-slots (unary op e s) h was =
          let part : resolved_tree ds e ≡ e = cc in
          ap (λ x. unary op x s) (tree-slots e h part)
      tree-slots (cast ty e s) h was =
          let part : resolved_tree ds e ≡ e = cc in
          ap (λ x. cast ty x s) (tree-slots e h part)
      tree-slots (binary op a b s) h was =
          let one : resolved_tree ds a ≡ a = cc in
          let two : resolved_tree ds b ≡ b = cc in
          ap₂ (λ x y. binary op x y s) (tree-slots a h.0 one) (tree-slots b h.1 two)
      tree-slots (choice t a b s) h was =
          let one : resolved_tree ds t ≡ t = cc in
          let two : resolved_tree ds a ≡ a = cc in
          let three : resolved_tree ds b ≡ b = cc in
          let p = tree-slots t h.0 one in
          let q = tree-slots a h.1 two in
          let w = tree-slots b h.2 three in
          λ i. choice (p i) (q i) (w i) s
      tree-slots (assign None place e s) h was =
          let one : resolved_tree ds place ≡ place = cc in
          let two : resolved_tree ds e ≡ e = cc in
          ap₂ (λ x y. assign None x y s) (tree-slots place h.0 one) (at_chosen Right e h.1 two (tree-slots e h.2 two))
      tree-slots (assign (Some op) place e s) h was =
          let one : resolved_tree ds place ≡ place = cc in
          let two : resolved_tree ds e ≡ e = cc in
          ap₂ (λ x y. assign (Some op) x y s) (tree-slots place h.0 one) (tree-slots e h.2 two)
      tree-slots (bump before up place s) h was =
          let part : resolved_tree ds place ≡ place = cc in
          ap (λ x. bump before up x s) (tree-slots place h part)
      tree-slots (comma a b s) h was =
          let one : resolved_tree ds a ≡ a = cc in
          let two : resolved_tree ds b ≡ b = cc in
          ap₂ (λ x y. comma x y s) (tree-slots a h.0 one) (tree-slots b h.1 two)
      tree-slots hole h was = refl
      tree-slots (hole_after e) h was =
          let part : resolved_tree ds e ≡ e = cc in
          ap hole_after (tree-slots e h part)

      args-slots : (x : Args) → InArgs l S C ds x → resolved_args ds x ≡ x → resolved_args ds (to_args l r x) ≡ to_args l r x
      args-slots no_args h was = refl
      args-slots (value e x) h was =
          let one : resolved_tree ds e ≡ e = cc in
          let two : resolved_args ds x ≡ x = cc in
          ap₂ value (tree-slots e h.0 one) (args-slots x h.1 two)
      args-slots (format text s x) h was =
          let two : resolved_args ds x ≡ x = cc in
          ap (format text s) (args-slots x h two)
      args-slots (address e x) h was =
          let one : resolved_tree ds e ≡ e = cc in
          let two : resolved_args ds x ≡ x = cc in
          ap₂ address (tree-slots e h.0 one) (args-slots x h.1 two)

    at-slots : (kind : LocKind) (e : Tree) → InPart l S C kind ds e → resolved_tree ds e ≡ e
        → resolved_tree ds (at_tree l r kind e (to_tree l r e)) ≡ at_tree l r kind e (to_tree l r e)
    at-slots kind e h was = at_chosen kind e h.0 was (tree-slots e h.1 was)

    trees-slots : (es : List Tree) → InTrees l S C ds es → map (resolved_tree ds) es ≡ es
        → map (resolved_tree ds) (map (to_tree l r) es) ≡ map (to_tree l r) es
    trees-slots [] h was = refl
    trees-slots (e ∷ es) h was =
        let one : resolved_tree ds e ≡ e = cc in
        let two : map (resolved_tree ds) es ≡ es = cc in
        ap₂ (λ x xs. x ∷ xs) (tree-slots e h.0 one) (trees-slots es h.1 two)

    test-slots : (o : Option Tree) → InOption l S C Cond ds o → resolved_option ds o ≡ o → resolved_option ds (to_test l r o) ≡ to_test l r o
    test-slots None h was = refl
    test-slots (Some e) h was =
        let part : resolved_tree ds e ≡ e = cc in
        ap Some (at-slots Cond e h part)

    step-slots : (o : Option Tree) → InStep l S C ds o → resolved_option ds o ≡ o → resolved_option ds (to_step l r o) ≡ to_step l r o
    step-slots None h was = refl
    step-slots (Some e) h was =
        let part : resolved_tree ds e ≡ e = cc in
        ap Some (tree-slots e h part)

    value-slots : (o : Option Tree) → InOption l S C Right ds o → resolved_option ds o ≡ o → resolved_option ds (to_value l r o) ≡ to_value l r o
    value-slots None h was = refl
    value-slots (Some e) h was =
        let part : resolved_tree ds e ≡ e = cc in
        ap Some (at-slots Right e h part)

    initial-slots : (start : Initial) → InInitial l S C ds start → resolved_initial ds start ≡ start → resolved_initial ds (to_initial l r start) ≡ to_initial l r start
    initial-slots bare_start h was = refl
    initial-slots (one_start e) h was =
        let part : resolved_tree ds e ≡ e = cc in
        ap one_start (at-slots Right e h part)
    initial-slots (list_start es) h was =
        let part : map (resolved_tree ds) es ≡ es = cc in
        ap list_start (trees-slots es h part)

  -- numbering declarators and rewriting them go side by side
  numbered-kept : (slot : ℕ → Slot) (n : ℕ) (vs : List Variable) → numbered slot n (map (to_variable l r) vs) ≡ map (to_variable l r) (numbered slot n vs)
  numbered-kept slot n [] = refl
  numbered-kept slot n (v ∷ vs) = ap (λ ws. to_variable l r (numbered_variable (slot n) v) ∷ ws) (numbered-kept slot (suc n) vs)

  declared-kept : (ty : Ty) (vs : List Variable) (here : List Declaration) → declared ty (map (to_variable l r) vs) here ≡ declared ty vs here
  declared-kept ty [] here = refl
  declared-kept ty (v ∷ vs) here = declared-kept ty vs (variable_declaration ty v ∷ here)

  variables-slots : (here around : List Declaration) (ty : Ty) (vs : List Variable) → InVariables l S C here around ty vs
      → resolved_variables here around ty vs ≡ vs → resolved_variables here around ty (map (to_variable l r) vs) ≡ map (to_variable l r) vs
  variables-slots here around ty [] h was = refl
  variables-slots here around ty (v ∷ vs) h was =
      let d = variable_declaration ty v in
      let first : resolved_variable here around ty v ≡ v = cc in
      let start : resolved_initial (d ∷ (here ++ around)) v.start ≡ v.start = ap (λ (w : Variable). w.start) first in
      let rest : resolved_variables (d ∷ here) around ty vs ≡ vs = cc in
      ap₂ (λ x xs. record v { start = x } ∷ xs) (initial-slots (d ∷ (here ++ around)) v.start h.0 start) (variables-slots (d ∷ here) around ty vs h.1 rest)

  -- declarators that have their slots already
  declarators-slots : (slot : ℕ → Slot) (n : ℕ) (here around : List Declaration) (ty : Ty) (vs : List Variable) → InVariables l S C here around ty vs
      → resolved_variables here around ty (numbered slot n vs) ≡ vs
      → resolved_variables here around ty (numbered slot n (map (to_variable l r) vs)) ≡ map (to_variable l r) vs
  declarators-slots slot n here around ty vs h was =
      let same : numbered slot n vs ≡ vs = numbered-same slot n here around ty vs was in
      ap (resolved_variables here around ty) (numbered-kept slot n vs ∙ ap (map (to_variable l r)) same)
      ∙ variables-slots here around ty vs h (sym (ap (resolved_variables here around ty) same) ∙ was)

  -- what they declare
  numbered-declared : (slot : ℕ → Slot) (n : ℕ) (around : List Declaration) (ty : Ty) (vs : List Variable) (here : List Declaration)
      → resolved_variables here around ty (numbered slot n vs) ≡ vs → declared ty (numbered slot n (map (to_variable l r) vs)) here ≡ declared ty vs here
  numbered-declared slot n around ty vs here was =
      let same : numbered slot n vs ≡ vs = numbered-same slot n here around ty vs was in
      ap (λ ws. declared ty ws here) (numbered-kept slot n vs ∙ ap (map (to_variable l r)) same) ∙ declared-kept ty vs here

  -- a statement that can be a location declares as much as before
  count_at : (c inside : Code) → code_count inside ≡ code_count c → code_count (at_code l r c inside) ≡ code_count c
  count_at c inside same = by_test (stands l Guard (span_of_code c))
    where
      by_test : (b : Bool) → code_count (if b then r.code c else inside) ≡ code_count c
      by_test true = keeps.count c
      by_test false = same

  first_count-kept : (f : First) → first_count (to_first l r f) ≡ first_count f
  first_count-kept no_first = refl
  first_count-kept (first_act e) = refl
  first_count-kept (first_vars ty vs) = length-map vs (to_variable l r)

  mutual
    count-kept : (c : Code) → code_count (to_code l r c) ≡ code_count c
    count-kept (empty s) = refl
    count-kept (act e s) = count_at (act e s) (act (to_tree l r e) s) refl
    count-kept (block body s) = body_count-kept body
    count-kept (if_then t a s) = count-kept a
    count-kept (if_else t a b s) = ap₂ (λ m n. m + n) (count-kept a) (count-kept b)
    count-kept (while t a s) = count-kept a
    count-kept (do_while a t s) = count-kept a
    count-kept (for f t u a s) = ap₂ (λ m n. m + n) (first_count-kept f) (count-kept a)
    count-kept (give e s) = count_at (give e s) (give (to_value l r e) s) refl
    count-kept (break s) = count_at (break s) (break s) refl
    count-kept (continue s) = count_at (continue s) (continue s) refl

    body_count-kept : (b : Body) → body_count (to_body l r b) ≡ body_count b
    body_count-kept done = refl
    body_count-kept (next c rest) = ap₂ (λ m n. m + n) (count-kept c) (body_count-kept rest)
    body_count-kept (vars ty vs rest) = ap₂ (λ m n. m + n) (length-map vs (to_variable l r)) (body_count-kept rest)

  -- a statement that can be a location, given what it becomes where it is none
  code_at : (ds : List Declaration) (n : ℕ) (c inside : Code) → HereCode l S C ds (span_of_code c) → resolved_code ds n c ≡ c
      → resolved_code ds n inside ≡ inside → resolved_code ds n (at_code l r c inside) ≡ at_code l r c inside
  code_at ds n c inside h was same = by_test (stands l Guard (span_of_code c)) refl
    where
      by_test : (b : Bool) → stands l Guard (span_of_code c) ≡ b → resolved_code ds n (if b then r.code c else inside) ≡ (if b then r.code c else inside)
      by_test true is = keeps.code ds n c (h is) was
      by_test false is = same

  first-slots : (ds : List Declaration) (n : ℕ) (f : First) → InFirst l S C ds f → resolved_first ds (numbered_first n f) ≡ f
      → resolved_first ds (numbered_first n (to_first l r f)) ≡ to_first l r f
  first-slots ds n no_first h was = refl
  first-slots ds n (first_act e) h was =
      let part : resolved_tree ds e ≡ e = cc in
      ap first_act (tree-slots ds e h part)
  first-slots ds n (first_vars ty vs) h was =
      let part : resolved_variables [] ds ty (numbered (slot_in Automatic) n vs) ≡ vs = cc in
      ap (first_vars ty) (declarators-slots (slot_in Automatic) n [] ds ty vs h part)

  -- the scope of a `for` is that of the program before, which has its slots already
  scope-kept : (ds : List Declaration) (n : ℕ) (f : First) → resolved_first ds (numbered_first n f) ≡ f
      → first_declared (numbered_first n (to_first l r f)) ≡ first_declared f
  scope-kept ds n no_first was = refl
  scope-kept ds n (first_act e) was = refl
  scope-kept ds n (first_vars ty vs) was =
      let part : resolved_variables [] ds ty (numbered (slot_in Automatic) n vs) ≡ vs = cc in
      numbered-declared (slot_in Automatic) n ds ty vs [] part

  scope-same : (ds : List Declaration) (n : ℕ) (f : First) → resolved_first ds (numbered_first n f) ≡ f
      → first_declared (numbered_first n f) ≡ first_declared f
  scope-same ds n no_first was = refl
  scope-same ds n (first_act e) was = refl
  scope-same ds n (first_vars ty vs) was =
      let part : resolved_variables [] ds ty (numbered (slot_in Automatic) n vs) ≡ vs = cc in
      ap (λ ws. declared ty ws []) (numbered-same (slot_in Automatic) n [] ds ty vs part)

  mutual
    code-slots : (ds : List Declaration) (n : ℕ) (c : Code) → InCode l S C ds c → resolved_code ds n c ≡ c → resolved_code ds n (to_code l r c) ≡ to_code l r c
    code-slots ds n (empty s) h was = refl
    code-slots ds n (act e s) h was =
        let part : resolved_tree ds e ≡ e = cc in
        code_at ds n (act e s) (act (to_tree l r e) s) h.0 was (ap (λ x. act x s) (tree-slots ds e h.1 part))
    code-slots ds n (block body s) h was =
        let part : resolved_body [] ds n body ≡ body = cc in
        ap (λ b. block b s) (body-slots [] ds n body h part)
    code-slots ds n (if_then t a s) h was =
        let one : resolved_tree ds t ≡ t = cc in
        let two : resolved_code ds n a ≡ a = cc in
        ap₂ (λ x c. if_then x c s) (at-slots ds Cond t h.0 one) (code-slots ds n a h.1 two)
    code-slots ds n (if_else t a b s) h was =
        let one : resolved_tree ds t ≡ t = cc in
        let two : resolved_code ds n a ≡ a = cc in
        let three : resolved_code ds (n + code_count a) b ≡ b = cc in
        let p = at-slots ds Cond t h.0 one in
        let q = code-slots ds n a h.1 two in
        let later : resolved_code ds (n + code_count (to_code l r a)) (to_code l r b) ≡ to_code l r b =
        ap (λ k. resolved_code ds (n + k) (to_code l r b)) (count-kept a) ∙ code-slots ds (n + code_count a) b h.2 three in
        λ i. if_else (p i) (q i) (later i) s
    code-slots ds n (while t a s) h was =
        let one : resolved_tree ds t ≡ t = cc in
        let two : resolved_code ds n a ≡ a = cc in
        ap₂ (λ x c. while x c s) (at-slots ds Cond t h.0 one) (code-slots ds n a h.1 two)
    code-slots ds n (do_while a t s) h was =
        let one : resolved_tree ds t ≡ t = cc in
        let two : resolved_code ds n a ≡ a = cc in
        ap₂ (λ c x. do_while c x s) (code-slots ds n a h.0 two) (at-slots ds Cond t h.1 one)
    code-slots ds n (for f t u a s) h was =
        let clause : resolved_first ds (numbered_first n f) ≡ f = cc in
        let scope : first_declared (numbered_first n f) ≡ first_declared f = scope-same ds n f clause in
        let after : first_declared (numbered_first n (to_first l r f)) ≡ first_declared f = scope-kept ds n f clause in
        let two : resolved_option (first_declared (numbered_first n f) ++ ds) t ≡ t = cc in
        let three : resolved_option (first_declared (numbered_first n f) ++ ds) u ≡ u = cc in
        let four : resolved_code (first_declared (numbered_first n f) ++ ds) (n + first_count f) a ≡ a = cc in
        let inner : List Declaration = first_declared f ++ ds in
        let test : resolved_option inner t ≡ t = sym (ap (λ hs. resolved_option (hs ++ ds) t) scope) ∙ two in
        let step : resolved_option inner u ≡ u = sym (ap (λ hs. resolved_option (hs ++ ds) u) scope) ∙ three in
        let body : resolved_code inner (n + first_count f) a ≡ a = sym (ap (λ hs. resolved_code (hs ++ ds) (n + first_count f) a) scope) ∙ four in
        let p = first-slots ds n f h.0 clause in
        let q = ap (λ hs. resolved_option (hs ++ ds) (to_test l r t)) after ∙ test-slots inner t h.1 test in
        let w = ap (λ hs. resolved_option (hs ++ ds) (to_step l r u)) after ∙ step-slots inner u h.2 step in
        let arm : resolved_code (first_declared (numbered_first n (to_first l r f)) ++ ds) (n + first_count (to_first l r f)) (to_code l r a) ≡ to_code l r a =
        ap₂ (λ hs k. resolved_code (hs ++ ds) (n + k) (to_code l r a)) after (first_count-kept f) ∙ code-slots inner (n + first_count f) a h.3 body in
        λ i. for (p i) (q i) (w i) (arm i) s
    code-slots ds n (give e s) h was =
        let part : resolved_option ds e ≡ e = cc in
        code_at ds n (give e s) (give (to_value l r e) s) h.0 was (ap (λ x. give x s) (value-slots ds e h.1 part))
    code-slots ds n (break s) h was = code_at ds n (break s) (break s) h was refl
    code-slots ds n (continue s) h was = code_at ds n (continue s) (continue s) h was refl

    body-slots : (here around : List Declaration) (n : ℕ) (b : Body) → InBody l S C here around b → resolved_body here around n b ≡ b
        → resolved_body here around n (to_body l r b) ≡ to_body l r b
    body-slots here around n done h was = refl
    body-slots here around n (next c rest) h was =
        let one : resolved_code (here ++ around) n c ≡ c = cc in
        let two : resolved_body here around (n + code_count c) rest ≡ rest = cc in
        let later : resolved_body here around (n + code_count (to_code l r c)) (to_body l r rest) ≡ to_body l r rest =
        ap (λ k. resolved_body here around (n + k) (to_body l r rest)) (count-kept c) ∙ body-slots here around (n + code_count c) rest h.1 two in
        ap₂ next (code-slots (here ++ around) n c h.0 one) later
    body-slots here around n (vars ty vs rest) h was =
        let one : resolved_variables here around ty (numbered (slot_in Automatic) n vs) ≡ vs = cc in
        let two : resolved_body (declared ty (numbered (slot_in Automatic) n vs) here) around (n + length vs) rest ≡ rest = cc in
        let scope : declared ty (numbered (slot_in Automatic) n vs) here ≡ declared ty vs here = ap (λ ws. declared ty ws here) (numbered-same (slot_in Automatic) n here around ty vs one) in
        let body : resolved_body (declared ty vs here) around (n + length vs) rest ≡ rest = sym (ap (λ hs. resolved_body hs around (n + length vs) rest) scope) ∙ two in
        let later : resolved_body (declared ty (numbered (slot_in Automatic) n (map (to_variable l r) vs)) here) around (n + length (map (to_variable l r) vs)) (to_body l r rest) ≡ to_body l r rest =
        ap₂ (λ hs k. resolved_body hs around (n + k) (to_body l r rest)) (numbered-declared (slot_in Automatic) n around ty vs here one) (length-map vs (to_variable l r))
        ∙ body-slots (declared ty vs here) around (n + length vs) rest h.1 body in
        ap₂ (vars ty) (declarators-slots (slot_in Automatic) n here around ty vs h.0 one) later

  definition-slots : (here around : List Declaration) (n : ℕ) (b : Option Body) → InDefinition l S C here around b → resolved_definition here around n b ≡ b
      → resolved_definition here around n (to_definition l r b) ≡ to_definition l r b
  definition-slots here around n None h was = refl
  definition-slots here around n (Some body) h was =
      let part : resolved_body here around n body ≡ body = cc in
      ap Some (body-slots here around n body h part)

  -- a function is declared as before
  abbrev changed : Function → Function
  changed f = record f { body = to_definition l r f.body }

  module _ (file : List Outer) (same : (f : Function) → function_declaration (rewritten l r file) (changed f) ≡ function_declaration file f) where
    function-slots : (here : List Declaration) (f : Function) → InDefinition l S C (params_declared f.params []) (function_declaration file f ∷ here) f.body
        → resolved_function (function_declaration file f ∷ here) f ≡ f
        → resolved_function (function_declaration (rewritten l r file) (changed f) ∷ here) (changed f) ≡ changed f
    function-slots here f h was =
        let around : List Declaration = function_declaration file f ∷ here in
        let params : numbered_params 0 f.params ≡ f.params = ap (λ (g : Function). g.params) was in
        let body : resolved_definition (params_declared (numbered_params 0 f.params) []) around (length f.params) f.body ≡ f.body = ap (λ (g : Function). g.body) was in
        let before : resolved_definition (params_declared f.params []) around (length f.params) f.body ≡ f.body =
        sym (ap (λ ps. resolved_definition (params_declared ps []) around (length f.params) f.body) params) ∙ body in
        let after : resolved_definition (params_declared (numbered_params 0 f.params) []) (function_declaration (rewritten l r file) (changed f) ∷ here) (length f.params) (to_definition l r f.body) ≡ to_definition l r f.body =
        ap₂ (λ ps d. resolved_definition (params_declared ps []) (d ∷ here) (length f.params) (to_definition l r f.body)) params (same f)
        ∙ definition-slots (params_declared f.params []) around (length f.params) f.body h before in
        λ i. record f { params = params i; body = after i }

    outers-slots : (here : List Declaration) (n : ℕ) (p : List Outer) → InOuters l S C file here p → resolved_outers file here n p ≡ p
        → resolved_outers (rewritten l r file) here n (rewritten l r p) ≡ rewritten l r p
    outers-slots here n [] h was = refl
    outers-slots here n (outer_vars ty vs ∷ rest) h was =
        let one : resolved_variables here [] ty (numbered (slot_in Static) n vs) ≡ vs = cc in
        let two : resolved_outers file (declared ty (numbered (slot_in Static) n vs) here) (n + length vs) rest ≡ rest = cc in
        let scope : declared ty (numbered (slot_in Static) n vs) here ≡ declared ty vs here = ap (λ ws. declared ty ws here) (numbered-same (slot_in Static) n here [] ty vs one) in
        let body : resolved_outers file (declared ty vs here) (n + length vs) rest ≡ rest = sym (ap (λ hs. resolved_outers file hs (n + length vs) rest) scope) ∙ two in
        let later : resolved_outers (rewritten l r file) (declared ty (numbered (slot_in Static) n vs) here) (n + length vs) (rewritten l r rest) ≡ rewritten l r rest =
        ap (λ hs. resolved_outers (rewritten l r file) hs (n + length vs) (rewritten l r rest)) scope ∙ outers-slots (declared ty vs here) (n + length vs) rest h body in
        ap₂ (λ ws os. outer_vars ty ws ∷ os) one later
    outers-slots here n (outer_func f ∷ rest) h was =
        let one : resolved_function (function_declaration file f ∷ here) f ≡ f = cc in
        let two : resolved_outers file (function_declaration file f ∷ here) n rest ≡ rest = cc in
        let later : resolved_outers (rewritten l r file) (function_declaration (rewritten l r file) (changed f) ∷ here) n (rewritten l r rest) ≡ rewritten l r rest =
        ap (λ d. resolved_outers (rewritten l r file) (d ∷ here) n (rewritten l r rest)) (same f) ∙ outers-slots (function_declaration file f ∷ here) n rest h.1 two in
        ap₂ (λ g os. outer_func g ∷ os) (function-slots here f h.0 one) later

  -- every name of the rewritten program has its slot
  pub program-slots : (p : List Outer) → ((f : Function) → function_declaration (rewritten l r p) (changed f) ≡ function_declaration p f)
      → InProgram l S C p → resolved p ≡ p → resolved (rewritten l r p) ≡ rewritten l r p
  program-slots p same h was = outers-slots p same library 0 p h was
