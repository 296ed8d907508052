-- Resolving looks at no span, no slot and no spelling of a constant. So checked programs that are
-- the same but for these have the same slots.
use Rattle.std.proofs.Common.{◌≡◌, ℕ, suc, ◌+◌, List, [], ◌∷◌, ◌++◌, map, length, Option, Some, None, refl, sym, ap, ap₂, ◌∙◌}
use Rattle.std.proofs.lemmas.List.{length-map}
use Rattle.c_tree.specs.declared.program.Param.{Param}
use Rattle.c_tree.specs.declared.stmt.Slot.{Slot}
use Rattle.c_tree.specs.declared.stmt.Ty.{Ty}
use Rattle.c_tree.specs.Tree.{Tree, constant, name, index, call, unary, cast, binary, choice, assign, bump, comma, hole, hole_after, Args, no_args, value, format, address, Initial, bare_start, one_start, list_start, Variable, First, no_first, first_act, first_vars, Code, empty, act, block, if_then, if_else, while, do_while, for, give, break, continue, Body, done, next, vars, Function, Outer, outer_vars, outer_func, no_span, bare, bare_args, bare_option, bare_initial, bare_variable, bare_first, bare_code, bare_body, bare_param, bare_maybe, bare_function, bare_program}
use Rattle.c_types.specs.declared.scope.Declaration.{Declaration}
use Rattle.c_types.specs.declared.scope.Storage.TheVariants.{Static, Automatic}
use Rattle.c_types.specs.Evidence.{IsChecked}
use Rattle.c_types.specs.Library.{library}
use Rattle.c_types.specs.Programs.{param_declaration, params_declared, function_declaration}
use Rattle.c_types.specs.Scopes.{denoted}
use Rattle.c_types.specs.Slots.{first_count, code_count, body_count, slot_in, entity_slot, numbered_variable, numbered, numbered_param, numbered_params, resolved_tree, resolved_args, resolved_option, resolved_initial, resolved_variable, resolved_variables, numbered_first, resolved_first, resolved_code, resolved_body, resolved_definition, resolved_function, resolved_outers, resolved}
use Rattle.c_types.specs.Statements.{variable_declaration, declared, first_declared}
use Rattle.bare_laws.specs.Plain.{plain, plain_args, plain_option, plain_initial, plain_variable, plain_first, plain_code, plain_body, plain_param, plain_maybe, plain_function, plain_program}
use Rattle.bare_laws.proofs.Declared.{function_declaration-same}

-- ---- expressions

module _ (ds : List Declaration) where
  mutual
    -- an expression, resolved
    tree-same : (e : Tree) → plain (resolved_tree ds e) ≡ resolved_tree ds (bare e)
    tree-same (constant n word s) = refl
    tree-same (name word slot s) = refl
    tree-same (index word slot e s) =
        ap (λ x. index word (entity_slot (denoted ds word)) x no_span) (tree-same e)
    tree-same (call word x s) = ap (λ y. call word y no_span) (args-same x)
    tree-same (unary op e s) = ap (λ x. unary op x no_span) (tree-same e)
    tree-same (cast ty e s) = ap (λ x. cast ty x no_span) (tree-same e)
    tree-same (binary op l r s) = λ i. binary op (tree-same l i) (tree-same r i) no_span
    tree-same (choice t a b s) =
        λ i. choice (tree-same t i) (tree-same a i) (tree-same b i) no_span
    tree-same (assign op place e s) =
        λ i. assign op (tree-same place i) (tree-same e i) no_span
    tree-same (bump before up place s) = ap (λ x. bump before up x no_span) (tree-same place)
    tree-same (comma l r s) = λ i. comma (tree-same l i) (tree-same r i) no_span
    tree-same hole = refl
    tree-same (hole_after e) = ap hole_after (tree-same e)

    args-same : (x : Args) → plain_args (resolved_args ds x) ≡ resolved_args ds (bare_args x)
    args-same no_args = refl
    args-same (value e x) = ap₂ value (tree-same e) (args-same x)
    args-same (format text s x) = ap (format text no_span) (args-same x)
    args-same (address e x) = ap₂ address (tree-same e) (args-same x)

  option-same : (o : Option Tree)
      → plain_option (resolved_option ds o) ≡ resolved_option ds (bare_option o)
  option-same None = refl
  option-same (Some e) = ap Some (tree-same e)

  trees-same : (es : List Tree)
      → map plain (map (resolved_tree ds) es) ≡ map (resolved_tree ds) (map bare es)
  trees-same [] = refl
  trees-same (e ∷ es) = ap₂ (λ x xs. x ∷ xs) (tree-same e) (trees-same es)

  initial-same : (start : Initial)
      → plain_initial (resolved_initial ds start) ≡ resolved_initial ds (bare_initial start)
  initial-same bare_start = refl
  initial-same (one_start e) = ap one_start (tree-same e)
  initial-same (list_start es) = ap list_start (trees-same es)

-- ---- declarations: they are numbered before they are in scope

-- a declarator, resolved in its own scope
variable-same : (here around : List Declaration) (ty : Ty) (slot : Slot) (v : Variable)
    → plain_variable (resolved_variable here around ty (numbered_variable slot v))
    ≡ resolved_variable here around ty (numbered_variable slot (bare_variable v))
variable-same here around ty slot v =
    λ i. record {
      word = v.word;
      slot = slot;
      span = no_span;
      shape = v.shape;
      start = initial-same
          (variable_declaration ty (numbered_variable slot v) ∷ (here ++ around)) v.start i;
    }

module _ (slot : ℕ → Slot) (ty : Ty) where
  -- declarators, one after another
  variables-same : (here around : List Declaration) (n : ℕ) (vs : List Variable)
      → map plain_variable (resolved_variables here around ty (numbered slot n vs))
      ≡ resolved_variables here around ty (numbered slot n (map bare_variable vs))
  variables-same here around n [] = refl
  variables-same here around n (v ∷ vs) =
      ap₂ (λ x xs. x ∷ xs) (variable-same here around ty (slot n) v)
      (variables-same (variable_declaration ty (numbered_variable (slot n) v) ∷ here) around
      (suc n) vs)

  -- what they declare is the same
  declared-same : (n : ℕ) (vs : List Variable) (here : List Declaration)
      → declared ty (numbered slot n (map bare_variable vs)) here
      ≡ declared ty (numbered slot n vs) here
  declared-same n [] here = refl
  declared-same n (v ∷ vs) here =
      declared-same (suc n) vs (variable_declaration ty (numbered_variable (slot n) v) ∷ here)

first-same : (ds : List Declaration) (n : ℕ) (f : First)
    → plain_first (resolved_first ds (numbered_first n f))
    ≡ resolved_first ds (numbered_first n (bare_first f))
first-same ds n no_first = refl
first-same ds n (first_act e) = ap first_act (tree-same ds e)
first-same ds n (first_vars ty vs) =
    ap (first_vars ty) (variables-same (slot_in Automatic) ty [] ds n vs)

-- what the first clause of a `for` declares is the same
first_declared-same : (n : ℕ) (f : First)
    → first_declared (numbered_first n (bare_first f)) ≡ first_declared (numbered_first n f)
first_declared-same n no_first = refl
first_declared-same n (first_act e) = refl
first_declared-same n (first_vars ty vs) = declared-same (slot_in Automatic) ty n vs []

-- ---- how many variables are declared

first_count-same : (f : First) → first_count (bare_first f) ≡ first_count f
first_count-same no_first = refl
first_count-same (first_act e) = refl
first_count-same (first_vars ty vs) = length-map vs bare_variable

mutual
  code_count-same : (c : Code) → code_count (bare_code c) ≡ code_count c
  code_count-same (empty s) = refl
  code_count-same (act e s) = refl
  code_count-same (block body s) = body_count-same body
  code_count-same (if_then t a s) = code_count-same a
  code_count-same (if_else t a b s) =
      ap₂ (λ m n. m + n) (code_count-same a) (code_count-same b)
  code_count-same (while t a s) = code_count-same a
  code_count-same (do_while a t s) = code_count-same a
  code_count-same (for f t u a s) =
      ap₂ (λ m n. m + n) (first_count-same f) (code_count-same a)
  code_count-same (give e s) = refl
  code_count-same (break s) = refl
  code_count-same (continue s) = refl

  body_count-same : (b : Body) → body_count (bare_body b) ≡ body_count b
  body_count-same done = refl
  body_count-same (next c rest) =
      ap₂ (λ m n. m + n) (code_count-same c) (body_count-same rest)
  body_count-same (vars ty vs rest) =
      ap₂ (λ m n. m + n) (length-map vs bare_variable) (body_count-same rest)

-- ---- statements

mutual
  -- a statement, resolved
  code-same : (ds : List Declaration) (n : ℕ) (c : Code)
      → plain_code (resolved_code ds n c) ≡ resolved_code ds n (bare_code c)
  code-same ds n (empty s) = refl
  code-same ds n (act e s) = ap (λ x. act x no_span) (tree-same ds e)
  code-same ds n (block body s) = ap (λ b. block b no_span) (body-same [] ds n body)
  code-same ds n (if_then t a s) =
      λ i. if_then (tree-same ds t i) (code-same ds n a i) no_span
  code-same ds n (if_else t a b s) =
      (λ i. if_else (tree-same ds t i) (code-same ds n a i)
      (code-same ds (n + code_count a) b i) no_span)
      ∙ ap
      (λ k. if_else (resolved_tree ds (bare t)) (resolved_code ds n (bare_code a))
      (resolved_code ds (n + k) (bare_code b)) no_span)
      (sym (code_count-same a))
  code-same ds n (while t a s) = λ i. while (tree-same ds t i) (code-same ds n a i) no_span
  code-same ds n (do_while a t s) =
      λ i. do_while (code-same ds n a i) (tree-same ds t i) no_span
  code-same ds n (for f t u a s) =
      let hs : List Declaration = first_declared (numbered_first n f) ++ ds in
      (λ i. for (first-same ds n f i) (option-same hs t i) (option-same hs u i)
      (code-same hs (n + first_count f) a i) no_span)
      ∙ ap₂
      (λ fs k. for (resolved_first ds (numbered_first n (bare_first f)))
      (resolved_option (fs ++ ds) (bare_option t)) (resolved_option (fs ++ ds) (bare_option u))
      (resolved_code (fs ++ ds) (n + k) (bare_code a)) no_span)
      (sym (first_declared-same n f)) (sym (first_count-same f))
  code-same ds n (give e s) = ap (λ o. give o no_span) (option-same ds e)
  code-same ds n (break s) = refl
  code-same ds n (continue s) = refl

  -- the items of a block, resolved
  body-same : (here around : List Declaration) (n : ℕ) (b : Body)
      → plain_body (resolved_body here around n b)
      ≡ resolved_body here around n (bare_body b)
  body-same here around n done = refl
  body-same here around n (next c rest) =
      ap₂ next (code-same (here ++ around) n c) (body-same here around (n + code_count c) rest)
      ∙ ap
      (λ k. next (resolved_code (here ++ around) n (bare_code c))
      (resolved_body here around (n + k) (bare_body rest)))
      (sym (code_count-same c))
  body-same here around n (vars ty vs rest) =
      let slot : ℕ → Slot = slot_in Automatic in
      ap₂ (vars ty) (variables-same slot ty here around n vs)
      (body-same (declared ty (numbered slot n vs) here) around (n + length vs) rest)
      ∙ ap₂
      (λ hs k. vars ty (resolved_variables here around ty (numbered slot n (map bare_variable vs)))
      (resolved_body hs around (n + k) (bare_body rest)))
      (sym (declared-same slot ty n vs here)) (sym (length-map vs bare_variable))

-- ---- functions

params-same : (n : ℕ) (ps : List Param)
    → map plain_param (numbered_params n ps) ≡ numbered_params n (map bare_param ps)
params-same n [] = refl
params-same n (p ∷ ps) =
    ap (λ qs. plain_param (numbered_param n p) ∷ qs) (params-same (suc n) ps)

-- parameters declare the same
params_declared-same : (n : ℕ) (ps : List Param) (here : List Declaration)
    → params_declared (numbered_params n (map bare_param ps)) here
    ≡ params_declared (numbered_params n ps) here
params_declared-same n [] here = refl
params_declared-same n (p ∷ ps) here =
    params_declared-same (suc n) ps (param_declaration (numbered_param n p) ∷ here)

definition-same : (here around : List Declaration) (n : ℕ) (b : Option Body)
    → plain_maybe (resolved_definition here around n b)
    ≡ resolved_definition here around n (bare_maybe b)
definition-same here around n None = refl
definition-same here around n (Some body) = ap Some (body-same here around n body)

-- a function, resolved
function-same : (around : List Declaration) (f : Function)
    → plain_function (resolved_function around f) ≡ resolved_function around (bare_function f)
function-same around f =
    let hs : List Declaration = params_declared (numbered_params 0 f.params) [] in
    let body : plain_maybe (resolved_definition hs around (length f.params) f.body)
    ≡ resolved_definition
    (params_declared (numbered_params 0 (map bare_param f.params)) []) around
    (length (map bare_param f.params)) (bare_maybe f.body) =
    definition-same hs around (length f.params) f.body
    ∙ ap₂ (λ ds k. resolved_definition ds around k (bare_maybe f.body))
    (sym (params_declared-same 0 f.params [])) (sym (length-map f.params bare_param)) in
    λ i. record {
      word = f.word;
      span = no_span;
      ret = f.ret;
      params = params-same 0 f.params i;
      body = body i;
    }

-- ---- what stands at file scope

module _ (file : List Outer) where
  -- what stands at file scope, resolved
  outers-same : (here : List Declaration) (n : ℕ) (p : List Outer)
      → plain_program (resolved_outers file here n p)
      ≡ resolved_outers (bare_program file) here n (bare_program p)
  outers-same here n [] = refl
  outers-same here n (outer_vars ty vs ∷ rest) =
      let slot : ℕ → Slot = slot_in Static in
      ap₂ (λ xs ys. outer_vars ty xs ∷ ys) (variables-same slot ty here [] n vs)
      (outers-same (declared ty (numbered slot n vs) here) (n + length vs) rest)
      ∙ ap₂
      (λ hs k. outer_vars ty (resolved_variables here [] ty (numbered slot n (map bare_variable vs)))
      ∷ resolved_outers (bare_program file) hs (n + k) (bare_program rest))
      (sym (declared-same slot ty n vs here)) (sym (length-map vs bare_variable))
  outers-same here n (outer_func f ∷ rest) =
      let hs : List Declaration = function_declaration file f ∷ here in
      ap₂ (λ g ys. outer_func g ∷ ys) (function-same hs f) (outers-same hs n rest)
      ∙ ap
      (λ d. outer_func (resolved_function (d ∷ here) (bare_function f))
      ∷ resolved_outers (bare_program file) (d ∷ here) n (bare_program rest))
      (sym (function_declaration-same file f))

-- the resolved program without spans and the spelling of constants is the bare one, resolved
resolved-same : (p : List Outer) → plain_program (resolved p) ≡ resolved (bare_program p)
resolved-same p = outers-same p library 0 p

-- checked programs that are the same but for spans, slots and the spelling of constants are the
-- same but for spans and the spelling of constants
pub plain-alike : (p q : List Outer) → IsChecked p → IsChecked q
    → bare_program p ≡ bare_program q → plain_program p ≡ plain_program q
plain-alike p q hp hq h =
    ap plain_program (sym hp.is_resolved) ∙ resolved-same p ∙ ap resolved h
    ∙ sym (resolved-same q) ∙ ap plain_program hq.is_resolved
