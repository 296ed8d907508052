-- Resolving changes slots alone, and doesn't look at those that were there before.
use Rattle.std.proofs.Common.{◌≡◌, ℕ, suc, ◌+◌, List, [], ◌∷◌, ◌++◌, map, length, Option, Some, None, refl, ap, ap₂, ◌∙◌}
use Rattle.std.proofs.lemmas.List.{length-map}
use Rattle.c_tree.specs.declared.program.Param.{Param}
use Rattle.c_tree.specs.declared.stmt.Slot.{Slot}
use Rattle.c_tree.specs.declared.stmt.Slot.TheVariants.{Unset}
use Rattle.c_tree.specs.declared.stmt.Ty.{Ty}
use Rattle.c_tree.specs.Tree.{Tree, constant, name, index, call, unary, cast, binary, choice, assign, bump, comma, hole, hole_after, Args, no_args, value, format, address, Initial, bare_start, one_start, list_start, Variable, First, no_first, first_act, first_vars, Code, empty, act, block, if_then, if_else, while, do_while, for, give, break, continue, Body, done, next, vars, Function, Outer, outer_vars, outer_func}
use Rattle.c_types.specs.declared.scope.Declaration.{Declaration}
use Rattle.c_types.specs.declared.scope.Storage.TheVariants.{Static, Automatic}
use Rattle.c_types.specs.Library.{library}
use Rattle.c_types.specs.Programs.{function_declaration, params_declared}
use Rattle.c_types.specs.Scopes.{denoted}
use Rattle.c_types.specs.Slots.{entity_slot, first_count, code_count, body_count, slot_in, numbered_variable, numbered, numbered_param, numbered_params, resolved_tree, resolved_args, resolved_option, resolved_initial, resolved_variables, numbered_first, resolved_first, resolved_code, resolved_body, resolved_definition, resolved_function, resolved_outers, resolved}
use Rattle.c_types.specs.Statements.{variable_declaration, declared, first_declared}
use Rattle.c_types.specs.Unresolved.{unresolved_tree, unresolved_args, unresolved_option, unresolved_initial, unresolved_variable, unresolved_first, unresolved_code, unresolved_body, unresolved_definition, unresolved_param, unresolved_function, unresolved}
use Rattle.c_types.proofs.SlotlessFaults.{function_declaration-same}

-- Resolving changes slots alone.
module _ (ds : List Declaration) where
  mutual
    tree-kept : (e : Tree) → unresolved_tree (resolved_tree ds e) ≡ unresolved_tree e
    tree-kept (constant n word s) = refl
    tree-kept (name word slot s) = refl
    tree-kept (index word slot e s) = ap (λ x. index word Unset x s) (tree-kept e)
    tree-kept (call word x s) = ap (λ y. call word y s) (args-kept x)
    tree-kept (unary op e s) = ap (λ x. unary op x s) (tree-kept e)
    tree-kept (cast ty e s) = ap (λ x. cast ty x s) (tree-kept e)
    tree-kept (binary op l r s) = λ i. binary op (tree-kept l i) (tree-kept r i) s
    tree-kept (choice t a b s) = λ i. choice (tree-kept t i) (tree-kept a i) (tree-kept b i) s
    tree-kept (assign op place e s) = λ i. assign op (tree-kept place i) (tree-kept e i) s
    tree-kept (bump before up place s) = ap (λ x. bump before up x s) (tree-kept place)
    tree-kept (comma l r s) = λ i. comma (tree-kept l i) (tree-kept r i) s
    tree-kept hole = refl
    tree-kept (hole_after e) = ap hole_after (tree-kept e)

    args-kept : (x : Args) → unresolved_args (resolved_args ds x) ≡ unresolved_args x
    args-kept no_args = refl
    args-kept (value e x) = ap₂ value (tree-kept e) (args-kept x)
    args-kept (format text s x) = ap (format text s) (args-kept x)
    args-kept (address e x) = ap₂ address (tree-kept e) (args-kept x)

  option-kept : (o : Option Tree) → unresolved_option (resolved_option ds o) ≡ unresolved_option o
  option-kept None = refl
  option-kept (Some e) = ap Some (tree-kept e)

  trees-kept : (es : List Tree) → map unresolved_tree (map (resolved_tree ds) es) ≡ map unresolved_tree es
  trees-kept [] = refl
  trees-kept (e ∷ es) = ap₂ (λ x xs. x ∷ xs) (tree-kept e) (trees-kept es)

  initial-kept : (start : Initial) → unresolved_initial (resolved_initial ds start) ≡ unresolved_initial start
  initial-kept bare_start = refl
  initial-kept (one_start e) = ap one_start (tree-kept e)
  initial-kept (list_start es) = ap list_start (trees-kept es)

variables-kept : (slot : ℕ → Slot) (here around : List Declaration) (ty : Ty) (n : ℕ) (vs : List Variable)
    → map unresolved_variable (resolved_variables here around ty (numbered slot n vs)) ≡ map unresolved_variable vs
variables-kept slot here around ty n [] = refl
variables-kept slot here around ty n (v ∷ vs) =
    let d = variable_declaration ty (numbered_variable (slot n) v) in
    λ i. record v { slot = Unset; start = initial-kept (d ∷ (here ++ around)) v.start i } ∷ variables-kept slot (d ∷ here) around ty (suc n) vs i

first-kept : (ds : List Declaration) (n : ℕ) (f : First) → unresolved_first (resolved_first ds (numbered_first n f)) ≡ unresolved_first f
first-kept ds n no_first = refl
first-kept ds n (first_act e) = ap first_act (tree-kept ds e)
first-kept ds n (first_vars ty vs) = ap (first_vars ty) (variables-kept (slot_in Automatic) [] ds ty n vs)

mutual
  code-kept : (ds : List Declaration) (n : ℕ) (c : Code) → unresolved_code (resolved_code ds n c) ≡ unresolved_code c
  code-kept ds n (empty s) = refl
  code-kept ds n (act e s) = ap (λ x. act x s) (tree-kept ds e)
  code-kept ds n (block body s) = ap (λ b. block b s) (body-kept [] ds n body)
  code-kept ds n (if_then t a s) = λ i. if_then (tree-kept ds t i) (code-kept ds n a i) s
  code-kept ds n (if_else t a b s) = λ i. if_else (tree-kept ds t i) (code-kept ds n a i) (code-kept ds (n + code_count a) b i) s
  code-kept ds n (while t a s) = λ i. while (tree-kept ds t i) (code-kept ds n a i) s
  code-kept ds n (do_while a t s) = λ i. do_while (code-kept ds n a i) (tree-kept ds t i) s
  code-kept ds n (for f t u a s) =
      let all = first_declared (numbered_first n f) ++ ds in
      λ i. for (first-kept ds n f i) (option-kept all t i) (option-kept all u i) (code-kept all (n + first_count f) a i) s
  code-kept ds n (give e s) = ap (λ o. give o s) (option-kept ds e)
  code-kept ds n (break s) = refl
  code-kept ds n (continue s) = refl

  body-kept : (here around : List Declaration) (n : ℕ) (b : Body) → unresolved_body (resolved_body here around n b) ≡ unresolved_body b
  body-kept here around n done = refl
  body-kept here around n (next c rest) =
      ap₂ next (code-kept (here ++ around) n c) (body-kept here around (n + code_count c) rest)
  body-kept here around n (vars ty vs rest) =
      ap₂ (vars ty) (variables-kept (slot_in Automatic) here around ty n vs)
      (body-kept (declared ty (numbered (slot_in Automatic) n vs) here) around (n + length vs) rest)

definition-kept : (here around : List Declaration) (n : ℕ) (b : Option Body) → unresolved_definition (resolved_definition here around n b) ≡ unresolved_definition b
definition-kept here around n None = refl
definition-kept here around n (Some body) = ap Some (body-kept here around n body)

params-kept : (n : ℕ) (ps : List Param) → map unresolved_param (numbered_params n ps) ≡ map unresolved_param ps
params-kept n [] = refl
params-kept n (p ∷ ps) = ap (λ qs. unresolved_param p ∷ qs) (params-kept (suc n) ps)

-- so is the resolved function
pub function-kept : (around : List Declaration) (f : Function) → unresolved_function (resolved_function around f) ≡ unresolved_function f
function-kept around f =
    λ i. record f {
      params = params-kept 0 f.params i;
      body = definition-kept (params_declared (numbered_params 0 f.params) []) around (length f.params) f.body i;
    }

-- so is what stands at file scope
pub outers-kept : (file : List Outer) (here : List Declaration) (n : ℕ) (p : List Outer) → unresolved (resolved_outers file here n p) ≡ unresolved p
outers-kept file here n [] = refl
outers-kept file here n (outer_vars ty vs ∷ rest) =
    λ i. outer_vars ty (variables-kept (slot_in Static) here [] ty n vs i)
    ∷ outers-kept file (declared ty (numbered (slot_in Static) n vs) here) (n + length vs) rest i
outers-kept file here n (outer_func f ∷ rest) =
    λ i. outer_func (function-kept (function_declaration file f ∷ here) f i) ∷ outers-kept file (function_declaration file f ∷ here) n rest i

-- the resolved program is the program but for slots
pub program-kept : (p : List Outer) → unresolved (resolved p) ≡ unresolved p
program-kept p = outers-kept p library 0 p

-- Resolving doesn't look at the slots that were there before.
module _ (ds : List Declaration) where
  mutual
    tree-anew : (e : Tree) → resolved_tree ds (unresolved_tree e) ≡ resolved_tree ds e
    tree-anew (constant n word s) = refl
    tree-anew (name word slot s) = refl
    tree-anew (index word slot e s) = ap (λ x. index word (entity_slot (denoted ds word)) x s) (tree-anew e)
    tree-anew (call word x s) = ap (λ y. call word y s) (args-anew x)
    tree-anew (unary op e s) = ap (λ x. unary op x s) (tree-anew e)
    tree-anew (cast ty e s) = ap (λ x. cast ty x s) (tree-anew e)
    tree-anew (binary op l r s) = λ i. binary op (tree-anew l i) (tree-anew r i) s
    tree-anew (choice t a b s) = λ i. choice (tree-anew t i) (tree-anew a i) (tree-anew b i) s
    tree-anew (assign op place e s) = λ i. assign op (tree-anew place i) (tree-anew e i) s
    tree-anew (bump before up place s) = ap (λ x. bump before up x s) (tree-anew place)
    tree-anew (comma l r s) = λ i. comma (tree-anew l i) (tree-anew r i) s
    tree-anew hole = refl
    tree-anew (hole_after e) = ap hole_after (tree-anew e)

    args-anew : (x : Args) → resolved_args ds (unresolved_args x) ≡ resolved_args ds x
    args-anew no_args = refl
    args-anew (value e x) = ap₂ value (tree-anew e) (args-anew x)
    args-anew (format text s x) = ap (format text s) (args-anew x)
    args-anew (address e x) = ap₂ address (tree-anew e) (args-anew x)

  option-anew : (o : Option Tree) → resolved_option ds (unresolved_option o) ≡ resolved_option ds o
  option-anew None = refl
  option-anew (Some e) = ap Some (tree-anew e)

  trees-anew : (es : List Tree) → map (resolved_tree ds) (map unresolved_tree es) ≡ map (resolved_tree ds) es
  trees-anew [] = refl
  trees-anew (e ∷ es) = ap₂ (λ x xs. x ∷ xs) (tree-anew e) (trees-anew es)

  initial-anew : (start : Initial) → resolved_initial ds (unresolved_initial start) ≡ resolved_initial ds start
  initial-anew bare_start = refl
  initial-anew (one_start e) = ap one_start (tree-anew e)
  initial-anew (list_start es) = ap list_start (trees-anew es)

variables-anew : (slot : ℕ → Slot) (here around : List Declaration) (ty : Ty) (n : ℕ) (vs : List Variable)
    → resolved_variables here around ty (numbered slot n (map unresolved_variable vs)) ≡ resolved_variables here around ty (numbered slot n vs)
variables-anew slot here around ty n [] = refl
variables-anew slot here around ty n (v ∷ vs) =
    let d = variable_declaration ty (numbered_variable (slot n) v) in
    λ i. record v { slot = slot n; start = initial-anew (d ∷ (here ++ around)) v.start i } ∷ variables-anew slot (d ∷ here) around ty (suc n) vs i

declared-anew : (slot : ℕ → Slot) (ty : Ty) (n : ℕ) (vs : List Variable) (here : List Declaration)
    → declared ty (numbered slot n (map unresolved_variable vs)) here ≡ declared ty (numbered slot n vs) here
declared-anew slot ty n [] here = refl
declared-anew slot ty n (v ∷ vs) here = declared-anew slot ty (suc n) vs (variable_declaration ty (numbered_variable (slot n) v) ∷ here)

first-anew : (ds : List Declaration) (n : ℕ) (f : First) → resolved_first ds (numbered_first n (unresolved_first f)) ≡ resolved_first ds (numbered_first n f)
first-anew ds n no_first = refl
first-anew ds n (first_act e) = ap first_act (tree-anew ds e)
first-anew ds n (first_vars ty vs) = ap (first_vars ty) (variables-anew (slot_in Automatic) [] ds ty n vs)

first_declared-anew : (n : ℕ) (f : First) → first_declared (numbered_first n (unresolved_first f)) ≡ first_declared (numbered_first n f)
first_declared-anew n no_first = refl
first_declared-anew n (first_act e) = refl
first_declared-anew n (first_vars ty vs) = declared-anew (slot_in Automatic) ty n vs []

first_count-anew : (f : First) → first_count (unresolved_first f) ≡ first_count f
first_count-anew no_first = refl
first_count-anew (first_act e) = refl
first_count-anew (first_vars ty vs) = length-map vs unresolved_variable

mutual
  code_count-anew : (c : Code) → code_count (unresolved_code c) ≡ code_count c
  code_count-anew (empty s) = refl
  code_count-anew (act e s) = refl
  code_count-anew (block body s) = body_count-anew body
  code_count-anew (if_then t a s) = code_count-anew a
  code_count-anew (if_else t a b s) = ap₂ (λ m n. m + n) (code_count-anew a) (code_count-anew b)
  code_count-anew (while t a s) = code_count-anew a
  code_count-anew (do_while a t s) = code_count-anew a
  code_count-anew (for f t u a s) = ap₂ (λ m n. m + n) (first_count-anew f) (code_count-anew a)
  code_count-anew (give e s) = refl
  code_count-anew (break s) = refl
  code_count-anew (continue s) = refl

  body_count-anew : (b : Body) → body_count (unresolved_body b) ≡ body_count b
  body_count-anew done = refl
  body_count-anew (next c rest) = ap₂ (λ m n. m + n) (code_count-anew c) (body_count-anew rest)
  body_count-anew (vars ty vs rest) = ap₂ (λ m n. m + n) (length-map vs unresolved_variable) (body_count-anew rest)

mutual
  code-anew : (ds : List Declaration) (n : ℕ) (c : Code) → resolved_code ds n (unresolved_code c) ≡ resolved_code ds n c
  code-anew ds n (empty s) = refl
  code-anew ds n (act e s) = ap (λ x. act x s) (tree-anew ds e)
  code-anew ds n (block body s) = ap (λ b. block b s) (body-anew [] ds n body)
  code-anew ds n (if_then t a s) = λ i. if_then (tree-anew ds t i) (code-anew ds n a i) s
  code-anew ds n (if_else t a b s) =
      let other : resolved_code ds (n + code_count (unresolved_code a)) (unresolved_code b) ≡ resolved_code ds (n + code_count a) b =
      ap (λ k. resolved_code ds (n + k) (unresolved_code b)) (code_count-anew a) ∙ code-anew ds (n + code_count a) b in
      λ i. if_else (tree-anew ds t i) (code-anew ds n a i) (other i) s
  code-anew ds n (while t a s) = λ i. while (tree-anew ds t i) (code-anew ds n a i) s
  code-anew ds n (do_while a t s) = λ i. do_while (code-anew ds n a i) (tree-anew ds t i) s
  code-anew ds n (for f t u a s) =
      let before = first_declared (numbered_first n (unresolved_first f)) ++ ds in
      let all = first_declared (numbered_first n f) ++ ds in
      let same : before ≡ all = ap (λ es. es ++ ds) (first_declared-anew n f) in
      let tests : resolved_option before (unresolved_option t) ≡ resolved_option all t =
      ap (λ es. resolved_option es (unresolved_option t)) same ∙ option-anew all t in
      let steps : resolved_option before (unresolved_option u) ≡ resolved_option all u =
      ap (λ es. resolved_option es (unresolved_option u)) same ∙ option-anew all u in
      let arms : resolved_code before (n + first_count (unresolved_first f)) (unresolved_code a) ≡ resolved_code all (n + first_count f) a =
      ap₂ (λ es k. resolved_code es (n + k) (unresolved_code a)) same (first_count-anew f) ∙ code-anew all (n + first_count f) a in
      λ i. for (first-anew ds n f i) (tests i) (steps i) (arms i) s
  code-anew ds n (give e s) = ap (λ o. give o s) (option-anew ds e)
  code-anew ds n (break s) = refl
  code-anew ds n (continue s) = refl

  body-anew : (here around : List Declaration) (n : ℕ) (b : Body) → resolved_body here around n (unresolved_body b) ≡ resolved_body here around n b
  body-anew here around n done = refl
  body-anew here around n (next c rest) =
      let more : resolved_body here around (n + code_count (unresolved_code c)) (unresolved_body rest) ≡ resolved_body here around (n + code_count c) rest =
      ap (λ k. resolved_body here around (n + k) (unresolved_body rest)) (code_count-anew c) ∙ body-anew here around (n + code_count c) rest in
      ap₂ next (code-anew (here ++ around) n c) more
  body-anew here around n (vars ty vs rest) =
      let after = declared ty (numbered (slot_in Automatic) n vs) here in
      let more : resolved_body (declared ty (numbered (slot_in Automatic) n (map unresolved_variable vs)) here) around (n + length (map unresolved_variable vs)) (unresolved_body rest)
      ≡ resolved_body after around (n + length vs) rest =
      ap₂ (λ hs k. resolved_body hs around (n + k) (unresolved_body rest)) (declared-anew (slot_in Automatic) ty n vs here) (length-map vs unresolved_variable)
      ∙ body-anew after around (n + length vs) rest in
      ap₂ (vars ty) (variables-anew (slot_in Automatic) here around ty n vs) more

definition-anew : (here around : List Declaration) (n : ℕ) (b : Option Body) → resolved_definition here around n (unresolved_definition b) ≡ resolved_definition here around n b
definition-anew here around n None = refl
definition-anew here around n (Some body) = ap Some (body-anew here around n body)

params-anew : (n : ℕ) (ps : List Param) → numbered_params n (map unresolved_param ps) ≡ numbered_params n ps
params-anew n [] = refl
params-anew n (p ∷ ps) = ap (λ qs. numbered_param n p ∷ qs) (params-anew (suc n) ps)

function-anew : (around : List Declaration) (f : Function) → resolved_function around (unresolved_function f) ≡ resolved_function around f
function-anew around f =
    let bodies : resolved_definition (params_declared (numbered_params 0 (map unresolved_param f.params)) []) around (length (map unresolved_param f.params)) (unresolved_definition f.body)
    ≡ resolved_definition (params_declared (numbered_params 0 f.params) []) around (length f.params) f.body =
    ap₂ (λ ps k. resolved_definition (params_declared ps []) around k (unresolved_definition f.body)) (params-anew 0 f.params) (length-map f.params unresolved_param)
    ∙ definition-anew (params_declared (numbered_params 0 f.params) []) around (length f.params) f.body in
    λ i. record f { params = params-anew 0 f.params i; body = bodies i }

outers-anew : (file : List Outer) (here : List Declaration) (n : ℕ) (p : List Outer) → resolved_outers (unresolved file) here n (unresolved p) ≡ resolved_outers file here n p
outers-anew file here n [] = refl
outers-anew file here n (outer_vars ty vs ∷ rest) =
    let after = declared ty (numbered (slot_in Static) n vs) here in
    let more : resolved_outers (unresolved file) (declared ty (numbered (slot_in Static) n (map unresolved_variable vs)) here) (n + length (map unresolved_variable vs)) (unresolved rest)
    ≡ resolved_outers file after (n + length vs) rest =
    ap₂ (λ hs k. resolved_outers (unresolved file) hs (n + k) (unresolved rest)) (declared-anew (slot_in Static) ty n vs here) (length-map vs unresolved_variable)
    ∙ outers-anew file after (n + length vs) rest in
    λ i. outer_vars ty (variables-anew (slot_in Static) here [] ty n vs i) ∷ more i
outers-anew file here n (outer_func f ∷ rest) =
    let d = function_declaration (unresolved file) (unresolved_function f) in
    let e = function_declaration file f in
    let same : d ∷ here ≡ e ∷ here = ap (λ x. x ∷ here) (function_declaration-same file f) in
    let own : resolved_function (d ∷ here) (unresolved_function f) ≡ resolved_function (e ∷ here) f =
    ap (λ ds. resolved_function ds (unresolved_function f)) same ∙ function-anew (e ∷ here) f in
    let more : resolved_outers (unresolved file) (d ∷ here) n (unresolved rest) ≡ resolved_outers file (e ∷ here) n rest =
    ap (λ ds. resolved_outers (unresolved file) ds n (unresolved rest)) same ∙ outers-anew file (e ∷ here) n rest in
    λ i. outer_func (own i) ∷ more i

-- resolving a program without its slots is resolving the program
pub program-anew : (p : List Outer) → resolved (unresolved p) ≡ resolved p
program-anew p = outers-anew p library 0 p
