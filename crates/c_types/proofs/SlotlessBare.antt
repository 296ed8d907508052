-- A program without spans, slots and the spelling of constants is the same where it has no slots before.
use Rattle.std.proofs.Common.{◌≡◌, List, [], ◌∷◌, map, Option, Some, None, refl, sym, ap, ap₂, ◌∙◌}
use Rattle.c_tree.specs.declared.stmt.Slot.TheVariants.{Unset}
use Rattle.c_tree.specs.Tree.{Tree, constant, name, index, call, unary, cast, binary, choice, assign, bump, comma, hole, hole_after, Args, no_args, value, format, address, Initial, bare_start, one_start, list_start, Variable, First, no_first, first_act, first_vars, Code, empty, act, block, if_then, if_else, while, do_while, for, give, break, continue, Body, done, next, vars, Function, Outer, outer_vars, outer_func, no_span, bare, bare_args, bare_option, bare_initial, bare_variable, bare_first, bare_code, bare_body, bare_param, bare_maybe, bare_function, bare_outer, bare_program}
use Rattle.c_types.specs.Slots.{resolved}
use Rattle.c_types.specs.Unresolved.{unresolved_tree, unresolved_args, unresolved_option, unresolved_initial, unresolved_variable, unresolved_first, unresolved_code, unresolved_body, unresolved_definition, unresolved_param, unresolved_function, unresolved_outer}
use Rattle.c_types.proofs.Resolving.{program-kept}

-- the elements of a list without their slots
maps : {A B : Type 0} (view : A → B) (off : A → A) → ((x : A) → view (off x) ≡ view x) → (xs : List A) → map view (map off xs) ≡ map view xs
maps view off same [] = refl
maps view off same (x ∷ xs) = ap₂ (λ y ys. y ∷ ys) (same x) (maps view off same xs)

mutual
  tree-bare : (e : Tree) → bare (unresolved_tree e) ≡ bare e
  tree-bare (constant n word s) = refl
  tree-bare (name word slot s) = refl
  tree-bare (index word slot e s) = ap (λ x. index word Unset x no_span) (tree-bare e)
  tree-bare (call word x s) = ap (λ y. call word y no_span) (args-bare x)
  tree-bare (unary op e s) = ap (λ x. unary op x no_span) (tree-bare e)
  tree-bare (cast ty e s) = ap (λ x. cast ty x no_span) (tree-bare e)
  tree-bare (binary op l r s) = λ i. binary op (tree-bare l i) (tree-bare r i) no_span
  tree-bare (choice t a b s) = λ i. choice (tree-bare t i) (tree-bare a i) (tree-bare b i) no_span
  tree-bare (assign op place e s) = λ i. assign op (tree-bare place i) (tree-bare e i) no_span
  tree-bare (bump before up place s) = ap (λ x. bump before up x no_span) (tree-bare place)
  tree-bare (comma l r s) = λ i. comma (tree-bare l i) (tree-bare r i) no_span
  tree-bare hole = refl
  tree-bare (hole_after e) = ap hole_after (tree-bare e)

  args-bare : (x : Args) → bare_args (unresolved_args x) ≡ bare_args x
  args-bare no_args = refl
  args-bare (value e x) = ap₂ value (tree-bare e) (args-bare x)
  args-bare (format text s x) = ap (format text no_span) (args-bare x)
  args-bare (address e x) = ap₂ address (tree-bare e) (args-bare x)

option-bare : (o : Option Tree) → bare_option (unresolved_option o) ≡ bare_option o
option-bare None = refl
option-bare (Some e) = ap Some (tree-bare e)

initial-bare : (start : Initial) → bare_initial (unresolved_initial start) ≡ bare_initial start
initial-bare bare_start = refl
initial-bare (one_start e) = ap one_start (tree-bare e)
initial-bare (list_start es) = ap list_start (maps bare unresolved_tree tree-bare es)

variable-bare : (v : Variable) → bare_variable (unresolved_variable v) ≡ bare_variable v
variable-bare v = λ i. record { word = v.word; slot = Unset; span = no_span; shape = v.shape; start = initial-bare v.start i }

variables-bare : (vs : List Variable) → map bare_variable (map unresolved_variable vs) ≡ map bare_variable vs
variables-bare vs = maps bare_variable unresolved_variable variable-bare vs

first-bare : (f : First) → bare_first (unresolved_first f) ≡ bare_first f
first-bare no_first = refl
first-bare (first_act e) = ap first_act (tree-bare e)
first-bare (first_vars ty vs) = ap (first_vars ty) (variables-bare vs)

mutual
  code-bare : (c : Code) → bare_code (unresolved_code c) ≡ bare_code c
  code-bare (empty s) = refl
  code-bare (act e s) = ap (λ x. act x no_span) (tree-bare e)
  code-bare (block body s) = ap (λ b. block b no_span) (body-bare body)
  code-bare (if_then t a s) = λ i. if_then (tree-bare t i) (code-bare a i) no_span
  code-bare (if_else t a b s) = λ i. if_else (tree-bare t i) (code-bare a i) (code-bare b i) no_span
  code-bare (while t a s) = λ i. while (tree-bare t i) (code-bare a i) no_span
  code-bare (do_while a t s) = λ i. do_while (code-bare a i) (tree-bare t i) no_span
  code-bare (for f t u a s) = λ i. for (first-bare f i) (option-bare t i) (option-bare u i) (code-bare a i) no_span
  code-bare (give e s) = ap (λ o. give o no_span) (option-bare e)
  code-bare (break s) = refl
  code-bare (continue s) = refl

  body-bare : (b : Body) → bare_body (unresolved_body b) ≡ bare_body b
  body-bare done = refl
  body-bare (next c rest) = ap₂ next (code-bare c) (body-bare rest)
  body-bare (vars ty vs rest) = ap₂ (vars ty) (variables-bare vs) (body-bare rest)

maybe-bare : (b : Option Body) → bare_maybe (unresolved_definition b) ≡ bare_maybe b
maybe-bare None = refl
maybe-bare (Some body) = ap Some (body-bare body)

function-bare : (f : Function) → bare_function (unresolved_function f) ≡ bare_function f
function-bare f =
    λ i. record {
      word = f.word;
      span = no_span;
      ret = f.ret;
      params = maps bare_param unresolved_param (λ p. refl) f.params i;
      body = maybe-bare f.body i;
    }

outer-bare : (x : Outer) → bare_outer (unresolved_outer x) ≡ bare_outer x
outer-bare (outer_vars ty vs) = ap (outer_vars ty) (variables-bare vs)
outer-bare (outer_func f) = ap outer_func (function-bare f)

-- the resolved program is the same but for spans, slots and the spelling of constants
pub program-bare : (p : List Outer) → bare_program (resolved p) ≡ bare_program p
program-bare p =
    sym (maps bare_outer unresolved_outer outer-bare (resolved p))
    ∙ ap bare_program (program-kept p) ∙ maps bare_outer unresolved_outer outer-bare p
