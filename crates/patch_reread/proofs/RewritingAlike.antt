-- A change at a location looks at no slot.
use Rattle.std.proofs.Common.{◌≡◌, Bool, true, false, if◌then◌else◌, List, [], ◌∷◌, map, Option, Some, None, refl, sym, ap, ap₂, ◌∙◌}
use Rattle.c_tree.specs.declared.expr.BinOp.{BinOp}
use Rattle.c_tree.specs.declared.place.Loc.{Loc}
use Rattle.c_tree.specs.declared.place.LocKind.{LocKind}
use Rattle.c_tree.specs.declared.place.LocKind.TheVariants.{Guard, Cond, Right}
use Rattle.c_tree.specs.declared.stmt.Slot.TheVariants.{Unset}
use Rattle.c_tree.specs.Parts.{span_of, span_of_code}
use Rattle.c_tree.specs.Tree.{Tree, constant, name, index, call, unary, cast, binary, choice, assign, bump, comma, hole, hole_after, Args, no_args, value, format, address, Initial, bare_start, one_start, list_start, Variable, First, no_first, first_act, first_vars, Code, empty, act, block, if_then, if_else, while, do_while, for, give, break, continue, Body, done, next, vars, Outer, outer_vars, outer_func}
use Rattle.c_types.specs.Unresolved.{unresolved_tree, unresolved_args, unresolved_option, unresolved_initial, unresolved_variable, unresolved_first, unresolved_code, unresolved_body, unresolved_definition, unresolved_param, unresolved_outer, unresolved}
use Rattle.c_location.specs.Changes.{replaced, combined, guarded}
use Rattle.c_location.specs.Locations.{stands}
use Rattle.c_location.specs.Rewrites.{Rewrite, at_tree, at_assigned, at_code, to_tree, to_args, to_condition, to_right_side, to_test, to_step, to_value, to_initial, to_variable, to_first, to_code, to_body, to_definition, to_outer, rewritten}
use Rattle.patch_reread.proofs.LocationsAlike.{span-same}

span_code-same : (c : Code) → span_of_code (unresolved_code c) ≡ span_of_code c
span_code-same (empty s) = refl
span_code-same (act e s) = refl
span_code-same (block body s) = refl
span_code-same (if_then t a s) = refl
span_code-same (if_else t a b s) = refl
span_code-same (while t a s) = refl
span_code-same (do_while a t s) = refl
span_code-same (for i t u a s) = refl
span_code-same (give e s) = refl
span_code-same (break s) = refl
span_code-same (continue s) = refl

-- the second makes of parts without slots what the first makes of them, without slots
pub record Unslots (r o : Rewrite) : Type 0 where
  pub tree : (e : Tree) → unresolved_tree (r.tree e) ≡ o.tree (unresolved_tree e)
  pub code : (c : Code) → unresolved_code (r.code c) ≡ o.code (unresolved_code c)

-- the changes that patches make
pub replaced-unslots : (new : Tree) → Unslots (replaced new) (replaced (unresolved_tree new))
replaced-unslots new = record { tree = λ e. refl; code = λ c. refl }

pub combined-unslots : (op : BinOp) (new : Tree)
    → Unslots (combined op new) (combined op (unresolved_tree new))
combined-unslots op new = record {
  tree = λ e i. binary op (unresolved_tree e) (unresolved_tree new) (sym (span-same e) i);
  code = λ c. refl;
}

pub guarded-unslots : (test : Tree) → Unslots (guarded test) (guarded (unresolved_tree test))
guarded-unslots test = record {
  tree = λ e. refl;
  code = λ c i. block (next (if_then (unresolved_tree test) (unresolved_code c) (sym (span_code-same c) i)) done) (sym (span_code-same c) i);
}

module _ (l : Loc) (r o : Rewrite) (u : Unslots r o) where
  -- by the test at one place
  chosen : {X : Type 0} (off : X → X) (b : Bool) (new inside new' inside' : X) → off new ≡ new'
      → off inside ≡ inside' → off (if b then new else inside) ≡ (if b then new' else inside')
  chosen off true new inside new' inside' e f = e
  chosen off false new inside new' inside' e f = f

  at-same : (k : LocKind) (e inside inside' : Tree) → unresolved_tree inside ≡ inside'
      → unresolved_tree (at_tree l r k e inside) ≡ at_tree l o k (unresolved_tree e) inside'
  at-same k e inside inside' f =
      chosen unresolved_tree (stands l k (span_of e)) (r.tree e) inside (o.tree (unresolved_tree e)) inside'
      (u.tree e) f
      ∙ ap (λ s. if stands l k s then o.tree (unresolved_tree e) else inside') (sym (span-same e))

  assigned-same : (op : Option BinOp) (e inside inside' : Tree) → unresolved_tree inside ≡ inside'
      → unresolved_tree (at_assigned l r op e inside) ≡ at_assigned l o op (unresolved_tree e) inside'
  assigned-same None e inside inside' f = at-same Right e inside inside' f
  assigned-same (Some op) e inside inside' f = f

  code_at-same : (c inside inside' : Code) → unresolved_code inside ≡ inside'
      → unresolved_code (at_code l r c inside) ≡ at_code l o (unresolved_code c) inside'
  code_at-same c inside inside' f =
      chosen unresolved_code (stands l Guard (span_of_code c)) (r.code c) inside (o.code (unresolved_code c)) inside'
      (u.code c) f
      ∙ ap (λ s. if stands l Guard s then o.code (unresolved_code c) else inside') (sym (span_code-same c))

  mutual
    tree-same : (e : Tree) → unresolved_tree (to_tree l r e) ≡ to_tree l o (unresolved_tree e)
    tree-same (constant n w s) = refl
    tree-same (name w v s) = refl
    tree-same (index w v e s) = ap (λ x. index w Unset x s) (tree-same e)
    tree-same (call w x s) = ap (λ y. call w y s) (args-same x)
    tree-same (unary f e s) = ap (λ x. unary f x s) (tree-same e)
    tree-same (cast ty e s) = ap (λ x. cast ty x s) (tree-same e)
    tree-same (binary f a b s) = ap₂ (λ x y. binary f x y s) (tree-same a) (tree-same b)
    tree-same (choice t a b s) = λ i. choice (tree-same t i) (tree-same a i) (tree-same b i) s
    tree-same (assign f place e s) =
        ap₂ (λ x y. assign f x y s) (tree-same place)
        (assigned-same f e (to_tree l r e) (to_tree l o (unresolved_tree e)) (tree-same e))
    tree-same (bump before up e s) = ap (λ x. bump before up x s) (tree-same e)
    tree-same (comma a b s) = ap₂ (λ x y. comma x y s) (tree-same a) (tree-same b)
    tree-same hole = refl
    tree-same (hole_after e) = ap hole_after (tree-same e)

    args-same : (x : Args) → unresolved_args (to_args l r x) ≡ to_args l o (unresolved_args x)
    args-same no_args = refl
    args-same (value e x) = ap₂ value (tree-same e) (args-same x)
    args-same (format f s x) = ap (format f s) (args-same x)
    args-same (address e x) = ap₂ address (tree-same e) (args-same x)

  condition-same : (e : Tree)
      → unresolved_tree (to_condition l r e) ≡ to_condition l o (unresolved_tree e)
  condition-same e = at-same Cond e (to_tree l r e) (to_tree l o (unresolved_tree e)) (tree-same e)

  right_side-same : (e : Tree)
      → unresolved_tree (to_right_side l r e) ≡ to_right_side l o (unresolved_tree e)
  right_side-same e = at-same Right e (to_tree l r e) (to_tree l o (unresolved_tree e)) (tree-same e)

  test-same : (t : Option Tree) → unresolved_option (to_test l r t) ≡ to_test l o (unresolved_option t)
  test-same None = refl
  test-same (Some e) = ap Some (condition-same e)

  step-same : (t : Option Tree) → unresolved_option (to_step l r t) ≡ to_step l o (unresolved_option t)
  step-same None = refl
  step-same (Some e) = ap Some (tree-same e)

  value-same : (t : Option Tree)
      → unresolved_option (to_value l r t) ≡ to_value l o (unresolved_option t)
  value-same None = refl
  value-same (Some e) = ap Some (right_side-same e)

  trees-same : (es : List Tree)
      → map unresolved_tree (map (to_tree l r) es) ≡ map (to_tree l o) (map unresolved_tree es)
  trees-same [] = refl
  trees-same (e ∷ es) = ap₂ (λ x xs. x ∷ xs) (tree-same e) (trees-same es)

  initial-same : (start : Initial)
      → unresolved_initial (to_initial l r start) ≡ to_initial l o (unresolved_initial start)
  initial-same bare_start = refl
  initial-same (one_start e) = ap one_start (right_side-same e)
  initial-same (list_start es) = ap list_start (trees-same es)

  variable-same : (v : Variable)
      → unresolved_variable (to_variable l r v) ≡ to_variable l o (unresolved_variable v)
  variable-same v = λ i. record {
    word = v.word;
    slot = Unset;
    span = v.span;
    shape = v.shape;
    start = initial-same v.start i;
  }

  variables-same : (vs : List Variable)
      → map unresolved_variable (map (to_variable l r) vs)
      ≡ map (to_variable l o) (map unresolved_variable vs)
  variables-same [] = refl
  variables-same (v ∷ vs) = ap₂ (λ x xs. x ∷ xs) (variable-same v) (variables-same vs)

  first-same : (f : First) → unresolved_first (to_first l r f) ≡ to_first l o (unresolved_first f)
  first-same no_first = refl
  first-same (first_act e) = ap first_act (tree-same e)
  first-same (first_vars ty vs) = ap (first_vars ty) (variables-same vs)

  mutual
    code-same : (c : Code) → unresolved_code (to_code l r c) ≡ to_code l o (unresolved_code c)
    code-same (empty s) = refl
    code-same (act e s) =
        code_at-same (act e s) (act (to_tree l r e) s) (act (to_tree l o (unresolved_tree e)) s)
        (ap (λ x. act x s) (tree-same e))
    code-same (block body s) = ap (λ b. block b s) (body-same body)
    code-same (if_then t a s) = ap₂ (λ x y. if_then x y s) (condition-same t) (code-same a)
    code-same (if_else t a b s) =
        λ i. if_else (condition-same t i) (code-same a i) (code-same b i) s
    code-same (while t a s) = ap₂ (λ x y. while x y s) (condition-same t) (code-same a)
    code-same (do_while a t s) = ap₂ (λ x y. do_while x y s) (code-same a) (condition-same t)
    code-same (for f t v a s) =
        λ i. for (first-same f i) (test-same t i) (step-same v i) (code-same a i) s
    code-same (give e s) =
        code_at-same (give e s) (give (to_value l r e) s) (give (to_value l o (unresolved_option e)) s)
        (ap (λ x. give x s) (value-same e))
    code-same (break s) = code_at-same (break s) (break s) (break s) refl
    code-same (continue s) = code_at-same (continue s) (continue s) (continue s) refl

    body-same : (b : Body) → unresolved_body (to_body l r b) ≡ to_body l o (unresolved_body b)
    body-same done = refl
    body-same (next c rest) = ap₂ next (code-same c) (body-same rest)
    body-same (vars ty vs rest) = ap₂ (vars ty) (variables-same vs) (body-same rest)

  definition-same : (b : Option Body)
      → unresolved_definition (to_definition l r b) ≡ to_definition l o (unresolved_definition b)
  definition-same None = refl
  definition-same (Some body) = ap Some (body-same body)

  outer-same : (x : Outer) → unresolved_outer (to_outer l r x) ≡ to_outer l o (unresolved_outer x)
  outer-same (outer_vars ty vs) = refl
  outer-same (outer_func f) = λ i. outer_func (record {
    word = f.word;
    span = f.span;
    ret = f.ret;
    params = map unresolved_param f.params;
    body = definition-same f.body i;
  })

  -- the changed program without its slots is the program without its slots, changed
  pub rewritten-same : (p : List Outer)
      → unresolved (rewritten l r p) ≡ rewritten l o (unresolved p)
  rewritten-same [] = refl
  rewritten-same (x ∷ p) = ap₂ (λ y ys. y ∷ ys) (outer-same x) (rewritten-same p)
