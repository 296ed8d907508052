-- A change at what is no location of a program changes nothing: each part in turn, whatever its spans are.
use Rattle.std.proofs.Common.{◌≡◌, false, if◌then◌else◌, List, [], ◌∷◌, ◌++◌, map, Option, Some, None, refl, ap, ap₂, ◌∙◌, flat_map}
use Rattle.c_tree.specs.declared.expr.BinOp.{BinOp}
use Rattle.c_tree.specs.declared.place.Loc.{Loc}
use Rattle.c_tree.specs.declared.place.LocKind.{LocKind}
use Rattle.c_tree.specs.declared.place.LocKind.TheVariants.{Guard, Cond, Right}
use Rattle.c_tree.specs.Parts.{span_of, span_of_code}
use Rattle.c_tree.specs.Tree.{Tree, constant, name, index, call, unary, cast, binary, choice, assign, bump, comma, hole, hole_after, Args, no_args, value, format, address, Initial, bare_start, one_start, list_start, Variable, First, no_first, first_act, first_vars, Code, empty, act, block, if_then, if_else, while, do_while, for, give, break, continue, Body, done, next, vars, Outer, outer_vars, outer_func}
use Rattle.c_location.specs.Locations.{Located, stands, assigned, in_tree, in_args, in_condition, in_right_side, in_test, in_step, in_value, in_initial, in_variables, in_first, in_code, in_body, in_definition, in_outer, located}
use Rattle.c_location.specs.Rewrites.{Rewrite, at_tree, at_assigned, at_code, to_tree, to_args, to_condition, to_right_side, to_test, to_step, to_value, to_initial, to_variable, to_first, to_code, to_body, to_definition, to_outer, rewritten}
use Rattle.c_location.proofs.Places.{Nowhere, nowhere_left, nowhere_right, nowhere_first, nowhere_rest}

module _ (l : Loc) (r : Rewrite) where
  -- an expression that is not the location is what its parts make it
  at_tree-off : (kind : LocKind) (e inside : Tree) → stands l kind (span_of e) ≡ false → inside ≡ e → at_tree l r kind e inside ≡ e
  at_tree-off kind e inside off same = ap (λ b. if b then r.tree e else inside) off ∙ same

  -- so is a statement
  at_code-off : (c inside : Code) → stands l Guard (span_of_code c) ≡ false → inside ≡ c → at_code l r c inside ≡ c
  at_code-off c inside off same = ap (λ b. if b then r.code c else inside) off ∙ same

  -- the value of an assignment stays, with an operator or without
  at_assigned-off : (f : Option BinOp) (e inside : Tree) → Nowhere l (assigned f e) → inside ≡ e → at_assigned l r f e inside ≡ e
  at_assigned-off None e inside h same = at_tree-off Right e inside (nowhere_first h) same
  at_assigned-off (Some op) e inside h same = same

  -- the parts of a list stay
  map-off : {A : Type 0} (parts : A → List Located) (to : A → A) → ((x : A) → Nowhere l (parts x) → to x ≡ x)
      → (xs : List A) → Nowhere l (flat_map parts xs) → map to xs ≡ xs
  map-off parts to same [] h = refl
  map-off parts to same (x ∷ xs) h = ap₂ (λ y ys. y ∷ ys)
      (same x (nowhere_left (parts x) (flat_map parts xs) h))
      (map-off parts to same xs (nowhere_right (parts x) (flat_map parts xs) h))

  mutual
    -- an expression stays
    tree-off : (e : Tree) → Nowhere l (in_tree e) → to_tree l r e ≡ e
    tree-off (constant n w s) h = refl
    tree-off (name w v s) h = refl
    tree-off (index w v e s) h = ap (λ x. index w v x s) (tree-off e h)
    tree-off (call w x s) h = ap (λ y. call w y s) (args-off x h)
    tree-off (unary f e s) h = ap (λ x. unary f x s) (tree-off e h)
    tree-off (cast ty e s) h = ap (λ x. cast ty x s) (tree-off e h)
    tree-off (binary f a b s) h = ap₂ (λ x y. binary f x y s)
        (tree-off a (nowhere_left (in_tree a) (in_tree b) h))
        (tree-off b (nowhere_right (in_tree a) (in_tree b) h))
    tree-off (choice t a b s) h =
        let two = nowhere_left (in_tree t ++ in_tree a) (in_tree b) h in
        λ i. choice
        (tree-off t (nowhere_left (in_tree t) (in_tree a) two) i)
        (tree-off a (nowhere_right (in_tree t) (in_tree a) two) i)
        (tree-off b (nowhere_right (in_tree t ++ in_tree a) (in_tree b) h) i)
        s
    tree-off (assign f place e s) h =
        let two = nowhere_left (in_tree place ++ assigned f e) (in_tree e) h in
        ap₂ (λ x y. assign f x y s)
        (tree-off place (nowhere_left (in_tree place) (assigned f e) two))
        (at_assigned-off f e (to_tree l r e)
        (nowhere_right (in_tree place) (assigned f e) two)
        (tree-off e (nowhere_right (in_tree place ++ assigned f e) (in_tree e) h)))
    tree-off (bump before up e s) h = ap (λ x. bump before up x s) (tree-off e h)
    tree-off (comma a b s) h = ap₂ (λ x y. comma x y s)
        (tree-off a (nowhere_left (in_tree a) (in_tree b) h))
        (tree-off b (nowhere_right (in_tree a) (in_tree b) h))
    tree-off hole h = refl
    tree-off (hole_after e) h = ap hole_after (tree-off e h)

    -- arguments stay
    args-off : (x : Args) → Nowhere l (in_args x) → to_args l r x ≡ x
    args-off no_args h = refl
    args-off (value e x) h = ap₂ value
        (tree-off e (nowhere_left (in_tree e) (in_args x) h))
        (args-off x (nowhere_right (in_tree e) (in_args x) h))
    args-off (format f s x) h = ap (format f s) (args-off x h)
    args-off (address e x) h = ap₂ address
        (tree-off e (nowhere_left (in_tree e) (in_args x) h))
        (args-off x (nowhere_right (in_tree e) (in_args x) h))

  -- a condition stays
  condition-off : (e : Tree) → Nowhere l (in_condition e) → to_condition l r e ≡ e
  condition-off e h = at_tree-off Cond e (to_tree l r e) (nowhere_first h) (tree-off e (nowhere_rest h))

  -- a right side stays
  right_side-off : (e : Tree) → Nowhere l (in_right_side e) → to_right_side l r e ≡ e
  right_side-off e h = at_tree-off Right e (to_tree l r e) (nowhere_first h) (tree-off e (nowhere_rest h))

  -- so does the condition of a `for`
  test-off : (t : Option Tree) → Nowhere l (in_test t) → to_test l r t ≡ t
  test-off None h = refl
  test-off (Some e) h = ap Some (condition-off e h)

  -- the step of a `for`
  step-off : (u : Option Tree) → Nowhere l (in_step u) → to_step l r u ≡ u
  step-off None h = refl
  step-off (Some e) h = ap Some (tree-off e h)

  -- the value of a `return`
  value-off : (v : Option Tree) → Nowhere l (in_value v) → to_value l r v ≡ v
  value-off None h = refl
  value-off (Some e) h = ap Some (right_side-off e h)

  -- an initialiser
  initial-off : (i : Initial) → Nowhere l (in_initial i) → to_initial l r i ≡ i
  initial-off bare_start h = refl
  initial-off (one_start e) h = ap one_start (right_side-off e h)
  initial-off (list_start es) h = ap list_start (map-off in_tree (to_tree l r) tree-off es h)

  -- declared variables
  variables-off : (vs : List Variable) → Nowhere l (in_variables vs) → map (to_variable l r) vs ≡ vs
  variables-off vs h =
      map-off (λ v. in_initial v.start) (to_variable l r) (λ v k. ap (λ i. record v { start = i }) (initial-off v.start k)) vs h

  -- the first clause of a `for`
  first-off : (i : First) → Nowhere l (in_first i) → to_first l r i ≡ i
  first-off no_first h = refl
  first-off (first_act e) h = ap first_act (tree-off e h)
  first-off (first_vars ty vs) h = ap (first_vars ty) (variables-off vs h)

  mutual
    -- a statement stays
    code-off : (c : Code) → Nowhere l (in_code c) → to_code l r c ≡ c
    code-off (empty s) h = refl
    code-off (act e s) h =
        at_code-off (act e s) (act (to_tree l r e) s) (nowhere_first h) (ap (λ x. act x s) (tree-off e (nowhere_rest h)))
    code-off (block body s) h = ap (λ b. block b s) (body-off body h)
    code-off (if_then t a s) h = ap₂ (λ x y. if_then x y s)
        (condition-off t (nowhere_left (in_condition t) (in_code a) h))
        (code-off a (nowhere_right (in_condition t) (in_code a) h))
    code-off (if_else t a b s) h =
        let two = nowhere_left (in_condition t ++ in_code a) (in_code b) h in
        λ i. if_else
        (condition-off t (nowhere_left (in_condition t) (in_code a) two) i)
        (code-off a (nowhere_right (in_condition t) (in_code a) two) i)
        (code-off b (nowhere_right (in_condition t ++ in_code a) (in_code b) h) i)
        s
    code-off (while t a s) h = ap₂ (λ x y. while x y s)
        (condition-off t (nowhere_left (in_condition t) (in_code a) h))
        (code-off a (nowhere_right (in_condition t) (in_code a) h))
    code-off (do_while a t s) h = ap₂ (λ x y. do_while x y s)
        (code-off a (nowhere_left (in_code a) (in_condition t) h))
        (condition-off t (nowhere_right (in_code a) (in_condition t) h))
    code-off (for f t u a s) h =
        let three = nowhere_left (in_first f ++ in_test t ++ in_step u) (in_code a) h in
        let two = nowhere_left (in_first f ++ in_test t) (in_step u) three in
        λ i. for
        (first-off f (nowhere_left (in_first f) (in_test t) two) i)
        (test-off t (nowhere_right (in_first f) (in_test t) two) i)
        (step-off u (nowhere_right (in_first f ++ in_test t) (in_step u) three) i)
        (code-off a (nowhere_right (in_first f ++ in_test t ++ in_step u) (in_code a) h) i)
        s
    code-off (give e s) h =
        at_code-off (give e s) (give (to_value l r e) s) (nowhere_first h) (ap (λ x. give x s) (value-off e (nowhere_rest h)))
    code-off (break s) h = at_code-off (break s) (break s) (nowhere_first h) refl
    code-off (continue s) h = at_code-off (continue s) (continue s) (nowhere_first h) refl

    -- the items of a block stay
    body-off : (b : Body) → Nowhere l (in_body b) → to_body l r b ≡ b
    body-off done h = refl
    body-off (next c rest) h = ap₂ next
        (code-off c (nowhere_left (in_code c) (in_body rest) h))
        (body-off rest (nowhere_right (in_code c) (in_body rest) h))
    body-off (vars ty vs rest) h = ap₂ (vars ty)
        (variables-off vs (nowhere_left (in_variables vs) (in_body rest) h))
        (body-off rest (nowhere_right (in_variables vs) (in_body rest) h))

  -- a body that may be absent stays
  definition-off : (b : Option Body) → Nowhere l (in_definition b) → to_definition l r b ≡ b
  definition-off None h = refl
  definition-off (Some body) h = ap Some (body-off body h)

  -- what stands at file scope stays
  outer-off : (x : Outer) → Nowhere l (in_outer x) → to_outer l r x ≡ x
  outer-off (outer_vars ty vs) h = refl
  outer-off (outer_func f) h = ap (λ b. outer_func (record f { body = b })) (definition-off f.body h)

  -- the program stays
  pub program-off : (p : List Outer) → Nowhere l (located p) → rewritten l r p ≡ p
  program-off p h = map-off in_outer (to_outer l r) outer-off p h
