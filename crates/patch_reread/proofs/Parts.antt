-- What stands at a location of a program has only words of the source.
use Rattle.std.proofs.Common.{◌≡◌, Bool, true, false, cond, List, [], ◌∷◌, ◌++◌, Option, Some, None, option_map, refl, sym, subst, All}
use Rattle.std.specs.List.{flat_map, find}
use Rattle.std.proofs.lemmas.List.Elements.{All-nil, All-cons, All-append, All-head, All-tail}
use Rattle.c_lex.specs.Tokens.{Macros}
use Rattle.c_tree.specs.declared.expr.BinOp.{BinOp}
use Rattle.c_tree.specs.declared.place.Loc.{Loc}
use Rattle.c_tree.specs.Tree.{Tree, constant, name, index, call, unary, cast, binary, choice, assign, bump, comma, hole, hole_after, Args, no_args, value, format, address, Initial, bare_start, one_start, list_start, Variable, First, no_first, first_act, first_vars, Code, empty, act, block, if_then, if_else, while, do_while, for, give, break, continue, Body, done, next, vars, Outer, outer_vars, outer_func}
use Rattle.c_location.specs.Locations.{Part, expression, statement, Located, guard, condition, right_side, assigned, in_tree, in_args, in_condition, in_right_side, in_test, in_step, in_value, in_initial, in_variables, in_first, in_code, in_body, in_definition, in_outer, located, is_at, part_at}
use Rattle.printed_tokens.specs.Sourced.{Sourced, SourcedArgs, SourcedTrees, SourcedOption, SourcedInitial, SourcedVariables, SourcedFirst, SourcedCode, SourcedBody, SourcedDefinition, SourcedOuter, SourcedProgram}

-- the words of what stands there are words of the source; of a statement nothing is asked
abbrev pub SourcedPart : Macros → Part → Type 0
SourcedPart m (expression e) = Sourced m e
SourcedPart m (statement c) = Unit {0}

-- so it is with all parts at some locations
record Fine (m : Macros) (xs : List Located) : Type 0 where
  each : All (λ (x : Located). SourcedPart m x.part) xs

module _ (m : Macros) where
  none : Fine m []
  none = record { each = All-nil (λ (x : Located). SourcedPart m x.part) }

  both : {xs ys : List Located} → Fine m xs → Fine m ys → Fine m (xs ++ ys)
  both {xs} {ys} a b =
      record { each = All-append (λ (x : Located). SourcedPart m x.part) xs ys a.each b.each }

  more : (x : Located) {xs : List Located} → SourcedPart m x.part → Fine m xs → Fine m (x ∷ xs)
  more x {xs} h a =
      record { each = All-cons (λ (y : Located). SourcedPart m y.part) x xs h a.each }

  assigned-fine : (op : Option BinOp) (e : Tree) → Sourced m e → Fine m (assigned op e)
  assigned-fine None e h = more (right_side e) h none
  assigned-fine (Some op) e h = none

  mutual
    tree-fine : (e : Tree) → Sourced m e → Fine m (in_tree e)
    tree-fine (constant n w s) h = none
    tree-fine (name w v s) h = none
    tree-fine (index w v e s) h = tree-fine e h.1
    tree-fine (call w x s) h = args-fine x h
    tree-fine (unary op e s) h = tree-fine e h
    tree-fine (cast ty e s) h = tree-fine e h
    tree-fine (binary op a b s) h = both (tree-fine a h.0) (tree-fine b h.1)
    tree-fine (choice t a b s) h =
        both (both (tree-fine t h.0) (tree-fine a h.1)) (tree-fine b h.2)
    tree-fine (assign op place e s) h =
        both (both (tree-fine place h.0) (assigned-fine op e h.1)) (tree-fine e h.1)
    tree-fine (bump before up e s) h = tree-fine e h
    tree-fine (comma a b s) h = both (tree-fine a h.0) (tree-fine b h.1)
    tree-fine hole h = none
    tree-fine (hole_after e) h = tree-fine e h

    args-fine : (x : Args) → SourcedArgs m x → Fine m (in_args x)
    args-fine no_args h = none
    args-fine (value e x) h = both (tree-fine e h.0) (args-fine x h.1)
    args-fine (format f s x) h = args-fine x h
    args-fine (address e x) h = both (tree-fine e h.0) (args-fine x h.1)

  condition-fine : (e : Tree) → Sourced m e → Fine m (in_condition e)
  condition-fine e h = more (condition e) h (tree-fine e h)

  right_side-fine : (e : Tree) → Sourced m e → Fine m (in_right_side e)
  right_side-fine e h = more (right_side e) h (tree-fine e h)

  test-fine : (o : Option Tree) → SourcedOption m o → Fine m (in_test o)
  test-fine None h = none
  test-fine (Some e) h = condition-fine e h

  step-fine : (o : Option Tree) → SourcedOption m o → Fine m (in_step o)
  step-fine None h = none
  step-fine (Some e) h = tree-fine e h

  value-fine : (o : Option Tree) → SourcedOption m o → Fine m (in_value o)
  value-fine None h = none
  value-fine (Some e) h = right_side-fine e h

  trees-fine : (es : List Tree) → SourcedTrees m es → Fine m (flat_map in_tree es)
  trees-fine [] h = none
  trees-fine (e ∷ es) h = both (tree-fine e h.0) (trees-fine es h.1)

  initial-fine : (start : Initial) → SourcedInitial m start → Fine m (in_initial start)
  initial-fine bare_start h = none
  initial-fine (one_start e) h = right_side-fine e h
  initial-fine (list_start es) h = trees-fine es h

  variables-fine : (vs : List Variable) → SourcedVariables m vs → Fine m (in_variables vs)
  variables-fine [] h = none
  variables-fine (v ∷ vs) h = both (initial-fine v.start h.0.1) (variables-fine vs h.1)

  first-fine : (f : First) → SourcedFirst m f → Fine m (in_first f)
  first-fine no_first h = none
  first-fine (first_act e) h = tree-fine e h
  first-fine (first_vars ty vs) h = variables-fine vs h

  mutual
    code-fine : (c : Code) → SourcedCode m c → Fine m (in_code c)
    code-fine (empty s) h = none
    code-fine (act e s) h = more (guard (act e s)) tt (tree-fine e h)
    code-fine (block body s) h = body-fine body h
    code-fine (if_then t a s) h = both (condition-fine t h.0) (code-fine a h.1)
    code-fine (if_else t a b s) h =
        both (both (condition-fine t h.0) (code-fine a h.1)) (code-fine b h.2)
    code-fine (while t a s) h = both (condition-fine t h.0) (code-fine a h.1)
    code-fine (do_while a t s) h = both (code-fine a h.0) (condition-fine t h.1)
    code-fine (for f t u a s) h =
        both (both (both (first-fine f h.0) (test-fine t h.1)) (step-fine u h.2)) (code-fine a h.3)
    code-fine (give e s) h = more (guard (give e s)) tt (value-fine e h)
    code-fine (break s) h = more (guard (break s)) tt none
    code-fine (continue s) h = more (guard (continue s)) tt none

    body-fine : (b : Body) → SourcedBody m b → Fine m (in_body b)
    body-fine done h = none
    body-fine (next c rest) h = both (code-fine c h.0) (body-fine rest h.1)
    body-fine (vars ty vs rest) h = both (variables-fine vs h.0) (body-fine rest h.1)

  definition-fine : (b : Option Body) → SourcedDefinition m b → Fine m (in_definition b)
  definition-fine None h = none
  definition-fine (Some body) h = body-fine body h

  outer-fine : (x : Outer) → SourcedOuter m x → Fine m (in_outer x)
  outer-fine (outer_vars ty vs) h = none
  outer-fine (outer_func f) h = definition-fine f.body h.1

  program-fine : (p : List Outer) → SourcedProgram m p → Fine m (located p)
  program-fine [] h = none
  program-fine (x ∷ p) h = both (outer-fine x h.0) (program-fine p h.1)

  -- the first that passes a test
  found-fine : (test : Located → Bool) (xs : List Located) (x : Located) → Fine m xs
      → find test xs ≡ Some x → SourcedPart m x.part
  found-fine test [] x a e = absurd (cc)
  found-fine test (y ∷ ys) x a e =
      by_test (test y) e
      (λ f. found-fine test ys x
      (record { each = All-tail (λ (z : Located). SourcedPart m z.part) y ys a.each }) f)
    where
      by_test : (b : Bool) → cond b (Some y) (find test ys) ≡ Some x
          → (find test ys ≡ Some x → SourcedPart m x.part) → SourcedPart m x.part
      by_test true f later =
          let same : y ≡ x = cc f in
          subst (λ (z : Located). SourcedPart m z.part) same
          (All-head (λ (z : Located). SourcedPart m z.part) y ys a.each)
      by_test false f later = later f

  -- what stands at a location of a program
  pub part-fine : (l : Loc) (p : List Outer) (part : Part) → SourcedProgram m p
      → part_at l p ≡ Some part → SourcedPart m part
  part-fine l p part h e =
      there (find (is_at l) (located p))
      (λ x f. found-fine (is_at l) (located p) x (program-fine p h) f) e
    where
      there : (o : Option Located) → ((x : Located) → o ≡ Some x → SourcedPart m x.part)
          → option_map (λ (x : Located). x.part) o ≡ Some part → SourcedPart m part
      there None each f = absurd (cc)
      there (Some x) each f =
          let same : x.part ≡ part = cc f in subst (SourcedPart m) same (each x refl)
