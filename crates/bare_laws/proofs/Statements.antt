-- The kinds of the faults of declarations and statements depend on no span, no slot and no spelling
-- of a constant.
use Rattle.std.proofs.Common.{◌≡◌, ℤ, Bool, true, not, ◌||◌, ◌&&◌, int_lt, pos, List, [], ◌∷◌, ◌++◌, map, Option, Some, None, refl, sym, ap, ap₂, ◌∙◌}
use Rattle.std.proofs.lemmas.List.{map-append, length-map}
use Rattle.c_tree.specs.declared.place.Span.{Span}
use Rattle.c_tree.specs.declared.stmt.Shape.{Shape}
use Rattle.c_tree.specs.declared.stmt.Shape.TheVariants.{Scalar as ScalarShape, Array as ArrayShape}
use Rattle.c_tree.specs.declared.stmt.Ty.{Ty}
use Rattle.c_tree.specs.Tree.{Tree, Initial, bare_start, one_start, list_start, Variable, First, no_first, first_act, first_vars, Code, empty, act, block, if_then, if_else, while, do_while, for, give, break, continue, Body, done, next, vars, no_span, bare, bare_option, bare_initial, bare_variable, bare_first, bare_code, bare_body}
use Rattle.c_types.specs.declared.fault.FaultKind.TheVariants.{Twice, WrongKind, WrongCount, BadArrayLength, LoopOnly}
use Rattle.c_types.specs.declared.scope.Declaration.{Declaration}
use Rattle.c_types.specs.declared.scope.Storage.{Storage}
use Rattle.c_types.specs.declared.scope.Storage.TheVariants.{Automatic}
use Rattle.c_types.specs.Least.{fault_if}
use Rattle.c_types.specs.Scopes.{is_declared}
use Rattle.c_types.specs.Statements.{variable_declaration, declared, elements, is_list, list_faults, length_faults, initial_faults, number_option, void_option, variable_faults, variables_faults, first_declared, first_faults, clause_faults, return_faults, code_faults, body_faults}
use Rattle.bare_laws.proofs.SameKinds.{SameKinds, none, one, test, both, but_equal}
use Rattle.bare_laws.proofs.Scopes.{slotless, declared-same}
use Rattle.bare_laws.proofs.Expressions.{as_number-alike, as_void-alike, faults-alike, initial-alike, number_option-alike, void_option-alike, constant_faults-alike}

-- ---- declarations

list-same : (start : Initial) → is_list (bare_initial start) ≡ is_list start
list-same bare_start = refl
list-same (one_start e) = refl
list-same (list_start es) = refl

elements-same : (start : Initial) → elements (bare_initial start) ≡ elements start
elements-same bare_start = refl
elements-same (one_start e) = refl
elements-same (list_start es) = length-map es bare

list_faults-alike : (n : ℤ) (start : Initial) (s t : Span)
    → SameKinds (list_faults n (bare_initial start) s) (list_faults n start t)
list_faults-alike n start s t =
    but_equal
    (ap₂ (λ b k. fault_if (b && int_lt n (pos k)) WrongCount s) (list-same start) (elements-same start))
    (test (is_list start && int_lt n (pos (elements start))) WrongCount s t)

length_faults-alike : (shape : Shape) (start : Initial) (s t : Span)
    → SameKinds (length_faults shape (bare_initial start) s) (length_faults shape start t)
length_faults-alike ScalarShape start s t = list_faults-alike (pos 1) start s t
length_faults-alike (ArrayShape None) start s t =
    but_equal (ap (λ b. fault_if (not b) BadArrayLength s) (list-same start))
    (test (not (is_list start)) BadArrayLength s t)
length_faults-alike (ArrayShape (Some n)) start s t =
    both (test (int_lt n (pos 1) || int_lt (pos 1048576) n) BadArrayLength s t)
    (list_faults-alike n start s t)

-- scopes with one more declaration
more-same : (d : Declaration) (here around : List Declaration)
    → slotless d ∷ (map slotless here ++ map slotless around) ≡ map slotless (d ∷ (here ++ around))
more-same d here around = ap (λ ds. slotless d ∷ ds) (sym (map-append slotless here around))

pub declared_all-same : (ty : Ty) (vs : List Variable) (here : List Declaration)
    → declared ty (map bare_variable vs) (map slotless here) ≡ map slotless (declared ty vs here)
declared_all-same ty [] here = refl
declared_all-same ty (v ∷ vs) here = declared_all-same ty vs (variable_declaration ty v ∷ here)

variable-alike : (storage : Storage) (here around : List Declaration) (ty : Ty) (v : Variable)
    → SameKinds
    (variable_faults storage (map slotless here) (map slotless around) ty (bare_variable v))
    (variable_faults storage here around ty v)
variable-alike storage here around ty v =
    let d = variable_declaration ty v in
    both
    (but_equal (ap (λ b. fault_if b Twice no_span) (declared-same here v.word))
    (test (is_declared here v.word) Twice no_span v.span))
    (both (length_faults-alike v.shape v.start no_span v.span)
    (both
    (but_equal (ap (λ ds. initial_faults ds (bare_initial v.start)) (more-same d here around))
    (initial-alike (d ∷ (here ++ around)) v.start))
    (constant_faults-alike storage v.start)))

pub variables-alike : (storage : Storage) (here around : List Declaration) (ty : Ty)
    (vs : List Variable)
    → SameKinds
    (variables_faults storage (map slotless here) (map slotless around) ty (map bare_variable vs))
    (variables_faults storage here around ty vs)
variables-alike storage here around ty [] = none
variables-alike storage here around ty (v ∷ vs) =
    both (variable-alike storage here around ty v)
    (variables-alike storage (variable_declaration ty v ∷ here) around ty vs)

-- ---- statements

first_declared-same : (f : First)
    → first_declared (bare_first f) ≡ map slotless (first_declared f)
first_declared-same no_first = refl
first_declared-same (first_act e) = refl
first_declared-same (first_vars ty vs) = declared_all-same ty vs []

first-alike : (ds : List Declaration) (f : First)
    → SameKinds (first_faults (map slotless ds) (bare_first f)) (first_faults ds f)
first-alike ds no_first = none
first-alike ds (first_act e) = both (as_void-alike ds e) (faults-alike ds e)
first-alike ds (first_vars ty vs) = variables-alike Automatic [] ds ty vs

-- the scope of a `for`
for_scope-same : (f : First) (ds : List Declaration)
    → first_declared (bare_first f) ++ map slotless ds ≡ map slotless (first_declared f ++ ds)
for_scope-same f ds =
    ap (λ es. es ++ map slotless ds) (first_declared-same f)
    ∙ sym (map-append slotless (first_declared f) ds)

clauses-alike : (ds : List Declaration) (f : First) (t u : Option Tree)
    → SameKinds (clause_faults (map slotless ds) (bare_first f) (bare_option t) (bare_option u))
    (clause_faults ds f t u)
clauses-alike ds f t u =
    both (first-alike ds f)
    (both
    (but_equal (ap (λ es. number_option es (bare_option t)) (for_scope-same f ds))
    (number_option-alike (first_declared f ++ ds) t))
    (but_equal (ap (λ es. void_option es (bare_option u)) (for_scope-same f ds))
    (void_option-alike (first_declared f ++ ds) u)))

return-alike : (ret : Option Ty) (o : Option Tree) (s t : Span)
    → SameKinds (return_faults ret (bare_option o) s) (return_faults ret o t)
return-alike None None s t = none
return-alike None (Some e) s t = one WrongKind s t
return-alike (Some ty) None s t = one WrongKind s t
return-alike (Some ty) (Some e) s t = none

module _ (ret : Option Ty) where
  -- a condition
  condition-alike : (ds : List Declaration) (t : Tree)
      → SameKinds (number_option (map slotless ds) (Some (bare t))) (number_option ds (Some t))
  condition-alike ds t = both (as_number-alike ds t) (faults-alike ds t)

  mutual
    pub code-alike : (ds : List Declaration) (in_loop : Bool) (c : Code)
        → SameKinds (code_faults ret (map slotless ds) in_loop (bare_code c))
        (code_faults ret ds in_loop c)
    code-alike ds in_loop (empty s) = none
    code-alike ds in_loop (act e s) = both (as_void-alike ds e) (faults-alike ds e)
    code-alike ds in_loop (block body s) = body-alike [] ds in_loop body
    code-alike ds in_loop (if_then t a s) = both (condition-alike ds t) (code-alike ds in_loop a)
    code-alike ds in_loop (if_else t a b s) =
        both (condition-alike ds t) (both (code-alike ds in_loop a) (code-alike ds in_loop b))
    code-alike ds in_loop (while t a s) = both (condition-alike ds t) (code-alike ds true a)
    code-alike ds in_loop (do_while a t s) = both (code-alike ds true a) (condition-alike ds t)
    code-alike ds in_loop (for f t u a s) =
        both (clauses-alike ds f t u)
        (but_equal (ap (λ es. code_faults ret es true (bare_code a)) (for_scope-same f ds))
        (code-alike (first_declared f ++ ds) true a))
    code-alike ds in_loop (give e s) =
        both (return-alike ret e no_span s) (number_option-alike ds e)
    code-alike ds in_loop (break s) = test (not in_loop) LoopOnly no_span s
    code-alike ds in_loop (continue s) = test (not in_loop) LoopOnly no_span s

    pub body-alike : (here around : List Declaration) (in_loop : Bool) (b : Body)
        → SameKinds
        (body_faults ret (map slotless here) (map slotless around) in_loop (bare_body b))
        (body_faults ret here around in_loop b)
    body-alike here around in_loop done = none
    body-alike here around in_loop (next c rest) =
        both
        (but_equal
        (ap (λ es. code_faults ret es in_loop (bare_code c)) (sym (map-append slotless here around)))
        (code-alike (here ++ around) in_loop c))
        (body-alike here around in_loop rest)
    body-alike here around in_loop (vars ty vs rest) =
        both (variables-alike Automatic here around ty vs)
        (but_equal
        (ap (λ hs. body_faults ret hs (map slotless around) in_loop (bare_body rest))
        (declared_all-same ty vs here))
        (body-alike (declared ty vs here) around in_loop rest))
