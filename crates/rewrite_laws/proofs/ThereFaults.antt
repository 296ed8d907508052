-- A rewrite that keeps the faults of what stands at a location, with the declarations that are in scope there, keeps those of
-- a program.
use Rattle.std.proofs.Common.{◌≡◌, ℕ, ℤ, suc, Bool, true, false, not, if◌then◌else◌, List, [], ◌∷◌, ◌++◌, map, length, Option, Some, None, is_some, refl, ap, ap₂, ◌∙◌, ◌||◌, ◌&&◌, nat_eq, int_lt, pos, codes}
use Rattle.std.specs.Str.{bytes_eq}
use Rattle.std.proofs.lemmas.List.{length-map}
use Rattle.c_tree.specs.declared.place.Loc.{Loc}
use Rattle.c_tree.specs.declared.place.LocKind.{LocKind}
use Rattle.c_tree.specs.declared.place.LocKind.TheVariants.{Cond, Right, Guard}
use Rattle.c_tree.specs.declared.place.Span.{Span}
use Rattle.c_tree.specs.declared.stmt.Shape.{Shape}
use Rattle.c_tree.specs.declared.stmt.Shape.TheVariants.{Scalar as ScalarShape, Array as ArrayShape}
use Rattle.c_tree.specs.declared.stmt.Ty.{Ty}
use Rattle.c_tree.specs.declared.stmt.Ty.TheVariants.{Int}
use Rattle.c_tree.specs.Parts.{span_of, span_of_code}
use Rattle.c_tree.specs.Tree.{Tree, constant, name, index, call, unary, cast, binary, choice, assign, bump, comma, hole, hole_after, Args, no_args, value, format, address, Initial, bare_start, one_start, list_start, Variable, First, no_first, first_act, first_vars, Code, empty, act, block, if_then, if_else, while, do_while, for, give, break, continue, Body, done, next, vars, Function, Outer, outer_vars, outer_func}
use Rattle.c_types.specs.declared.fault.FaultKind.TheVariants.{Unknown, Twice, WrongKind, WrongCount, NotPlace, BadArrayLength, BadFormat, NoMain}
use Rattle.c_types.specs.declared.kinds.Wanted.{Wanted}
use Rattle.c_types.specs.declared.kinds.Wanted.TheVariants.{Anything, Scalar, ArrayOf, PrintfFormat, ScanfFormat, IntAddress}
use Rattle.c_types.specs.declared.scope.Declaration.{Declaration}
use Rattle.c_types.specs.declared.scope.Entity.{Entity}
use Rattle.c_types.specs.declared.scope.Entity.TheVariants.{Variable as VariableEntity, Function as FunctionEntity, Library, Printf, Scanf}
use Rattle.c_types.specs.declared.scope.Storage.TheVariants.{Static, Automatic}
use Rattle.c_types.specs.Arguments.{number_faults, is_place, stores_int, converted, wanted, value_faults, format_faults, operand_faults, address_faults, args_count, no_format, miscounts, formatted_faults, call_faults}
use Rattle.c_types.specs.Expressions.{void_faults, index_faults, place_faults, as_number, as_void, faults, args_faults}
use Rattle.c_types.specs.Formats.{conversions, scan_conversions}
use Rattle.c_types.specs.Kinds.{kind}
use Rattle.c_types.specs.Least.{fault, fault_if}
use Rattle.c_types.specs.Library.{library}
use Rattle.c_types.specs.Programs.{is_defined, param_type, function_declaration, params_declared, params_faults, same_result, same_params, redeclared_faults, name_faults, definition_faults, function_faults, outers_faults, has_no_params, is_main, has_main, program_faults}
use Rattle.c_types.specs.Scopes.{denoted, is_declared}
use Rattle.c_types.specs.Statements.{variable_declaration, declared, elements, is_list, list_faults, length_faults, as_numbers, initial_faults, number_option, void_option, variables_faults, first_declared, first_faults, return_faults, code_faults, body_faults}
use Rattle.rewrite_laws.proofs.SeesThere.{Here, HereCode, InTree, InArgs, InPart, InOption, InStep, InTrees, InInitial, InVariables, InFirst, InCode, InBody, InDefinition, InOuters, InProgram}
use Rattle.c_location.specs.Locations.{stands}
use Rattle.c_location.specs.Rewrites.{Rewrite, at_tree, at_code, to_tree, to_args, to_test, to_step, to_value, to_initial, to_variable, to_first, to_code, to_body, to_definition, rewritten}

-- a rewrite after which what stands at a location has the same text and the same faults, where the scope is as it is said
pub record KeepsThere (S : List Declaration → Tree → Type 0) (C : List Declaration → Type 0) (r : Rewrite) : Type 0 where
  pub number : (ds : List Declaration) (e : Tree) → S ds e → as_number ds (r.tree e) ≡ as_number ds e
  pub faults : (ds : List Declaration) (e : Tree) → S ds e → faults ds (r.tree e) ≡ faults ds e
  pub code : (ret : Option Ty) (ds : List Declaration) (in_loop : Bool) (c : Code) → C ds
      → code_faults ret ds in_loop (r.code c) ≡ code_faults ret ds in_loop c

-- what holds of both of two things holds of the one that is chosen
chosen : {A B : Type 0} (f : A → B) (b : Bool) (x y : A) (z : B) → (b ≡ true → f x ≡ z) → f y ≡ z → f (if b then x else y) ≡ z
chosen f true x y z p q = p refl
chosen f false x y z p q = q

module _ (l : Loc) (r : Rewrite) (S : List Declaration → Tree → Type 0) (C : List Declaration → Type 0) (keeps : KeepsThere S C r) where
  count-kept : (x : Args) → args_count (to_args l r x) ≡ args_count x
  count-kept no_args = refl
  count-kept (value e x) = ap suc (count-kept x)
  count-kept (format text s x) = ap suc (count-kept x)
  count-kept (address e x) = ap suc (count-kept x)

  format-kept : (x : Args) → no_format (to_args l r x) ≡ no_format x
  format-kept no_args = refl
  format-kept (value e x) = format-kept x
  format-kept (format text s x) = refl
  format-kept (address e x) = format-kept x

  formatted-kept : (read : List ℕ → Option ℕ) (x : Args) (s : Span) → formatted_faults read (to_args l r x) s ≡ formatted_faults read x s
  formatted-kept read no_args s = refl
  formatted-kept read (value e x) s = refl
  formatted-kept read (format text t x) s =
      ap₂ (λ b n. fault_if (b && miscounts (read text) n) WrongCount s) (format-kept x) (count-kept x)
  formatted-kept read (address e x) s = refl

  converted-kept : (x : Args) → converted (to_args l r x) ≡ converted x
  converted-kept no_args = refl
  converted-kept (value e x) = refl
  converted-kept (format text s x) = refl
  converted-kept (address e x) = refl

  call-kept : (m : Option Entity) (x : Args) (s : Span) → call_faults m (to_args l r x) s ≡ call_faults m x s
  call-kept None x s = refl
  call-kept (Some (VariableEntity slot ty array)) x s = refl
  call-kept (Some (FunctionEntity ret params body defined)) x s =
      ap (λ n. fault_if (not defined) Unknown s ++ fault_if (not (nat_eq (length params) n)) WrongCount s) (count-kept x)
  call-kept (Some (Library ret params)) x s = ap (λ n. fault_if (not (nat_eq (length params) n)) WrongCount s) (count-kept x)
  call-kept (Some Printf) x s = formatted-kept conversions x s
  call-kept (Some Scanf) x s = formatted-kept scan_conversions x s

  pub span-kept : (e : Tree) → span_of (to_tree l r e) ≡ span_of e
  span-kept (constant n word s) = refl
  span-kept (name word slot s) = refl
  span-kept (index word slot e s) = refl
  span-kept (call word x s) = refl
  span-kept (unary op e s) = refl
  span-kept (cast ty e s) = refl
  span-kept (binary op a b s) = refl
  span-kept (choice t a b s) = refl
  span-kept (assign op place e s) = refl
  span-kept (bump before up place s) = refl
  span-kept (comma a b s) = refl
  span-kept hole = refl
  span-kept (hole_after e) = span-kept e

  place-kept : (e : Tree) → is_place (to_tree l r e) ≡ is_place e
  place-kept (constant n word s) = refl
  place-kept (name word slot s) = refl
  place-kept (index word slot e s) = refl
  place-kept (call word x s) = refl
  place-kept (unary op e s) = refl
  place-kept (cast ty e s) = refl
  place-kept (binary op a b s) = refl
  place-kept (choice t a b s) = refl
  place-kept (assign op place e s) = refl
  place-kept (bump before up place s) = refl
  place-kept (comma a b s) = refl
  place-kept hole = refl
  place-kept (hole_after e) = refl

  operand-kept : (e : Tree) → operand_faults (to_tree l r e) ≡ operand_faults e
  operand-kept e = ap₂ (λ b s. fault_if (not b) NotPlace s) (place-kept e) (span-kept e)

  module _ (ds : List Declaration) where
    kind-kept : (e : Tree) → kind ds (to_tree l r e) ≡ kind ds e
    kind-kept (constant n word s) = refl
    kind-kept (name word slot s) = refl
    kind-kept (index word slot e s) = refl
    kind-kept (call word x s) = refl
    kind-kept (unary op e s) = refl
    kind-kept (cast ty e s) = refl
    kind-kept (binary op a b s) = refl
    kind-kept (choice t a b s) = refl
    kind-kept (assign op place e s) = refl
    kind-kept (bump before up place s) = refl
    kind-kept (comma a b s) = refl
    kind-kept hole = refl
    kind-kept (hole_after e) = refl

    number-kept : (e : Tree) → as_number ds (to_tree l r e) ≡ as_number ds e
    number-kept e = ap₂ number_faults (kind-kept e) (span-kept e)

    void-kept : (e : Tree) → as_void ds (to_tree l r e) ≡ as_void ds e
    void-kept e = ap₂ void_faults (kind-kept e) (span-kept e)

    place_faults-kept : (e : Tree) → place_faults ds (to_tree l r e) ≡ place_faults ds e
    place_faults-kept (constant n word s) = refl
    place_faults-kept (name word slot s) = refl
    place_faults-kept (index word slot e s) = refl
    place_faults-kept (call word x s) = refl
    place_faults-kept (unary op e s) = refl
    place_faults-kept (cast ty e s) = refl
    place_faults-kept (binary op a b s) = refl
    place_faults-kept (choice t a b s) = refl
    place_faults-kept (assign op place e s) = refl
    place_faults-kept (bump before up place s) = refl
    place_faults-kept (comma a b s) = refl
    place_faults-kept hole = refl
    place_faults-kept (hole_after e) = ap (fault NotPlace) (span-kept e)

    stores-kept : (e : Tree) → stores_int ds (to_tree l r e) ≡ stores_int ds e
    stores-kept (constant n word s) = refl
    stores-kept (name word slot s) = refl
    stores-kept (index word slot e s) = refl
    stores-kept (call word x s) = refl
    stores-kept (unary op e s) = refl
    stores-kept (cast ty e s) = refl
    stores-kept (binary op a b s) = refl
    stores-kept (choice t a b s) = refl
    stores-kept (assign op place e s) = refl
    stores-kept (bump before up place s) = refl
    stores-kept (comma a b s) = refl
    stores-kept hole = refl
    stores-kept (hole_after e) = refl

    address-kept : (w : Wanted) (e : Tree) → address_faults w ds (to_tree l r e) ≡ address_faults w ds e
    address-kept Anything e = λ i. fault WrongKind (span-kept e i) ++ operand-kept e i
    address-kept Scalar e = λ i. fault WrongKind (span-kept e i) ++ operand-kept e i
    address-kept (ArrayOf ty) e = λ i. fault WrongKind (span-kept e i) ++ operand-kept e i
    address-kept PrintfFormat e = λ i. fault WrongKind (span-kept e i) ++ (operand-kept e i ++ fault BadFormat (span-kept e i))
    address-kept ScanfFormat e = λ i. fault WrongKind (span-kept e i) ++ (operand-kept e i ++ fault BadFormat (span-kept e i))
    address-kept IntAddress e = λ i. fault_if (not (stores-kept e i)) WrongKind (span-kept e i) ++ operand-kept e i

    -- an expression with its own faults as a number
    number_at : (at : LocKind) (e : Tree) → Here l S C at ds e → as_number ds (at_tree l r at e (to_tree l r e)) ≡ as_number ds e
    number_at at e h =
        chosen (as_number ds) (stands l at (span_of e)) (r.tree e) (to_tree l r e) (as_number ds e)
        (λ is. keeps.number ds e (h is)) (number-kept e)

    -- its faults, given those of its inside
    part-kept : (at : LocKind) (e : Tree) → Here l S C at ds e → faults ds (to_tree l r e) ≡ faults ds e
        → faults ds (at_tree l r at e (to_tree l r e)) ≡ faults ds e
    part-kept at e h inside =
        chosen (faults ds) (stands l at (span_of e)) (r.tree e) (to_tree l r e) (faults ds e) (λ is. keeps.faults ds e (h is)) inside

    mutual
      faults-kept : (e : Tree) → InTree l S C ds e → faults ds (to_tree l r e) ≡ faults ds e
      faults-kept (constant n word s) h = refl
      faults-kept (name word slot s) h = refl
      faults-kept (index word slot e s) h = λ i. index_faults (denoted ds word) s ++ (number-kept e i ++ faults-kept e h i)
      faults-kept (call word x s) h =
          λ i. call-kept (denoted ds word) x s i ++ args-kept (wanted (denoted ds word) (converted-kept x i)) 0 x h i
      faults-kept (unary op e s) h = ap₂ (λ fs gs. fs ++ gs) (number-kept e) (faults-kept e h)
      faults-kept (cast ty e s) h = ap₂ (λ fs gs. fs ++ gs) (number-kept e) (faults-kept e h)
      faults-kept (binary op a b s) h = λ i. (number-kept a i ++ faults-kept a h.0 i) ++ (number-kept b i ++ faults-kept b h.1 i)
      faults-kept (choice t a b s) h =
          λ i. (number-kept t i ++ faults-kept t h.0 i) ++ ((number-kept a i ++ faults-kept a h.1 i) ++ (number-kept b i ++ faults-kept b h.2 i))
      faults-kept (assign None place e s) h =
          λ i. (place_faults-kept place i ++ faults-kept place h.0 i) ++ (number_at Right e h.1 i ++ part-kept Right e h.1 (faults-kept e h.2) i)
      faults-kept (assign (Some op) place e s) h =
          λ i. (place_faults-kept place i ++ faults-kept place h.0 i) ++ (number-kept e i ++ faults-kept e h.2 i)
      faults-kept (bump before up place s) h = ap₂ (λ fs gs. fs ++ gs) (place_faults-kept place) (faults-kept place h)
      faults-kept (comma a b s) h = λ i. (void-kept a i ++ faults-kept a h.0 i) ++ (number-kept b i ++ faults-kept b h.1 i)
      faults-kept hole h = refl
      faults-kept (hole_after e) h = ap₂ (λ fs gs. fs ++ gs) (number-kept e) (faults-kept e h)

      args-kept : (m : ℕ → Wanted) (n : ℕ) (x : Args) → InArgs l S C ds x → args_faults ds m n (to_args l r x) ≡ args_faults ds m n x
      args-kept m n no_args h = refl
      args-kept m n (value e x) h =
          λ i. (value_faults (m n) (kind-kept e i) (span-kept e i) ++ faults-kept e h.0 i) ++ args-kept m (suc n) x h.1 i
      args-kept m n (format text s x) h = ap (λ fs. format_faults (m n) text s ++ fs) (args-kept m (suc n) x h)
      args-kept m n (address e x) h =
          λ i. (address-kept (m n) e i ++ faults-kept e h.0 i) ++ args-kept m (suc n) x h.1 i

    faults_at : (at : LocKind) (e : Tree) → InPart l S C at ds e → faults ds (at_tree l r at e (to_tree l r e)) ≡ faults ds e
    faults_at at e h = part-kept at e h.0 (faults-kept e h.1)

    both_at : (at : LocKind) (e : Tree) → InPart l S C at ds e
        → as_number ds (at_tree l r at e (to_tree l r e)) ++ faults ds (at_tree l r at e (to_tree l r e)) ≡ as_number ds e ++ faults ds e
    both_at at e h = ap₂ (λ fs gs. fs ++ gs) (number_at at e h.0) (faults_at at e h)

    numbers-kept : (es : List Tree) → InTrees l S C ds es → as_numbers ds (map (to_tree l r) es) ≡ as_numbers ds es
    numbers-kept [] h = refl
    numbers-kept (e ∷ es) h = λ i. (number-kept e i ++ faults-kept e h.0 i) ++ numbers-kept es h.1 i

    initial-kept : (start : Initial) → InInitial l S C ds start → initial_faults ds (to_initial l r start) ≡ initial_faults ds start
    initial-kept bare_start h = refl
    initial-kept (one_start e) h = both_at Right e h
    initial-kept (list_start es) h = numbers-kept es h

    test-kept : (o : Option Tree) → InOption l S C Cond ds o → number_option ds (to_test l r o) ≡ number_option ds o
    test-kept None h = refl
    test-kept (Some e) h = both_at Cond e h

    step-kept : (o : Option Tree) → InStep l S C ds o → void_option ds (to_step l r o) ≡ void_option ds o
    step-kept None h = refl
    step-kept (Some e) h = ap₂ (λ fs gs. fs ++ gs) (void-kept e) (faults-kept e h)

    value-kept : (o : Option Tree) → InOption l S C Right ds o → number_option ds (to_value l r o) ≡ number_option ds o
    value-kept None h = refl
    value-kept (Some e) h = both_at Right e h

  list-kept : (start : Initial) → is_list (to_initial l r start) ≡ is_list start
  list-kept bare_start = refl
  list-kept (one_start e) = refl
  list-kept (list_start es) = refl

  elements-kept : (start : Initial) → elements (to_initial l r start) ≡ elements start
  elements-kept bare_start = refl
  elements-kept (one_start e) = refl
  elements-kept (list_start es) = length-map es (to_tree l r)

  list_faults-kept : (n : ℤ) (start : Initial) (s : Span) → list_faults n (to_initial l r start) s ≡ list_faults n start s
  list_faults-kept n start s =
      ap₂ (λ b k. fault_if (b && int_lt n (pos k)) WrongCount s) (list-kept start) (elements-kept start)

  length_faults-kept : (shape : Shape) (start : Initial) (s : Span) → length_faults shape (to_initial l r start) s ≡ length_faults shape start s
  length_faults-kept ScalarShape start s = list_faults-kept (pos 1) start s
  length_faults-kept (ArrayShape None) start s = ap (λ b. fault_if (not b) BadArrayLength s) (list-kept start)
  length_faults-kept (ArrayShape (Some n)) start s =
      ap (λ more. fault_if (int_lt n (pos 1) || int_lt (pos 1048576) n) BadArrayLength s ++ more) (list_faults-kept n start s)

  pub declared-kept : (ty : Ty) (vs : List Variable) (here : List Declaration) → declared ty (map (to_variable l r) vs) here ≡ declared ty vs here
  declared-kept ty [] here = refl
  declared-kept ty (v ∷ vs) here = declared-kept ty vs (variable_declaration ty v ∷ here)

  variables-kept : (here around : List Declaration) (ty : Ty) (vs : List Variable) → InVariables l S C here around ty vs
      → variables_faults Automatic here around ty (map (to_variable l r) vs) ≡ variables_faults Automatic here around ty vs
  variables-kept here around ty [] h = refl
  variables-kept here around ty (v ∷ vs) h =
      let d = variable_declaration ty v in
      λ i. (fault_if (is_declared here v.word) Twice v.span
      ++ (length_faults-kept v.shape v.start v.span i ++ (initial-kept (d ∷ (here ++ around)) v.start h.0 i ++ [])))
      ++ variables-kept (d ∷ here) around ty vs h.1 i

  pub first_declared-kept : (f : First) → first_declared (to_first l r f) ≡ first_declared f
  first_declared-kept no_first = refl
  first_declared-kept (first_act e) = refl
  first_declared-kept (first_vars ty vs) = declared-kept ty vs []

  first-kept : (ds : List Declaration) (f : First) → InFirst l S C ds f → first_faults ds (to_first l r f) ≡ first_faults ds f
  first-kept ds no_first h = refl
  first-kept ds (first_act e) h = ap₂ (λ fs gs. fs ++ gs) (void-kept ds e) (faults-kept ds e h)
  first-kept ds (first_vars ty vs) h = variables-kept [] ds ty vs h

  return-kept : (ret : Option Ty) (o : Option Tree) (s : Span) → return_faults ret (to_value l r o) s ≡ return_faults ret o s
  return-kept None None s = refl
  return-kept None (Some e) s = refl
  return-kept (Some ty) None s = refl
  return-kept (Some ty) (Some e) s = refl

  -- the other clauses of a `for`, where what the first declares is in scope
  for_test : (ds : List Declaration) (f : First) (t : Option Tree) → InOption l S C Cond (first_declared f ++ ds) t
      → number_option (first_declared (to_first l r f) ++ ds) (to_test l r t) ≡ number_option (first_declared f ++ ds) t
  for_test ds f t h =
      ap (λ hs. number_option (hs ++ ds) (to_test l r t)) (first_declared-kept f) ∙ test-kept (first_declared f ++ ds) t h

  for_step : (ds : List Declaration) (f : First) (u : Option Tree) → InStep l S C (first_declared f ++ ds) u
      → void_option (first_declared (to_first l r f) ++ ds) (to_step l r u) ≡ void_option (first_declared f ++ ds) u
  for_step ds f u h =
      ap (λ hs. void_option (hs ++ ds) (to_step l r u)) (first_declared-kept f) ∙ step-kept (first_declared f ++ ds) u h

  module _ (ret : Option Ty) where
    -- a statement that can be a location
    code_at : (ds : List Declaration) (in_loop : Bool) (c inside : Code) → HereCode l S C ds (span_of_code c)
        → code_faults ret ds in_loop inside ≡ code_faults ret ds in_loop c → code_faults ret ds in_loop (at_code l r c inside) ≡ code_faults ret ds in_loop c
    code_at ds in_loop c inside h same =
        chosen (code_faults ret ds in_loop) (stands l Guard (span_of_code c)) (r.code c) inside (code_faults ret ds in_loop c)
        (λ is. keeps.code ret ds in_loop c (h is)) same

    mutual
      code-kept : (ds : List Declaration) (in_loop : Bool) (c : Code) → InCode l S C ds c → code_faults ret ds in_loop (to_code l r c) ≡ code_faults ret ds in_loop c
      code-kept ds in_loop (empty s) h = refl
      code-kept ds in_loop (act e s) h =
          code_at ds in_loop (act e s) (act (to_tree l r e) s) h.0 (ap₂ (λ fs gs. fs ++ gs) (void-kept ds e) (faults-kept ds e h.1))
      code-kept ds in_loop (block body s) h = body-kept [] ds in_loop body h
      code-kept ds in_loop (if_then t a s) h = ap₂ (λ fs gs. fs ++ gs) (both_at ds Cond t h.0) (code-kept ds in_loop a h.1)
      code-kept ds in_loop (if_else t a b s) h =
          λ i. both_at ds Cond t h.0 i ++ (code-kept ds in_loop a h.1 i ++ code-kept ds in_loop b h.2 i)
      code-kept ds in_loop (while t a s) h = ap₂ (λ fs gs. fs ++ gs) (both_at ds Cond t h.0) (code-kept ds true a h.1)
      code-kept ds in_loop (do_while a t s) h = ap₂ (λ fs gs. fs ++ gs) (code-kept ds true a h.0) (both_at ds Cond t h.1)
      code-kept ds in_loop (for f t u a s) h =
          let arm : code_faults ret (first_declared (to_first l r f) ++ ds) true (to_code l r a) ≡ code_faults ret (first_declared f ++ ds) true a =
          ap (λ hs. code_faults ret (hs ++ ds) true (to_code l r a)) (first_declared-kept f) ∙ code-kept (first_declared f ++ ds) true a h.3 in
          λ i. (first-kept ds f h.0 i ++ (for_test ds f t h.1 i ++ for_step ds f u h.2 i)) ++ arm i
      code-kept ds in_loop (give e s) h =
          code_at ds in_loop (give e s) (give (to_value l r e) s) h.0 (ap₂ (λ fs gs. fs ++ gs) (return-kept ret e s) (value-kept ds e h.1))
      code-kept ds in_loop (break s) h = code_at ds in_loop (break s) (break s) h refl
      code-kept ds in_loop (continue s) h = code_at ds in_loop (continue s) (continue s) h refl

      body-kept : (here around : List Declaration) (in_loop : Bool) (b : Body) → InBody l S C here around b
          → body_faults ret here around in_loop (to_body l r b) ≡ body_faults ret here around in_loop b
      body-kept here around in_loop done h = refl
      body-kept here around in_loop (next c rest) h =
          ap₂ (λ fs gs. fs ++ gs) (code-kept (here ++ around) in_loop c h.0) (body-kept here around in_loop rest h.1)
      body-kept here around in_loop (vars ty vs rest) h =
          let more : body_faults ret (declared ty (map (to_variable l r) vs) here) around in_loop (to_body l r rest) ≡ body_faults ret (declared ty vs here) around in_loop rest =
          ap (λ hs. body_faults ret hs around in_loop (to_body l r rest)) (declared-kept ty vs here) ∙ body-kept (declared ty vs here) around in_loop rest h.1 in
          ap₂ (λ fs gs. fs ++ gs) (variables-kept here around ty vs h.0) more

  body_there-kept : (b : Option Body) → is_some (to_definition l r b) ≡ is_some b
  body_there-kept None = refl
  body_there-kept (Some body) = refl

  defined-kept : (file : List Outer) (w : List ℕ) → is_defined (rewritten l r file) w ≡ is_defined file w
  defined-kept [] w = refl
  defined-kept (outer_vars ty vs ∷ rest) w = defined-kept rest w
  defined-kept (outer_func f ∷ rest) w =
      ap₂ (λ a b. (a && bytes_eq f.word w) || b) (body_there-kept f.body) (defined-kept rest w)

  -- the declaration of a function, in the file before and after
  pub function_declaration-kept : (file : List Outer) (f : Function)
      → function_declaration (rewritten l r file) (record f { body = to_definition l r f.body }) ≡ function_declaration file f
  function_declaration-kept file f =
      λ i. record {
        word = f.word;
        entity = FunctionEntity f.ret (map param_type f.params) (body_there-kept f.body i) (is_declared library f.word || defined-kept file f.word i);
      }

  redeclared-kept : (e : Entity) (f : Function) → redeclared_faults e (record f { body = to_definition l r f.body }) ≡ redeclared_faults e f
  redeclared-kept (VariableEntity slot ty array) f = refl
  redeclared-kept (FunctionEntity ret params body defined) f =
      ap (λ b. fault_if (body && b) Twice f.span
      ++ (fault_if (not (same_result ret f.ret && same_params params (map param_type f.params))) WrongKind f.span
      ++ fault_if (not (nat_eq (length params) (length f.params))) WrongCount f.span)) (body_there-kept f.body)
  redeclared-kept (Library ret params) f = refl
  redeclared-kept Printf f = refl
  redeclared-kept Scanf f = refl

  name-kept : (here : List Declaration) (f : Function) → name_faults here (record f { body = to_definition l r f.body }) ≡ name_faults here f
  name-kept [] f = refl
  name-kept (d ∷ ds) f = λ i. (if bytes_eq d.word f.word then redeclared-kept d.entity f i else []) ++ name-kept ds f i

  definition-kept : (ret : Option Ty) (here around : List Declaration) (b : Option Body) → InDefinition l S C here around b
      → definition_faults ret here around (to_definition l r b) ≡ definition_faults ret here around b
  definition-kept ret here around None h = refl
  definition-kept ret here around (Some body) h = body-kept ret here around false body h

  module _ (file : List Outer) where
    function-kept : (here : List Declaration) (f : Function) → InDefinition l S C (params_declared f.params []) (function_declaration file f ∷ here) f.body
        → function_faults (rewritten l r file) here (record f { body = to_definition l r f.body }) ≡ function_faults file here f
    function-kept here f h =
        let bodies : definition_faults f.ret (params_declared f.params []) (function_declaration (rewritten l r file) (record f { body = to_definition l r f.body }) ∷ here) (to_definition l r f.body)
        ≡ definition_faults f.ret (params_declared f.params []) (function_declaration file f ∷ here) f.body =
        ap (λ d. definition_faults f.ret (params_declared f.params []) (d ∷ here) (to_definition l r f.body)) (function_declaration-kept file f)
        ∙ definition-kept f.ret (params_declared f.params []) (function_declaration file f ∷ here) f.body h in
        λ i. name-kept here f i ++ (params_faults [] f.params ++ bodies i)

    outers-kept : (here : List Declaration) (p : List Outer) → InOuters l S C file here p → outers_faults (rewritten l r file) here (rewritten l r p) ≡ outers_faults file here p
    outers-kept here [] h = refl
    outers-kept here (outer_vars ty vs ∷ rest) h = ap (λ fs. variables_faults Static here [] ty vs ++ fs) (outers-kept (declared ty vs here) rest h)
    outers-kept here (outer_func f ∷ rest) h =
        let more : outers_faults (rewritten l r file) (function_declaration (rewritten l r file) (record f { body = to_definition l r f.body }) ∷ here) (rewritten l r rest) ≡ outers_faults file (function_declaration file f ∷ here) rest =
        ap (λ d. outers_faults (rewritten l r file) (d ∷ here) (rewritten l r rest)) (function_declaration-kept file f) ∙ outers-kept (function_declaration file f ∷ here) rest h.1 in
        ap₂ (λ fs gs. fs ++ gs) (function-kept here f h.0) more

  is_main-kept : (f : Function) → is_main (record f { body = to_definition l r f.body }) ≡ is_main f
  is_main-kept f =
      ap (λ b. bytes_eq f.word (codes "main") && (same_result f.ret (Some Int) && (has_no_params f.params && b))) (body_there-kept f.body)

  main-kept : (p : List Outer) → has_main (rewritten l r p) ≡ has_main p
  main-kept [] = refl
  main-kept (outer_vars ty vs ∷ rest) = main-kept rest
  main-kept (outer_func f ∷ rest) = ap₂ (λ a b. a || b) (is_main-kept f) (main-kept rest)

  -- the faults of a program are those of the rewritten one
  pub program-kept : (p : List Outer) (end : ℕ) → InProgram l S C p → program_faults (rewritten l r p) end ≡ program_faults p end
  program-kept p end h =
      ap₂ (λ fs b. fs ++ fault_if (not b) NoMain (record { from = end; to = end })) (outers-kept p library p h) (main-kept p)
