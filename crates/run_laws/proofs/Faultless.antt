-- What a program without a fault gives its run: arrays where they are taken, and a known scope at each hole; and where
-- what is called is there, names of numbers and calls that can be made.
use Rattle.std.proofs.Common.{ℤ, pos, negsuc, ◌≡◌, ℕ, suc, ◌+◌, ◌≤◌, Bool, true, false, not, ◌||◌, cond, List, [], ◌∷◌, ◌++◌, map, length, Option, Some, None, refl, sym, ap, ◌∙◌, subst, arith}
use Rattle.std.specs.Prelude.{⊤, Contains, All, is_none, int_lt, unsigned_abs}
use Rattle.std.specs.List.{flat_map}
use Rattle.std.proofs.lemmas.List.Elements.{All-cons, All-head}
use Rattle.std.proofs.lemmas.Bool.Decides.{nat_tests}
use Rattle.c_tree.specs.declared.place.Span.{Span}
use Rattle.c_tree.specs.declared.program.Param.{Param}
use Rattle.c_tree.specs.declared.stmt.Slot.{Slot}
use Rattle.c_tree.specs.declared.stmt.Shape.{Shape}
use Rattle.c_tree.specs.declared.stmt.Shape.TheVariants.{Scalar as Plainly, Array as Cells}
use Rattle.c_tree.specs.declared.stmt.Ty.{Ty}
use Rattle.c_tree.specs.Parts.{span_of}
use Rattle.c_tree.specs.Tree.{Tree, constant, name, index, call, unary, cast, binary, choice, assign, bump, comma, hole, hole_after, Args, no_args, value, format, address, Initial, bare_start, one_start, list_start, Variable, First, no_first, first_act, first_vars, Code, empty, act, block, if_then, if_else, while, do_while, for, give, break, continue, Body, done, next, vars, Function, Outer}
use Rattle.c_types.specs.declared.fault.FaultKind.TheVariants.{Unknown, Twice, WrongKind, WrongCount, NotPlace, NotConstant, BadArrayLength}
use Rattle.c_types.specs.declared.kinds.Wanted.{Wanted}
use Rattle.c_types.specs.declared.kinds.Wanted.TheVariants.{Anything, Scalar, ArrayOf, PrintfFormat, ScanfFormat, IntAddress}
use Rattle.c_types.specs.declared.scope.Declaration.{Declaration}
use Rattle.c_types.specs.declared.scope.Storage.{Storage}
use Rattle.c_types.specs.declared.scope.Storage.TheVariants.{Static, Automatic}
use Rattle.c_types.specs.Arguments.{number_faults, converted, wanted, value_faults, format_faults, is_place, stores_int, operand_faults, address_faults, call_faults}
use Rattle.c_types.specs.Constants.{not_constant, not_constant_all, not_constant_initial}
use Rattle.c_types.specs.Expressions.{void_faults, index_faults, place_faults, as_number, as_void, faults, args_faults}
use Rattle.c_types.specs.Found.{option_found, initial_found, variables_found, first_found, code_found, body_found, definition_found}
use Rattle.c_types.specs.Kinds.{kind, named, called}
use Rattle.c_types.specs.Least.{fault_if}
use Rattle.c_types.specs.Programs.{definition_faults}
use Rattle.c_types.specs.Scopes.{denoted, is_declared}
use Rattle.c_types.specs.Slots.{first_count, code_count, slot_in, numbered_variable, numbered, numbered_first, resolved_tree, resolved_args, resolved_option, resolved_initial, resolved_variable, resolved_variables, resolved_first, resolved_code, resolved_body, resolved_definition}
use Rattle.c_types.specs.Statements.{variable_declaration, declared, length_faults, as_numbers, initial_faults, number_option, void_option, variable_faults, variables_faults, first_declared, first_faults, return_faults, code_faults, body_faults}
use Rattle.c_types.proofs.Checked.{none_left, none_right, no_fault}
use Rattle.c_meaning.specs.Meaning.{definition, params_of, rest_of}
use Rattle.run_laws.specs.Holes.{Names, tree_holes, args_holes, of_holes}
use Rattle.run_laws.specs.Reads.{GivesValue}
use Rattle.run_laws.specs.Bodies.{HoldsList}
use Rattle.run_laws.specs.Passing.{IsArrayName}
use Rattle.run_laws.proofs.Well.{first_ty, IsNameOf, Well, WellArgs, WellOption, WellList, WellInitial, WellVariables, WellFirst, WellCode, WellBody, WellDefinition}
use Rattle.run_laws.proofs.Keeping.{All-left, All-right}
use Rattle.run_laws.proofs.Called.{array_word, no_such, array_name, not_true, array_kind, evaluated, scalar_name, int_place, Stands, AllStand, stands_denoted, WantsEach, wants_none, wants_rest, wants_first, wants_of, Fits, Made, made_by, gives_by}

-- ---- expressions

module _ (program : List Outer) (scopes : List Names) (there : Type 0) (ds : Names) (agree : AllStand program there ds) where
  -- the parameters of the called definition
  pub wants_params : (n : ℕ) (word : List ℕ) (args : Args) (s : Span) (o : Option Function) → definition word program ≡ o → call_faults (denoted ds word) args s ≡ [] → WantsEach (wanted (denoted ds word) n) 0 (params_of o)
  wants_params n word args s None found h = wants_none (wanted (denoted ds word) n) 0
  wants_params n word args s (Some f) found h = wants_of n (denoted ds word) args s f h (λ e is. (stands_denoted program there ds word e agree is).0 f found)

  -- an expression whose value is used, or not
  number_part : (e : Tree) → as_number ds (resolved_tree ds e) ++ faults ds (resolved_tree ds e) ≡ [] → faults ds (resolved_tree ds e) ≡ []
  number_part e h = none_right (as_number ds (resolved_tree ds e)) (faults ds (resolved_tree ds e)) h

  void_part : (e : Tree) → as_void ds (resolved_tree ds e) ++ faults ds (resolved_tree ds e) ≡ [] → faults ds (resolved_tree ds e) ≡ []
  void_part e h = none_right (as_void ds (resolved_tree ds e)) (faults ds (resolved_tree ds e)) h

  place_part : (e : Tree) → place_faults ds (resolved_tree ds e) ++ faults ds (resolved_tree ds e) ≡ [] → faults ds (resolved_tree ds e) ≡ []
  place_part e h = none_right (place_faults ds (resolved_tree ds e)) (faults ds (resolved_tree ds e)) h

  -- it is a number, or where none is wanted, a call without a result
  abbrev Evaluated : Bool → Tree → Type 0
  Evaluated wanted e = cond wanted (as_number ds (resolved_tree ds e)) (as_void ds (resolved_tree ds e)) ≡ []

  number_kind : (e : Tree) → as_number ds (resolved_tree ds e) ++ faults ds (resolved_tree ds e) ≡ [] → Evaluated true e
  number_kind e h = none_left _ _ h

  void_kind : (e : Tree) → as_void ds (resolved_tree ds e) ++ faults ds (resolved_tree ds e) ≡ [] → Evaluated false e
  void_kind e h = none_left _ _ h

  place_kind : (e : Tree) → place_faults ds (resolved_tree ds e) ++ faults ds (resolved_tree ds e) ≡ [] → Evaluated true e
  place_kind e h = place_number e (none_left _ _ h)
    where
      place_number : (e : Tree) → place_faults ds (resolved_tree ds e) ≡ [] → as_number ds (resolved_tree ds e) ≡ []
      place_number (name word slot s) h = h
      place_number (index word slot e s) h = refl
      place_number (constant n word s) h = refl
      place_number (call word args s) h = no_such NotPlace _ h
      place_number (unary o e s) h = refl
      place_number (cast ty e s) h = refl
      place_number (binary o l r s) h = refl
      place_number (choice t a b s) h = refl
      place_number (assign o place e s) h = refl
      place_number (bump pre up place s) h = refl
      place_number (comma l r s) h = refl
      place_number hole h = refl
      place_number (hole_after e) h = refl

  abbrev Known : List Names → Type 0
  Known hs = All (Contains scopes) hs

  value_array : (w : Wanted) (ty : Ty) (e : Tree) → w ≡ ArrayOf ty → value_faults w (kind ds (resolved_tree ds e)) (span_of (resolved_tree ds e)) ≡ [] → IsArrayName ds ty (resolved_tree ds e)
  value_array w ty e is h =
      array_name ds e ty (array_kind (kind ds (resolved_tree ds e)) ty (span_of (resolved_tree ds e)) (ap (λ (x : Wanted). value_faults x (kind ds (resolved_tree ds e)) (span_of (resolved_tree ds e))) (sym is) ∙ h))

  -- what is assigned to is a place
  place_is : (e : Tree) → place_faults ds (resolved_tree ds e) ≡ [] → is_place e ≡ true
  place_is (constant n word s) h = no_such NotPlace _ h
  place_is (name word slot s) h = refl
  place_is (index word slot e s) h = refl
  place_is (call word args s) h = no_such NotPlace _ h
  place_is (unary o e s) h = no_such NotPlace _ h
  place_is (cast ty e s) h = no_such NotPlace _ h
  place_is (binary o l r s) h = no_such NotPlace _ h
  place_is (choice t a b s) h = no_such NotPlace _ h
  place_is (assign o place e s) h = no_such NotPlace _ h
  place_is (bump pre up place s) h = no_such NotPlace _ h
  place_is (comma l r s) h = no_such NotPlace _ h
  place_is hole h = no_such NotPlace _ h
  place_is (hole_after e) h = no_such NotPlace _ h

  operand_is : (e : Tree) → operand_faults (resolved_tree ds e) ≡ [] → is_place e ≡ true
  operand_is (constant n word s) h = no_such NotPlace _ h
  operand_is (name word slot s) h = refl
  operand_is (index word slot e s) h = refl
  operand_is (call word args s) h = no_such NotPlace _ h
  operand_is (unary o e s) h = no_such NotPlace _ h
  operand_is (cast ty e s) h = no_such NotPlace _ h
  operand_is (binary o l r s) h = no_such NotPlace _ h
  operand_is (choice t a b s) h = no_such NotPlace _ h
  operand_is (assign o place e s) h = no_such NotPlace _ h
  operand_is (bump pre up place s) h = no_such NotPlace _ h
  operand_is (comma l r s) h = no_such NotPlace _ h
  operand_is hole h = no_such NotPlace _ h
  operand_is (hole_after e) h = no_such NotPlace _ h

  -- so is what `&` is written before
  address_is : (w : Wanted) (e : Tree) → address_faults w ds (resolved_tree ds e) ≡ [] → is_place e ≡ true
  address_is IntAddress e h = operand_is e (none_right (fault_if (not (stores_int ds (resolved_tree ds e))) WrongKind (span_of (resolved_tree ds e))) _ h)
  address_is Anything e h = no_such WrongKind (span_of (resolved_tree ds e)) (none_left _ _ h)
  address_is Scalar e h = no_such WrongKind (span_of (resolved_tree ds e)) (none_left _ _ h)
  address_is (ArrayOf ty) e h = no_such WrongKind (span_of (resolved_tree ds e)) (none_left _ _ h)
  address_is PrintfFormat e h = no_such WrongKind (span_of (resolved_tree ds e)) (none_left _ _ h)
  address_is ScanfFormat e h = no_such WrongKind (span_of (resolved_tree ds e)) (none_left _ _ h)

  -- and it is no array
  address_kind : (w : Wanted) (e : Tree) → address_faults w ds (resolved_tree ds e) ≡ [] → Evaluated true e
  address_kind IntAddress e h =
      (int_place ds e (not_true (stores_int ds (resolved_tree ds e)) (no_fault (not (stores_int ds (resolved_tree ds e))) WrongKind (span_of (resolved_tree ds e)) (none_left _ _ h)))).1
  address_kind Anything e h = no_such WrongKind (span_of (resolved_tree ds e)) (none_left _ _ h)
  address_kind Scalar e h = no_such WrongKind (span_of (resolved_tree ds e)) (none_left _ _ h)
  address_kind (ArrayOf ty) e h = no_such WrongKind (span_of (resolved_tree ds e)) (none_left _ _ h)
  address_kind PrintfFormat e h = no_such WrongKind (span_of (resolved_tree ds e)) (none_left _ _ h)
  address_kind ScanfFormat e h = no_such WrongKind (span_of (resolved_tree ds e)) (none_left _ _ h)

  -- an argument is evaluated where a number is wanted
  value_kind : (w : Wanted) (e : Tree) → w ≡ Scalar → value_faults w (kind ds (resolved_tree ds e)) (span_of (resolved_tree ds e)) ≡ [] → Evaluated true e
  value_kind w e is h =
      ap (λ (x : Wanted). value_faults x (kind ds (resolved_tree ds e)) (span_of (resolved_tree ds e))) (sym is) ∙ h

  -- the name of a number
  name_of : (wanted : Bool) (word : List ℕ) (s : Span) → cond wanted (number_faults (named (denoted ds word)) s) (void_faults (named (denoted ds word)) s) ≡ [] → fault_if (is_none (denoted ds word)) Unknown s ≡ [] → IsNameOf ds word false
  name_of wanted word s h k = let is = scalar_name (denoted ds word) s (evaluated wanted (named (denoted ds word)) s h) k in record { slot = is.0; ty = is.1; denotes = is.2 }

  -- a call without a fault can be made
  call_made : there → (word : List ℕ) (args : Args) (s : Span) → call_faults (denoted ds word) (resolved_args ds args) s ≡ [] → args_faults ds (wanted (denoted ds word) (converted (resolved_args ds args))) 0 (resolved_args ds args) ≡ []
      → Made program ds (denoted ds word) word (resolved_args ds args)
  call_made sure word args s h g = made_by program there ds word args s (denoted ds word) (λ e is. stands_denoted program there ds word e agree is) sure h g

  -- and where its value is wanted, it has one
  call_gives : there → (wanted : Bool) (word : List ℕ) (args : Args) (s : Span) → cond wanted (number_faults (called (denoted ds word)) s) (void_faults (called (denoted ds word)) s) ≡ [] → call_faults (denoted ds word) args s ≡ [] → wanted ≡ true → GivesValue program word
  call_gives sure true word args s h k w = gives_by program there word args s (denoted ds word) (λ e is. stands_denoted program there ds word e agree is) sure h k
  call_gives sure false word args s h k w = absurd (cc)

  mutual
    pub tree_well : (number : Bool) (e : Tree) → (there → Evaluated number e) → faults ds (resolved_tree ds e) ≡ [] → Known (tree_holes ds (resolved_tree ds e)) → Well program scopes there ⊤ ds number e
    tree_well number (constant n word s) v h g = tt
    tree_well number (name word slot s) v h g = λ sure. name_of number word s (v sure) h
    tree_well number (index word slot e s) v h g = (let is = array_word (denoted ds word) s (none_left _ _ h) in record { slot = is.0; ty = is.1; denotes = is.2 }, tree_well true e (λ sure. number_kind e (none_right (index_faults (denoted ds word) s) _ h)) (number_part e (none_right (index_faults (denoted ds word) s) _ h)) g)
    tree_well number (call word args s) v h g =
        let n = converted (resolved_args ds args) in
        let given = none_right (call_faults (denoted ds word) (resolved_args ds args) s) _ h in (
          tt,
          args_well (wanted (denoted ds word) n) 0 args (params_of (definition word program))
              (wants_params n word (resolved_args ds args) s (definition word program) refl (none_left _ _ h))
              (λ sure. (call_made sure word args s (none_left _ _ h) given).1) given g,
          (λ sure. ((call_made sure word args s (none_left _ _ h) given).0, call_gives sure number word (resolved_args ds args) s (v sure) (none_left _ _ h))),
        )
    tree_well number (unary o e s) v h g = tree_well true e (λ sure. number_kind e h) (number_part e h) g
    tree_well number (cast ty e s) v h g = tree_well true e (λ sure. number_kind e h) (number_part e h) g
    tree_well number (binary o l r s) v h g =
        let l' = resolved_tree ds l in (
          tree_well true l (λ sure. number_kind l (none_left (as_number ds l' ++ faults ds l') _ h)) (number_part l (none_left (as_number ds l' ++ faults ds l') _ h)) (All-left (Contains scopes) _ _ g),
          tree_well true r (λ sure. number_kind r (none_right (as_number ds l' ++ faults ds l') _ h)) (number_part r (none_right (as_number ds l' ++ faults ds l') _ h)) (All-right (Contains scopes) (tree_holes ds l') _ g),
        )
    tree_well number (choice t a b s) v h g =
        let t' = resolved_tree ds t in
        let a' = resolved_tree ds a in
        let rest = none_right (as_number ds t' ++ faults ds t') _ h in
        let more = All-right (Contains scopes) (tree_holes ds t') _ g in (
          tree_well true t (λ sure. number_kind t (none_left (as_number ds t' ++ faults ds t') _ h)) (number_part t (none_left (as_number ds t' ++ faults ds t') _ h)) (All-left (Contains scopes) _ _ g),
          (
            tree_well true a (λ sure. number_kind a (none_left (as_number ds a' ++ faults ds a') _ rest)) (number_part a (none_left (as_number ds a' ++ faults ds a') _ rest)) (All-left (Contains scopes) _ _ more),
            tree_well true b (λ sure. number_kind b (none_right (as_number ds a' ++ faults ds a') _ rest)) (number_part b (none_right (as_number ds a' ++ faults ds a') _ rest)) (All-right (Contains scopes) (tree_holes ds a') _ more),
          ),
        )
    tree_well number (assign o place e s) v h g =
        let p' = resolved_tree ds place in (
          place_is place (none_left _ _ (none_left (place_faults ds p' ++ faults ds p') _ h)),
          (
            tree_well true place (λ sure. place_kind place (none_left (place_faults ds p' ++ faults ds p') _ h)) (place_part place (none_left (place_faults ds p' ++ faults ds p') _ h)) (All-left (Contains scopes) _ _ g),
            tree_well true e (λ sure. number_kind e (none_right (place_faults ds p' ++ faults ds p') _ h)) (number_part e (none_right (place_faults ds p' ++ faults ds p') _ h)) (All-right (Contains scopes) (tree_holes ds p') _ g),
          ),
        )
    tree_well number (bump pre up place s) v h g = (place_is place (none_left _ _ h), tree_well true place (λ sure. place_kind place h) (place_part place h) g)
    tree_well number (comma l r s) v h g =
        let l' = resolved_tree ds l in (
          tree_well false l (λ sure. void_kind l (none_left (as_void ds l' ++ faults ds l') _ h)) (void_part l (none_left (as_void ds l' ++ faults ds l') _ h)) (All-left (Contains scopes) _ _ g),
          tree_well true r (λ sure. number_kind r (none_right (as_void ds l' ++ faults ds l') _ h)) (number_part r (none_right (as_void ds l' ++ faults ds l') _ h)) (All-right (Contains scopes) (tree_holes ds l') _ g),
        )
    tree_well number hole v h g = All-head (Contains scopes) ds [] g
    tree_well number (hole_after e) v h g =
        let e' = resolved_tree ds e in (
          tree_well true e (λ sure. number_kind e h) (number_part e h) (All-left (Contains scopes) _ _ g),
          All-head (Contains scopes) ds [] (All-right (Contains scopes) (tree_holes ds e') _ g),
        )

    args_well : (m : ℕ → Wanted) (i : ℕ) (x : Args) (ps : List Param) → WantsEach m i ps → (there → Fits m i ps (resolved_args ds x)) → args_faults ds m i (resolved_args ds x) ≡ [] → Known (args_holes ds (resolved_args ds x)) → WellArgs program scopes there ⊤ ds ps x
    args_well m i no_args ps wants fits h g = tt
    args_well m i (value e x) ps wants fits h g =
        let e' = resolved_tree ds e in
        let own = none_left (value_faults (m i) (kind ds e') (span_of e') ++ faults ds e') _ h in (
          (λ a. value_array (m i) (first_ty ps) e (wants_first m i ps wants a) (none_left _ _ own)),
          (
            (λ a. tree_well true e (λ sure. value_kind (m i) e ((fits sure).0 a) (none_left _ _ own)) (none_right (value_faults (m i) (kind ds e') (span_of e')) _ own) (All-left (Contains scopes) _ _ g)),
            args_well m (suc i) x (rest_of ps) (wants_rest m i ps wants) (λ sure. (fits sure).1) (none_right (value_faults (m i) (kind ds e') (span_of e') ++ faults ds e') _ h) (All-right (Contains scopes) (tree_holes ds e') _ g),
          ),
        )
    args_well m i (format text s x) ps wants fits h g = args_well m (suc i) x (rest_of ps) (wants_rest m i ps wants) fits (none_right (format_faults (m i) text s) _ h) g
    args_well m i (address e x) ps wants fits h g =
        let e' = resolved_tree ds e in
        let own = none_left (address_faults (m i) ds e' ++ faults ds e') _ h in (
          address_is (m i) e (none_left _ _ own),
          (
            tree_well true e (λ sure. address_kind (m i) e (none_left _ _ own)) (none_right (address_faults (m i) ds e') _ own) (All-left (Contains scopes) _ _ g),
            args_well m (suc i) x (rest_of ps) (wants_rest m i ps wants) fits (none_right (address_faults (m i) ds e' ++ faults ds e') _ h) (All-right (Contains scopes) (tree_holes ds e') _ g),
          ),
        )

  pub number_well : (e : Tree) → as_number ds (resolved_tree ds e) ++ faults ds (resolved_tree ds e) ≡ [] → Known (tree_holes ds (resolved_tree ds e)) → Well program scopes there ⊤ ds true e
  number_well e h g = tree_well true e (λ sure. number_kind e h) (number_part e h) g

  number_option_well : (o : Option Tree) → number_option ds (resolved_option ds o) ≡ [] → Known (option_found of_holes ds (resolved_option ds o)) → WellOption program scopes there ⊤ ds true o
  number_option_well None h g = tt
  number_option_well (Some e) h g = tree_well true e (λ sure. number_kind e h) (number_part e h) g

  void_option_well : (o : Option Tree) → void_option ds (resolved_option ds o) ≡ [] → Known (option_found of_holes ds (resolved_option ds o)) → WellOption program scopes there ⊤ ds false o
  void_option_well None h g = tt
  void_option_well (Some e) h g = tree_well false e (λ sure. void_kind e h) (void_part e h) g

  list_well : (es : List Tree) → as_numbers ds (map (resolved_tree ds) es) ≡ [] → Known (flat_map (tree_holes ds) (map (resolved_tree ds) es)) → WellList program scopes there ⊤ ds es
  list_well [] h g = tt
  list_well (e ∷ es) h g =
      let e' = resolved_tree ds e in (
        tree_well true e (λ sure. number_kind e (none_left (as_number ds e' ++ faults ds e') _ h)) (number_part e (none_left (as_number ds e' ++ faults ds e') _ h)) (All-left (Contains scopes) _ _ g),
        list_well es (none_right (as_number ds e' ++ faults ds e') _ h) (All-right (Contains scopes) (tree_holes ds e') _ g),
      )

  initial_well : (word : List ℕ) (start : Initial) → initial_faults ds (resolved_initial ds start) ≡ [] → Known (initial_found of_holes ds word (resolved_initial ds start)) → WellInitial program scopes there ⊤ ds start
  initial_well word bare_start h g = tt
  initial_well word (one_start e) h g = tree_well true e (λ sure. number_kind e h) (number_part e h) g
  initial_well word (list_start es) h g = list_well es h g

-- ---- constant initialisers

module _ (program : List Outer) (scopes : List Names) (ds : Names) where
  pub constant_well : (e : Tree) → not_constant (resolved_tree ds e) ≡ [] → All (Contains scopes) (tree_holes ds (resolved_tree ds e)) → Well program scopes ⊤ ⊥ ds true e
  constant_well (constant n word s) h g = tt
  constant_well (name word slot s) h g = no_such NotConstant s h
  constant_well (index word slot e s) h g = no_such NotConstant s (none_left _ _ h)
  constant_well (call word args s) h g = no_such NotConstant s (none_left _ _ h)
  constant_well (unary o e s) h g = constant_well e h g
  constant_well (cast ty e s) h g = constant_well e h g
  constant_well (binary o l r s) h g =
      (constant_well l (none_left _ _ h) (All-left (Contains scopes) _ _ g), constant_well r (none_right (not_constant (resolved_tree ds l)) _ h) (All-right (Contains scopes) (tree_holes ds (resolved_tree ds l)) _ g))
  constant_well (choice t a b s) h g =
      let rest = none_right (not_constant (resolved_tree ds t)) _ h in
      let more = All-right (Contains scopes) (tree_holes ds (resolved_tree ds t)) _ g in (
        constant_well t (none_left _ _ h) (All-left (Contains scopes) _ _ g),
        (constant_well a (none_left _ _ rest) (All-left (Contains scopes) _ _ more), constant_well b (none_right (not_constant (resolved_tree ds a)) _ rest) (All-right (Contains scopes) (tree_holes ds (resolved_tree ds a)) _ more)),
      )
  constant_well (assign o place e s) h g = no_such NotConstant s (none_left _ _ h)
  constant_well (bump pre up place s) h g = no_such NotConstant s (none_left _ _ h)
  constant_well (comma l r s) h g = no_such NotConstant s (none_left _ _ h)
  constant_well hole h g = All-head (Contains scopes) ds [] g
  constant_well (hole_after e) h g = (constant_well e h (All-left (Contains scopes) _ _ g), All-head (Contains scopes) ds [] (All-right (Contains scopes) (tree_holes ds (resolved_tree ds e)) _ g))

  constants_well : (es : List Tree) → not_constant_all (map (resolved_tree ds) es) ≡ [] → All (Contains scopes) (flat_map (tree_holes ds) (map (resolved_tree ds) es)) → WellList program scopes ⊤ ⊥ ds es
  constants_well [] h g = tt
  constants_well (e ∷ es) h g =
      (constant_well e (none_left _ _ h) (All-left (Contains scopes) _ _ g), constants_well es (none_right (not_constant (resolved_tree ds e)) _ h) (All-right (Contains scopes) (tree_holes ds (resolved_tree ds e)) _ g))

  constant_initial_well : (word : List ℕ) (start : Initial) → not_constant_initial (resolved_initial ds start) ≡ [] → All (Contains scopes) (initial_found of_holes ds word (resolved_initial ds start)) → WellInitial program scopes ⊤ ⊥ ds start
  constant_initial_well word bare_start h g = tt
  constant_initial_well word (one_start e) h g = constant_well e h g
  constant_initial_well word (list_start es) h g = constants_well es h g

-- ---- declarations and statements

-- a number that is not less than another
not_less : (n : ℤ) (k : ℕ) → int_lt n (pos k) ≡ false → k ≤ unsigned_abs n
not_less (pos m) k h = grind (arith, nat_tests)
not_less (negsuc m) k h = absurd (cc)

or_left : (a b : Bool) → (a || b) ≡ false → a ≡ false
or_left true b h = absurd (cc)
or_left false b h = refl

holds_list : (shape : Shape) (start : Initial) (s : Span) → length_faults shape start s ≡ [] → HoldsList shape start
holds_list Plainly bare_start s h = omega arith
holds_list Plainly (one_start e) s h = omega arith
holds_list Plainly (list_start es) s h = not_less (pos 1) (length es) (no_fault (int_lt (pos 1) (pos (length es))) WrongCount s h)
holds_list (Cells None) start s h = omega arith
holds_list (Cells (Some n)) bare_start s h = omega arith
holds_list (Cells (Some n)) (one_start e) s h =
    not_less n 1 (or_left (int_lt n (pos 1)) (int_lt (pos 1048576) n) (no_fault (int_lt n (pos 1) || int_lt (pos 1048576) n) BadArrayLength s (none_left _ _ h)))
holds_list (Cells (Some n)) (list_start es) s h =
    not_less n (length es) (no_fault (int_lt n (pos (length es))) WrongCount s (none_right (fault_if (int_lt n (pos 1) || int_lt (pos 1048576) n) BadArrayLength s) _ h))

-- what a resolved declarator declares
pub declared-resolved : (here around : List Declaration) (ty : Ty) (vs : List Variable) (front : List Declaration) → declared ty (resolved_variables here around ty vs) front ≡ declared ty vs front
declared-resolved here around ty [] front = refl
declared-resolved here around ty (v ∷ vs) front = declared-resolved (variable_declaration ty v ∷ here) around ty vs (variable_declaration ty v ∷ front)

pub first_declared-resolved : (ds : List Declaration) (f : First) → first_declared (resolved_first ds f) ≡ first_declared f
first_declared-resolved ds no_first = refl
first_declared-resolved ds (first_act e) = refl
first_declared-resolved ds (first_vars ty vs) = declared-resolved [] ds ty vs []

pub globals_well : (program : List Outer) (scopes : List Names) (ty : Ty) (n : ℕ) (vs : List Variable) (here around : List Declaration)
    → variables_faults Static here around ty (resolved_variables here around ty (numbered (slot_in Static) n vs)) ≡ [] → All (Contains scopes) (variables_found of_holes here around ty (resolved_variables here around ty (numbered (slot_in Static) n vs)))
    → WellVariables program scopes ⊤ ⊥ Static here around n ty vs
globals_well program scopes ty n [] here around h g = tt
globals_well program scopes ty n (v ∷ vs) here around h g =
    let w = numbered_variable (slot_in Static n) v in
    let d = variable_declaration ty w in
    let r = resolved_variable here around ty w in
    let own = none_left (variable_faults Static here around ty r) _ h in
    let starts = none_right (initial_faults (d ∷ (here ++ around)) r.start) _ (none_right (length_faults r.shape r.start r.span) _ (none_right (fault_if (is_declared here r.word) Twice r.span) _ own)) in (
      constant_initial_well program scopes (d ∷ (here ++ around)) v.word v.start starts (All-left (Contains scopes) _ _ g),
      globals_well program scopes ty (suc n) vs (d ∷ here) around (none_right (variable_faults Static here around ty r) _ h) (All-right (Contains scopes) (initial_found of_holes (d ∷ (here ++ around)) r.word r.start) _ g),
      holds_list r.shape r.start r.span (none_left _ _ (none_right (fault_if (is_declared here r.word) Twice r.span) _ own)),
    )

module _ (program : List Outer) (scopes : List Names) (there : Type 0) where
  abbrev Held : List Names → Type 0
  Held hs = All (Contains scopes) hs

  pub agree_variable : (slot : Slot) (ty : Ty) (v : Variable) (ds : List Declaration) → AllStand program there ds → AllStand program there (variable_declaration ty (numbered_variable slot v) ∷ ds)
  agree_variable slot ty v ds h = All-cons (Stands program there) (variable_declaration ty (numbered_variable slot v)) ds ((λ word f e is. tt), (λ sure. tt)) h

  pub agree_declared : (storage : Storage) (ty : Ty) (n : ℕ) (vs : List Variable) (here around : List Declaration) → AllStand program there (here ++ around) → AllStand program there (declared ty (numbered (slot_in storage) n vs) here ++ around)
  agree_declared storage ty n [] here around h = h
  agree_declared storage ty n (v ∷ vs) here around h =
      agree_declared storage ty (suc n) vs (variable_declaration ty (numbered_variable (slot_in storage n) v) ∷ here) around (agree_variable (slot_in storage n) ty v (here ++ around) h)

  pub agree_first : (n : ℕ) (f : First) (ds : List Declaration) → AllStand program there ds → AllStand program there (first_declared (numbered_first n f) ++ ds)
  agree_first n no_first ds h = h
  agree_first n (first_act e) ds h = h
  agree_first n (first_vars ty vs) ds h = agree_declared Automatic ty n vs [] ds h

  variables_well : (ty : Ty) (n : ℕ) (vs : List Variable) (here around : List Declaration) → AllStand program there (here ++ around)
      → variables_faults Automatic here around ty (resolved_variables here around ty (numbered (slot_in Automatic) n vs)) ≡ [] → Held (variables_found of_holes here around ty (resolved_variables here around ty (numbered (slot_in Automatic) n vs)))
      → WellVariables program scopes there ⊤ Automatic here around n ty vs
  variables_well ty n [] here around agree h g = tt
  variables_well ty n (v ∷ vs) here around agree h g =
      let w = numbered_variable (slot_in Automatic n) v in
      let d = variable_declaration ty w in
      let r = resolved_variable here around ty w in
      let more : AllStand program there (d ∷ (here ++ around)) = agree_variable (slot_in Automatic n) ty v (here ++ around) agree in
      let own = none_left (variable_faults Automatic here around ty r) _ h in
      let starts = none_left (initial_faults (d ∷ (here ++ around)) r.start) _ (none_right (length_faults r.shape r.start r.span) _ (none_right (fault_if (is_declared here r.word) Twice r.span) _ own)) in (
        initial_well program scopes there (d ∷ (here ++ around)) more v.word v.start starts (All-left (Contains scopes) _ _ g),
        variables_well ty (suc n) vs (d ∷ here) around more (none_right (variable_faults Automatic here around ty r) _ h) (All-right (Contains scopes) (initial_found of_holes (d ∷ (here ++ around)) r.word r.start) _ g),
        holds_list r.shape r.start r.span (none_left _ _ (none_right (fault_if (is_declared here r.word) Twice r.span) _ own)),
      )

  first_well : (ds : List Declaration) (n : ℕ) (f : First) → AllStand program there ds → first_faults ds (resolved_first ds (numbered_first n f)) ≡ [] → Held (first_found of_holes ds (resolved_first ds (numbered_first n f))) → WellFirst program scopes there ⊤ ds n f
  first_well ds n no_first agree h g = tt
  first_well ds n (first_act e) agree h g = tree_well program scopes there ds agree false e (λ sure. none_left _ _ h) (none_right (as_void ds (resolved_tree ds e)) _ h) g
  first_well ds n (first_vars ty vs) agree h g = variables_well ty n vs [] ds agree h g

  module _ (ret : Option Ty) where
    mutual
      pub code_well : (c : Code) (ds : List Declaration) (agree : AllStand program there ds) (n : ℕ) (in_loop : Bool) → code_faults ret ds in_loop (resolved_code ds n c) ≡ [] → Held (code_found of_holes ds (resolved_code ds n c)) → WellCode program scopes there ⊤ ds n c
      code_well (empty s) ds agree n in_loop h g = tt
      code_well (act e s) ds agree n in_loop h g = tree_well program scopes there ds agree false e (λ sure. none_left _ _ h) (none_right (as_void ds (resolved_tree ds e)) _ h) g
      code_well (block body s) ds agree n in_loop h g = body_well body [] ds agree n in_loop h g
      code_well (if_then t a s) ds agree n in_loop h g =
          let t' = resolved_tree ds t in (
            number_well program scopes there ds agree t (none_left (as_number ds t' ++ faults ds t') _ h) (All-left (Contains scopes) _ _ g),
            code_well a ds agree n in_loop (none_right (as_number ds t' ++ faults ds t') _ h) (All-right (Contains scopes) (tree_holes ds t') _ g),
          )
      code_well (if_else t a b s) ds agree n in_loop h g =
          let t' = resolved_tree ds t in
          let rest = none_right (as_number ds t' ++ faults ds t') _ h in
          let more = All-right (Contains scopes) (tree_holes ds t') _ g in (
            number_well program scopes there ds agree t (none_left (as_number ds t' ++ faults ds t') _ h) (All-left (Contains scopes) _ _ g),
            (
              code_well a ds agree n in_loop (none_left _ _ rest) (All-left (Contains scopes) _ _ more),
              code_well b ds agree (n + code_count a) in_loop (none_right (code_faults ret ds in_loop (resolved_code ds n a)) _ rest) (All-right (Contains scopes) (code_found of_holes ds (resolved_code ds n a)) _ more),
            ),
          )
      code_well (while t a s) ds agree n in_loop h g =
          let t' = resolved_tree ds t in (
            number_well program scopes there ds agree t (none_left (as_number ds t' ++ faults ds t') _ h) (All-left (Contains scopes) _ _ g),
            code_well a ds agree n true (none_right (as_number ds t' ++ faults ds t') _ h) (All-right (Contains scopes) (tree_holes ds t') _ g),
          )
      code_well (do_while a t s) ds agree n in_loop h g =
          let t' = resolved_tree ds t in (
            code_well a ds agree n true (none_left _ _ h) (All-left (Contains scopes) _ _ g),
            number_well program scopes there ds agree t (none_right (code_faults ret ds true (resolved_code ds n a)) _ h) (All-right (Contains scopes) (code_found of_holes ds (resolved_code ds n a)) _ g),
          )
      code_well (for f t u a s) ds agree n in_loop h g =
          let i = numbered_first n f in
          let es = first_declared i ++ ds in
          let same : first_declared (resolved_first ds i) ++ ds ≡ es = ap (λ z. z ++ ds) (first_declared-resolved ds i) in
          let all : AllStand program there es = agree_first n f ds agree in
          let k = n + first_count f in
          let ds' = first_declared (resolved_first ds i) ++ ds in
          let firsts = first_faults ds (resolved_first ds i) in
          let clauses : firsts ++ (number_option ds' (resolved_option es t) ++ void_option ds' (resolved_option es u)) ≡ [] = none_left _ _ h in
          let rest = none_right firsts _ clauses in
          let tests : number_option es (resolved_option es t) ≡ [] = ap (λ z. number_option z (resolved_option es t)) (sym same) ∙ none_left _ _ rest in
          let steps : void_option es (resolved_option es u) ≡ [] =
          ap (λ z. void_option z (resolved_option es u)) (sym same) ∙ none_right (number_option ds' (resolved_option es t)) _ rest in
          let arms : code_faults ret es true (resolved_code es k a) ≡ [] =
          ap (λ z. code_faults ret z true (resolved_code es k a)) (sym same)
          ∙ none_right (firsts ++ (number_option ds' (resolved_option es t) ++ void_option ds' (resolved_option es u))) _ h in
          let held : Held (option_found of_holes es (resolved_option es t) ++ (option_found of_holes es (resolved_option es u) ++ code_found of_holes es (resolved_code es k a))) =
          subst (λ (z : List Declaration). Held (option_found of_holes z (resolved_option es t) ++ (option_found of_holes z (resolved_option es u) ++ code_found of_holes z (resolved_code es k a)))) same
          (All-right (Contains scopes) (first_found of_holes ds (resolved_first ds i)) _ g) in
          let more = All-right (Contains scopes) (option_found of_holes es (resolved_option es t)) _ held in (
            first_well ds n f agree (none_left firsts _ clauses) (All-left (Contains scopes) _ _ g),
            (
              number_option_well program scopes there es all t tests (All-left (Contains scopes) _ _ held),
              (
                void_option_well program scopes there es all u steps (All-left (Contains scopes) _ _ more),
                code_well a es all k true arms (All-right (Contains scopes) (option_found of_holes es (resolved_option es u)) _ more),
              ),
            ),
          )
      code_well (give e s) ds agree n in_loop h g = number_option_well program scopes there ds agree e (none_right (return_faults ret (resolved_option ds e) s) _ h) g
      code_well (break s) ds agree n in_loop h g = tt
      code_well (continue s) ds agree n in_loop h g = tt

      body_well : (b : Body) (here around : List Declaration) (agree : AllStand program there (here ++ around)) (n : ℕ) (in_loop : Bool)
          → body_faults ret here around in_loop (resolved_body here around n b) ≡ [] → Held (body_found of_holes here around (resolved_body here around n b)) → WellBody program scopes there ⊤ here around n b
      body_well done here around agree n in_loop h g = tt
      body_well (next c rest) here around agree n in_loop h g = (
        code_well c (here ++ around) agree n in_loop (none_left _ _ h) (All-left (Contains scopes) _ _ g),
        body_well rest here around agree (n + code_count c) in_loop (none_right (code_faults ret (here ++ around) in_loop (resolved_code (here ++ around) n c)) _ h)
            (All-right (Contains scopes) (code_found of_holes (here ++ around) (resolved_code (here ++ around) n c)) _ g),
      )
      body_well (vars ty vs rest) here around agree n in_loop h g =
          let ws = numbered (slot_in Automatic) n vs in
          let rs = resolved_variables here around ty ws in
          let same : declared ty rs here ≡ declared ty ws here = declared-resolved here around ty ws here in
          let body = resolved_body (declared ty ws here) around (n + length vs) rest in
          let inner : body_faults ret (declared ty ws here) around in_loop body ≡ [] =
          ap (λ z. body_faults ret z around in_loop body) (sym same) ∙ none_right (variables_faults Automatic here around ty rs) _ h in
          let held : Held (body_found of_holes (declared ty ws here) around body) = subst (λ (z : List Declaration). Held (body_found of_holes z around body)) same (All-right (Contains scopes) (variables_found of_holes here around ty rs) _ g) in (
            variables_well ty n vs here around agree (none_left _ _ h) (All-left (Contains scopes) _ _ g),
            body_well rest (declared ty ws here) around (agree_declared Automatic ty n vs here around agree) (n + length vs) in_loop inner held,
          )

  pub definition_well : (ret : Option Ty) (b : Option Body) (here around : List Declaration) (agree : AllStand program there (here ++ around)) (n : ℕ)
      → definition_faults ret here around (resolved_definition here around n b) ≡ [] → Held (definition_found of_holes here around (resolved_definition here around n b)) → WellDefinition program scopes there ⊤ here around n b
  definition_well ret None here around agree n h g = tt
  definition_well ret (Some body) here around agree n h g = body_well ret body here around agree n false h g
