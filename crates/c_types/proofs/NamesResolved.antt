-- In a program without a fault each name has the slot of a variable once it is resolved.
use Rattle.std.proofs.Common.{◌≡◌, ◌≢◌, ℕ, zero, suc, ◌+◌, ◌<◌, ◌≤◌, Bool, true, false, not, nat_eq, if◌then◌else◌, List, [], ◌∷◌, ◌++◌, map, length, Option, Some, None, is_none, slice_get, refl, sym, ap, ap₂, ◌∙◌, subst, arith}
use Rattle.std.specs.Prelude.{⊤, ◌&&◌, nat_le, codes, unwrap_or}
use Rattle.std.specs.List.{All, flat_map}
use Rattle.std.specs.Option.{option_or}
use Rattle.std.specs.Str.{bytes_eq}
use Rattle.std.proofs.lemmas.Bool.Decides.{nat_tests}
use Rattle.std.proofs.lemmas.List.Elements.{All-nil, All-cons, All-append}
use Rattle.c_tree.specs.declared.place.Span.{Span}
use Rattle.c_tree.specs.declared.program.Param.{Param}
use Rattle.c_tree.specs.declared.stmt.Slot.{Slot}
use Rattle.c_tree.specs.declared.stmt.Slot.TheVariants.{Unset}
use Rattle.c_tree.specs.declared.stmt.Ty.{Ty}
use Rattle.c_tree.specs.Parts.{span_of}
use Rattle.c_tree.specs.Tree.{Tree, constant, name, index, call, unary, cast, binary, choice, assign, bump, comma, hole, hole_after, Args, no_args, value, format, address, Initial, bare_start, one_start, list_start, Variable, First, no_first, first_act, first_vars, Code, empty, act, block, if_then, if_else, while, do_while, for, give, break, continue, Body, done, next, vars, Function, Outer, outer_vars, outer_func}
use Rattle.c_types.specs.declared.fault.FaultKind.{FaultKind}
use Rattle.c_types.specs.declared.fault.FaultKind.TheVariants.{Unknown, Twice, WrongKind, WrongCount, BadFormat}
use Rattle.c_types.specs.declared.kinds.Wanted.{Wanted}
use Rattle.c_types.specs.declared.kinds.Wanted.TheVariants.{Anything, Scalar, ArrayOf, PrintfFormat, ScanfFormat, IntAddress}
use Rattle.c_types.specs.declared.scope.Declaration.{Declaration}
use Rattle.c_types.specs.declared.scope.Entity.{Entity}
use Rattle.c_types.specs.declared.scope.Entity.TheVariants.{Variable as VariableEntity, Function as FunctionEntity, Library, Printf, Scanf}
use Rattle.c_types.specs.declared.scope.ParamType.{ParamType}
use Rattle.c_types.specs.declared.scope.Storage.{Storage}
use Rattle.c_types.specs.declared.scope.Storage.TheVariants.{Static, Automatic}
use Rattle.c_types.specs.Arguments.{number_faults, array_faults, is_int, stores_int, converted, wanted_by, wanted, value_faults, format_faults, address_faults, args_count, no_format, miscounts, formatted_faults, call_faults}
use Rattle.c_types.specs.Evidence.{IsChecked}
use Rattle.c_types.specs.Expressions.{void_faults, index_faults, place_faults, as_number, as_void, faults, args_faults}
use Rattle.c_types.specs.Formats.{conversions, scan_conversions}
use Rattle.c_types.specs.Found.{option_found, initial_found, variables_found, first_found, code_found, body_found, definition_found, outers_found}
use Rattle.c_types.specs.Kinds.{kind, named}
use Rattle.c_types.specs.Least.{fault, fault_if}
use Rattle.c_types.specs.Library.{library}
use Rattle.c_types.specs.Programs.{param_declaration, function_declaration, params_declared, params_faults, name_faults, definition_faults, function_faults, outers_faults, main_faults, program_faults}
use Rattle.c_types.specs.Scopes.{denoted, is_declared}
use Rattle.c_types.specs.Slots.{first_count, code_count, slot_in, entity_slot, numbered_variable, numbered, numbered_param, numbered_params, resolved_tree, resolved_args, resolved_option, resolved_initial, resolved_variable, resolved_variables, numbered_first, resolved_first, resolved_code, resolved_body, resolved_definition, resolved_function, resolved_outers, resolved}
use Rattle.c_types.specs.Statements.{variable_declaration, declared, length_faults, as_numbers, initial_faults, number_option, void_option, variable_faults, variables_faults, first_declared, first_faults, return_faults, code_faults, body_faults}
use Rattle.c_types.specs.Uses.{tree_uses, args_uses, uses, IsResolved}
use Rattle.c_types.proofs.Checked.{none_left, none_right, no_fault}
use Rattle.c_types.proofs.Resolving.{program-kept, function-kept}
use Rattle.c_types.proofs.SlotlessFaults.{function_declaration-same}

-- a fault is one
no_such : {A : Type 0} (kind : FaultKind) (s : Span) → fault kind s ≡ [] → A
unfolding fault
no_such kind s h = absurd (cc)

-- each variable among these declarations has a slot
abbrev HaveSlots : List Declaration → Type 0
HaveSlots ds = (w : List ℕ) (slot : Slot) (ty : Ty) (array : Bool) → denoted ds w ≡ Some (VariableEntity slot ty array) → slot ≢ Unset

-- so has one more
abbrev OneHasSlot : Entity → Type 0
OneHasSlot e = (slot : Slot) (ty : Ty) (array : Bool) → e ≡ VariableEntity slot ty array → slot ≢ Unset

some_same : {A : Type 0} {x y : A} → Some x ≡ Some y → x ≡ y
some_same h = cc

slots-nil : HaveSlots []
slots-nil w slot ty array h = absurd (cc)

slots-cons : (d : Declaration) (ds : List Declaration) → OneHasSlot d.entity → HaveSlots ds → HaveSlots (d ∷ ds)
slots-cons d ds one rest w slot ty array = by_test (bytes_eq d.word w)
  where
    by_test : (b : Bool) → (if b then Some d.entity else denoted ds w) ≡ Some (VariableEntity slot ty array) → slot ≢ Unset
    by_test true h = one slot ty array (some_same h)
    by_test false h = rest w slot ty array h

denoted-append : (as_ bs : List Declaration) (w : List ℕ) → denoted (as_ ++ bs) w ≡ option_or (denoted as_ w) (denoted bs w)
denoted-append [] bs w = refl
denoted-append (d ∷ as_) bs w = by_test (bytes_eq d.word w) (denoted-append as_ bs w)
  where
    by_test : (b : Bool) → denoted (as_ ++ bs) w ≡ option_or (denoted as_ w) (denoted bs w) → (if b then Some d.entity else denoted (as_ ++ bs) w) ≡ option_or (if b then Some d.entity else denoted as_ w) (denoted bs w)
    by_test true h = refl
    by_test false h = h

slots-append : (as_ bs : List Declaration) → HaveSlots as_ → HaveSlots bs → HaveSlots (as_ ++ bs)
slots-append as_ bs ha hb w slot ty array is = by_case (denoted as_ w) refl (sym (denoted-append as_ bs w) ∙ is)
  where
    by_case : (o : Option Entity) → denoted as_ w ≡ o → option_or o (denoted bs w) ≡ Some (VariableEntity slot ty array) → slot ≢ Unset
    by_case None none h = hb w slot ty array h
    by_case (Some e) some h = ha w slot ty array (some ∙ h)

numbered-set : (storage : Storage) (n : ℕ) → slot_in storage n ≢ Unset
numbered-set Static n h = cc
numbered-set Automatic n h = cc

one_variable : (storage : Storage) (n : ℕ) (ty : Ty) (v : Variable) → OneHasSlot (variable_declaration ty (numbered_variable (slot_in storage n) v)).entity
one_variable storage n ty v slot tz array is unset =
    numbered-set storage n (ap (λ (e : Entity). entity_slot (Some e)) is ∙ unset)

one_param : (n : ℕ) (p : Param) → OneHasSlot (param_declaration (numbered_param n p)).entity
one_param n p slot ty array is unset = numbered-set Automatic n (ap (λ (e : Entity). entity_slot (Some e)) is ∙ unset)

slots-declared : (storage : Storage) (ty : Ty) (n : ℕ) (vs : List Variable) (here : List Declaration) → HaveSlots here → HaveSlots (declared ty (numbered (slot_in storage) n vs) here)
slots-declared storage ty n [] here h = h
slots-declared storage ty n (v ∷ vs) here h =
    let d = variable_declaration ty (numbered_variable (slot_in storage n) v) in
    slots-declared storage ty (suc n) vs (d ∷ here) (slots-cons d here (one_variable storage n ty v) h)

slots-params : (n : ℕ) (ps : List Param) (here : List Declaration) → HaveSlots here → HaveSlots (params_declared (numbered_params n ps) here)
slots-params n [] here h = h
slots-params n (p ∷ ps) here h =
    let d = param_declaration (numbered_param n p) in
    slots-params (suc n) ps (d ∷ here) (slots-cons d here (one_param n p) h)

slots-first : (n : ℕ) (f : First) → HaveSlots (first_declared (numbered_first n f))
slots-first n no_first = slots-nil
slots-first n (first_act e) = slots-nil
slots-first n (first_vars ty vs) = slots-declared Automatic ty n vs [] slots-nil

no_library : (ret : Option Ty) (params : List ParamType) → OneHasSlot (Library ret params)
no_library ret params slot ty array h = absurd (cc)

no_function : (ret : Option Ty) (params : List ParamType) (body defined : Bool) → OneHasSlot (FunctionEntity ret params body defined)
no_function ret params body defined slot ty array h = absurd (cc)

no_printf : OneHasSlot Printf
no_printf slot ty array h = absurd (cc)

no_scanf : OneHasSlot Scanf
no_scanf slot ty array h = absurd (cc)

-- each of these has a slot, if it is a variable
abbrev EachHasSlot : List Declaration → Type 0
EachHasSlot [] = ⊤
EachHasSlot (d ∷ ds) = OneHasSlot d.entity × EachHasSlot ds

slots-each : (ds : List Declaration) → EachHasSlot ds → HaveSlots ds
slots-each [] h = slots-nil
slots-each (d ∷ ds) h = slots-cons d ds h.0 (slots-each ds h.1)

slots-library : HaveSlots library
slots-library =
    slots-each library (no_library _ _, (no_library _ _, (no_printf, (no_scanf, (no_library _ _, (no_library _ _, tt))))))

not_element : {A : Type 0} → false ≡ true → A
not_element h = absurd (cc)

-- a word denotes a variable
abbrev IsVariable : Option Entity → Type 0
IsVariable o = (slot : Slot) × (ty : Ty) × (array : Bool) × (o ≡ Some (VariableEntity slot ty array))

number_variable : (o : Option Entity) (s : Span) → number_faults (named o) s ≡ [] → fault_if (is_none o) Unknown s ≡ [] → IsVariable o
number_variable None s h known = no_such Unknown s known
number_variable (Some (VariableEntity slot ty true)) s h known = no_such WrongKind s h
number_variable (Some (VariableEntity slot ty false)) s h known = (slot, ty, false, refl)
number_variable (Some (FunctionEntity ret params body defined)) s h known = no_such WrongKind s h
number_variable (Some (Library ret params)) s h known = no_such WrongKind s h
number_variable (Some Printf) s h known = no_such WrongKind s h
number_variable (Some Scanf) s h known = no_such WrongKind s h

void_variable : (o : Option Entity) (s : Span) → void_faults (named o) s ≡ [] → fault_if (is_none o) Unknown s ≡ [] → IsVariable o
void_variable None s h known = no_such Unknown s known
void_variable (Some (VariableEntity slot ty true)) s h known = no_such WrongKind s h
void_variable (Some (VariableEntity slot ty false)) s h known = (slot, ty, false, refl)
void_variable (Some (FunctionEntity ret params body defined)) s h known = no_such WrongKind s h
void_variable (Some (Library ret params)) s h known = no_such WrongKind s h
void_variable (Some Printf) s h known = no_such WrongKind s h
void_variable (Some Scanf) s h known = no_such WrongKind s h

array_variable : (o : Option Entity) (ty : Ty) (s : Span) → array_faults (named o) ty s ≡ [] → IsVariable o
array_variable None ty s h = no_such WrongKind s h
array_variable (Some (VariableEntity slot tz true)) ty s h = (slot, tz, true, refl)
array_variable (Some (VariableEntity slot tz false)) ty s h = no_such WrongKind s h
array_variable (Some (FunctionEntity ret params body defined)) ty s h = no_such WrongKind s h
array_variable (Some (Library ret params)) ty s h = no_such WrongKind s h
array_variable (Some Printf) ty s h = no_such WrongKind s h
array_variable (Some Scanf) ty s h = no_such WrongKind s h

int_variable : (o : Option Entity) (b : Bool) → is_int o b ≡ true → IsVariable o
int_variable None b h = absurd (cc)
int_variable (Some (VariableEntity slot ty array)) b h = (slot, ty, array, refl)
int_variable (Some (FunctionEntity ret params body defined)) b h = absurd (cc)
int_variable (Some (Library ret params)) b h = absurd (cc)
int_variable (Some Printf) b h = absurd (cc)
int_variable (Some Scanf) b h = absurd (cc)

-- an array before `[`
index_variable : (o : Option Entity) (s : Span) → index_faults o s ≡ [] → (slot : Slot) × (ty : Ty) × (o ≡ Some (VariableEntity slot ty true))
index_variable None s h = no_such Unknown s h
index_variable (Some (VariableEntity slot ty true)) s h = (slot, ty, refl)
index_variable (Some (VariableEntity slot ty false)) s h = no_such WrongKind s h
index_variable (Some (FunctionEntity ret params body defined)) s h = no_such WrongKind s h
index_variable (Some (Library ret params)) s h = no_such WrongKind s h
index_variable (Some Printf) s h = no_such WrongKind s h
index_variable (Some Scanf) s h = no_such WrongKind s h

not_true : (b : Bool) → not b ≡ false → b ≡ true
not_true true h = refl
not_true false h = absurd (cc)

-- a call with as many arguments as there are parameters wants something of each
by_param : (params : List ParamType) (i : ℕ) → i < length params → wanted_by (slice_get params i) ≢ Anything
by_param [] i lt h = absurd (omega arith)
by_param (p ∷ ps) zero lt h = of_param p.array h
  where
    of_param : (b : Bool) → (if b then ArrayOf p.ty else Scalar) ≡ Anything → ⊥
    of_param true h = cc
    of_param false h = cc
by_param (p ∷ ps) (suc i) lt h = by_param ps i (omega arith) h

by_count : (params : List ParamType) (n : ℕ) (s : Span) → fault_if (not (nat_eq (length params) n)) WrongCount s ≡ [] → (i : ℕ) → i < n → wanted_by (slice_get params i) ≢ Anything
by_count params n s h i lt =
    let same : nat_eq (length params) n ≡ true = not_true (nat_eq (length params) n) (no_fault (not (nat_eq (length params) n)) WrongCount s h) in
    let long : length params ≡ n = grind (arith, nat_tests) in
    by_param params i (omega arith)

not_zero : (k : ℕ) → nat_eq (suc k) 0 ≡ false
not_zero k = grind (arith, nat_tests)

-- a string literal is no argument but the first of `printf` and `scanf`
printf_literal : (n k : ℕ) (text : List ℕ) (s : Span) → format_faults (wanted (Some Printf) n (suc k)) text s ≢ []
printf_literal n k text s = by_tests (nat_eq (suc k) 0) (nat_le (suc k) n) (not_zero k)
  where
    by_tests : (a b : Bool) → a ≡ false → format_faults (if a then PrintfFormat else (if b then Scalar else Anything)) text s ≢ []
    by_tests true b is h = absurd (cc)
    by_tests false true is h = no_such BadFormat s h
    by_tests false false is h = no_such BadFormat s h

scanf_literal : (n k : ℕ) (text : List ℕ) (s : Span) → format_faults (wanted (Some Scanf) n (suc k)) text s ≢ []
scanf_literal n k text s = by_tests (nat_eq (suc k) 0) (nat_eq (suc k) 1) (not_zero k)
  where
    by_tests : (a b : Bool) → a ≡ false → format_faults (if a then ScanfFormat else (if b then IntAddress else Anything)) text s ≢ []
    by_tests true b is h = absurd (cc)
    by_tests false true is h = no_such BadFormat s h
    by_tests false false is h = no_such BadFormat s h

no_literal : (ds : List Declaration) (want : ℕ → Wanted) → ((k : ℕ) (text : List ℕ) (s : Span) → format_faults (want (suc k)) text s ≢ [])
    → (k : ℕ) (x : Args) → args_faults ds want (suc k) x ≡ [] → no_format x ≡ true
no_literal ds want none k no_args h = refl
no_literal ds want none k (value e x) h =
    no_literal ds want none (suc k) x (none_right (value_faults (want (suc k)) (kind ds e) (span_of e) ++ faults ds e) _ h)
no_literal ds want none k (format text s x) h = absurd (none k text s (none_left _ _ h))
no_literal ds want none k (address e x) h =
    no_literal ds want none (suc k) x (none_right (address_faults (want (suc k)) ds e ++ faults ds e) _ h)

both_true : (a b : Bool) → (a && b) ≡ false → a ≡ true → b ≡ false
both_true true b h is = h
both_true false b h is = absurd (cc)

-- a good format that has as many conversions as arguments follow
counted : (o : Option ℕ) (n : ℕ) → is_none o ≡ false → miscounts o n ≡ false → o ≡ Some n
counted None n good same = absurd (cc)
counted (Some c) n good same =
    let eq : nat_eq c n ≡ true = not_true (nat_eq c n) same in
    let is : c ≡ n = grind (arith, nat_tests) in
    ap Some is

after_format : (o : Option ℕ) (x : Args) (t s : Span) → fault_if (is_none o) BadFormat t ≡ [] → fault_if (no_format x && miscounts o (args_count x)) WrongCount s ≡ []
    → no_format x ≡ true → o ≡ Some (args_count x)
after_format o x t s good same plain =
    counted o (args_count x) (no_fault (is_none o) BadFormat t good)
    (both_true (no_format x) (miscounts o (args_count x)) (no_fault (no_format x && miscounts o (args_count x)) WrongCount s same) plain)

wants_converted : (n i : ℕ) → i ≤ n → wanted (Some Printf) n i ≢ Anything
wants_converted n zero le h = cc
wants_converted n (suc k) le h =
    let within : nat_le (suc k) n ≡ true = grind (arith, nat_tests) in
    by_tests (nat_eq (suc k) 0) (nat_le (suc k) n) (not_zero k) within h
  where
    by_tests : (a b : Bool) → a ≡ false → b ≡ true → (if a then PrintfFormat else (if b then Scalar else Anything)) ≢ Anything
    by_tests true b p q same = absurd (cc)
    by_tests false true p q same = cc
    by_tests false false p q same = absurd (cc)

printf_wants : (ds : List Declaration) (x : Args) (s : Span) → formatted_faults conversions x s ≡ [] → args_faults ds (wanted (Some Printf) (converted x)) 0 x ≡ []
    → (i : ℕ) → i < args_count x → wanted (Some Printf) (converted x) i ≢ Anything
printf_wants ds no_args s h g i lt = absurd (omega arith)
printf_wants ds (value e x) s h g i lt = no_such BadFormat (span_of e) (none_left _ _ (none_left _ _ g))
printf_wants ds (address e x) s h g i lt = no_such WrongKind (span_of e) (none_left _ _ (none_left _ _ (none_left _ _ g)))
printf_wants ds (format text t x) s h g i lt =
    let n = unwrap_or (conversions text) 0 in
    let plain = no_literal ds (wanted (Some Printf) n) (printf_literal n) 0 x (none_right (format_faults PrintfFormat text t) _ g) in
    let is : n ≡ args_count x = ap (λ (o : Option ℕ). unwrap_or o 0) (after_format (conversions text) x t s (none_left _ _ g) h plain) in
    wants_converted n i (omega (arith, is, lt))

wants_scanned : (n i : ℕ) → i ≤ 1 → wanted (Some Scanf) n i ≢ Anything
wants_scanned n zero le h = cc
wants_scanned n (suc zero) le h = cc
wants_scanned n (suc (suc k)) le h = absurd (omega (arith, le))

scan_one : (text : List ℕ) (n : ℕ) → scan_conversions text ≡ Some n → n ≡ 1
scan_one text n = by_test (bytes_eq text (codes "%d"))
  where
    by_test : (b : Bool) → (if b then Some 1 else None) ≡ Some n → n ≡ 1
    by_test true h = sym (some_same h)
    by_test false h = absurd (cc)

scanf_wants : (ds : List Declaration) (x : Args) (s : Span) → formatted_faults scan_conversions x s ≡ [] → args_faults ds (wanted (Some Scanf) (converted x)) 0 x ≡ []
    → (i : ℕ) → i < args_count x → wanted (Some Scanf) (converted x) i ≢ Anything
scanf_wants ds no_args s h g i lt = absurd (omega arith)
scanf_wants ds (value e x) s h g i lt = no_such BadFormat (span_of e) (none_left _ _ (none_left _ _ g))
scanf_wants ds (address e x) s h g i lt = no_such WrongKind (span_of e) (none_left _ _ (none_left _ _ (none_left _ _ g)))
scanf_wants ds (format text t x) s h g i lt =
    let n = unwrap_or (conversions text) 0 in
    let plain = no_literal ds (wanted (Some Scanf) n) (scanf_literal n) 0 x (none_right (format_faults ScanfFormat text t) _ g) in
    let one : args_count x ≡ 1 = scan_one text (args_count x) (after_format (scan_conversions text) x t s (none_left _ _ g) h plain) in
    wants_scanned n i (omega (arith, one, lt))

-- a call without a fault wants something of each of its arguments
call_wants : (ds : List Declaration) (m : Option Entity) (x : Args) (s : Span) → call_faults m x s ≡ [] → args_faults ds (wanted m (converted x)) 0 x ≡ []
    → (i : ℕ) → i < args_count x → wanted m (converted x) i ≢ Anything
call_wants ds None x s h g i lt = no_such Unknown s h
call_wants ds (Some (VariableEntity slot ty array)) x s h g i lt = no_such WrongKind s h
call_wants ds (Some (FunctionEntity ret params body defined)) x s h g i lt =
    by_count params (args_count x) s (none_right (fault_if (not defined) Unknown s) _ h) i lt
call_wants ds (Some (Library ret params)) x s h g i lt = by_count params (args_count x) s h i lt
call_wants ds (Some Printf) x s h g i lt = printf_wants ds x s h g i lt
call_wants ds (Some Scanf) x s h g i lt = scanf_wants ds x s h g i lt

from_wanted : (w : ℕ → Wanted) (i : ℕ) → w i ≢ Anything → w (0 + i) ≢ Anything
from_wanted w i h = let same : i ≡ 0 + i = omega arith in subst (λ (k : ℕ). w k ≢ Anything) same h

first_wanted : (w : ℕ → Wanted) (n : ℕ) → w (n + 0) ≢ Anything → w n ≢ Anything
first_wanted w n h = let same : n + 0 ≡ n = omega arith in subst (λ (k : ℕ). w k ≢ Anything) same h

next_wanted : (w : ℕ → Wanted) (n i : ℕ) → w (n + suc i) ≢ Anything → w (suc n + i) ≢ Anything
next_wanted w n i h = let same : n + suc i ≡ suc n + i = omega arith in subst (λ (k : ℕ). w k ≢ Anything) same h

count-kept : (ds : List Declaration) (x : Args) → args_count (resolved_args ds x) ≡ args_count x
count-kept ds no_args = refl
count-kept ds (value e x) = ap suc (count-kept ds x)
count-kept ds (format text s x) = ap suc (count-kept ds x)
count-kept ds (address e x) = ap suc (count-kept ds x)

module _ (ds : List Declaration) where
  -- an expression that is a name of a variable, or no name
  abbrev VariableIfName : Tree → Type 0
  VariableIfName (name word slot s) = IsVariable (denoted ds word)
  VariableIfName (constant n word s) = ⊤
  VariableIfName (index word slot e s) = ⊤
  VariableIfName (call word x s) = ⊤
  VariableIfName (unary op e s) = ⊤
  VariableIfName (cast ty e s) = ⊤
  VariableIfName (binary op l r s) = ⊤
  VariableIfName (choice t a b s) = ⊤
  VariableIfName (assign op place e s) = ⊤
  VariableIfName (bump before up place s) = ⊤
  VariableIfName (comma l r s) = ⊤
  VariableIfName hole = ⊤
  VariableIfName (hole_after e) = ⊤

  -- it is so where what would be told of a name tells that it is a variable
  if_name : (e : Tree) → ((word : List ℕ) (slot : Slot) (s : Span) → e ≡ name word slot s → IsVariable (denoted ds word)) → VariableIfName e
  if_name (name word slot s) h = h word slot s refl
  if_name (constant n word s) h = tt
  if_name (index word slot e s) h = tt
  if_name (call word x s) h = tt
  if_name (unary op e s) h = tt
  if_name (cast ty e s) h = tt
  if_name (binary op l r s) h = tt
  if_name (choice t a b s) h = tt
  if_name (assign op place e s) h = tt
  if_name (bump before up place s) h = tt
  if_name (comma l r s) h = tt
  if_name hole h = tt
  if_name (hole_after e) h = tt

  as_number_variable : (e : Tree) → as_number ds (resolved_tree ds e) ≡ [] → faults ds (resolved_tree ds e) ≡ [] → VariableIfName e
  as_number_variable e h g =
      if_name e (λ word slot s is. number_variable (denoted ds word) s
      (ap (λ x. as_number ds (resolved_tree ds x)) (sym is) ∙ h) (ap (λ x. faults ds (resolved_tree ds x)) (sym is) ∙ g))

  as_void_variable : (e : Tree) → as_void ds (resolved_tree ds e) ≡ [] → faults ds (resolved_tree ds e) ≡ [] → VariableIfName e
  as_void_variable e h g =
      if_name e (λ word slot s is. void_variable (denoted ds word) s
      (ap (λ x. as_void ds (resolved_tree ds x)) (sym is) ∙ h) (ap (λ x. faults ds (resolved_tree ds x)) (sym is) ∙ g))

  place_variable : (e : Tree) → place_faults ds (resolved_tree ds e) ≡ [] → faults ds (resolved_tree ds e) ≡ [] → VariableIfName e
  place_variable e h g =
      if_name e (λ word slot s is. number_variable (denoted ds word) s
      (ap (λ x. place_faults ds (resolved_tree ds x)) (sym is) ∙ h) (ap (λ x. faults ds (resolved_tree ds x)) (sym is) ∙ g))

  number_parts : (e : Tree) → as_number ds (resolved_tree ds e) ++ faults ds (resolved_tree ds e) ≡ [] → VariableIfName e × (faults ds (resolved_tree ds e) ≡ [])
  number_parts e h =
      let inner = none_right (as_number ds (resolved_tree ds e)) _ h in
      (as_number_variable e (none_left _ _ h) inner, inner)

  void_parts : (e : Tree) → as_void ds (resolved_tree ds e) ++ faults ds (resolved_tree ds e) ≡ [] → VariableIfName e × (faults ds (resolved_tree ds e) ≡ [])
  void_parts e h =
      let inner = none_right (as_void ds (resolved_tree ds e)) _ h in
      (as_void_variable e (none_left _ _ h) inner, inner)

  place_parts : (e : Tree) → place_faults ds (resolved_tree ds e) ++ faults ds (resolved_tree ds e) ≡ [] → VariableIfName e × (faults ds (resolved_tree ds e) ≡ [])
  place_parts e h =
      let inner = none_right (place_faults ds (resolved_tree ds e)) _ h in
      (place_variable e (none_left _ _ h) inner, inner)

  value_variable : (w : Wanted) → w ≢ Anything → (e : Tree) → value_faults w (kind ds (resolved_tree ds e)) (span_of (resolved_tree ds e)) ≡ []
      → faults ds (resolved_tree ds e) ≡ [] → VariableIfName e
  value_variable Anything some e h g = absurd (some refl)
  value_variable Scalar some e h g = as_number_variable e h g
  value_variable (ArrayOf ty) some e h g =
      if_name e (λ word slot s is. array_variable (denoted ds word) ty s
      (ap (λ x. array_faults (kind ds (resolved_tree ds x)) ty (span_of (resolved_tree ds x))) (sym is) ∙ h))
  value_variable PrintfFormat some e h g = no_such BadFormat (span_of (resolved_tree ds e)) h
  value_variable ScanfFormat some e h g = no_such BadFormat (span_of (resolved_tree ds e)) h
  value_variable IntAddress some e h g = no_such WrongKind (span_of (resolved_tree ds e)) h

  address_variable : (w : Wanted) (e : Tree) → address_faults w ds (resolved_tree ds e) ≡ [] → VariableIfName e
  address_variable IntAddress e h =
      let stores : stores_int ds (resolved_tree ds e) ≡ true =
      not_true (stores_int ds (resolved_tree ds e)) (no_fault (not (stores_int ds (resolved_tree ds e))) WrongKind (span_of (resolved_tree ds e)) (none_left _ _ h)) in
      if_name e (λ word slot s is. int_variable (denoted ds word) false (ap (λ x. stores_int ds (resolved_tree ds x)) (sym is) ∙ stores))
  address_variable Anything e h = no_such WrongKind (span_of (resolved_tree ds e)) (none_left _ _ h)
  address_variable Scalar e h = no_such WrongKind (span_of (resolved_tree ds e)) (none_left _ _ h)
  address_variable (ArrayOf ty) e h = no_such WrongKind (span_of (resolved_tree ds e)) (none_left _ _ h)
  address_variable PrintfFormat e h = no_such WrongKind (span_of (resolved_tree ds e)) (none_left _ _ h)
  address_variable ScanfFormat e h = no_such WrongKind (span_of (resolved_tree ds e)) (none_left _ _ h)

  module _ (slots : HaveSlots ds) where
    -- a name of a variable with its slot
    use-resolved : (word : List ℕ) (slot : Slot) (ty : Ty) (array element : Bool) (place : ℕ) (own : Option (List ℕ)) → denoted ds word ≡ Some (VariableEntity slot ty array) → (element ≡ true → array ≡ true)
        → IsResolved (record { word = word; slot = entity_slot (denoted ds word); element = element; place = place; scope = ds; initialised = own })
    use-resolved word slot ty array element place own is indexed =
        let same : entity_slot (denoted ds word) ≡ slot = ap entity_slot is in
        record {
          ty = ty;
          array = array;
          denotes = is ∙ ap (λ z. Some (VariableEntity z ty array)) (sym same);
          set = λ unset. slots word slot ty array is (sym same ∙ unset);
          indexed = indexed;
        }

    module _ (own : Option (List ℕ)) where
      mutual
        tree-resolved : (e : Tree) → VariableIfName e → faults ds (resolved_tree ds e) ≡ [] → All IsResolved (tree_uses ds own (resolved_tree ds e))
        tree-resolved (constant n word s) v h = All-nil IsResolved
        tree-resolved (name word slot s) v h =
            All-cons IsResolved _ [] (use-resolved word v.0 v.1 v.2 false s.from own v.3 not_element) (All-nil IsResolved)
        tree-resolved (index word slot e s) v h =
            let array = index_variable (denoted ds word) s (none_left _ _ h) in
            let inner = number_parts e (none_right (index_faults (denoted ds word) s) _ h) in
            All-cons IsResolved _ _ (use-resolved word array.0 array.1 true true s.from own array.2 (λ k. refl)) (tree-resolved e inner.0 inner.1)
        tree-resolved (call word x s) v h =
            let y = resolved_args ds x in
            let want = wanted (denoted ds word) (converted y) in
            let inner : args_faults ds want 0 y ≡ [] = none_right (call_faults (denoted ds word) y s) _ h in
            args-resolved want 0 x
            (λ i lt. from_wanted want i (call_wants ds (denoted ds word) y s (none_left _ _ h) inner i (subst (λ (k : ℕ). i < k) (sym (count-kept ds x)) lt)))
            inner
        tree-resolved (unary op e s) v h = let inner = number_parts e h in tree-resolved e inner.0 inner.1
        tree-resolved (cast ty e s) v h = let inner = number_parts e h in tree-resolved e inner.0 inner.1
        tree-resolved (binary op l r s) v h =
            let first = number_parts l (none_left (as_number ds (resolved_tree ds l) ++ faults ds (resolved_tree ds l)) _ h) in
            let second = number_parts r (none_right (as_number ds (resolved_tree ds l) ++ faults ds (resolved_tree ds l)) _ h) in
            All-append IsResolved _ _ (tree-resolved l first.0 first.1) (tree-resolved r second.0 second.1)
        tree-resolved (choice t a b s) v h =
            let first = number_parts t (none_left (as_number ds (resolved_tree ds t) ++ faults ds (resolved_tree ds t)) _ h) in
            let rest = none_right (as_number ds (resolved_tree ds t) ++ faults ds (resolved_tree ds t)) _ h in
            let second = number_parts a (none_left (as_number ds (resolved_tree ds a) ++ faults ds (resolved_tree ds a)) _ rest) in
            let third = number_parts b (none_right (as_number ds (resolved_tree ds a) ++ faults ds (resolved_tree ds a)) _ rest) in
            All-append IsResolved _ _ (tree-resolved t first.0 first.1)
            (All-append IsResolved _ _ (tree-resolved a second.0 second.1) (tree-resolved b third.0 third.1))
        tree-resolved (assign op place e s) v h =
            let first = place_parts place (none_left (place_faults ds (resolved_tree ds place) ++ faults ds (resolved_tree ds place)) _ h) in
            let second = number_parts e (none_right (place_faults ds (resolved_tree ds place) ++ faults ds (resolved_tree ds place)) _ h) in
            All-append IsResolved _ _ (tree-resolved place first.0 first.1) (tree-resolved e second.0 second.1)
        tree-resolved (bump before up place s) v h = let inner = place_parts place h in tree-resolved place inner.0 inner.1
        tree-resolved (comma l r s) v h =
            let first = void_parts l (none_left (as_void ds (resolved_tree ds l) ++ faults ds (resolved_tree ds l)) _ h) in
            let second = number_parts r (none_right (as_void ds (resolved_tree ds l) ++ faults ds (resolved_tree ds l)) _ h) in
            All-append IsResolved _ _ (tree-resolved l first.0 first.1) (tree-resolved r second.0 second.1)
        tree-resolved hole v h = All-nil IsResolved
        tree-resolved (hole_after e) v h = let inner = number_parts e h in tree-resolved e inner.0 inner.1

        args-resolved : (m : ℕ → Wanted) (n : ℕ) (x : Args) → ((i : ℕ) → i < args_count x → m (n + i) ≢ Anything)
            → args_faults ds m n (resolved_args ds x) ≡ [] → All IsResolved (args_uses ds own (resolved_args ds x))
        args-resolved m n no_args some h = All-nil IsResolved
        args-resolved m n (value e x) some h =
            let e' = resolved_tree ds e in
            let first = none_left (value_faults (m n) (kind ds e') (span_of e') ++ faults ds e') _ h in
            let inner = none_right (value_faults (m n) (kind ds e') (span_of e')) _ first in
            All-append IsResolved _ _
            (tree-resolved e (value_variable (m n) (first_wanted m n (some 0 (omega arith))) e (none_left _ _ first) inner) inner)
            (args-resolved m (suc n) x (λ i lt. next_wanted m n i (some (suc i) (omega arith))) (none_right (value_faults (m n) (kind ds e') (span_of e') ++ faults ds e') _ h))
        args-resolved m n (format text s x) some h =
            args-resolved m (suc n) x (λ i lt. next_wanted m n i (some (suc i) (omega arith))) (none_right (format_faults (m n) text s) _ h)
        args-resolved m n (address e x) some h =
            let e' = resolved_tree ds e in
            let first = none_left (address_faults (m n) ds e' ++ faults ds e') _ h in
            All-append IsResolved _ _
            (tree-resolved e (address_variable (m n) e (none_left _ _ first)) (none_right (address_faults (m n) ds e') _ first))
            (args-resolved m (suc n) x (λ i lt. next_wanted m n i (some (suc i) (omega arith))) (none_right (address_faults (m n) ds e' ++ faults ds e') _ h))

    number-resolved : (own : Option (List ℕ)) (e : Tree) → as_number ds (resolved_tree ds e) ++ faults ds (resolved_tree ds e) ≡ [] → All IsResolved (tree_uses ds own (resolved_tree ds e))
    number-resolved own e h = let inner = number_parts e h in tree-resolved own e inner.0 inner.1

    option_number-resolved : (o : Option Tree) → number_option ds (resolved_option ds o) ≡ [] → All IsResolved (option_found tree_uses ds (resolved_option ds o))
    option_number-resolved None h = All-nil IsResolved
    option_number-resolved (Some e) h = number-resolved None e h

    void-resolved : (e : Tree) → as_void ds (resolved_tree ds e) ++ faults ds (resolved_tree ds e) ≡ [] → All IsResolved (tree_uses ds None (resolved_tree ds e))
    void-resolved e h = let inner = void_parts e h in tree-resolved None e inner.0 inner.1

    option_void-resolved : (o : Option Tree) → void_option ds (resolved_option ds o) ≡ [] → All IsResolved (option_found tree_uses ds (resolved_option ds o))
    option_void-resolved None h = All-nil IsResolved
    option_void-resolved (Some e) h = void-resolved e h

    numbers-resolved : (es : List Tree) → as_numbers ds (map (resolved_tree ds) es) ≡ [] → All IsResolved (flat_map (tree_uses ds None) (map (resolved_tree ds) es))
    numbers-resolved [] h = All-nil IsResolved
    numbers-resolved (e ∷ es) h =
        let e' = resolved_tree ds e in
        All-append IsResolved _ _ (number-resolved None e (none_left (as_number ds e' ++ faults ds e') _ h))
        (numbers-resolved es (none_right (as_number ds e' ++ faults ds e') _ h))

    initial-resolved : (word : List ℕ) (start : Initial) → initial_faults ds (resolved_initial ds start) ≡ [] → All IsResolved (initial_found tree_uses ds word (resolved_initial ds start))
    initial-resolved word bare_start h = All-nil IsResolved
    initial-resolved word (one_start e) h = number-resolved (Some word) e h
    initial-resolved word (list_start es) h = numbers-resolved es h

-- what a resolved declarator declares
declared-resolved : (here around : List Declaration) (ty : Ty) (vs : List Variable) (before : List Declaration) → declared ty (resolved_variables here around ty vs) before ≡ declared ty vs before
declared-resolved here around ty [] before = refl
declared-resolved here around ty (v ∷ vs) before = declared-resolved (variable_declaration ty v ∷ here) around ty vs (variable_declaration ty v ∷ before)

variables-resolved : (storage at : Storage) (ty : Ty) (n : ℕ) (vs : List Variable) (here around : List Declaration) → HaveSlots here → HaveSlots around
    → variables_faults at here around ty (resolved_variables here around ty (numbered (slot_in storage) n vs)) ≡ []
    → All IsResolved (variables_found tree_uses here around ty (resolved_variables here around ty (numbered (slot_in storage) n vs)))
variables-resolved storage at ty n [] here around sh sa h = All-nil IsResolved
variables-resolved storage at ty n (v ∷ vs) here around sh sa h =
    let w = numbered_variable (slot_in storage n) v in
    let d = variable_declaration ty w in
    let more : HaveSlots (d ∷ here) = slots-cons d here (one_variable storage n ty v) sh in
    let r = resolved_variable here around ty w in
    let own = none_left (variable_faults at here around ty r) _ h in
    let inner = none_left _ _ (none_right (length_faults r.shape r.start r.span) _ (none_right (fault_if (is_declared here r.word) Twice r.span) _ own)) in
    All-append IsResolved _ _
    (initial-resolved (d ∷ (here ++ around)) (slots-append (d ∷ here) around more sa) v.word v.start inner)
    (variables-resolved storage at ty (suc n) vs (d ∷ here) around more sa (none_right (variable_faults at here around ty r) _ h))

first-resolved : (ds : List Declaration) (n : ℕ) (f : First) → HaveSlots ds → first_faults ds (resolved_first ds (numbered_first n f)) ≡ []
    → All IsResolved (first_found tree_uses ds (resolved_first ds (numbered_first n f)))
first-resolved ds n no_first slots h = All-nil IsResolved
first-resolved ds n (first_act e) slots h = void-resolved ds slots e h
first-resolved ds n (first_vars ty vs) slots h = variables-resolved Automatic Automatic ty n vs [] ds slots-nil slots h

first_declared-resolved : (ds : List Declaration) (f : First) → first_declared (resolved_first ds f) ≡ first_declared f
first_declared-resolved ds no_first = refl
first_declared-resolved ds (first_act e) = refl
first_declared-resolved ds (first_vars ty vs) = declared-resolved [] ds ty vs []

module _ (ret : Option Ty) where
  mutual
    code-resolved : (c : Code) (ds : List Declaration) (slots : HaveSlots ds) (n : ℕ) (in_loop : Bool) → code_faults ret ds in_loop (resolved_code ds n c) ≡ [] → All IsResolved (code_found tree_uses ds (resolved_code ds n c))
    code-resolved (empty s) ds slots n in_loop h = All-nil IsResolved
    code-resolved (act e s) ds slots n in_loop h = void-resolved ds slots e h
    code-resolved (block body s) ds slots n in_loop h = body-resolved body [] ds slots-nil slots n in_loop h
    code-resolved (if_then t a s) ds slots n in_loop h =
        let t' = resolved_tree ds t in
        All-append IsResolved _ _ (number-resolved ds slots None t (none_left (as_number ds t' ++ faults ds t') _ h))
        (code-resolved a ds slots n in_loop (none_right (as_number ds t' ++ faults ds t') _ h))
    code-resolved (if_else t a b s) ds slots n in_loop h =
        let t' = resolved_tree ds t in
        let rest = none_right (as_number ds t' ++ faults ds t') _ h in
        All-append IsResolved _ _ (number-resolved ds slots None t (none_left (as_number ds t' ++ faults ds t') _ h))
        (All-append IsResolved _ _
        (code-resolved a ds slots n in_loop (none_left _ _ rest))
        (code-resolved b ds slots (n + code_count a) in_loop (none_right (code_faults ret ds in_loop (resolved_code ds n a)) _ rest)))
    code-resolved (while t a s) ds slots n in_loop h =
        let t' = resolved_tree ds t in
        All-append IsResolved _ _ (number-resolved ds slots None t (none_left (as_number ds t' ++ faults ds t') _ h))
        (code-resolved a ds slots n true (none_right (as_number ds t' ++ faults ds t') _ h))
    code-resolved (do_while a t s) ds slots n in_loop h =
        All-append IsResolved _ _ (code-resolved a ds slots n true (none_left _ _ h))
        (number-resolved ds slots None t (none_right (code_faults ret ds true (resolved_code ds n a)) _ h))
    code-resolved (for f t u a s) ds slots n in_loop h =
        let g = numbered_first n f in
        let es = first_declared g ++ ds in
        let same : first_declared (resolved_first ds g) ++ ds ≡ es = ap (λ z. z ++ ds) (first_declared-resolved ds g) in
        let all : HaveSlots es = slots-append (first_declared g) ds (slots-first n f) slots in
        let k = n + first_count f in
        let ds' = first_declared (resolved_first ds g) ++ ds in
        let firsts = first_faults ds (resolved_first ds g) in
        let clauses : firsts ++ (number_option ds' (resolved_option es t) ++ void_option ds' (resolved_option es u)) ≡ [] = none_left _ _ h in
        let rest = none_right firsts _ clauses in
        let tests : number_option es (resolved_option es t) ≡ [] = ap (λ z. number_option z (resolved_option es t)) (sym same) ∙ none_left _ _ rest in
        let steps : void_option es (resolved_option es u) ≡ [] =
        ap (λ z. void_option z (resolved_option es u)) (sym same) ∙ none_right (number_option ds' (resolved_option es t)) _ rest in
        let arms : code_faults ret es true (resolved_code es k a) ≡ [] =
        ap (λ z. code_faults ret z true (resolved_code es k a)) (sym same)
        ∙ none_right (firsts ++ (number_option ds' (resolved_option es t) ++ void_option ds' (resolved_option es u))) _ h in
        All-append IsResolved _ _ (first-resolved ds n f slots (none_left firsts _ clauses))
        (subst (λ (z : List Declaration). All IsResolved (option_found tree_uses z (resolved_option es t) ++ (option_found tree_uses z (resolved_option es u) ++ code_found tree_uses z (resolved_code es k a)))) (sym same)
        (All-append IsResolved _ _ (option_number-resolved es all t tests)
        (All-append IsResolved _ _ (option_void-resolved es all u steps) (code-resolved a es all k true arms))))
    code-resolved (give e s) ds slots n in_loop h = option_number-resolved ds slots e (none_right (return_faults ret (resolved_option ds e) s) _ h)
    code-resolved (break s) ds slots n in_loop h = All-nil IsResolved
    code-resolved (continue s) ds slots n in_loop h = All-nil IsResolved

    body-resolved : (b : Body) (here around : List Declaration) (sh : HaveSlots here) (sa : HaveSlots around) (n : ℕ) (in_loop : Bool)
        → body_faults ret here around in_loop (resolved_body here around n b) ≡ [] → All IsResolved (body_found tree_uses here around (resolved_body here around n b))
    body-resolved done here around sh sa n in_loop h = All-nil IsResolved
    body-resolved (next c rest) here around sh sa n in_loop h =
        All-append IsResolved _ _ (code-resolved c (here ++ around) (slots-append here around sh sa) n in_loop (none_left _ _ h))
        (body-resolved rest here around sh sa (n + code_count c) in_loop (none_right (code_faults ret (here ++ around) in_loop (resolved_code (here ++ around) n c)) _ h))
    body-resolved (vars ty vs rest) here around sh sa n in_loop h =
        let ws = numbered (slot_in Automatic) n vs in
        let rs = resolved_variables here around ty ws in
        let same : declared ty rs here ≡ declared ty ws here = declared-resolved here around ty ws here in
        let body = resolved_body (declared ty ws here) around (n + length vs) rest in
        let inner : body_faults ret (declared ty ws here) around in_loop body ≡ [] =
        ap (λ z. body_faults ret z around in_loop body) (sym same) ∙ none_right (variables_faults Automatic here around ty rs) _ h in
        All-append IsResolved _ _ (variables-resolved Automatic Automatic ty n vs here around sh sa (none_left _ _ h))
        (subst (λ (z : List Declaration). All IsResolved (body_found tree_uses z around body)) (sym same)
        (body-resolved rest (declared ty ws here) around (slots-declared Automatic ty n vs here sh) sa (n + length vs) in_loop inner))

definition-resolved : (ret : Option Ty) (b : Option Body) (here around : List Declaration) (sh : HaveSlots here) (sa : HaveSlots around) (n : ℕ)
    → definition_faults ret here around (resolved_definition here around n b) ≡ [] → All IsResolved (definition_found tree_uses here around (resolved_definition here around n b))
definition-resolved ret None here around sh sa n h = All-nil IsResolved
definition-resolved ret (Some body) here around sh sa n h = body-resolved ret body here around sh sa n false h

-- the declaration of a function stays
own-resolved : (file : List Outer) (around : List Declaration) (f : Function) → function_declaration (resolved file) (resolved_function around f) ≡ function_declaration file f
own-resolved file around f =
    sym (function_declaration-same (resolved file) (resolved_function around f))
    ∙ ap₂ function_declaration (program-kept file) (function-kept around f)
    ∙ function_declaration-same file f

slots-function : (file : List Outer) (f : Function) (here : List Declaration) → HaveSlots here → HaveSlots (function_declaration file f ∷ here)
slots-function file f here h = slots-cons (function_declaration file f) here (no_function _ _ _ _) h

outers-resolved : (file p : List Outer) (here : List Declaration) (n : ℕ) → HaveSlots here → outers_faults (resolved file) here (resolved_outers file here n p) ≡ []
    → All IsResolved (outers_found tree_uses (resolved file) here (resolved_outers file here n p))
outers-resolved file [] here n slots h = All-nil IsResolved
outers-resolved file (outer_vars ty vs ∷ rest) here n slots h =
    let ws = numbered (slot_in Static) n vs in
    let rs = resolved_variables here [] ty ws in
    let same : declared ty rs here ≡ declared ty ws here = declared-resolved here [] ty ws here in
    let more = resolved_outers file (declared ty ws here) (n + length vs) rest in
    let inner : outers_faults (resolved file) (declared ty ws here) more ≡ [] =
    ap (λ z. outers_faults (resolved file) z more) (sym same) ∙ none_right (variables_faults Static here [] ty rs) _ h in
    All-append IsResolved _ _ (variables-resolved Static Static ty n vs here [] slots slots-nil (none_left _ _ h))
    (subst (λ (z : List Declaration). All IsResolved (outers_found tree_uses (resolved file) z more)) (sym same)
    (outers-resolved file rest (declared ty ws here) (n + length vs) (slots-declared Static ty n vs here slots) inner))
outers-resolved file (outer_func f ∷ rest) here n slots h =
    let around = function_declaration file f ∷ here in
    let g = resolved_function around f in
    let same : function_declaration (resolved file) g ∷ here ≡ around = ap (λ z. z ∷ here) (own-resolved file around f) in
    let all : HaveSlots around = slots-function file f here slots in
    let params = params_declared (numbered_params 0 f.params) [] in
    let body = resolved_definition params around (length f.params) f.body in
    let more = resolved_outers file around n rest in
    let own = none_right (params_faults [] (numbered_params 0 f.params)) _ (none_right (name_faults here g) _ (none_left (function_faults (resolved file) here g) _ h)) in
    let bodies : definition_faults f.ret params around body ≡ [] = ap (λ z. definition_faults f.ret params z body) (sym same) ∙ own in
    let inner : outers_faults (resolved file) around more ≡ [] =
    ap (λ z. outers_faults (resolved file) z more) (sym same) ∙ none_right (function_faults (resolved file) here g) _ h in
    subst (λ (z : List Declaration). All IsResolved (definition_found tree_uses params z body ++ outers_found tree_uses (resolved file) z more)) (sym same)
    (All-append IsResolved _ _ (definition-resolved f.ret f.body params around (slots-params 0 f.params [] slots-nil) all (length f.params) bodies)
    (outers-resolved file rest around n all inner))

-- in a checked program each name has the slot of a variable
pub names-resolved : (p : List Outer) → IsChecked p → All IsResolved (uses p)
names-resolved p checked =
    let none : outers_faults (resolved p) library (resolved p) ≡ [] =
    none_left _ (main_faults (resolved p) 0) (ap (λ q. program_faults q 0) checked.is_resolved ∙ checked.faultless 0) in
    subst (λ (q : List Outer). All IsResolved (uses q)) checked.is_resolved (outers-resolved p p library 0 slots-library none)
