-- The faults of a program don't depend on its slots.
use Rattle.std.proofs.Common.{◌≡◌, ℕ, ℤ, suc, Bool, true, false, not, if◌then◌else◌, List, [], ◌∷◌, ◌++◌, map, length, Option, Some, None, is_none, is_some, option_map, refl, sym, ap, ap₂, ◌∙◌, ◌||◌, ◌&&◌, nat_eq, int_lt, pos, codes}
use Rattle.std.specs.Str.{bytes_eq}
use Rattle.std.proofs.lemmas.List.{map-append, length-map}
use Rattle.c_tree.specs.declared.place.Span.{Span}
use Rattle.c_tree.specs.declared.program.Param.{Param}
use Rattle.c_tree.specs.declared.stmt.Shape.{Shape}
use Rattle.c_tree.specs.declared.stmt.Shape.TheVariants.{Scalar as ScalarShape, Array as ArrayShape}
use Rattle.c_tree.specs.declared.stmt.Slot.TheVariants.{Unset}
use Rattle.c_tree.specs.declared.stmt.Ty.{Ty}
use Rattle.c_tree.specs.declared.stmt.Ty.TheVariants.{Int, Char}
use Rattle.c_tree.specs.Parts.{span_of}
use Rattle.c_tree.specs.Tree.{Tree, constant, name, index, call, unary, cast, binary, choice, assign, bump, comma, hole, hole_after, Args, no_args, value, format, address, Initial, bare_start, one_start, list_start, Variable, First, no_first, first_act, first_vars, Code, empty, act, block, if_then, if_else, while, do_while, for, give, break, continue, Body, done, next, vars, Function, Outer, outer_vars, outer_func}
use Rattle.c_types.specs.declared.fault.FaultKind.TheVariants.{Unknown, Twice, WrongKind, WrongCount, NotPlace, NotConstant, BadArrayLength, BadFormat, NoMain}
use Rattle.c_types.specs.declared.kinds.Wanted.{Wanted}
use Rattle.c_types.specs.declared.kinds.Wanted.TheVariants.{Anything, Scalar, ArrayOf, PrintfFormat, ScanfFormat, IntAddress}
use Rattle.c_types.specs.declared.scope.Declaration.{Declaration}
use Rattle.c_types.specs.declared.scope.Entity.{Entity}
use Rattle.c_types.specs.declared.scope.Entity.TheVariants.{Variable as VariableEntity, Function as FunctionEntity, Library, Printf, Scanf}
use Rattle.c_types.specs.declared.scope.Storage.{Storage}
use Rattle.c_types.specs.declared.scope.Storage.TheVariants.{Static, Automatic}
use Rattle.c_types.specs.Arguments.{number_faults, is_place, is_int, stores_int, converted, wanted, value_faults, format_faults, operand_faults, address_faults, args_count, no_format, miscounts, formatted_faults, call_faults}
use Rattle.c_types.specs.Constants.{not_constant, not_constant_args, not_constant_all, constant_faults}
use Rattle.c_types.specs.Expressions.{void_faults, index_faults, place_faults, as_number, as_void, faults, args_faults}
use Rattle.c_types.specs.Formats.{conversions, scan_conversions}
use Rattle.c_types.specs.Kinds.{kind, named, called}
use Rattle.c_types.specs.Least.{fault, fault_if}
use Rattle.c_types.specs.Library.{library}
use Rattle.c_types.specs.Programs.{is_defined, param_type, param_declaration, function_declaration, params_declared, params_faults, same_result, same_params, redeclared_faults, name_faults, definition_faults, function_faults, outers_faults, has_no_params, is_main, has_main, program_faults}
use Rattle.c_types.specs.Scopes.{denoted, is_declared}
use Rattle.c_types.specs.Statements.{variable_declaration, declared, elements, is_list, list_faults, length_faults, as_numbers, initial_faults, number_option, void_option, variables_faults, first_declared, first_faults, return_faults, code_faults, body_faults}
use Rattle.c_types.specs.Unresolved.{unresolved_tree, unresolved_args, unresolved_option, unresolved_initial, unresolved_variable, unresolved_first, unresolved_code, unresolved_body, unresolved_definition, unresolved_param, unresolved_function, unresolved}

-- what a name denotes, without a slot
abbrev pub plain : Entity → Entity
plain (VariableEntity slot ty array) = VariableEntity Unset ty array
plain (FunctionEntity ret params body defined) = FunctionEntity ret params body defined
plain (Library ret params) = Library ret params
plain Printf = Printf
plain Scanf = Scanf

-- a declaration without a slot
abbrev pub slotless : Declaration → Declaration
slotless d = record { word = d.word; entity = plain d.entity }

-- what a word denotes among declarations without slots
denoted-same : (ds : List Declaration) (w : List ℕ) → denoted (map slotless ds) w ≡ option_map plain (denoted ds w)
denoted-same [] w = refl
denoted-same (d ∷ ds) w = by_test (bytes_eq d.word w) (denoted-same ds w)
  where
    by_test : (b : Bool) → denoted (map slotless ds) w ≡ option_map plain (denoted ds w)
        → (if b then Some (plain d.entity) else denoted (map slotless ds) w) ≡ option_map plain (if b then Some d.entity else denoted ds w)
    by_test true h = refl
    by_test false h = h

none-same : (m : Option Entity) → is_none (option_map plain m) ≡ is_none m
none-same None = refl
none-same (Some e) = refl

some-same : (m : Option Entity) → is_some (option_map plain m) ≡ is_some m
some-same None = refl
some-same (Some e) = refl

declared-same : (ds : List Declaration) (w : List ℕ) → is_declared (map slotless ds) w ≡ is_declared ds w
declared-same ds w = ap is_some (denoted-same ds w) ∙ some-same (denoted ds w)

named-same : (m : Option Entity) → named (option_map plain m) ≡ named m
named-same None = refl
named-same (Some (VariableEntity slot ty true)) = refl
named-same (Some (VariableEntity slot ty false)) = refl
named-same (Some (FunctionEntity ret params body defined)) = refl
named-same (Some (Library ret params)) = refl
named-same (Some Printf) = refl
named-same (Some Scanf) = refl

called-same : (m : Option Entity) → called (option_map plain m) ≡ called m
called-same None = refl
called-same (Some (VariableEntity slot ty array)) = refl
called-same (Some (FunctionEntity ret params body defined)) = refl
called-same (Some (Library ret params)) = refl
called-same (Some Printf) = refl
called-same (Some Scanf) = refl

index-same : (m : Option Entity) (s : Span) → index_faults (option_map plain m) s ≡ index_faults m s
index-same None s = refl
index-same (Some (VariableEntity slot ty array)) s = refl
index-same (Some (FunctionEntity ret params body defined)) s = refl
index-same (Some (Library ret params)) s = refl
index-same (Some Printf) s = refl
index-same (Some Scanf) s = refl

wanted-same : (m : Option Entity) (n i : ℕ) → wanted (option_map plain m) n i ≡ wanted m n i
wanted-same None n i = refl
wanted-same (Some (VariableEntity slot ty array)) n i = refl
wanted-same (Some (FunctionEntity ret params body defined)) n i = refl
wanted-same (Some (Library ret params)) n i = refl
wanted-same (Some Printf) n i = refl
wanted-same (Some Scanf) n i = refl

converted-same : (x : Args) → converted (unresolved_args x) ≡ converted x
converted-same no_args = refl
converted-same (value e x) = refl
converted-same (format text s x) = refl
converted-same (address e x) = refl

wants-same : (m : Option Entity) (x : Args) → wanted (option_map plain m) (converted (unresolved_args x)) ≡ wanted m (converted x)
wants-same m x = λ i n. wanted-same m (converted-same x i) n i

int-same : (m : Option Entity) (array : Bool) → is_int (option_map plain m) array ≡ is_int m array
int-same None array = refl
int-same (Some (VariableEntity slot Int true)) array = refl
int-same (Some (VariableEntity slot Int false)) array = refl
int-same (Some (VariableEntity slot Char b)) array = refl
int-same (Some (FunctionEntity ret params body defined)) array = refl
int-same (Some (Library ret params)) array = refl
int-same (Some Printf) array = refl
int-same (Some Scanf) array = refl

count-same : (x : Args) → args_count (unresolved_args x) ≡ args_count x
count-same no_args = refl
count-same (value e x) = ap suc (count-same x)
count-same (format text s x) = ap suc (count-same x)
count-same (address e x) = ap suc (count-same x)

format-same : (x : Args) → no_format (unresolved_args x) ≡ no_format x
format-same no_args = refl
format-same (value e x) = format-same x
format-same (format text s x) = refl
format-same (address e x) = format-same x

formatted-same : (read : List ℕ → Option ℕ) (x : Args) (s : Span) → formatted_faults read (unresolved_args x) s ≡ formatted_faults read x s
formatted-same read no_args s = refl
formatted-same read (value e x) s = refl
formatted-same read (format text t x) s =
    ap₂ (λ b n. fault_if (b && miscounts (read text) n) WrongCount s) (format-same x) (count-same x)
formatted-same read (address e x) s = refl

call-same : (m : Option Entity) (x : Args) (s : Span) → call_faults (option_map plain m) (unresolved_args x) s ≡ call_faults m x s
call-same None x s = refl
call-same (Some (VariableEntity slot ty array)) x s = refl
call-same (Some (FunctionEntity ret params body defined)) x s =
    ap (λ n. fault_if (not defined) Unknown s ++ fault_if (not (nat_eq (length params) n)) WrongCount s) (count-same x)
call-same (Some (Library ret params)) x s = ap (λ n. fault_if (not (nat_eq (length params) n)) WrongCount s) (count-same x)
call-same (Some Printf) x s = formatted-same conversions x s
call-same (Some Scanf) x s = formatted-same scan_conversions x s

span-same : (e : Tree) → span_of (unresolved_tree e) ≡ span_of e
span-same (constant n word s) = refl
span-same (name word slot s) = refl
span-same (index word slot e s) = refl
span-same (call word x s) = refl
span-same (unary op e s) = refl
span-same (cast ty e s) = refl
span-same (binary op l r s) = refl
span-same (choice t a b s) = refl
span-same (assign op place e s) = refl
span-same (bump before up place s) = refl
span-same (comma l r s) = refl
span-same hole = refl
span-same (hole_after e) = span-same e

place-same : (e : Tree) → is_place (unresolved_tree e) ≡ is_place e
place-same (constant n word s) = refl
place-same (name word slot s) = refl
place-same (index word slot e s) = refl
place-same (call word x s) = refl
place-same (unary op e s) = refl
place-same (cast ty e s) = refl
place-same (binary op l r s) = refl
place-same (choice t a b s) = refl
place-same (assign op place e s) = refl
place-same (bump before up place s) = refl
place-same (comma l r s) = refl
place-same hole = refl
place-same (hole_after e) = refl

operand-same : (e : Tree) → operand_faults (unresolved_tree e) ≡ operand_faults e
operand-same e = ap₂ (λ b s. fault_if (not b) NotPlace s) (place-same e) (span-same e)

module _ (ds : List Declaration) where
  kind-same : (e : Tree) → kind (map slotless ds) (unresolved_tree e) ≡ kind ds e
  kind-same (constant n word s) = refl
  kind-same (name word slot s) = ap named (denoted-same ds word) ∙ named-same (denoted ds word)
  kind-same (index word slot e s) = refl
  kind-same (call word x s) = ap called (denoted-same ds word) ∙ called-same (denoted ds word)
  kind-same (unary op e s) = refl
  kind-same (cast ty e s) = refl
  kind-same (binary op l r s) = refl
  kind-same (choice t a b s) = refl
  kind-same (assign op place e s) = refl
  kind-same (bump before up place s) = refl
  kind-same (comma l r s) = refl
  kind-same hole = refl
  kind-same (hole_after e) = refl

  as_number-same : (e : Tree) → as_number (map slotless ds) (unresolved_tree e) ≡ as_number ds e
  as_number-same e = ap₂ number_faults (kind-same e) (span-same e)

  as_void-same : (e : Tree) → as_void (map slotless ds) (unresolved_tree e) ≡ as_void ds e
  as_void-same e = ap₂ void_faults (kind-same e) (span-same e)

  place_faults-same : (e : Tree) → place_faults (map slotless ds) (unresolved_tree e) ≡ place_faults ds e
  place_faults-same (constant n word s) = refl
  place_faults-same (name word slot s) = ap (λ k. number_faults k s) (kind-same (name word slot s))
  place_faults-same (index word slot e s) = refl
  place_faults-same (call word x s) = refl
  place_faults-same (unary op e s) = refl
  place_faults-same (cast ty e s) = refl
  place_faults-same (binary op l r s) = refl
  place_faults-same (choice t a b s) = refl
  place_faults-same (assign op place e s) = refl
  place_faults-same (bump before up place s) = refl
  place_faults-same (comma l r s) = refl
  place_faults-same hole = refl
  place_faults-same (hole_after e) = ap (fault NotPlace) (span-same e)

  stores-same : (e : Tree) → stores_int (map slotless ds) (unresolved_tree e) ≡ stores_int ds e
  stores-same (constant n word s) = refl
  stores-same (name word slot s) = ap (λ m. is_int m false) (denoted-same ds word) ∙ int-same (denoted ds word) false
  stores-same (index word slot e s) = ap (λ m. is_int m true) (denoted-same ds word) ∙ int-same (denoted ds word) true
  stores-same (call word x s) = refl
  stores-same (unary op e s) = refl
  stores-same (cast ty e s) = refl
  stores-same (binary op l r s) = refl
  stores-same (choice t a b s) = refl
  stores-same (assign op place e s) = refl
  stores-same (bump before up place s) = refl
  stores-same (comma l r s) = refl
  stores-same hole = refl
  stores-same (hole_after e) = refl

  address-same : (w : Wanted) (e : Tree) → address_faults w (map slotless ds) (unresolved_tree e) ≡ address_faults w ds e
  address-same Anything e = λ i. fault WrongKind (span-same e i) ++ operand-same e i
  address-same Scalar e = λ i. fault WrongKind (span-same e i) ++ operand-same e i
  address-same (ArrayOf ty) e = λ i. fault WrongKind (span-same e i) ++ operand-same e i
  address-same PrintfFormat e = λ i. fault WrongKind (span-same e i) ++ (operand-same e i ++ fault BadFormat (span-same e i))
  address-same ScanfFormat e = λ i. fault WrongKind (span-same e i) ++ (operand-same e i ++ fault BadFormat (span-same e i))
  address-same IntAddress e = λ i. fault_if (not (stores-same e i)) WrongKind (span-same e i) ++ operand-same e i

  mutual
    faults-same : (e : Tree) → faults (map slotless ds) (unresolved_tree e) ≡ faults ds e
    faults-same (constant n word s) = refl
    faults-same (name word slot s) =
        ap (λ m. fault_if (is_none m) Unknown s) (denoted-same ds word) ∙ ap (λ b. fault_if b Unknown s) (none-same (denoted ds word))
    faults-same (index word slot e s) =
        let own : index_faults (denoted (map slotless ds) word) s ≡ index_faults (denoted ds word) s =
        ap (λ m. index_faults m s) (denoted-same ds word) ∙ index-same (denoted ds word) s in
        λ i. own i ++ (as_number-same e i ++ faults-same e i)
    faults-same (call word x s) =
        let own : call_faults (denoted (map slotless ds) word) (unresolved_args x) s ≡ call_faults (denoted ds word) x s =
        ap (λ m. call_faults m (unresolved_args x) s) (denoted-same ds word) ∙ call-same (denoted ds word) x s in
        let all : args_faults (map slotless ds) (wanted (denoted (map slotless ds) word) (converted (unresolved_args x))) 0 (unresolved_args x)
        ≡ args_faults ds (wanted (denoted ds word) (converted x)) 0 x =
        ap (λ m. args_faults (map slotless ds) (wanted m (converted (unresolved_args x))) 0 (unresolved_args x)) (denoted-same ds word)
        ∙ ap (λ want. args_faults (map slotless ds) want 0 (unresolved_args x)) (wants-same (denoted ds word) x)
        ∙ args-same (wanted (denoted ds word) (converted x)) 0 x in
        ap₂ (λ fs gs. fs ++ gs) own all
    faults-same (unary op e s) = ap₂ (λ fs gs. fs ++ gs) (as_number-same e) (faults-same e)
    faults-same (cast ty e s) = ap₂ (λ fs gs. fs ++ gs) (as_number-same e) (faults-same e)
    faults-same (binary op l r s) =
        λ i. (as_number-same l i ++ faults-same l i) ++ (as_number-same r i ++ faults-same r i)
    faults-same (choice t a b s) =
        λ i. (as_number-same t i ++ faults-same t i) ++ ((as_number-same a i ++ faults-same a i) ++ (as_number-same b i ++ faults-same b i))
    faults-same (assign op place e s) =
        λ i. (place_faults-same place i ++ faults-same place i) ++ (as_number-same e i ++ faults-same e i)
    faults-same (bump before up place s) = ap₂ (λ fs gs. fs ++ gs) (place_faults-same place) (faults-same place)
    faults-same (comma l r s) =
        λ i. (as_void-same l i ++ faults-same l i) ++ (as_number-same r i ++ faults-same r i)
    faults-same hole = refl
    faults-same (hole_after e) = ap₂ (λ fs gs. fs ++ gs) (as_number-same e) (faults-same e)

    args-same : (m : ℕ → Wanted) (n : ℕ) (x : Args) → args_faults (map slotless ds) m n (unresolved_args x) ≡ args_faults ds m n x
    args-same m n no_args = refl
    args-same m n (value e x) =
        λ i. (value_faults (m n) (kind-same e i) (span-same e i) ++ faults-same e i) ++ args-same m (suc n) x i
    args-same m n (format text s x) =
        λ i. format_faults (m n) text s ++ args-same m (suc n) x i
    args-same m n (address e x) =
        λ i. (address-same (m n) e i ++ faults-same e i) ++ args-same m (suc n) x i

  numbers-same : (es : List Tree) → as_numbers (map slotless ds) (map unresolved_tree es) ≡ as_numbers ds es
  numbers-same [] = refl
  numbers-same (e ∷ es) = λ i. (as_number-same e i ++ faults-same e i) ++ numbers-same es i

  initial-same : (start : Initial) → initial_faults (map slotless ds) (unresolved_initial start) ≡ initial_faults ds start
  initial-same bare_start = refl
  initial-same (one_start e) = ap₂ (λ fs gs. fs ++ gs) (as_number-same e) (faults-same e)
  initial-same (list_start es) = numbers-same es

  number_option-same : (o : Option Tree) → number_option (map slotless ds) (unresolved_option o) ≡ number_option ds o
  number_option-same None = refl
  number_option-same (Some e) = ap₂ (λ fs gs. fs ++ gs) (as_number-same e) (faults-same e)

  void_option-same : (o : Option Tree) → void_option (map slotless ds) (unresolved_option o) ≡ void_option ds o
  void_option-same None = refl
  void_option-same (Some e) = ap₂ (λ fs gs. fs ++ gs) (as_void-same e) (faults-same e)

mutual
  constant-same : (e : Tree) → not_constant (unresolved_tree e) ≡ not_constant e
  constant-same (constant n word s) = refl
  constant-same (name word slot s) = refl
  constant-same (index word slot e s) = ap (λ fs. fault NotConstant s ++ fs) (constant-same e)
  constant-same (call word x s) = ap (λ fs. fault NotConstant s ++ fs) (constant_args-same x)
  constant-same (unary op e s) = constant-same e
  constant-same (cast ty e s) = constant-same e
  constant-same (binary op l r s) = ap₂ (λ fs gs. fs ++ gs) (constant-same l) (constant-same r)
  constant-same (choice t a b s) = λ i. constant-same t i ++ (constant-same a i ++ constant-same b i)
  constant-same (assign op place e s) = λ i. fault NotConstant s ++ (constant-same place i ++ constant-same e i)
  constant-same (bump before up place s) = ap (λ fs. fault NotConstant s ++ fs) (constant-same place)
  constant-same (comma l r s) = λ i. fault NotConstant s ++ (constant-same l i ++ constant-same r i)
  constant-same hole = refl
  constant-same (hole_after e) = constant-same e

  constant_args-same : (x : Args) → not_constant_args (unresolved_args x) ≡ not_constant_args x
  constant_args-same no_args = refl
  constant_args-same (value e x) = ap₂ (λ fs gs. fs ++ gs) (constant-same e) (constant_args-same x)
  constant_args-same (format text s x) = constant_args-same x
  constant_args-same (address e x) = ap₂ (λ fs gs. fs ++ gs) (constant-same e) (constant_args-same x)

constant_all-same : (es : List Tree) → not_constant_all (map unresolved_tree es) ≡ not_constant_all es
constant_all-same [] = refl
constant_all-same (e ∷ es) = ap₂ (λ fs gs. fs ++ gs) (constant-same e) (constant_all-same es)

constant_faults-same : (storage : Storage) (start : Initial) → constant_faults storage (unresolved_initial start) ≡ constant_faults storage start
constant_faults-same Automatic start = refl
constant_faults-same Static bare_start = refl
constant_faults-same Static (one_start e) = constant-same e
constant_faults-same Static (list_start es) = constant_all-same es

list-same : (start : Initial) → is_list (unresolved_initial start) ≡ is_list start
list-same bare_start = refl
list-same (one_start e) = refl
list-same (list_start es) = refl

elements-same : (start : Initial) → elements (unresolved_initial start) ≡ elements start
elements-same bare_start = refl
elements-same (one_start e) = refl
elements-same (list_start es) = length-map es unresolved_tree

list_faults-same : (n : ℤ) (start : Initial) (s : Span) → list_faults n (unresolved_initial start) s ≡ list_faults n start s
list_faults-same n start s =
    ap₂ (λ b k. fault_if (b && int_lt n (pos k)) WrongCount s) (list-same start) (elements-same start)

length_faults-same : (shape : Shape) (start : Initial) (s : Span) → length_faults shape (unresolved_initial start) s ≡ length_faults shape start s
length_faults-same ScalarShape start s = list_faults-same (pos 1) start s
length_faults-same (ArrayShape None) start s = ap (λ b. fault_if (not b) BadArrayLength s) (list-same start)
length_faults-same (ArrayShape (Some n)) start s =
    ap (λ more. fault_if (int_lt n (pos 1) || int_lt (pos 1048576) n) BadArrayLength s ++ more) (list_faults-same n start s)

-- scopes with one more declaration
more-same : (d : Declaration) (here around : List Declaration) → slotless d ∷ (map slotless here ++ map slotless around) ≡ map slotless (d ∷ (here ++ around))
more-same d here around = ap (λ ds. slotless d ∷ ds) (sym (map-append slotless here around))

declared_all-same : (ty : Ty) (vs : List Variable) (here : List Declaration) → declared ty (map unresolved_variable vs) (map slotless here) ≡ map slotless (declared ty vs here)
declared_all-same ty [] here = refl
declared_all-same ty (v ∷ vs) here = declared_all-same ty vs (variable_declaration ty v ∷ here)

variables-same : (storage : Storage) (here around : List Declaration) (ty : Ty) (vs : List Variable)
    → variables_faults storage (map slotless here) (map slotless around) ty (map unresolved_variable vs) ≡ variables_faults storage here around ty vs
variables-same storage here around ty [] = refl
variables-same storage here around ty (v ∷ vs) =
    let d = variable_declaration ty v in
    let initials : initial_faults (slotless d ∷ (map slotless here ++ map slotless around)) (unresolved_initial v.start) ≡ initial_faults (d ∷ (here ++ around)) v.start =
    ap (λ ds. initial_faults ds (unresolved_initial v.start)) (more-same d here around) ∙ initial-same (d ∷ (here ++ around)) v.start in
    λ i. (fault_if (declared-same here v.word i) Twice v.span
    ++ (length_faults-same v.shape v.start v.span i ++ (initials i ++ constant_faults-same storage v.start i)))
    ++ variables-same storage (d ∷ here) around ty vs i

first_declared-same : (i : First) → first_declared (unresolved_first i) ≡ map slotless (first_declared i)
first_declared-same no_first = refl
first_declared-same (first_act e) = refl
first_declared-same (first_vars ty vs) = declared_all-same ty vs []

first-same : (ds : List Declaration) (i : First) → first_faults (map slotless ds) (unresolved_first i) ≡ first_faults ds i
first-same ds no_first = refl
first-same ds (first_act e) = ap₂ (λ fs gs. fs ++ gs) (as_void-same ds e) (faults-same ds e)
first-same ds (first_vars ty vs) = variables-same Automatic [] ds ty vs

-- the scope of a `for`
for_scope-same : (i : First) (ds : List Declaration) → first_declared (unresolved_first i) ++ map slotless ds ≡ map slotless (first_declared i ++ ds)
for_scope-same i ds = ap (λ es. es ++ map slotless ds) (first_declared-same i) ∙ sym (map-append slotless (first_declared i) ds)

return-same : (ret : Option Ty) (o : Option Tree) (s : Span) → return_faults ret (unresolved_option o) s ≡ return_faults ret o s
return-same None None s = refl
return-same None (Some e) s = refl
return-same (Some ty) None s = refl
return-same (Some ty) (Some e) s = refl

module _ (ret : Option Ty) where
  mutual
    code-same : (ds : List Declaration) (in_loop : Bool) (c : Code) → code_faults ret (map slotless ds) in_loop (unresolved_code c) ≡ code_faults ret ds in_loop c
    code-same ds in_loop (empty s) = refl
    code-same ds in_loop (act e s) = ap₂ (λ fs gs. fs ++ gs) (as_void-same ds e) (faults-same ds e)
    code-same ds in_loop (block body s) = body-same [] ds in_loop body
    code-same ds in_loop (if_then t a s) = λ i. (as_number-same ds t i ++ faults-same ds t i) ++ code-same ds in_loop a i
    code-same ds in_loop (if_else t a b s) =
        λ i. (as_number-same ds t i ++ faults-same ds t i) ++ (code-same ds in_loop a i ++ code-same ds in_loop b i)
    code-same ds in_loop (while t a s) = λ i. (as_number-same ds t i ++ faults-same ds t i) ++ code-same ds true a i
    code-same ds in_loop (do_while a t s) = λ i. code-same ds true a i ++ (as_number-same ds t i ++ faults-same ds t i)
    code-same ds in_loop (for f t u a s) =
        let all = first_declared f ++ ds in
        let tests : number_option (first_declared (unresolved_first f) ++ map slotless ds) (unresolved_option t) ≡ number_option all t =
        ap (λ es. number_option es (unresolved_option t)) (for_scope-same f ds) ∙ number_option-same all t in
        let steps : void_option (first_declared (unresolved_first f) ++ map slotless ds) (unresolved_option u) ≡ void_option all u =
        ap (λ es. void_option es (unresolved_option u)) (for_scope-same f ds) ∙ void_option-same all u in
        let arms : code_faults ret (first_declared (unresolved_first f) ++ map slotless ds) true (unresolved_code a) ≡ code_faults ret all true a =
        ap (λ es. code_faults ret es true (unresolved_code a)) (for_scope-same f ds) ∙ code-same all true a in
        λ i. (first-same ds f i ++ (tests i ++ steps i)) ++ arms i
    code-same ds in_loop (give e s) = ap₂ (λ fs gs. fs ++ gs) (return-same ret e s) (number_option-same ds e)
    code-same ds in_loop (break s) = refl
    code-same ds in_loop (continue s) = refl

    body-same : (here around : List Declaration) (in_loop : Bool) (b : Body)
        → body_faults ret (map slotless here) (map slotless around) in_loop (unresolved_body b) ≡ body_faults ret here around in_loop b
    body-same here around in_loop done = refl
    body-same here around in_loop (next c rest) =
        let own : code_faults ret (map slotless here ++ map slotless around) in_loop (unresolved_code c) ≡ code_faults ret (here ++ around) in_loop c =
        ap (λ es. code_faults ret es in_loop (unresolved_code c)) (sym (map-append slotless here around)) ∙ code-same (here ++ around) in_loop c in
        ap₂ (λ fs gs. fs ++ gs) own (body-same here around in_loop rest)
    body-same here around in_loop (vars ty vs rest) =
        let more : body_faults ret (declared ty (map unresolved_variable vs) (map slotless here)) (map slotless around) in_loop (unresolved_body rest) ≡ body_faults ret (declared ty vs here) around in_loop rest =
        ap (λ es. body_faults ret es (map slotless around) in_loop (unresolved_body rest)) (declared_all-same ty vs here) ∙ body-same (declared ty vs here) around in_loop rest in
        ap₂ (λ fs gs. fs ++ gs) (variables-same Automatic here around ty vs) more

-- parameters have the same types
types-same : (ps : List Param) → map param_type (map unresolved_param ps) ≡ map param_type ps
types-same [] = refl
types-same (p ∷ ps) = ap (λ ts. param_type p ∷ ts) (types-same ps)

body_there-same : (b : Option Body) → is_some (unresolved_definition b) ≡ is_some b
body_there-same None = refl
body_there-same (Some body) = refl

pub defined-same : (file : List Outer) (w : List ℕ) → is_defined (unresolved file) w ≡ is_defined file w
defined-same [] w = refl
defined-same (outer_vars ty vs ∷ rest) w = defined-same rest w
defined-same (outer_func f ∷ rest) w =
    ap₂ (λ a b. (a && bytes_eq f.word w) || b) (body_there-same f.body) (defined-same rest w)

-- the declaration of a function has no slot
pub function_declaration-same : (file : List Outer) (f : Function) → function_declaration (unresolved file) (unresolved_function f) ≡ function_declaration file f
function_declaration-same file f =
    λ i. record {
      word = f.word;
      entity = FunctionEntity f.ret (types-same f.params i) (body_there-same f.body i) (is_declared library f.word || defined-same file f.word i);
    }

params_declared-same : (ps : List Param) (here : List Declaration) → params_declared (map unresolved_param ps) (map slotless here) ≡ map slotless (params_declared ps here)
params_declared-same [] here = refl
params_declared-same (p ∷ ps) here = params_declared-same ps (param_declaration p ∷ here)

params-same : (here : List Declaration) (ps : List Param) → params_faults (map slotless here) (map unresolved_param ps) ≡ params_faults here ps
params-same here [] = refl
params-same here (p ∷ ps) =
    λ i. fault_if (declared-same here p.word i) Twice p.span ++ params-same (param_declaration p ∷ here) ps i

redeclared-same : (e : Entity) (f : Function) → redeclared_faults (plain e) (unresolved_function f) ≡ redeclared_faults e f
redeclared-same (VariableEntity slot ty array) f = refl
redeclared-same (FunctionEntity ret params body defined) f =
    λ i. fault_if (body && body_there-same f.body i) Twice f.span
    ++ (fault_if (not (same_result ret f.ret && same_params params (types-same f.params i))) WrongKind f.span
    ++ fault_if (not (nat_eq (length params) (length-map f.params unresolved_param i))) WrongCount f.span)
redeclared-same (Library ret params) f = refl
redeclared-same Printf f = refl
redeclared-same Scanf f = refl

name-same : (here : List Declaration) (f : Function) → name_faults (map slotless here) (unresolved_function f) ≡ name_faults here f
name-same [] f = refl
name-same (d ∷ ds) f =
    λ i. (if bytes_eq d.word f.word then redeclared-same d.entity f i else []) ++ name-same ds f i

definition-same : (ret : Option Ty) (here around : List Declaration) (b : Option Body)
    → definition_faults ret (map slotless here) (map slotless around) (unresolved_definition b) ≡ definition_faults ret here around b
definition-same ret here around None = refl
definition-same ret here around (Some body) = body-same ret here around false body

module _ (file : List Outer) where
  -- the function's own name
  own-same : (f : Function) (here : List Declaration) → function_declaration (unresolved file) (unresolved_function f) ∷ map slotless here ≡ map slotless (function_declaration file f ∷ here)
  own-same f here = ap (λ d. d ∷ map slotless here) (function_declaration-same file f)

  function-same : (here : List Declaration) (f : Function) → function_faults (unresolved file) (map slotless here) (unresolved_function f) ≡ function_faults file here f
  function-same here f =
      let bodies : definition_faults f.ret (params_declared (map unresolved_param f.params) []) (function_declaration (unresolved file) (unresolved_function f) ∷ map slotless here) (unresolved_definition f.body)
      ≡ definition_faults f.ret (params_declared f.params []) (function_declaration file f ∷ here) f.body =
      ap₂ (λ hs os. definition_faults f.ret hs os (unresolved_definition f.body)) (params_declared-same f.params []) (own-same f here)
      ∙ definition-same f.ret (params_declared f.params []) (function_declaration file f ∷ here) f.body in
      λ i. name-same here f i ++ (params-same [] f.params i ++ bodies i)

  outers-same : (here : List Declaration) (p : List Outer) → outers_faults (unresolved file) (map slotless here) (unresolved p) ≡ outers_faults file here p
  outers-same here [] = refl
  outers-same here (outer_vars ty vs ∷ rest) =
      let more : outers_faults (unresolved file) (declared ty (map unresolved_variable vs) (map slotless here)) (unresolved rest) ≡ outers_faults file (declared ty vs here) rest =
      ap (λ hs. outers_faults (unresolved file) hs (unresolved rest)) (declared_all-same ty vs here) ∙ outers-same (declared ty vs here) rest in
      ap₂ (λ fs gs. fs ++ gs) (variables-same Static here [] ty vs) more
  outers-same here (outer_func f ∷ rest) =
      let more : outers_faults (unresolved file) (function_declaration (unresolved file) (unresolved_function f) ∷ map slotless here) (unresolved rest) ≡ outers_faults file (function_declaration file f ∷ here) rest =
      ap (λ hs. outers_faults (unresolved file) hs (unresolved rest)) (own-same f here) ∙ outers-same (function_declaration file f ∷ here) rest in
      ap₂ (λ fs gs. fs ++ gs) (function-same here f) more

no_params-same : (ps : List Param) → has_no_params (map unresolved_param ps) ≡ has_no_params ps
no_params-same [] = refl
no_params-same (p ∷ ps) = refl

is_main-same : (f : Function) → is_main (unresolved_function f) ≡ is_main f
is_main-same f =
    λ i. bytes_eq f.word (codes "main") && (same_result f.ret (Some Int) && (no_params-same f.params i && body_there-same f.body i))

main-same : (p : List Outer) → has_main (unresolved p) ≡ has_main p
main-same [] = refl
main-same (outer_vars ty vs ∷ rest) = main-same rest
main-same (outer_func f ∷ rest) = ap₂ (λ a b. a || b) (is_main-same f) (main-same rest)

-- the faults of a program are those of the program without its slots
pub program-same : (p : List Outer) (end : ℕ) → program_faults (unresolved p) end ≡ program_faults p end
program-same p end =
    ap₂ (λ fs b. fs ++ fault_if (not b) NoMain (record { from = end; to = end })) (outers-same p library p) (main-same p)
