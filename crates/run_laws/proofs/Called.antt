-- What a call without a fault is: one of a function that is there, with the arguments that it takes.
use Rattle.std.proofs.Common.{◌≡◌, ℕ, zero, suc, ◌+◌, ◌≤◌, ◌<◌, Bool, true, false, not, ◌&&◌, cond, nat_eq, nat_le, List, [], ◌∷◌, ◌++◌, map, length, codes, Option, Some, None, is_some, slice_get, refl, sym, ap, ◌∙◌, subst, arith, ◌⊎◌, inl, inr}
use Rattle.std.specs.Prelude.{⊤, All, option_map, is_none, unwrap_or}
use Rattle.std.specs.Str.{bytes_eq}
use Rattle.std.proofs.lemmas.List.Elements.{All-head, All-tail}
use Rattle.std.proofs.lemmas.Option.{slice_get-map}
use Rattle.std.proofs.lemmas.Bool.Decides.{nat_tests}
use Rattle.std.proofs.lemmas.Slice.Eq.{bytes_eq-Decides}
use Rattle.c_tree.specs.declared.place.Span.{Span}
use Rattle.c_tree.specs.declared.program.Param.{Param}
use Rattle.c_tree.specs.declared.stmt.Slot.{Slot}
use Rattle.c_tree.specs.declared.stmt.Ty.{Ty}
use Rattle.c_tree.specs.declared.stmt.Ty.TheVariants.{Int, Char}
use Rattle.c_tree.specs.Parts.{span_of}
use Rattle.c_tree.specs.Tree.{Tree, constant, name, index, call, unary, cast, binary, choice, assign, bump, comma, hole, hole_after, Args, no_args, value, format, address, Body, Function, Outer, outer_vars, outer_func}
use Rattle.c_types.specs.declared.fault.FaultKind.{FaultKind}
use Rattle.c_types.specs.declared.fault.FaultKind.TheVariants.{Unknown, WrongKind, WrongCount, BadFormat}
use Rattle.c_types.specs.declared.kinds.Kind.{Kind}
use Rattle.c_types.specs.declared.kinds.Kind.TheVariants.{Number, Array, Function as Callable, Void}
use Rattle.c_types.specs.declared.kinds.Wanted.{Wanted}
use Rattle.c_types.specs.declared.kinds.Wanted.TheVariants.{Anything, Scalar, ArrayOf, PrintfFormat, ScanfFormat, IntAddress}
use Rattle.c_types.specs.declared.scope.Declaration.{Declaration}
use Rattle.c_types.specs.declared.scope.Entity.{Entity}
use Rattle.c_types.specs.declared.scope.Entity.TheVariants.{Variable as VariableEntity, Function as FunctionEntity, Library, Printf, Scanf}
use Rattle.c_types.specs.declared.scope.ParamType.{ParamType}
use Rattle.c_types.specs.Arguments.{number_faults, array_faults, args_count, no_format, miscounts, formatted_faults, is_int, converted, wanted_by, wanted, value_faults, format_faults, stores_int, address_faults, call_faults}
use Rattle.c_types.specs.Expressions.{index_faults, void_faults, as_number, faults, args_faults}
use Rattle.c_types.specs.Formats.{conversions, scan_conversions}
use Rattle.c_types.specs.Kinds.{same_ty, kind, named, called}
use Rattle.c_types.specs.Least.{fault, fault_if}
use Rattle.c_types.specs.Library.{int_param, library}
use Rattle.c_types.specs.Programs.{param_type}
use Rattle.c_types.specs.Scopes.{denoted}
use Rattle.c_types.specs.Slots.{entity_slot, resolved_tree, resolved_args}
use Rattle.c_types.proofs.Checked.{none_left, none_right, no_fault}
use Rattle.c_meaning.specs.Meaning.{definition, is_defined, params_of, takes_array, rest_of}
use Rattle.run_laws.specs.Holes.{Names}
use Rattle.run_laws.specs.Reads.{GivesValue}
use Rattle.run_laws.specs.Places.{AgreesWith, Agrees, IsThereAs, IsThere}
use Rattle.run_laws.specs.Passing.{IsArrayName}
use Rattle.run_laws.proofs.Well.{first_ty, IsIntPlace, AllValues, IsCall}

-- a fault is one
pub no_such : {A : Type 0} (kind : FaultKind) (s : Span) → fault kind s ≡ [] → A
unfolding fault
no_such kind s h = absurd (cc)

pub some_same : {A : Type 0} {x y : A} → Some x ≡ Some y → x ≡ y
some_same h = cc

-- ---- arrays as arguments

-- the name of an array has the kind of its elements
pub named_array : (o : Option Entity) (ty : Ty) → named o ≡ Array ty → o ≡ Some (VariableEntity (entity_slot o) ty true)
named_array None ty h = absurd (cc)
named_array (Some (VariableEntity slot tz true)) ty h = let same : tz ≡ ty = cc in ap (λ t. Some (VariableEntity slot t true)) same
named_array (Some (VariableEntity slot tz false)) ty h = absurd (cc)
named_array (Some (FunctionEntity ret params body defined)) ty h = absurd (cc)
named_array (Some (Library ret params)) ty h = absurd (cc)
named_array (Some Printf) ty h = absurd (cc)
named_array (Some Scanf) ty h = absurd (cc)

pub called_array : {A : Type 0} (o : Option Entity) (ty : Ty) → called o ≡ Array ty → A
called_array None ty h = absurd (cc)
called_array (Some (VariableEntity slot tz array)) ty h = absurd (cc)
called_array (Some (FunctionEntity None params body defined)) ty h = absurd (cc)
called_array (Some (FunctionEntity (Some r) params body defined)) ty h = absurd (cc)
called_array (Some (Library None params)) ty h = absurd (cc)
called_array (Some (Library (Some r) params)) ty h = absurd (cc)
called_array (Some Printf) ty h = absurd (cc)
called_array (Some Scanf) ty h = absurd (cc)

-- so an expression of such a kind is the name of an array
pub array_name : (ds : Names) (e : Tree) (ty : Ty) → kind ds (resolved_tree ds e) ≡ Array ty → IsArrayName ds ty (resolved_tree ds e)
array_name ds (name word slot s) ty h = named_array (denoted ds word) ty h
array_name ds (call word args s) ty h = called_array (denoted ds word) ty h
array_name ds (constant n word s) ty h = absurd (cc)
array_name ds (index word slot e s) ty h = absurd (cc)
array_name ds (unary o e s) ty h = absurd (cc)
array_name ds (cast tz e s) ty h = absurd (cc)
array_name ds (binary o l r s) ty h = absurd (cc)
array_name ds (choice t a b s) ty h = absurd (cc)
array_name ds (assign o place e s) ty h = absurd (cc)
array_name ds (bump pre up place s) ty h = absurd (cc)
array_name ds (comma l r s) ty h = absurd (cc)
array_name ds hole ty h = absurd (cc)
array_name ds (hole_after e) ty h = absurd (cc)

pub same_types : (a b : Ty) → same_ty a b ≡ true → a ≡ b
same_types Int Int h = refl
same_types Char Char h = refl
same_types Int Char h = absurd (cc)
same_types Char Int h = absurd (cc)

pub not_true : (b : Bool) → not b ≡ false → b ≡ true
not_true true h = refl
not_true false h = absurd (cc)

-- where an array is wanted, an expression of that kind stands
pub array_kind : (k : Kind) (ty : Ty) (s : Span) → array_faults k ty s ≡ [] → k ≡ Array ty
array_kind Number ty s h = no_such WrongKind s h
array_kind (Array other) ty s h = ap (λ t. Array t) (same_types other ty (not_true (same_ty other ty) (no_fault (not (same_ty other ty)) WrongKind s h)))
array_kind Callable ty s h = no_such WrongKind s h
array_kind Void ty s h = no_such WrongKind s h

-- a number is evaluated
pub number_void : (k : Kind) (s : Span) → number_faults k s ≡ [] → void_faults k s ≡ []
number_void Number s h = refl
number_void (Array ty) s h = h
number_void Callable s h = h
number_void Void s h = refl

pub evaluated : (wanted : Bool) (k : Kind) (s : Span) → cond wanted (number_faults k s) (void_faults k s) ≡ [] → void_faults k s ≡ []
evaluated true k s h = number_void k s h
evaluated false k s h = h

-- a name that is evaluated is one of a number
pub scalar_name : (o : Option Entity) (s : Span) → void_faults (named o) s ≡ [] → fault_if (is_none o) Unknown s ≡ [] → (slot : Slot) × (ty : Ty) × (o ≡ Some (VariableEntity slot ty false))
scalar_name None s h k = no_such Unknown s k
scalar_name (Some (VariableEntity slot ty true)) s h k = no_such WrongKind s h
scalar_name (Some (VariableEntity slot ty false)) s h k = (slot, ty, refl)
scalar_name (Some (FunctionEntity ret params body defined)) s h k = no_such WrongKind s h
scalar_name (Some (Library ret params)) s h k = no_such WrongKind s h
scalar_name (Some Printf) s h k = no_such WrongKind s h
scalar_name (Some Scanf) s h k = no_such WrongKind s h

-- and one of which an element is meant is one of an array
pub array_word : (o : Option Entity) (s : Span) → index_faults o s ≡ [] → (slot : Slot) × (ty : Ty) × (o ≡ Some (VariableEntity slot ty true))
array_word None s h = no_such Unknown s h
array_word (Some (VariableEntity slot ty true)) s h = (slot, ty, refl)
array_word (Some (VariableEntity slot ty false)) s h = no_such WrongKind s h
array_word (Some (FunctionEntity ret params body defined)) s h = no_such WrongKind s h
array_word (Some (Library ret params)) s h = no_such WrongKind s h
array_word (Some Printf) s h = no_such WrongKind s h
array_word (Some Scanf) s h = no_such WrongKind s h

-- an `int` has its slot
pub int_entity : (o : Option Entity) (array : Bool) → is_int o array ≡ true → o ≡ Some (VariableEntity (entity_slot o) Int array)
int_entity None array h = absurd (cc)
int_entity (Some (VariableEntity slot Int true)) true h = refl
int_entity (Some (VariableEntity slot Int true)) false h = absurd (cc)
int_entity (Some (VariableEntity slot Int false)) true h = absurd (cc)
int_entity (Some (VariableEntity slot Int false)) false h = refl
int_entity (Some (VariableEntity slot Char array)) b h = absurd (cc)
int_entity (Some (FunctionEntity ret params body defined)) array h = absurd (cc)
int_entity (Some (Library ret params)) array h = absurd (cc)
int_entity (Some Printf) array h = absurd (cc)
int_entity (Some Scanf) array h = absurd (cc)

-- what `scanf` can store into is a place of an `int`, and no array
pub int_place : (ds : Names) (e : Tree) → stores_int ds (resolved_tree ds e) ≡ true → IsIntPlace ds (resolved_tree ds e) × (as_number ds (resolved_tree ds e) ≡ [])
int_place ds (name word slot s) h =
    let is : denoted ds word ≡ Some (VariableEntity (entity_slot (denoted ds word)) Int false) = int_entity (denoted ds word) false h in (
      record { word = word; slot = entity_slot (denoted ds word); denotes = is; is_slot = refl; single = λ i zero_is plain. zero_is },
      ap (λ (o : Option Entity). number_faults (named o) s) is,
    )
int_place ds (index word slot e s) h = (
  record { word = word; slot = entity_slot (denoted ds word); denotes = int_entity (denoted ds word) true h; is_slot = refl; single = λ i any plain. absurd (cc) },
  refl,
)
int_place ds (constant n word s) h = absurd (cc)
int_place ds (call word args s) h = absurd (cc)
int_place ds (unary o e s) h = absurd (cc)
int_place ds (cast ty e s) h = absurd (cc)
int_place ds (binary o l r s) h = absurd (cc)
int_place ds (choice t a b s) h = absurd (cc)
int_place ds (assign o place e s) h = absurd (cc)
int_place ds (bump pre up place s) h = absurd (cc)
int_place ds (comma l r s) h = absurd (cc)
int_place ds hole h = absurd (cc)
int_place ds (hole_after e) h = absurd (cc)

-- ---- the functions that names denote

-- a declaration agrees with the definition of its name, and what is called by it is there, where that is known
abbrev pub Stands : List Outer → Type 0 → Declaration → Type 0
Stands program there d = Agrees program d × (there → IsThere program d)

abbrev pub AllStand : List Outer → Type 0 → List Declaration → Type 0
AllStand program there ds = All (Stands program there) ds

-- so it is with what a word denotes
abbrev pub Denotes : List Outer → Type 0 → List ℕ → Entity → Type 0
Denotes program there word e = ((f : Function) → definition word program ≡ Some f → AgreesWith f e) × (there → IsThereAs program word e)

pub stands_denoted : (program : List Outer) (there : Type 0) (ds : List Declaration) (word : List ℕ) (e : Entity) → AllStand program there ds → denoted ds word ≡ Some e → Denotes program there word e
stands_denoted program there [] word e h is = absurd (cc)
stands_denoted program there (d ∷ ds) word e h is =
    by_test (bytes_eq d.word word) refl (λ k. stands_denoted program there ds word e (All-tail (Stands program there) d ds h) k) is
  where
    own : Stands program there d
    own = All-head (Stands program there) d ds h

    by_test : (b : Bool) → bytes_eq d.word word ≡ b → (denoted ds word ≡ Some e → Denotes program there word e) → cond b (Some d.entity) (denoted ds word) ≡ Some e → Denotes program there word e
    by_test true t rest k = subst (λ (x : Entity). Denotes program there word x) (some_same k) (
      (λ f found. own.0 word f t found),
      (λ sure. subst (λ (z : List ℕ). IsThereAs program z d.entity) ((bytes_eq-Decides d.word word).0 t) (own.1 sure)),
    )
    by_test false t rest k = rest k

-- what is wanted for a parameter
abbrev pub wanted_for : Param → Wanted
wanted_for p = cond p.array (ArrayOf p.ty) Scalar

-- from argument number i on, what is wanted is what the parameters take
abbrev pub WantsEach : (ℕ → Wanted) → ℕ → List Param → Type 0
WantsEach want i ps = (k : ℕ) (p : Param) → slice_get ps k ≡ Some p → want (i + k) ≡ wanted_for p

pub wants_none : (m : ℕ → Wanted) (i : ℕ) → WantsEach m i []
wants_none m i k p h = absurd (cc)

pub wants_rest : (m : ℕ → Wanted) (i : ℕ) (ps : List Param) → WantsEach m i ps → WantsEach m (suc i) (rest_of ps)
wants_rest m i [] h k q g = wants_none m (suc i) k q g
wants_rest m i (p ∷ ps) h k q g =
    let same : i + suc k ≡ suc i + k = omega arith in subst (λ (n : ℕ). m n ≡ wanted_for q) same (h (suc k) q g)

pub wants_head : (m : ℕ → Wanted) (i : ℕ) (p : Param) (ps : List Param) → WantsEach m i (p ∷ ps) → m i ≡ wanted_for p
wants_head m i p ps h = let same : i + 0 ≡ i = omega arith in subst (λ (n : ℕ). m n ≡ wanted_for p) same (h 0 p refl)

pub wants_first : (m : ℕ → Wanted) (i : ℕ) (ps : List Param) → WantsEach m i ps → takes_array ps ≡ true → m i ≡ ArrayOf (first_ty ps)
wants_first m i [] h a = absurd (cc)
wants_first m i (p ∷ ps) h a = wants_head m i p ps h ∙ ap (λ (b : Bool). cond b (ArrayOf p.ty) Scalar) a

pub wanted_param : (params : List ParamType) (ps : List Param) (k : ℕ) (p : Param) → params ≡ map param_type ps → slice_get ps k ≡ Some p → wanted_by (slice_get params k) ≡ wanted_for p
wanted_param params ps k p same got =
    ap (λ (xs : List ParamType). wanted_by (slice_get xs k)) same
    ∙ ap wanted_by (slice_get-map param_type ps k)
    ∙ ap (λ (o : Option Param). wanted_by (option_map param_type o)) got

pub wants_of : (n : ℕ) (m : Option Entity) (args : Args) (s : Span) (f : Function) → call_faults m args s ≡ [] → ((e : Entity) → m ≡ Some e → AgreesWith f e) → WantsEach (wanted m n) 0 f.params
wants_of n None args s f h agree = no_such Unknown s h
wants_of n (Some (VariableEntity slot ty array)) args s f h agree = no_such WrongKind s h
wants_of n (Some (FunctionEntity ret params body defined)) args s f h agree = λ k p got. wanted_at params f k p (agree _ refl) got
  where
    wanted_at : (params : List ParamType) (f : Function) (k : ℕ) (p : Param) → params ≡ map param_type f.params → slice_get f.params k ≡ Some p → wanted_by (slice_get params (0 + k)) ≡ wanted_for p
    wanted_at params f k p same got = let zero_k : k ≡ 0 + k = omega arith in subst (λ (n : ℕ). wanted_by (slice_get params n) ≡ wanted_for p) zero_k (wanted_param params f.params k p same got)
wants_of n (Some (Library ret params)) args s f h agree = absurd (agree _ refl)
wants_of n (Some Printf) args s f h agree = absurd (agree _ refl)
wants_of n (Some Scanf) args s f h agree = absurd (agree _ refl)

-- from argument number i on, a number is wanted where no array is taken
abbrev pub Fits : (ℕ → Wanted) → ℕ → List Param → Args → Type 0
Fits want i ps no_args = ⊤
Fits want i ps (value e rest) = (takes_array ps ≡ false → want i ≡ Scalar) × Fits want (suc i) (rest_of ps) rest
Fits want i ps (format text s rest) = Fits want (suc i) (rest_of ps) rest
Fits want i ps (address e rest) = Fits want (suc i) (rest_of ps) rest

-- ---- what is given in a call

pub nat_equal : (a b : ℕ) → nat_eq a b ≡ true → a ≡ b
nat_equal a b h = grind (arith, nat_tests)

pub nat_other : (a b : ℕ) → a < b → nat_eq b a ≡ false
nat_other a b h = grind (arith, nat_tests)

pub nat_within : (a b : ℕ) → a ≤ b → nat_le a b ≡ true
nat_within a b h = grind (arith, nat_tests)

pub length-map : {X Y : Type 0} (f : X → Y) (xs : List X) → length (map f xs) ≡ length xs
length-map f [] = refl
length-map f (x ∷ xs) = ap suc (length-map f xs)

-- neither a format nor a place is wanted
abbrev pub Plain : Wanted → Type 0
Plain Anything = ⊤
Plain Scalar = ⊤
Plain (ArrayOf ty) = ⊤
Plain PrintfFormat = ⊥
Plain ScanfFormat = ⊥
Plain IntAddress = ⊥

pub plain_format : {A : Type 0} (w : Wanted) (text : List ℕ) (s : Span) → Plain w → format_faults w text s ≡ [] → A
plain_format Anything text s p h = no_such BadFormat s h
plain_format Scalar text s p h = no_such BadFormat s h
plain_format (ArrayOf ty) text s p h = no_such WrongKind s (none_left _ _ h)
plain_format PrintfFormat text s p h = absurd p
plain_format ScanfFormat text s p h = absurd p
plain_format IntAddress text s p h = absurd p

pub plain_address : {A : Type 0} (w : Wanted) (ds : List Declaration) (e : Tree) → Plain w → address_faults w ds e ≡ [] → A
plain_address Anything ds e p h = no_such WrongKind (span_of e) (none_left _ _ h)
plain_address Scalar ds e p h = no_such WrongKind (span_of e) (none_left _ _ h)
plain_address (ArrayOf ty) ds e p h = no_such WrongKind (span_of e) (none_left _ _ h)
plain_address PrintfFormat ds e p h = absurd p
plain_address ScanfFormat ds e p h = absurd p
plain_address IntAddress ds e p h = absurd p

-- so each argument is a value
pub plain_values : (ds : List Declaration) (m : ℕ → Wanted) (i : ℕ) (args : Args) → ((k : ℕ) → i ≤ k → Plain (m k)) → args_faults ds m i args ≡ [] → AllValues (args_count args) args
plain_values ds m i no_args p h = tt
plain_values ds m i (value e rest) p h = plain_values ds m (suc i) rest (λ k le. p k (omega arith)) (none_right (value_faults (m i) (kind ds e) (span_of e) ++ faults ds e) _ h)
plain_values ds m i (format text s rest) p h = plain_format (m i) text s (p i (omega arith)) (none_left _ _ h)
plain_values ds m i (address e rest) p h = plain_address (m i) ds e (p i (omega arith)) (none_left _ _ (none_left (address_faults (m i) ds e ++ faults ds e) _ h))

pub values_formatless : (n : ℕ) (args : Args) → AllValues n args → no_format args ≡ true
values_formatless zero no_args h = refl
values_formatless zero (value e rest) h = absurd h
values_formatless zero (format text s rest) h = absurd h
values_formatless zero (address e rest) h = absurd h
values_formatless (suc n) no_args h = absurd h
values_formatless (suc n) (value e rest) h = values_formatless n rest h
values_formatless (suc n) (format text s rest) h = absurd h
values_formatless (suc n) (address e rest) h = absurd h

-- a number is wanted as each of them
pub scalars_fit : (m : ℕ → Wanted) (i n : ℕ) (args : Args) → ((k : ℕ) → k < n → m (i + k) ≡ Scalar) → AllValues n args → Fits m i [] args
scalars_fit m i zero no_args w h = tt
scalars_fit m i zero (value e rest) w h = absurd h
scalars_fit m i zero (format text s rest) w h = absurd h
scalars_fit m i zero (address e rest) w h = absurd h
scalars_fit m i (suc n) no_args w h = absurd h
scalars_fit m i (suc n) (value e rest) w h =
    let first : i + 0 ≡ i = omega arith in (
      (λ a. subst (λ (z : ℕ). m z ≡ Scalar) first (w 0 (omega arith))),
      scalars_fit m (suc i) n rest (λ k lt. let same : i + suc k ≡ suc i + k = omega arith in subst (λ (z : ℕ). m z ≡ Scalar) same (w (suc k) (omega arith))) h,
    )
scalars_fit m i (suc n) (format text s rest) w h = absurd h
scalars_fit m i (suc n) (address e rest) w h = absurd h

-- what each parameter takes is wanted
pub each_fits : (m : ℕ → Wanted) (i : ℕ) (ps : List Param) (args : Args) → WantsEach m i ps → AllValues (length ps) args → Fits m i ps args
each_fits m i [] no_args w h = tt
each_fits m i [] (value e rest) w h = absurd h
each_fits m i [] (format text s rest) w h = absurd h
each_fits m i [] (address e rest) w h = absurd h
each_fits m i (p ∷ ps) no_args w h = absurd h
each_fits m i (p ∷ ps) (value e rest) w h =
    ((λ a. wants_head m i p ps w ∙ ap (λ (b : Bool). cond b (ArrayOf p.ty) Scalar) a), each_fits m (suc i) ps rest (wants_rest m i (p ∷ ps) w) h)
each_fits m i (p ∷ ps) (format text s rest) w h = absurd h
each_fits m i (p ∷ ps) (address e rest) w h = absurd h

pub plain_flag : (b : Bool) (ty : Ty) → Plain (cond b (ArrayOf ty) Scalar)
plain_flag true ty = tt
plain_flag false ty = tt

pub wanted_plain : (o : Option ParamType) → Plain (wanted_by o)
wanted_plain None = tt
wanted_plain (Some p) = plain_flag p.array p.ty

-- ---- definitions

pub option_there : (o : Option Function) → is_some o ≡ true → (f : Function) × (o ≡ Some f)
option_there None h = absurd (cc)
option_there (Some f) h = (f, refl)

pub no_definition : (o : Option Function) → ((f : Function) → o ≡ Some f → ⊥) → o ≡ None
no_definition None h = refl
no_definition (Some f) h = absurd (h f refl)

pub body_there : (o : Option Body) → is_defined o ≡ true → (body : Body) × (o ≡ Some body)
body_there None h = absurd (cc)
body_there (Some body) h = (body, refl)

pub and_left : (a b : Bool) → (a && b) ≡ true → a ≡ true
and_left true b h = refl
and_left false b h = absurd (cc)

pub and_right : (a b : Bool) → (a && b) ≡ true → b ≡ true
and_right true b h = h
and_right false b h = absurd (cc)

-- a definition has a body
pub definition_body : (word : List ℕ) (q : List Outer) (f : Function) → definition word q ≡ Some f → (body : Body) × (f.body ≡ Some body)
definition_body word [] f h = absurd (cc)
definition_body word (outer_vars ty vs ∷ q) f h = definition_body word q f h
definition_body word (outer_func g ∷ q) f h = by_test (bytes_eq g.word word && is_defined g.body) refl (definition_body word q f) h
  where
    by_test : (b : Bool) → (bytes_eq g.word word && is_defined g.body) ≡ b → (definition word q ≡ Some f → (body : Body) × (f.body ≡ Some body)) → cond b (Some g) (definition word q) ≡ Some f → (body : Body) × (f.body ≡ Some body)
    by_test true t rest k =
        let there = body_there g.body (and_right (bytes_eq g.word word) _ t) in (there.0, ap (λ (z : Function). z.body) (sym (some_same k)) ∙ there.1)
    by_test false t rest k = rest k

-- and the word that is looked for
pub definition_word : (word : List ℕ) (q : List Outer) (f : Function) → definition word q ≡ Some f → bytes_eq f.word word ≡ true
definition_word word [] f h = absurd (cc)
definition_word word (outer_vars ty vs ∷ q) f h = definition_word word q f h
definition_word word (outer_func g ∷ q) f h = by_test (bytes_eq g.word word && is_defined g.body) refl (definition_word word q f) h
  where
    by_test : (b : Bool) → (bytes_eq g.word word && is_defined g.body) ≡ b → (definition word q ≡ Some f → bytes_eq f.word word ≡ true) → cond b (Some g) (definition word q) ≡ Some f → bytes_eq f.word word ≡ true
    by_test true t rest k = ap (λ (z : Function). bytes_eq z.word word) (sym (some_same k)) ∙ and_left (bytes_eq g.word word) _ t
    by_test false t rest k = rest k

-- ---- the words of the library

abbrev pub Among : Declaration → List Declaration → Type 0
Among d [] = ⊥
Among d (x ∷ xs) = (x ≡ d) ⊎ Among d xs

-- a word that denotes something has a declaration
pub record IsDeclared (ds : List Declaration) (word : List ℕ) (e : Entity) : Type 0 where
  pub declaration : Declaration
  pub among : Among declaration ds
  pub word_is : declaration.word ≡ word
  pub entity_is : declaration.entity ≡ e

pub denoted_among : (ds : List Declaration) (word : List ℕ) (e : Entity) → denoted ds word ≡ Some e → IsDeclared ds word e
denoted_among [] word e h = absurd (cc)
denoted_among (d ∷ ds) word e h = by_test (bytes_eq d.word word) refl (denoted_among ds word e) h
  where
    by_test : (b : Bool) → bytes_eq d.word word ≡ b → (denoted ds word ≡ Some e → IsDeclared ds word e) → cond b (Some d.entity) (denoted ds word) ≡ Some e → IsDeclared (d ∷ ds) word e
    by_test true t rest k = record { declaration = d; among = inl refl; word_is = (bytes_eq-Decides d.word word).0 t; entity_is = some_same k }
    by_test false t rest k =
        let more = rest k in record { declaration = more.declaration; among = inr more.among; word_is = more.word_is; entity_is = more.entity_is }

pub data LibraryWord : List ℕ → Entity → Type 0 where
  getchar : LibraryWord (codes "getchar") (Library (Some Int) [])
  putchar : LibraryWord (codes "putchar") (Library (Some Int) (int_param ∷ []))
  printf : LibraryWord (codes "printf") Printf
  scanf : LibraryWord (codes "scanf") Scanf
  exit : LibraryWord (codes "exit") (Library None (int_param ∷ []))
  abs : LibraryWord (codes "abs") (Library (Some Int) (int_param ∷ []))

abbrev pub WordOf : Declaration → Type 0
WordOf d = LibraryWord d.word d.entity

pub word_of : (d : Declaration) → Among d library → WordOf d
word_of d (inl e) = subst WordOf e LibraryWord.getchar
word_of d (inr (inl e)) = subst WordOf e LibraryWord.putchar
word_of d (inr (inr (inl e))) = subst WordOf e LibraryWord.printf
word_of d (inr (inr (inr (inl e)))) = subst WordOf e LibraryWord.scanf
word_of d (inr (inr (inr (inr (inl e))))) = subst WordOf e LibraryWord.exit
word_of d (inr (inr (inr (inr (inr (inl e)))))) = subst WordOf e LibraryWord.abs
word_of d (inr (inr (inr (inr (inr (inr h)))))) = absurd h

pub library_word : (word : List ℕ) (e : Entity) → denoted library word ≡ Some e → LibraryWord word e
library_word word e h =
    let is = denoted_among library word e h in
    subst (λ (z : List ℕ). LibraryWord z e) is.word_is (subst (λ (z : Entity). LibraryWord is.declaration.word z) is.entity_is (word_of is.declaration is.among))

-- ---- calls

-- a call without a fault is one that can be made, and where no array is taken a number is wanted
abbrev pub Made : List Outer → List Declaration → Option Entity → List ℕ → Args → Type 0
Made program ds o word args = IsCall program ds word args × Fits (wanted o (converted args)) 0 (params_of (definition word program)) args

-- no argument, and one
pub getchar_call : (program : List Outer) (ds : List Declaration) (args : Args) → AllValues 0 args → IsCall program ds (codes "getchar") args
getchar_call program ds no_args h = IsCall.getchar
getchar_call program ds (value e rest) h = absurd h
getchar_call program ds (format text s rest) h = absurd h
getchar_call program ds (address e rest) h = absurd h

pub one_call : (program : List Outer) (ds : List Declaration) (word : List ℕ) (args : Args) → AllValues 1 args → ((e : Tree) → IsCall program ds word (value e no_args)) → IsCall program ds word args
one_call program ds word no_args h make = absurd h
one_call program ds word (value e no_args) h make = make e
one_call program ds word (value e (value a rest)) h make = absurd h
one_call program ds word (value e (format text s rest)) h make = absurd h
one_call program ds word (value e (address a rest)) h make = absurd h
one_call program ds word (format text s rest) h make = absurd h
one_call program ds word (address e rest) h make = absurd h

-- as many values as parameters
pub library_values : (ds : List Declaration) (ret : Option Ty) (params : List ParamType) (args : Args) (s : Span) → call_faults (Some (Library ret params)) args s ≡ [] → args_faults ds (wanted (Some (Library ret params)) (converted args)) 0 args ≡ []
    → AllValues (length params) args
library_values ds ret params args s h g =
    let count = nat_equal (length params) (args_count args) (not_true (nat_eq (length params) (args_count args)) (no_fault (not (nat_eq (length params) (args_count args))) WrongCount s h)) in
    subst (λ (n : ℕ). AllValues n args) (sym count) (plain_values ds (wanted (Some (Library ret params)) (converted args)) 0 args (λ k le. wanted_plain (slice_get params k)) g)

pub number_made : (program : List Outer) (ds : List Declaration) (word : List ℕ) (ret : Option Ty) (args : Args) (s : Span) → definition word program ≡ None → ((e : Tree) → IsCall program ds word (value e no_args))
    → call_faults (Some (Library ret (int_param ∷ []))) args s ≡ [] → args_faults ds (wanted (Some (Library ret (int_param ∷ []))) (converted args)) 0 args ≡ [] → Made program ds (Some (Library ret (int_param ∷ []))) word args
number_made program ds word ret args s none make h g =
    let all = library_values ds ret (int_param ∷ []) args s h g in
    let m = wanted (Some (Library ret (int_param ∷ []))) (converted args) in (
      one_call program ds word args all make,
      subst (λ (o : Option Function). Fits m 0 (params_of o) args) (sym none) (scalars_fit m 0 1 args first all),
    )
  where
    first : (k : ℕ) → k < 1 → wanted (Some (Library ret (int_param ∷ []))) (converted args) (0 + k) ≡ Scalar
    first zero lt = refl
    first (suc k) lt = absurd (omega arith)

-- after its format `printf` wants numbers
pub printf_wants : (n k : ℕ) → 1 ≤ k → wanted (Some Printf) n k ≡ cond (nat_le k n) Scalar Anything
printf_wants n k le = ap (λ (b : Bool). cond b PrintfFormat (cond (nat_le k n) Scalar Anything)) (nat_other 0 k (omega arith))

pub plain_number : (b : Bool) → Plain (cond b Scalar Anything)
plain_number true = tt
plain_number false = tt

pub printf_made : (program : List Outer) (ds : List Declaration) (args : Args) (s : Span) → definition (codes "printf") program ≡ None → formatted_faults conversions args s ≡ [] → args_faults ds (wanted (Some Printf) (converted args)) 0 args ≡ []
    → Made program ds (Some Printf) (codes "printf") args
printf_made program ds no_args s none h g = no_such BadFormat s h
printf_made program ds (value e rest) s none h g = no_such BadFormat (span_of e) (none_left _ _ (none_left (value_faults PrintfFormat (kind ds e) (span_of e) ++ faults ds e) _ g))
printf_made program ds (address e rest) s none h g = no_such WrongKind (span_of e) (none_left _ _ (none_left _ _ (none_left (address_faults PrintfFormat ds e ++ faults ds e) _ g)))
printf_made program ds (format f t rest) s none h g = by_count (conversions f) refl
  where
    n : ℕ
    n = unwrap_or (conversions f) 0

    m : ℕ → Wanted
    m = wanted (Some Printf) n

    values : AllValues (args_count rest) rest
    values = plain_values ds (wanted (Some Printf) (unwrap_or (conversions f) 0)) 1 rest (λ k le. subst Plain (sym (printf_wants (unwrap_or (conversions f) 0) k le)) (plain_number (nat_le k (unwrap_or (conversions f) 0)))) (none_right (format_faults PrintfFormat f t) _ g)

    right : miscounts (conversions f) (args_count rest) ≡ false
    right = ap (λ (b : Bool). b && miscounts (conversions f) (args_count rest)) (sym (values_formatless (args_count rest) rest values)) ∙ no_fault (no_format rest && miscounts (conversions f) (args_count rest)) WrongCount s h

    by_count : (o : Option ℕ) → conversions f ≡ o → Made program ds (Some Printf) (codes "printf") (format f t rest)
    by_count None is =
        let bad : is_none (conversions f) ≡ true = ap is_none is in
        let good : is_none (conversions f) ≡ false = no_fault (is_none (conversions f)) BadFormat t (none_left _ _ g) in
        absurd (cc)
    by_count (Some c) is =
        let same : c ≡ args_count rest = nat_equal c (args_count rest) (not_true (nat_eq c (args_count rest)) (ap (λ (o : Option ℕ). miscounts o (args_count rest)) (sym is) ∙ right)) in
        let all : AllValues c rest = subst (λ (z : ℕ). AllValues z rest) (sym same) values in
        let count : unwrap_or (conversions f) 0 ≡ c = ap (λ (o : Option ℕ). unwrap_or o 0) is in (
          IsCall.printf f t rest c is all none,
          subst (λ (o : Option Function). Fits (wanted (Some Printf) (unwrap_or (conversions f) 0)) 0 (params_of o) (format f t rest)) (sym none)
              (scalars_fit (wanted (Some Printf) (unwrap_or (conversions f) 0)) 1 c rest
              (λ k lt.
              printf_wants (unwrap_or (conversions f) 0) (1 + k) (omega arith)
              ∙ ap (λ (b : Bool). cond b Scalar Anything) (nat_within (1 + k) (unwrap_or (conversions f) 0) (omega (arith, count, lt)))) all),
        )

-- after its place `scanf` wants nothing
pub scanf_wants : (n k : ℕ) → 2 ≤ k → wanted (Some Scanf) n k ≡ Anything
scanf_wants n k le =
    ap (λ (b : Bool). cond b ScanfFormat (cond (nat_eq k 1) IntAddress Anything)) (nat_other 0 k (omega arith))
    ∙ ap (λ (b : Bool). cond b IntAddress Anything) (nat_other 1 k (omega arith))

pub scan_format : (f : List ℕ) → is_none (scan_conversions f) ≡ false → f ≡ codes "%d"
scan_format f h = by_test (bytes_eq f (codes "%d")) refl h
  where
    by_test : (b : Bool) → bytes_eq f (codes "%d") ≡ b → is_none {T = ℕ} (cond b (Some 1) None) ≡ false → f ≡ codes "%d"
    by_test true t k = (bytes_eq-Decides f (codes "%d")).0 t
    by_test false t k = absurd (cc)

pub none_resolved : (ds : List Declaration) (args : Args) → AllValues 0 (resolved_args ds args) → resolved_args ds args ≡ no_args
none_resolved ds no_args h = refl
none_resolved ds (value e rest) h = absurd h
none_resolved ds (format text s rest) h = absurd h
none_resolved ds (address e rest) h = absurd h

pub scanf_rest : (program : List Outer) (ds : List Declaration) (args : Args) (s t : Span) → formatted_faults scan_conversions (format (codes "%d") t (resolved_args ds args)) s ≡ [] → args_faults ds (wanted (Some Scanf) 1) 1 (resolved_args ds args) ≡ []
    → Made program ds (Some Scanf) (codes "scanf") (format (codes "%d") t (resolved_args ds args))
scanf_rest program ds no_args s t h g = no_such WrongCount s h
scanf_rest program ds (value e rest) s t h g =
    let e' = resolved_tree ds e in no_such WrongKind (span_of e') (none_left _ _ (none_left (value_faults IntAddress (kind ds e') (span_of e') ++ faults ds e') _ g))
scanf_rest program ds (format text r rest) s t h g = no_such BadFormat r (none_left _ _ g)
scanf_rest program ds (address e rest) s t h g =
    let e' = resolved_tree ds e in
    let rest' = resolved_args ds rest in
    let values : AllValues (args_count rest') rest' =
    plain_values ds (wanted (Some Scanf) 1) 2 rest' (λ k le. subst Plain (sym (scanf_wants 1 k le)) tt) (none_right (address_faults IntAddress ds e' ++ faults ds e') _ g) in
    let count : not (nat_eq 1 (suc (args_count rest'))) ≡ false =
    ap (λ (b : Bool). b && not (nat_eq 1 (suc (args_count rest')))) (sym (values_formatless (args_count rest') rest' values))
    ∙ no_fault (no_format rest' && not (nat_eq 1 (suc (args_count rest')))) WrongCount s h in
    let one : 1 ≡ suc (args_count rest') = nat_equal 1 (suc (args_count rest')) (not_true (nat_eq 1 (suc (args_count rest'))) count) in
    let zero_is : args_count rest' ≡ 0 = omega (arith, one) in
    let last : rest' ≡ no_args = none_resolved ds rest (subst (λ (n : ℕ). AllValues n rest') zero_is values) in
    let own = none_left (address_faults IntAddress ds e' ++ faults ds e') _ g in
    let stores = not_true (stores_int ds e') (no_fault (not (stores_int ds e')) WrongKind (span_of e') (none_left _ _ (none_left (address_faults IntAddress ds e') _ own))) in
    subst (λ (x : Args). Made program ds (Some Scanf) (codes "scanf") (format (codes "%d") t (address e' x))) (sym last) (IsCall.scanf t e' (int_place ds e stores).0, tt)

pub scanf_made : (program : List Outer) (ds : List Declaration) (args : Args) (s : Span) → formatted_faults scan_conversions (resolved_args ds args) s ≡ [] → args_faults ds (wanted (Some Scanf) (converted (resolved_args ds args))) 0 (resolved_args ds args) ≡ []
    → Made program ds (Some Scanf) (codes "scanf") (resolved_args ds args)
scanf_made program ds no_args s h g = no_such BadFormat s h
scanf_made program ds (value e rest) s h g =
    let e' = resolved_tree ds e in no_such BadFormat (span_of e') (none_left _ _ (none_left (value_faults ScanfFormat (kind ds e') (span_of e') ++ faults ds e') _ g))
scanf_made program ds (address e rest) s h g =
    let e' = resolved_tree ds e in no_such WrongKind (span_of e') (none_left _ _ (none_left _ _ (none_left (address_faults ScanfFormat ds e' ++ faults ds e') _ g)))
scanf_made program ds (format f t rest) s h g =
    let rest' = resolved_args ds rest in
    let is : f ≡ codes "%d" = scan_format f (no_fault (is_none (scan_conversions f)) BadFormat t (none_left _ _ g)) in
    subst (λ (z : List ℕ). Made program ds (Some Scanf) (codes "scanf") (format z t rest')) (sym is)
    (scanf_rest program ds rest s t (subst (λ (z : List ℕ). formatted_faults scan_conversions (format z t rest') s ≡ []) is h)
    (subst (λ (z : List ℕ). args_faults ds (wanted (Some Scanf) (converted (format z t rest'))) 1 rest' ≡ []) is (none_right (format_faults ScanfFormat f t) _ g)))

-- a call of the library
pub library_made : (program : List Outer) (ds : List Declaration) (word : List ℕ) (e : Entity) (args : Args) (s : Span) → LibraryWord word e → definition word program ≡ None
    → call_faults (Some e) (resolved_args ds args) s ≡ [] → args_faults ds (wanted (Some e) (converted (resolved_args ds args))) 0 (resolved_args ds args) ≡ [] → Made program ds (Some e) word (resolved_args ds args)
library_made program ds _ _ args s LibraryWord.getchar none h g =
    let all = library_values ds (Some Int) [] (resolved_args ds args) s h g in
    let m = wanted (Some (Library (Some Int) [])) (converted (resolved_args ds args)) in (
      getchar_call program ds (resolved_args ds args) all,
      subst (λ (o : Option Function). Fits m 0 (params_of o) (resolved_args ds args)) (sym none) (scalars_fit m 0 0 (resolved_args ds args) (λ k lt. absurd (omega arith)) all),
    )
library_made program ds _ _ args s LibraryWord.putchar none h g = number_made program ds (codes "putchar") (Some Int) (resolved_args ds args) s none (λ e. IsCall.putchar e none) h g
library_made program ds _ _ args s LibraryWord.exit none h g = number_made program ds (codes "exit") None (resolved_args ds args) s none (λ e. IsCall.exit e none) h g
library_made program ds _ _ args s LibraryWord.abs none h g = number_made program ds (codes "abs") (Some Int) (resolved_args ds args) s none (λ e. IsCall.abs e none) h g
library_made program ds _ _ args s LibraryWord.printf none h g = printf_made program ds (resolved_args ds args) s none h g
library_made program ds _ _ args s LibraryWord.scanf none h g = scanf_made program ds args s h g

-- a call of a function of the program
pub own_made : (program : List Outer) (there : Type 0) (ds : List Declaration) (word : List ℕ) (ret : Option Ty) (params : List ParamType) (body defined : Bool) (args : Args) (s : Span)
    → Denotes program there word (FunctionEntity ret params body defined) → there
    → call_faults (Some (FunctionEntity ret params body defined)) args s ≡ [] → args_faults ds (wanted (Some (FunctionEntity ret params body defined)) (converted args)) 0 args ≡ []
    → Made program ds (Some (FunctionEntity ret params body defined)) word args
own_made program there ds word ret params body defined args s own sure h g =
    let m = wanted (Some (FunctionEntity ret params body defined)) (converted args) in
    let known = own.1 sure in
    let written : defined ≡ true = not_true defined (no_fault (not defined) Unknown s (none_left _ _ h)) in
    let count : length params ≡ args_count args =
    nat_equal (length params) (args_count args) (not_true (nat_eq (length params) (args_count args)) (no_fault (not (nat_eq (length params) (args_count args))) WrongCount s (none_right (fault_if (not defined) Unknown s) _ h))) in
    let found = option_there (definition word program) (known.1 written) in
    let bodied = definition_body word program found.0 found.1 in
    let agrees : params ≡ map param_type found.0.params = own.0 found.0 found.1 in
    let many : args_count args ≡ length found.0.params = sym count ∙ ap (λ (xs : List ParamType). length xs) agrees ∙ length-map param_type found.0.params in
    let all : AllValues (length found.0.params) args = subst (λ (n : ℕ). AllValues n args) many (plain_values ds m 0 args (λ k le. wanted_plain (slice_get params k)) g) in (
      IsCall.own word args found.0 bodied.0 known.0 found.1 bodied.1 all,
      subst (λ (o : Option Function). Fits m 0 (params_of o) args) (sym found.1)
          (each_fits m 0 found.0.params args (wants_of (converted args) (Some (FunctionEntity ret params body defined)) args s found.0 h (λ e is. subst (λ (z : Entity). AgreesWith found.0 z) (some_same is) agrees)) all),
    )

pub made_by : (program : List Outer) (there : Type 0) (ds : List Declaration) (word : List ℕ) (args : Args) (s : Span) (o : Option Entity) → ((e : Entity) → o ≡ Some e → Denotes program there word e) → there
    → call_faults o (resolved_args ds args) s ≡ [] → args_faults ds (wanted o (converted (resolved_args ds args))) 0 (resolved_args ds args) ≡ [] → Made program ds o word (resolved_args ds args)
made_by program there ds word args s None d sure h g = no_such Unknown s h
made_by program there ds word args s (Some (VariableEntity slot ty array)) d sure h g = no_such WrongKind s h
made_by program there ds word args s (Some (FunctionEntity ret params body defined)) d sure h g =
    own_made program there ds word ret params body defined (resolved_args ds args) s (d (FunctionEntity ret params body defined) refl) sure h g
made_by program there ds word args s (Some (Library ret params)) d sure h g =
    let own = d (Library ret params) refl in
    library_made program ds word (Library ret params) args s (library_word word (Library ret params) (own.1 sure)) (no_definition (definition word program) own.0) h g
made_by program there ds word args s (Some Printf) d sure h g =
    let own = d Printf refl in library_made program ds word Printf args s (library_word word Printf (own.1 sure)) (no_definition (definition word program) own.0) h g
made_by program there ds word args s (Some Scanf) d sure h g =
    let own = d Scanf refl in library_made program ds word Scanf args s (library_word word Scanf (own.1 sure)) (no_definition (definition word program) own.0) h g

-- a call that is a number is none of a function without a result
pub gives_by : (program : List Outer) (there : Type 0) (word : List ℕ) (args : Args) (s : Span) (o : Option Entity) → ((e : Entity) → o ≡ Some e → Denotes program there word e) → there → number_faults (called o) s ≡ [] → call_faults o args s ≡ [] → GivesValue program word
gives_by program there word args s None d sure h k f found none = no_such Unknown s k
gives_by program there word args s (Some (VariableEntity slot ty array)) d sure h k f found none = no_such WrongKind s k
gives_by program there word args s (Some (FunctionEntity None params body defined)) d sure h k f found none = no_such WrongKind s h
gives_by program there word args s (Some (FunctionEntity (Some ty) params body defined)) d sure h k f found none =
    let own = (d (FunctionEntity (Some ty) params body defined) refl).1 sure in
    let same : f.ret ≡ Some ty = own.2 f found in
    absurd (cc)
gives_by program there word args s (Some (Library ret params)) d sure h k f found none = (d (Library ret params) refl).0 f found
gives_by program there word args s (Some Printf) d sure h k f found none = (d Printf refl).0 f found
gives_by program there word args s (Some Scanf) d sure h k f found none = (d Scanf refl).0 f found
