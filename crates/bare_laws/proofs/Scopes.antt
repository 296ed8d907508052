-- What names denote, without slots, and the kinds of faults of what stands at a name.
use Rattle.std.proofs.Common.{◌≡◌, ℕ, suc, Bool, true, false, not, ◌&&◌, nat_eq, if◌then◌else◌, List, [], ◌∷◌, map, length, Option, Some, None, is_none, is_some, option_map, refl, ap, ap₂, ◌∙◌}
use Rattle.std.specs.Str.{bytes_eq}
use Rattle.c_tree.specs.declared.place.Span.{Span}
use Rattle.c_tree.specs.declared.stmt.Slot.TheVariants.{Unset}
use Rattle.c_tree.specs.declared.stmt.Ty.{Ty}
use Rattle.c_tree.specs.declared.stmt.Ty.TheVariants.{Int, Char}
use Rattle.c_tree.specs.Tree.{Args, no_args, value, format, address, bare_args}
use Rattle.c_types.specs.declared.fault.FaultKind.TheVariants.{Unknown, WrongKind, WrongCount, BadFormat}
use Rattle.c_types.specs.declared.kinds.Kind.{Kind}
use Rattle.c_types.specs.declared.kinds.Kind.TheVariants.{Number, Array, Function as Callable, Void}
use Rattle.c_types.specs.declared.kinds.Wanted.{Wanted}
use Rattle.c_types.specs.declared.kinds.Wanted.TheVariants.{Anything, Scalar, ArrayOf, PrintfFormat, ScanfFormat, IntAddress}
use Rattle.c_types.specs.declared.scope.Declaration.{Declaration}
use Rattle.c_types.specs.declared.scope.Entity.{Entity}
use Rattle.c_types.specs.declared.scope.Entity.TheVariants.{Variable as VariableEntity, Function as FunctionEntity, Library, Printf, Scanf}
use Rattle.c_types.specs.Arguments.{number_faults, array_faults, is_int, converted, wanted, value_faults, format_faults, args_count, no_format, miscounts, formatted_faults, call_faults}
use Rattle.c_types.specs.Expressions.{void_faults, index_faults}
use Rattle.c_types.specs.Formats.{conversions, scan_conversions}
use Rattle.c_types.specs.Kinds.{same_ty, named, called}
use Rattle.c_types.specs.Least.{fault_if}
use Rattle.c_types.specs.Scopes.{denoted, is_declared}
use Rattle.bare_laws.proofs.SameKinds.{SameKinds, none, one, test, both, but_equal}

-- what a name denotes, without a slot
abbrev pub plain : Entity → Entity
plain (VariableEntity slot ty array) = VariableEntity Unset ty array
plain (FunctionEntity ret params body defined) = FunctionEntity ret params body defined
plain (Library ret params) = Library ret params
plain Printf = Printf
plain Scanf = Scanf

-- a declaration without a slot
abbrev pub slotless : Declaration → Declaration
slotless d = record { word = d.word; entity = plain d.entity }

-- what a word denotes among declarations without slots
pub denoted-same : (ds : List Declaration) (w : List ℕ)
    → denoted (map slotless ds) w ≡ option_map plain (denoted ds w)
denoted-same [] w = refl
denoted-same (d ∷ ds) w = by_test (bytes_eq d.word w) (denoted-same ds w)
  where
    by_test : (b : Bool) → denoted (map slotless ds) w ≡ option_map plain (denoted ds w)
        → (if b then Some (plain d.entity) else denoted (map slotless ds) w)
        ≡ option_map plain (if b then Some d.entity else denoted ds w)
    by_test true h = refl
    by_test false h = h

pub none-same : (m : Option Entity) → is_none (option_map plain m) ≡ is_none m
none-same None = refl
none-same (Some e) = refl

some-same : (m : Option Entity) → is_some (option_map plain m) ≡ is_some m
some-same None = refl
some-same (Some e) = refl

pub declared-same : (ds : List Declaration) (w : List ℕ)
    → is_declared (map slotless ds) w ≡ is_declared ds w
declared-same ds w = ap is_some (denoted-same ds w) ∙ some-same (denoted ds w)

pub named-same : (m : Option Entity) → named (option_map plain m) ≡ named m
named-same None = refl
named-same (Some (VariableEntity slot ty true)) = refl
named-same (Some (VariableEntity slot ty false)) = refl
named-same (Some (FunctionEntity ret params body defined)) = refl
named-same (Some (Library ret params)) = refl
named-same (Some Printf) = refl
named-same (Some Scanf) = refl

pub called-same : (m : Option Entity) → called (option_map plain m) ≡ called m
called-same None = refl
called-same (Some (VariableEntity slot ty array)) = refl
called-same (Some (FunctionEntity ret params body defined)) = refl
called-same (Some (Library ret params)) = refl
called-same (Some Printf) = refl
called-same (Some Scanf) = refl

pub wanted-same : (m : Option Entity) (n i : ℕ) → wanted (option_map plain m) n i ≡ wanted m n i
wanted-same None n i = refl
wanted-same (Some (VariableEntity slot ty array)) n i = refl
wanted-same (Some (FunctionEntity ret params body defined)) n i = refl
wanted-same (Some (Library ret params)) n i = refl
wanted-same (Some Printf) n i = refl
wanted-same (Some Scanf) n i = refl

pub int-same : (m : Option Entity) (array : Bool)
    → is_int (option_map plain m) array ≡ is_int m array
int-same None array = refl
int-same (Some (VariableEntity slot Int true)) array = refl
int-same (Some (VariableEntity slot Int false)) array = refl
int-same (Some (VariableEntity slot Char b)) array = refl
int-same (Some (FunctionEntity ret params body defined)) array = refl
int-same (Some (Library ret params)) array = refl
int-same (Some Printf) array = refl
int-same (Some Scanf) array = refl

-- ---- arguments

converted-same : (x : Args) → converted (bare_args x) ≡ converted x
converted-same no_args = refl
converted-same (value e x) = refl
converted-same (format text s x) = refl
converted-same (address e x) = refl

pub wants-same : (m : Option Entity) (x : Args)
    → wanted (option_map plain m) (converted (bare_args x)) ≡ wanted m (converted x)
wants-same m x = λ i n. wanted-same m (converted-same x i) n i

count-same : (x : Args) → args_count (bare_args x) ≡ args_count x
count-same no_args = refl
count-same (value e x) = ap suc (count-same x)
count-same (format text s x) = ap suc (count-same x)
count-same (address e x) = ap suc (count-same x)

format-same : (x : Args) → no_format (bare_args x) ≡ no_format x
format-same no_args = refl
format-same (value e x) = format-same x
format-same (format text s x) = refl
format-same (address e x) = format-same x

-- ---- the faults of kinds, whatever the spans

pub number-alike : (k : Kind) (s t : Span) → SameKinds (number_faults k s) (number_faults k t)
number-alike Number s t = none
number-alike (Array ty) s t = one WrongKind s t
number-alike Callable s t = one WrongKind s t
number-alike Void s t = one WrongKind s t

array-alike : (k : Kind) (ty : Ty) (s t : Span)
    → SameKinds (array_faults k ty s) (array_faults k ty t)
array-alike Number ty s t = one WrongKind s t
array-alike (Array other) ty s t = test (not (same_ty other ty)) WrongKind s t
array-alike Callable ty s t = one WrongKind s t
array-alike Void ty s t = one WrongKind s t

pub void-alike : (k : Kind) (s t : Span) → SameKinds (void_faults k s) (void_faults k t)
void-alike Number s t = none
void-alike (Array ty) s t = one WrongKind s t
void-alike Callable s t = one WrongKind s t
void-alike Void s t = none

pub value-alike : (w : Wanted) (k : Kind) (s t : Span)
    → SameKinds (value_faults w k s) (value_faults w k t)
value-alike Anything k s t = none
value-alike Scalar k s t = number-alike k s t
value-alike (ArrayOf ty) k s t = array-alike k ty s t
value-alike PrintfFormat k s t = one BadFormat s t
value-alike ScanfFormat k s t = one BadFormat s t
value-alike IntAddress k s t = one WrongKind s t

pub format-alike : (w : Wanted) (text : List ℕ) (s t : Span)
    → SameKinds (format_faults w text s) (format_faults w text t)
format-alike Anything text s t = one BadFormat s t
format-alike Scalar text s t = one BadFormat s t
format-alike (ArrayOf ty) text s t = both (one WrongKind s t) (one BadFormat s t)
format-alike PrintfFormat text s t = test (is_none (conversions text)) BadFormat s t
format-alike ScanfFormat text s t = test (is_none (scan_conversions text)) BadFormat s t
format-alike IntAddress text s t = one BadFormat s t

pub index-alike : (m : Option Entity) (s t : Span)
    → SameKinds (index_faults (option_map plain m) s) (index_faults m t)
index-alike None s t = one Unknown s t
index-alike (Some (VariableEntity slot ty array)) s t = test (not array) WrongKind s t
index-alike (Some (FunctionEntity ret params body defined)) s t = one WrongKind s t
index-alike (Some (Library ret params)) s t = one WrongKind s t
index-alike (Some Printf) s t = one WrongKind s t
index-alike (Some Scanf) s t = one WrongKind s t

formatted-alike : (read : List ℕ → Option ℕ) (x : Args) (s t : Span)
    → SameKinds (formatted_faults read (bare_args x) s) (formatted_faults read x t)
formatted-alike read no_args s t = one BadFormat s t
formatted-alike read (value e x) s t = none
formatted-alike read (format text u x) s t =
    but_equal
    (ap₂ (λ b n. fault_if (b && miscounts (read text) n) WrongCount s) (format-same x) (count-same x))
    (test (no_format x && miscounts (read text) (args_count x)) WrongCount s t)
formatted-alike read (address e x) s t = none

-- the number of arguments
number_of-alike : (k : ℕ) (x : Args) (s t : Span)
    → SameKinds (fault_if (not (nat_eq k (args_count (bare_args x)))) WrongCount s)
    (fault_if (not (nat_eq k (args_count x))) WrongCount t)
number_of-alike k x s t =
    but_equal (ap (λ n. fault_if (not (nat_eq k n)) WrongCount s) (count-same x))
    (test (not (nat_eq k (args_count x))) WrongCount s t)

pub call-alike : (m : Option Entity) (x : Args) (s t : Span)
    → SameKinds (call_faults (option_map plain m) (bare_args x) s) (call_faults m x t)
call-alike None x s t = one Unknown s t
call-alike (Some (VariableEntity slot ty array)) x s t = one WrongKind s t
call-alike (Some (FunctionEntity ret params body defined)) x s t =
    both (test (not defined) Unknown s t) (number_of-alike (length params) x s t)
call-alike (Some (Library ret params)) x s t = number_of-alike (length params) x s t
call-alike (Some Printf) x s t = formatted-alike conversions x s t
call-alike (Some Scanf) x s t = formatted-alike scan_conversions x s t
