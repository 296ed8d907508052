-- The arguments of a call (C11 6.5.2.2).
use Rattle.std.specs.Prelude.{ℕ, suc, Bool, true, false, not, ◌&&◌, nat_eq, nat_le, List, [], ◌++◌, length, Option, Some, None, is_none, unwrap_or, if◌then◌else◌}
use Rattle.std.specs.List.{slice_get}
use Rattle.c_tree.specs.declared.place.Span.{Span}
use Rattle.c_tree.specs.declared.stmt.Ty.{Ty}
use Rattle.c_tree.specs.declared.stmt.Ty.TheVariants.{Int}
use Rattle.c_tree.specs.Parts.{span_of}
use Rattle.c_tree.specs.Tree.{Tree, name, index, Args, no_args, value, format, address}
use Rattle.c_types.specs.declared.fault.Fault.{Fault}
use Rattle.c_types.specs.declared.fault.FaultKind.TheVariants.{Unknown, WrongKind, WrongCount, NotPlace, BadFormat}
use Rattle.c_types.specs.declared.kinds.Kind.{Kind}
use Rattle.c_types.specs.declared.kinds.Kind.TheVariants.{Number, Array, Function as Callable, Void}
use Rattle.c_types.specs.declared.kinds.Wanted.{Wanted}
use Rattle.c_types.specs.declared.kinds.Wanted.TheVariants.{Anything, Scalar, ArrayOf, PrintfFormat, ScanfFormat, IntAddress}
use Rattle.c_types.specs.declared.scope.Declaration.{Declaration}
use Rattle.c_types.specs.declared.scope.Entity.{Entity}
use Rattle.c_types.specs.declared.scope.Entity.TheVariants.{Variable, Function, Library, Printf, Scanf}
use Rattle.c_types.specs.declared.scope.ParamType.{ParamType}
use Rattle.c_types.specs.Formats.{conversions, scan_conversions}
use Rattle.c_types.specs.Kinds.{same_ty}
use Rattle.c_types.specs.Least.{fault, fault_if}
use Rattle.c_types.specs.Scopes.{denoted}

-- where a number is wanted: an array, a function or a void call is none
abbrev pub number_faults : Kind → Span → List Fault
number_faults Number s = []
number_faults (Array ty) s = fault WrongKind s
number_faults Callable s = fault WrongKind s
number_faults Void s = fault WrongKind s

-- where an array of a type is wanted: the argument is the name of such an array (C11 6.7.6.3p7)
abbrev pub array_faults : Kind → Ty → Span → List Fault
array_faults Number ty s = fault WrongKind s
array_faults (Array other) ty s = fault_if (not (same_ty other ty)) WrongKind s
array_faults Callable ty s = fault WrongKind s
array_faults Void ty s = fault WrongKind s

-- whether an expression is a name or an element, which alone can be lvalues (C11 6.3.2.1p1)
abbrev pub is_place : Tree → Bool
is_place (name word slot s) = true
is_place (index word slot e s) = true
is_place e = false

-- whether a name denotes an `int` variable, or where an array is asked for, an array of `int`
abbrev pub is_int : Option Entity → Bool → Bool
is_int (Some (Variable slot Int true)) array = array
is_int (Some (Variable slot Int false)) array = not array
is_int entity array = false

-- whether a number that `scanf` reads can be stored there: an `int` variable or element
abbrev pub stores_int : List Declaration → Tree → Bool
stores_int ds (name word slot s) = is_int (denoted ds word) false
stores_int ds (index word slot e s) = is_int (denoted ds word) true
stores_int ds e = false

-- How many conversions the format of a call of `printf` has. They are its parameters. A bad format, and
-- a call without one, has none.
abbrev pub converted : Args → ℕ
converted no_args = 0
converted (value e rest) = 0
converted (format text s rest) = unwrap_or (conversions text) 0
converted (address e rest) = 0

-- what a parameter wants as its argument; where there is no parameter, anything may stand
abbrev pub wanted_by : Option ParamType → Wanted
wanted_by None = Anything
wanted_by (Some p) = if p.array then ArrayOf p.ty else Scalar

-- what a called name wants as its argument number i, counted from 0, where its format has n conversions
abbrev pub wanted : Option Entity → ℕ → ℕ → Wanted
wanted None n i = Anything
wanted (Some (Variable slot ty array)) n i = Anything
wanted (Some (Function ret params body defined)) n i = wanted_by (slice_get params i)
wanted (Some (Library ret params)) n i = wanted_by (slice_get params i)
wanted (Some Printf) n i =
    if nat_eq i 0 then PrintfFormat else (if nat_le i n then Scalar else Anything)
wanted (Some Scanf) n i =
    if nat_eq i 0 then ScanfFormat else (if nat_eq i 1 then IntAddress else Anything)

-- an expression as an argument
abbrev pub value_faults : Wanted → Kind → Span → List Fault
value_faults Anything kind s = []
value_faults Scalar kind s = number_faults kind s
value_faults (ArrayOf ty) kind s = array_faults kind ty s
value_faults PrintfFormat kind s = fault BadFormat s
value_faults ScanfFormat kind s = fault BadFormat s
value_faults IntAddress kind s = fault WrongKind s

-- a string literal as an argument
abbrev pub format_faults : Wanted → List ℕ → Span → List Fault
format_faults Anything text s = fault BadFormat s
format_faults Scalar text s = fault BadFormat s
format_faults (ArrayOf ty) text s = fault WrongKind s ++ fault BadFormat s
format_faults PrintfFormat text s = fault_if (is_none (conversions text)) BadFormat s
format_faults ScanfFormat text s = fault_if (is_none (scan_conversions text)) BadFormat s
format_faults IntAddress text s = fault BadFormat s

-- the operand of `&`: a name or an element (C11 6.5.3.2p1)
abbrev pub operand_faults : Tree → List Fault
operand_faults e = fault_if (not (is_place e)) NotPlace (span_of e)

-- `&` and an expression as an argument, which only `scanf` wants
abbrev pub address_faults : Wanted → List Declaration → Tree → List Fault
address_faults IntAddress ds e =
    fault_if (not (stores_int ds e)) WrongKind (span_of e) ++ operand_faults e
address_faults PrintfFormat ds e =
    fault WrongKind (span_of e) ++ (operand_faults e ++ fault BadFormat (span_of e))
address_faults ScanfFormat ds e =
    fault WrongKind (span_of e) ++ (operand_faults e ++ fault BadFormat (span_of e))
address_faults Anything ds e = fault WrongKind (span_of e) ++ operand_faults e
address_faults Scalar ds e = fault WrongKind (span_of e) ++ operand_faults e
address_faults (ArrayOf ty) ds e = fault WrongKind (span_of e) ++ operand_faults e

-- how many arguments there are
abbrev pub args_count : Args → ℕ
args_count no_args = 0
args_count (value e rest) = suc (args_count rest)
args_count (format text s rest) = suc (args_count rest)
args_count (address e rest) = suc (args_count rest)

-- whether none of them is a string literal
abbrev pub no_format : Args → Bool
no_format no_args = true
no_format (value e rest) = no_format rest
no_format (format text s rest) = false
no_format (address e rest) = no_format rest

-- whether a good format has another number of conversions
abbrev pub miscounts : Option ℕ → ℕ → Bool
miscounts None n = false
miscounts (Some found) n = not (nat_eq found n)

-- The number of arguments of `printf` or `scanf`, whose formats have that many conversions: there is a
-- first one, and where the call has no bad format, as many follow it as it has conversions
-- (C11 7.21.6.1p2, 7.21.6.2p2).
abbrev pub formatted_faults : (List ℕ → Option ℕ) → Args → Span → List Fault
formatted_faults conversions_of no_args s = fault BadFormat s
formatted_faults conversions_of (value e rest) s = []
formatted_faults conversions_of (format text t rest) s =
    fault_if (no_format rest && miscounts (conversions_of text) (args_count rest)) WrongCount s
formatted_faults conversions_of (address e rest) s = []

-- The called name: it denotes a function that is defined in the file or is one of the library, with as
-- many parameters as there are arguments (C11 6.5.2.2p1, p2; 6.9p5).
abbrev pub call_faults : Option Entity → Args → Span → List Fault
call_faults None args s = fault Unknown s
call_faults (Some (Variable slot ty array)) args s = fault WrongKind s
call_faults (Some (Function ret params body defined)) args s =
    fault_if (not defined) Unknown s
    ++ fault_if (not (nat_eq (length params) (args_count args))) WrongCount s
call_faults (Some (Library ret params)) args s =
    fault_if (not (nat_eq (length params) (args_count args))) WrongCount s
call_faults (Some Printf) args s = formatted_faults conversions args s
call_faults (Some Scanf) args s = formatted_faults scan_conversions args s
