-- The faults of a program whose spans are in text order stand in its text.
use Rattle.std.proofs.Common.{◌≡◌, ℕ, zero, suc, ◌≤◌, ◌<◌, Bool, true, false, List, [], ◌∷◌, ◌++◌, get_or, length, Option, Some, None, arith, subst, sym}
use Rattle.std.specs.Prelude.{Contains, IfSome, if◌then◌else◌}
use Rattle.std.specs.Str.{bytes_eq}
use Rattle.c_tree.specs.declared.place.Span.{Span}
use Rattle.c_tree.specs.declared.program.Param.{Param}
use Rattle.c_tree.specs.declared.stmt.Shape.{Shape}
use Rattle.c_tree.specs.declared.stmt.Shape.TheVariants.{Scalar as Number_alone, Array as Array_of}
use Rattle.c_tree.specs.declared.stmt.Ty.{Ty}
use Rattle.c_tree.specs.Order as order
use Rattle.c_tree.specs.Order.{Within, TreeIn, ArgsIn, TreesIn, OptionIn, InitialIn, VariablesIn, FirstIn, CodeIn, BodyIn, ParamsIn, DefinitionIn, OuterIn, ProgramIn}
use Rattle.c_tree.specs.Parts.{span_of}
use Rattle.c_tree.specs.Tree.{Tree, name, index, Args, no_args, value, format, address, Initial, Variable, First, Code, Body, Function, Outer}
use Rattle.c_tree.specs.Tree as tree
use Rattle.c_types.specs.declared.fault.Fault.{Fault}
use Rattle.c_types.specs.declared.fault.FaultKind.{FaultKind}
use Rattle.c_types.specs.declared.fault.FaultKind.TheVariants.{Unknown, Twice, WrongKind, WrongCount, NotPlace, NotConstant, BadArrayLength, LoopOnly, BadFormat, NoMain}
use Rattle.c_types.specs.declared.fault.TypeFault.{TypeFault}
use Rattle.c_types.specs.declared.fault.TypeFault.TheVariants as reported
use Rattle.c_types.specs.declared.kinds.Kind.{Kind}
use Rattle.c_types.specs.declared.kinds.Kind.TheVariants.{Number, Array, Function as Callable, Void}
use Rattle.c_types.specs.declared.kinds.Wanted.{Wanted}
use Rattle.c_types.specs.declared.kinds.Wanted.TheVariants.{Anything, Scalar, ArrayOf, PrintfFormat, ScanfFormat, IntAddress}
use Rattle.c_types.specs.declared.scope.Declaration.{Declaration}
use Rattle.c_types.specs.declared.scope.Entity.{Entity}
use Rattle.c_types.specs.declared.scope.Entity.TheVariants as entity
use Rattle.c_types.specs.declared.scope.Storage.{Storage}
use Rattle.c_types.specs.declared.scope.Storage.TheVariants.{Static, Automatic}
use Rattle.c_types.specs.Arguments.{number_faults, array_faults, value_faults, format_faults, address_faults, formatted_faults, call_faults, converted, wanted}
use Rattle.c_types.specs.Constants.{not_constant, not_constant_args, not_constant_all, not_constant_initial, constant_faults}
use Rattle.c_types.specs.Expressions.{void_faults, index_faults, place_faults, as_number, as_void, faults, args_faults}
use Rattle.c_types.specs.Formats.{conversions, scan_conversions}
use Rattle.c_types.specs.Kinds.{kind, named}
use Rattle.c_types.specs.FaultWords.{place_of}
use Rattle.c_types.specs.Least.{fault, fault_if, Causes}
use Rattle.c_types.specs.Library.{library}
use Rattle.c_types.specs.Programs.{params_faults, redeclared_faults, name_faults, definition_faults, function_declaration, params_declared, param_declaration, outers_faults, program_faults}
use Rattle.c_types.specs.Scopes.{denoted}
use Rattle.c_types.specs.Statements.{variable_declaration, declared, length_faults, as_numbers, initial_faults, number_option, void_option, variables_faults, first_declared, first_faults, return_faults, code_faults, body_faults}

-- each fault stands at a place up to this one
pub data Upto (end : ℕ) : List Fault → Type 0 where
  none : Upto end []
  more : {f : Fault} {fs : List Fault} → f.place ≤ end → Upto end fs → Upto end (f ∷ fs)

-- a fault among them does
among : {end : ℕ} {fs : List Fault} → Upto end fs → (f : Fault) (i : ℕ) → i < length fs → f ≡ get_or fs i f → f.place ≤ end
among {end} none f i lt is = absurd (omega (arith, lt))
among {end} (more {f = g} {fs = fs} le rest) f zero lt is = subst (λ (x : Fault). x.place ≤ end) (sym is) le
among {end} (more {f = g} {fs = fs} le rest) f (suc i) lt is = among rest f i (omega (arith, lt)) is

pub contained : {end : ℕ} {fs : List Fault} → Upto end fs → (f : Fault) → Contains fs f → f.place ≤ end
contained all f found = among all f found.0 found.1 (sym found.2)

-- ---- orders

text_in : {i j : ℕ} {t : Tree} → TreeIn i j t → Within i j (span_of t)
text_in (order.constant w) = w
text_in (order.name w) = w
text_in (order.index w x) = w
text_in (order.call w x) = w
text_in (order.unary w x) = w
text_in (order.cast w x) = w
text_in (order.binary w x y) = w
text_in (order.choice w x y z) = w
text_in (order.assign w x y) = w
text_in (order.bump w x) = w
text_in (order.comma w x y) = w

tree_le : {i j : ℕ} {t : Tree} → TreeIn i j t → i ≤ j
tree_le x = let w = text_in x in omega (arith, w.begins, w.covers, w.ends)

args_le : {i j : ℕ} {x : Args} → ArgsIn i j x → i ≤ j
args_le (order.no_args h) = h
args_le (order.value x rest) = omega (arith, tree_le x, args_le rest)
args_le (order.format w rest) = omega (arith, w.begins, w.covers, w.ends, args_le rest)
args_le (order.address x rest) = omega (arith, tree_le x, args_le rest)

trees_le : {i j : ℕ} {es : List Tree} → TreesIn i j es → i ≤ j
trees_le (order.none h) = h
trees_le (order.more x rest) = omega (arith, tree_le x, trees_le rest)

option_le : {i j : ℕ} {e : Option Tree} → OptionIn i j e → i ≤ j
option_le (order.absent h) = h
option_le (order.present x) = tree_le x

initial_le : {i j : ℕ} {v : Initial} → InitialIn i j v → i ≤ j
initial_le (order.bare h) = h
initial_le (order.one x) = tree_le x
initial_le (order.many xs) = trees_le xs

variables_le : {i j : ℕ} {vs : List Variable} → VariablesIn i j vs → i ≤ j
variables_le (order.none h) = h
variables_le (order.more w x rest) = omega (arith, w.begins, w.covers, w.ends, variables_le rest)

first_le : {i j : ℕ} {v : First} → FirstIn i j v → i ≤ j
first_le (order.none h) = h
first_le (order.act x) = tree_le x
first_le (order.vars xs) = variables_le xs

code_within : {i j : ℕ} {c : Code} → CodeIn i j c → i ≤ j
code_within (order.empty w) = omega (arith, w.begins, w.covers, w.ends)
code_within (order.act w x) = omega (arith, w.begins, w.covers, w.ends)
code_within (order.block w x) = omega (arith, w.begins, w.covers, w.ends)
code_within (order.if_then w x y) = omega (arith, w.begins, w.covers, w.ends)
code_within (order.if_else w x y z) = omega (arith, w.begins, w.covers, w.ends)
code_within (order.while w x y) = omega (arith, w.begins, w.covers, w.ends)
code_within (order.do_while w x y) = omega (arith, w.begins, w.covers, w.ends)
code_within (order.for w x y z u) = omega (arith, w.begins, w.covers, w.ends)
code_within (order.give w x) = omega (arith, w.begins, w.covers, w.ends)
code_within (order.break w) = omega (arith, w.begins, w.covers, w.ends)
code_within (order.continue w) = omega (arith, w.begins, w.covers, w.ends)

body_le : {i j : ℕ} {b : Body} → BodyIn i j b → i ≤ j
body_le (order.done h) = h
body_le (order.next x rest) = omega (arith, code_within x, body_le rest)
body_le (order.vars xs rest) = omega (arith, variables_le xs, body_le rest)

params_le : {i j : ℕ} {ps : List Param} → ParamsIn i j ps → i ≤ j
params_le (order.none h) = h
params_le (order.more w rest) = omega (arith, w.begins, w.covers, w.ends, params_le rest)

definition_le : {i j : ℕ} {b : Option Body} → DefinitionIn i j b → i ≤ j
definition_le (order.absent h) = h
definition_le (order.present x) = body_le x

program_le : {i j : ℕ} {p : List Outer} → ProgramIn i j p → i ≤ j
program_le (order.none h) = h
program_le (order.more (order.vars xs) rest) = omega (arith, variables_le xs, program_le rest)
program_le (order.more (order.func w ps b) rest) = omega (arith, w.begins, w.covers, w.ends, program_le rest)

-- ---- the tables

module _ (end : ℕ) where
  both : {fs gs : List Fault} → Upto end fs → Upto end gs → Upto end (fs ++ gs)
  both none b = b
  both (more le a) b = more le (both a b)

  one : (k : FaultKind) (s : Span) → s.from ≤ end → Upto end (fault k s)
  unfolding fault
  one k s le = more le none

  one_if : (b : Bool) (k : FaultKind) (s : Span) → s.from ≤ end → Upto end (fault_if b k s)
  one_if true k s le = one k s le
  one_if false k s le = none

  number_upto : (k : Kind) (s : Span) → s.from ≤ end → Upto end (number_faults k s)
  number_upto Number s le = none
  number_upto (Array ty) s le = one WrongKind s le
  number_upto Callable s le = one WrongKind s le
  number_upto Void s le = one WrongKind s le

  void_upto : (k : Kind) (s : Span) → s.from ≤ end → Upto end (void_faults k s)
  void_upto Number s le = none
  void_upto (Array ty) s le = one WrongKind s le
  void_upto Callable s le = one WrongKind s le
  void_upto Void s le = none

  array_upto : (k : Kind) (ty : Ty) (s : Span) → s.from ≤ end → Upto end (array_faults k ty s)
  array_upto Number ty s le = one WrongKind s le
  array_upto (Array other) ty s le = one_if _ WrongKind s le
  array_upto Callable ty s le = one WrongKind s le
  array_upto Void ty s le = one WrongKind s le

  index_upto : (m : Option Entity) (s : Span) → s.from ≤ end → Upto end (index_faults m s)
  index_upto None s le = one Unknown s le
  index_upto (Some (entity.Variable slot ty array)) s le = one_if _ WrongKind s le
  index_upto (Some (entity.Function ret params body defined)) s le = one WrongKind s le
  index_upto (Some (entity.Library ret params)) s le = one WrongKind s le
  index_upto (Some entity.Printf) s le = one WrongKind s le
  index_upto (Some entity.Scanf) s le = one WrongKind s le

  value_upto : (w : Wanted) (k : Kind) (s : Span) → s.from ≤ end → Upto end (value_faults w k s)
  value_upto Anything k s le = none
  value_upto Scalar k s le = number_upto k s le
  value_upto (ArrayOf ty) k s le = array_upto k ty s le
  value_upto PrintfFormat k s le = one BadFormat s le
  value_upto ScanfFormat k s le = one BadFormat s le
  value_upto IntAddress k s le = one WrongKind s le

  format_upto : (w : Wanted) (text : List ℕ) (s : Span) → s.from ≤ end → Upto end (format_faults w text s)
  format_upto Anything text s le = one BadFormat s le
  format_upto Scalar text s le = one BadFormat s le
  format_upto (ArrayOf ty) text s le = both (one WrongKind s le) (one BadFormat s le)
  format_upto PrintfFormat text s le = one_if _ BadFormat s le
  format_upto ScanfFormat text s le = one_if _ BadFormat s le
  format_upto IntAddress text s le = one BadFormat s le

  address_upto : (w : Wanted) (ds : List Declaration) (e : Tree) → (span_of e).from ≤ end → Upto end (address_faults w ds e)
  address_upto IntAddress ds e le = both (one_if _ WrongKind (span_of e) le) (one_if _ NotPlace (span_of e) le)
  address_upto PrintfFormat ds e le = both (one WrongKind (span_of e) le) (both (one_if _ NotPlace (span_of e) le) (one BadFormat (span_of e) le))
  address_upto ScanfFormat ds e le = both (one WrongKind (span_of e) le) (both (one_if _ NotPlace (span_of e) le) (one BadFormat (span_of e) le))
  address_upto Anything ds e le = both (one WrongKind (span_of e) le) (one_if _ NotPlace (span_of e) le)
  address_upto Scalar ds e le = both (one WrongKind (span_of e) le) (one_if _ NotPlace (span_of e) le)
  address_upto (ArrayOf ty) ds e le = both (one WrongKind (span_of e) le) (one_if _ NotPlace (span_of e) le)

  formatted_upto : (read : List ℕ → Option ℕ) (args : Args) (s : Span) → s.from ≤ end → Upto end (formatted_faults read args s)
  formatted_upto read no_args s le = one BadFormat s le
  formatted_upto read (value e rest) s le = none
  formatted_upto read (format text t rest) s le = one_if _ WrongCount s le
  formatted_upto read (address e rest) s le = none

  call_upto : (m : Option Entity) (args : Args) (s : Span) → s.from ≤ end → Upto end (call_faults m args s)
  call_upto None args s le = one Unknown s le
  call_upto (Some (entity.Variable slot ty array)) args s le = one WrongKind s le
  call_upto (Some (entity.Function ret params body defined)) args s le = both (one_if _ Unknown s le) (one_if _ WrongCount s le)
  call_upto (Some (entity.Library ret params)) args s le = one_if _ WrongCount s le
  call_upto (Some entity.Printf) args s le = formatted_upto conversions args s le
  call_upto (Some entity.Scanf) args s le = formatted_upto scan_conversions args s le

  place_upto : (ds : List Declaration) (e : Tree) → (span_of e).from ≤ end → Upto end (place_faults ds e)
  place_upto ds (tree.constant n w s) le = one NotPlace s le
  place_upto ds (tree.name w v s) le = number_upto (named (denoted ds w)) s le
  place_upto ds (tree.index w v e s) le = none
  place_upto ds (tree.call w x s) le = one NotPlace s le
  place_upto ds (tree.unary f e s) le = one NotPlace s le
  place_upto ds (tree.cast ty e s) le = one NotPlace s le
  place_upto ds (tree.binary f l r s) le = one NotPlace s le
  place_upto ds (tree.choice t a b s) le = one NotPlace s le
  place_upto ds (tree.assign f p e s) le = one NotPlace s le
  place_upto ds (tree.bump b u p s) le = one NotPlace s le
  place_upto ds (tree.comma l r s) le = one NotPlace s le
  place_upto ds tree.hole le = one NotPlace _ le
  place_upto ds (tree.hole_after e) le = one NotPlace _ le

  length_upto : (shape : Shape) (start : Initial) (s : Span) → s.from ≤ end → Upto end (length_faults shape start s)
  length_upto Number_alone start s le = one_if _ WrongCount s le
  length_upto (Array_of None) start s le = one_if _ BadArrayLength s le
  length_upto (Array_of (Some n)) start s le = both (one_if _ BadArrayLength s le) (one_if _ WrongCount s le)

  return_upto : (ret : Option Ty) (e : Option Tree) (s : Span) → s.from ≤ end → Upto end (return_faults ret e s)
  return_upto None None s le = none
  return_upto None (Some e) s le = one WrongKind s le
  return_upto (Some ty) None s le = one WrongKind s le
  return_upto (Some ty) (Some e) s le = none

  -- ---- expressions

  starts : {i j : ℕ} {s : Span} → Within i j s → j ≤ end → s.from ≤ end
  starts w le = omega (arith, w.covers, w.ends, le)

  ends : {i j : ℕ} {s : Span} → Within i j s → j ≤ end → s.to ≤ end
  ends w le = omega (arith, w.ends, le)

  begins : {i j : ℕ} {e : Tree} → TreeIn i j e → j ≤ end → (span_of e).from ≤ end
  begins x le = starts (text_in x) le

  number_part : {i j : ℕ} {e : Tree} (ds : List Declaration) → TreeIn i j e → j ≤ end → Upto end (as_number ds e)
  number_part {e = e} ds x le = number_upto (kind ds e) (span_of e) (begins x le)

  void_part : {i j : ℕ} {e : Tree} (ds : List Declaration) → TreeIn i j e → j ≤ end → Upto end (as_void ds e)
  void_part {e = e} ds x le = void_upto (kind ds e) (span_of e) (begins x le)

  mutual
    tree_upto : {i j : ℕ} {e : Tree} (ds : List Declaration) → TreeIn i j e → j ≤ end → Upto end (faults ds e)
    tree_upto ds (order.constant w) le = none
    tree_upto ds (order.name w) le = one_if _ Unknown _ (starts w le)
    tree_upto ds (order.index w x) le =
        both (index_upto _ _ (starts w le)) (both (number_part ds x (ends w le)) (tree_upto ds x (ends w le)))
    tree_upto ds (order.call {w = word} {x = args} {s = s} w x) le =
        both (call_upto (denoted ds word) args s (starts w le)) (args_upto ds (wanted (denoted ds word) (converted args)) 0 x (ends w le))
    tree_upto ds (order.unary w x) le = both (number_part ds x (ends w le)) (tree_upto ds x (ends w le))
    tree_upto ds (order.cast w x) le = both (number_part ds x (ends w le)) (tree_upto ds x (ends w le))
    tree_upto ds (order.binary {m = k} w x y) le =
        let m : k ≤ end = omega (arith, tree_le y, w.ends, le) in
        both (both (number_part ds x m) (tree_upto ds x m)) (both (number_part ds y (ends w le)) (tree_upto ds y (ends w le)))
    tree_upto ds (order.choice {m = k} {n = h} w x y z) le =
        let n : h ≤ end = omega (arith, tree_le z, w.ends, le) in
        let m : k ≤ end = omega (arith, tree_le y, tree_le z, w.ends, le) in
        both (both (number_part ds x m) (tree_upto ds x m))
        (both (both (number_part ds y n) (tree_upto ds y n)) (both (number_part ds z (ends w le)) (tree_upto ds z (ends w le))))
    tree_upto ds (order.assign {m = k} w x y) le =
        let m : k ≤ end = omega (arith, tree_le y, w.ends, le) in
        both (both (place_upto ds _ (begins x m)) (tree_upto ds x m)) (both (number_part ds y (ends w le)) (tree_upto ds y (ends w le)))
    tree_upto ds (order.bump w x) le = both (place_upto ds _ (begins x (ends w le))) (tree_upto ds x (ends w le))
    tree_upto ds (order.comma {m = k} w x y) le =
        let m : k ≤ end = omega (arith, tree_le y, w.ends, le) in
        both (both (void_part ds x m) (tree_upto ds x m)) (both (number_part ds y (ends w le)) (tree_upto ds y (ends w le)))

    args_upto : {i j : ℕ} {x : Args} (ds : List Declaration) (m : ℕ → Wanted) (n : ℕ) → ArgsIn i j x → j ≤ end → Upto end (args_faults ds m n x)
    args_upto ds m n (order.no_args h) le = none
    args_upto ds m n (order.value {m = l} {e = e} x rest) le =
        let k : l ≤ end = omega (arith, args_le rest, le) in
        both (both (value_upto (m n) (kind ds e) (span_of e) (begins x k)) (tree_upto ds x k)) (args_upto ds m (suc n) rest le)
    args_upto ds m n (order.format {m = l} {f = text} {s = s} w rest) le =
        let k : l ≤ end = omega (arith, args_le rest, le) in
        both (format_upto (m n) text s (starts w k)) (args_upto ds m (suc n) rest le)
    args_upto ds m n (order.address {m = l} {e = e} x rest) le =
        let k : l ≤ end = omega (arith, args_le rest, le) in
        both (both (address_upto (m n) ds e (begins x k)) (tree_upto ds x k)) (args_upto ds m (suc n) rest le)

  mutual
    constant_upto : {i j : ℕ} {e : Tree} → TreeIn i j e → j ≤ end → Upto end (not_constant e)
    constant_upto (order.constant w) le = none
    constant_upto (order.name w) le = one NotConstant _ (starts w le)
    constant_upto (order.index w x) le = both (one NotConstant _ (starts w le)) (constant_upto x (ends w le))
    constant_upto (order.call w x) le = both (one NotConstant _ (starts w le)) (constant_args x (ends w le))
    constant_upto (order.unary w x) le = constant_upto x (ends w le)
    constant_upto (order.cast w x) le = constant_upto x (ends w le)
    constant_upto (order.binary w x y) le =
        both (constant_upto x (omega (arith, tree_le y, w.ends, le))) (constant_upto y (ends w le))
    constant_upto (order.choice w x y z) le =
        both (constant_upto x (omega (arith, tree_le y, tree_le z, w.ends, le)))
        (both (constant_upto y (omega (arith, tree_le z, w.ends, le))) (constant_upto z (ends w le)))
    constant_upto (order.assign w x y) le =
        both (one NotConstant _ (starts w le)) (both (constant_upto x (omega (arith, tree_le y, w.ends, le))) (constant_upto y (ends w le)))
    constant_upto (order.bump w x) le = both (one NotConstant _ (starts w le)) (constant_upto x (ends w le))
    constant_upto (order.comma w x y) le =
        both (one NotConstant _ (starts w le)) (both (constant_upto x (omega (arith, tree_le y, w.ends, le))) (constant_upto y (ends w le)))

    constant_args : {i j : ℕ} {x : Args} → ArgsIn i j x → j ≤ end → Upto end (not_constant_args x)
    constant_args (order.no_args h) le = none
    constant_args (order.value x rest) le = both (constant_upto x (omega (arith, args_le rest, le))) (constant_args rest le)
    constant_args (order.format w rest) le = constant_args rest le
    constant_args (order.address x rest) le = both (constant_upto x (omega (arith, args_le rest, le))) (constant_args rest le)

  constant_all : {i j : ℕ} {es : List Tree} → TreesIn i j es → j ≤ end → Upto end (not_constant_all es)
  constant_all (order.none h) le = none
  constant_all (order.more x rest) le = both (constant_upto x (omega (arith, trees_le rest, le))) (constant_all rest le)

  start_upto : {i j : ℕ} {v : Initial} → InitialIn i j v → j ≤ end → Upto end (not_constant_initial v)
  start_upto (order.bare h) le = none
  start_upto (order.one x) le = constant_upto x le
  start_upto (order.many xs) le = constant_all xs le

  storage_upto : {i j : ℕ} {v : Initial} (storage : Storage) → InitialIn i j v → j ≤ end → Upto end (constant_faults storage v)
  storage_upto Automatic x le = none
  storage_upto Static x le = start_upto x le

  -- ---- declarations and statements

  whole_number : {i j : ℕ} {e : Tree} (ds : List Declaration) → TreeIn i j e → j ≤ end → Upto end (as_number ds e ++ faults ds e)
  whole_number ds x le = both (number_part ds x le) (tree_upto ds x le)

  whole_void : {i j : ℕ} {e : Tree} (ds : List Declaration) → TreeIn i j e → j ≤ end → Upto end (as_void ds e ++ faults ds e)
  whole_void ds x le = both (void_part ds x le) (tree_upto ds x le)

  numbers_upto : {i j : ℕ} {es : List Tree} (ds : List Declaration) → TreesIn i j es → j ≤ end → Upto end (as_numbers ds es)
  numbers_upto ds (order.none h) le = none
  numbers_upto ds (order.more x rest) le = both (whole_number ds x (omega (arith, trees_le rest, le))) (numbers_upto ds rest le)

  initial_upto : {i j : ℕ} {v : Initial} (ds : List Declaration) → InitialIn i j v → j ≤ end → Upto end (initial_faults ds v)
  initial_upto ds (order.bare h) le = none
  initial_upto ds (order.one x) le = whole_number ds x le
  initial_upto ds (order.many xs) le = numbers_upto ds xs le

  option_number : {i j : ℕ} {e : Option Tree} (ds : List Declaration) → OptionIn i j e → j ≤ end → Upto end (number_option ds e)
  option_number ds (order.absent h) le = none
  option_number ds (order.present x) le = whole_number ds x le

  option_void : {i j : ℕ} {e : Option Tree} (ds : List Declaration) → OptionIn i j e → j ≤ end → Upto end (void_option ds e)
  option_void ds (order.absent h) le = none
  option_void ds (order.present x) le = whole_void ds x le

  variables_upto : {i j : ℕ} {vs : List Variable} (storage : Storage) (here around : List Declaration) (ty : Ty) → VariablesIn i j vs → j ≤ end
      → Upto end (variables_faults storage here around ty vs)
  variables_upto storage here around ty (order.none h) le = none
  variables_upto storage here around ty (order.more {m = k} {v = v} w x rest) le =
      let m : k ≤ end = omega (arith, variables_le rest, le) in
      both (both (one_if _ Twice v.span (starts w m)) (both (length_upto v.shape v.start v.span (starts w m))
      (both (initial_upto (variable_declaration ty v ∷ (here ++ around)) x m) (storage_upto storage x m))))
      (variables_upto storage (variable_declaration ty v ∷ here) around ty rest le)

  first_upto : {i j : ℕ} {v : First} (ds : List Declaration) → FirstIn i j v → j ≤ end → Upto end (first_faults ds v)
  first_upto ds (order.none h) le = none
  first_upto ds (order.act x) le = whole_void ds x le
  first_upto ds (order.vars xs) le = variables_upto Automatic [] ds _ xs le

  module _ (ret : Option Ty) where
    mutual
      code_upto : {i j : ℕ} {c : Code} (ds : List Declaration) (in_loop : Bool) → CodeIn i j c → j ≤ end → Upto end (code_faults ret ds in_loop c)
      code_upto ds in_loop (order.empty w) le = none
      code_upto ds in_loop (order.act w x) le = whole_void ds x (ends w le)
      code_upto ds in_loop (order.block w x) le = body_upto [] ds in_loop x (ends w le)
      code_upto ds in_loop (order.if_then w x y) le =
          both (whole_number ds x (omega (arith, code_within y, w.ends, le))) (code_upto ds in_loop y (ends w le))
      code_upto ds in_loop (order.if_else w x y z) le =
          both (whole_number ds x (omega (arith, code_within y, code_within z, w.ends, le)))
          (both (code_upto ds in_loop y (omega (arith, code_within z, w.ends, le))) (code_upto ds in_loop z (ends w le)))
      code_upto ds in_loop (order.while w x y) le =
          both (whole_number ds x (omega (arith, code_within y, w.ends, le))) (code_upto ds true y (ends w le))
      code_upto ds in_loop (order.do_while w x y) le =
          both (code_upto ds true x (omega (arith, tree_le y, w.ends, le))) (whole_number ds y (ends w le))
      code_upto ds in_loop (order.for {i = i} w x y z u) le =
          both (both (first_upto ds x (omega (arith, option_le y, option_le z, code_within u, w.ends, le)))
          (both (option_number (first_declared i ++ ds) y (omega (arith, option_le z, code_within u, w.ends, le)))
          (option_void (first_declared i ++ ds) z (omega (arith, code_within u, w.ends, le)))))
          (code_upto (first_declared i ++ ds) true u (ends w le))
      code_upto ds in_loop (order.give w x) le = both (return_upto ret _ _ (starts w le)) (option_number ds x (ends w le))
      code_upto ds in_loop (order.break w) le = one_if _ LoopOnly _ (starts w le)
      code_upto ds in_loop (order.continue w) le = one_if _ LoopOnly _ (starts w le)

      body_upto : {i j : ℕ} {b : Body} (here around : List Declaration) (in_loop : Bool) → BodyIn i j b → j ≤ end → Upto end (body_faults ret here around in_loop b)
      body_upto here around in_loop (order.done h) le = none
      body_upto here around in_loop (order.next x rest) le =
          both (code_upto (here ++ around) in_loop x (omega (arith, body_le rest, le))) (body_upto here around in_loop rest le)
      body_upto here around in_loop (order.vars {ty = ty} {vs = vs} xs rest) le =
          both (variables_upto Automatic here around ty xs (omega (arith, body_le rest, le))) (body_upto (declared ty vs here) around in_loop rest le)

  -- ---- programs

  params_upto : {i j : ℕ} {ps : List Param} (here : List Declaration) → ParamsIn i j ps → j ≤ end → Upto end (params_faults here ps)
  params_upto here (order.none h) le = none
  params_upto here (order.more {p = p} w rest) le =
      both (one_if _ Twice p.span (starts w (omega (arith, params_le rest, le)))) (params_upto (param_declaration p ∷ here) rest le)

  redeclared_upto : (m : Entity) (f : Function) → f.span.from ≤ end → Upto end (redeclared_faults m f)
  redeclared_upto (entity.Variable slot ty array) f le = one Twice f.span le
  redeclared_upto (entity.Function ret params body defined) f le =
      both (one_if _ Twice f.span le) (both (one_if _ WrongKind f.span le) (one_if _ WrongCount f.span le))
  redeclared_upto (entity.Library ret params) f le = one Twice f.span le
  redeclared_upto entity.Printf f le = one Twice f.span le
  redeclared_upto entity.Scanf f le = one Twice f.span le

  redeclared_if : (b : Bool) (m : Entity) (f : Function) → f.span.from ≤ end → Upto end (if b then redeclared_faults m f else [])
  redeclared_if true m f le = redeclared_upto m f le
  redeclared_if false m f le = none

  name_upto : (ds : List Declaration) (f : Function) → f.span.from ≤ end → Upto end (name_faults ds f)
  name_upto [] f le = none
  name_upto (d ∷ ds) f le = both (redeclared_if (bytes_eq d.word f.word) d.entity f le) (name_upto ds f le)

  definition_upto : {i j : ℕ} {b : Option Body} (ret : Option Ty) (here around : List Declaration) → DefinitionIn i j b → j ≤ end → Upto end (definition_faults ret here around b)
  definition_upto ret here around (order.absent h) le = none
  definition_upto ret here around (order.present x) le = body_upto ret here around false x le

  outers_upto : {i j : ℕ} {p : List Outer} (file : List Outer) (here : List Declaration) → ProgramIn i j p → j ≤ end → Upto end (outers_faults file here p)
  outers_upto file here (order.none h) le = none
  outers_upto file here (order.more (order.vars {ty = ty} {vs = vs} xs) rest) le =
      both (variables_upto Static here [] ty xs (omega (arith, program_le rest, le))) (outers_upto file (declared ty vs here) rest le)
  outers_upto file here (order.more {m = k} (order.func {f = f} w ps b) rest) le =
      let m : k ≤ end = omega (arith, program_le rest, le) in
      both (both (name_upto here f (starts w m)) (both (params_upto [] ps (omega (arith, definition_le b, w.ends, m)))
      (definition_upto f.ret (params_declared f.params []) (function_declaration file f ∷ here) b (ends w m))))
      (outers_upto file (function_declaration file f ∷ here) rest le)

-- the faults of a program in text order
pub program_upto : (end : ℕ) (p : List Outer) → ProgramIn 0 end p → Upto end (program_faults p end)
program_upto end p h = both end (outers_upto end p library h (omega arith)) (one_if end _ NoMain _ (omega arith))

-- so does the fault that a refusal names
pub cause_placed : (end : ℕ) (p : List Outer) (f : TypeFault) → ProgramIn 0 end p → Causes f (program_faults p end) → IfSome (place_of f) (λ place. place ≤ end)
cause_placed end p (reported.Unknown n) h first = contained (program_upto end p h) (record { place = n; kind = Unknown }) first.among
cause_placed end p (reported.Twice n) h first = contained (program_upto end p h) (record { place = n; kind = Twice }) first.among
cause_placed end p (reported.WrongKind n) h first = contained (program_upto end p h) (record { place = n; kind = WrongKind }) first.among
cause_placed end p (reported.WrongCount n) h first = contained (program_upto end p h) (record { place = n; kind = WrongCount }) first.among
cause_placed end p (reported.NotPlace n) h first = contained (program_upto end p h) (record { place = n; kind = NotPlace }) first.among
cause_placed end p (reported.NotConstant n) h first = contained (program_upto end p h) (record { place = n; kind = NotConstant }) first.among
cause_placed end p (reported.BadArrayLength n) h first = contained (program_upto end p h) (record { place = n; kind = BadArrayLength }) first.among
cause_placed end p (reported.LoopOnly n) h first = contained (program_upto end p h) (record { place = n; kind = LoopOnly }) first.among
cause_placed end p (reported.BadFormat n) h first = contained (program_upto end p h) (record { place = n; kind = BadFormat }) first.among
cause_placed end p (reported.NoMain n) h first = contained (program_upto end p h) (record { place = n; kind = NoMain }) first.among
cause_placed end p reported.NoMemory h first = tt
