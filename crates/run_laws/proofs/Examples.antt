-- What the laws say of programs with a hole: one that they hold of, and one that isn't resolved, of which they fail.
-- And what they say of a call with an array, and of a few trees that no text gives.
use Rattle.std.proofs.Common.{◌≡◌, ℕ, ℤ, pos, List, [], ◌∷◌, ◌≤◌, length, slice_get, codes, true, false, Option, Some, None, refl, sym, ap, ◌∙◌, subst, arith}
use Rattle.std.proofs.lemmas.List.Elements.{All-nil, All-head, All-from_recursion, All-contains}
use Rattle.std.proofs.lemmas.Slice.Eq.{bytes_eq-Decides}
use Rattle.std.specs.Prelude.{All}
use Rattle.std.specs.Str.{bytes_eq}
use Rattle.c_tree.specs.declared.stmt.Shape.TheVariants.{Scalar, Array}
use Rattle.c_tree.specs.declared.stmt.Slot.TheVariants.{Local}
use Rattle.c_tree.specs.declared.stmt.Ty.TheVariants.{Int}
use Rattle.c_tree.specs.Tree.{Tree, constant, name, index, call, hole, Args, value, no_args, bare_start, one_start, list_start, Variable, act, give, break, next, vars, done, Body, Function, Outer, outer_func, no_span}
use Rattle.c_types.specs.declared.scope.Entity.TheVariants.{Variable as VariableEntity}
use Rattle.c_types.specs.Evidence.{IsChecked}
use Rattle.c_types.specs.Library.{library}
use Rattle.c_types.specs.Least.{fault}
use Rattle.c_types.specs.Programs.{function_declaration, program_faults}
use Rattle.c_types.specs.Scopes.{is_declared}
use Rattle.c_types.specs.Statements.{variable_declaration}
use Rattle.c_meaning.specs.declared.argument.Argument.{Argument}
use Rattle.c_meaning.specs.declared.argument.Argument.TheVariants.{Number, Array as Given}
use Rattle.c_meaning.specs.World.{Object, World, waiting}
use Rattle.c_meaning.specs.Meaning.{Filling, user_call, no_hole, run_program, own_run}
use Rattle.run_laws.specs.Typed.{HasObject, IsTypedBy, IsSteady}
use Rattle.run_laws.specs.Holes.{Names, holes}
use Rattle.run_laws.specs.Places.{file_scope, IsThere}
use Rattle.run_laws.specs.Laws.{IsTypedByOne}
use Rattle.run_laws.specs.Reads.{TakesAll, IsDefinedFor, IsCallable}
use Rattle.run_laws.specs.Bodies.{FindsCall, RunFinds}
use Rattle.run_laws.specs.Passing.{Call, PassesByName, written_calls}
use Rattle.run_laws.proofs.Programs.{runs-find, arrays-passed, holes-typed}

-- holes at which every run stops
abbrev stops_there : Filling
stops_there old w = waiting old w

abbrev one : Variable
one = record { word = codes "x"; slot = Local 0; span = no_span; shape = Scalar; start = bare_start }

-- another variable in the same slot
abbrev other : Variable
other = record { word = codes "a"; slot = Local 0; span = no_span; shape = Array (Some (pos 2)); start = bare_start }

abbrev main_with : Variable → Outer
main_with v = outer_func (record { word = codes "main"; span = no_span; ret = Some Int; params = []; body = Some (vars Int (one ∷ []) (vars Int (v ∷ []) (next (act hole no_span) done))) })

-- a variable, and a hole where it is in scope
abbrev whole : List Outer
whole = outer_func (record { word = codes "main"; span = no_span; ret = Some Int; params = []; body = Some (vars Int (one ∷ []) (next (act hole no_span) done)) }) ∷ []

whole_is_checked : IsChecked whole
whole_is_checked = record { faultless = λ end. refl; is_resolved = refl }

-- two variables in one slot
abbrev broken : List Outer
broken = main_with other ∷ []

abbrev at_first : World
at_first = record { objects = []; globals = []; frame = []; io = record { input = []; expected = [] }; units = 10; tape = [] }

abbrev objects : List Object
objects = record { ty = Int; cells = None ∷ [] } ∷ (record { ty = Int; cells = None ∷ None ∷ [] } ∷ [])

-- the state at the hole, in which the slot names the array
abbrev at_last : World
at_last = record { objects = objects; globals = []; frame = Some 1 ∷ []; io = record { input = []; expected = [] }; units = 8; tape = [] }

run_stops : run_program stops_there broken at_first ≡ waiting None at_last
unfolding user_call
run_stops = refl

-- the state at the hole of the first program
abbrev in_whole : World
in_whole = record { objects = record { ty = Int; cells = None ∷ [] } ∷ []; globals = []; frame = Some 0 ∷ []; io = record { input = []; expected = [] }; units = 8; tape = [] }

whole_stops : run_program stops_there whole at_first ≡ waiting None in_whole
unfolding user_call
whole_stops = refl

some_same : {A : Type 0} {x y : A} → Some x ≡ Some y → x ≡ y
some_same h = cc

-- the variable that is no array would have an object of one cell
no_object : HasObject at_last (Local 0) Int false → ⊥
no_object h =
    let number : 1 ≡ h.number = some_same h.names in
    let object : slice_get objects 1 ≡ Some h.object = ap (λ n. slice_get objects n) number ∙ h.lives in
    let cells : 2 ≡ length h.object.cells = ap (λ (o : Object). length o.cells) (some_same object) in
    let single = h.single refl in
    absurd (omega arith)

abbrev scope : Names
scope = variable_declaration Int other ∷ (variable_declaration Int one ∷ (function_declaration broken (record { word = codes "main"; span = no_span; ret = Some Int; params = []; body = Some (vars Int (one ∷ []) (vars Int (other ∷ []) (next (act hole no_span) done))) }) ∷ library))

scope_fails : IsTypedBy scope at_last → ⊥
scope_fails h = no_object (h 1 (variable_declaration Int one) (omega arith))

-- so the state at its hole isn't typed by the hole's scope
not_typed : IsTypedByOne (holes broken) at_last → ⊥
not_typed h = All-contains (λ (ds : Names). IsTypedBy ds at_last → ⊥) (holes broken) h.scope (All-from_recursion (λ (ds : Names). IsTypedBy ds at_last → ⊥) (holes broken) (scope_fails, tt)) h.is_scope h.typed

-- ---- calls

-- `return e;`
abbrev gives : Tree → Body → Body
gives e rest = next (give (Some e) no_span) rest

abbrev number : ℤ → Tree
number n = constant n [] no_span

-- `int first(int a[]) { return a[0]; }`
abbrev first : Function
first = record {
  word = codes "first";
  span = no_span;
  ret = Some Int;
  params = record { word = codes "a"; slot = Local 0; span = no_span; ty = Int; array = true } ∷ [];
  body = Some (gives (index (codes "a") (Local 0) (number (pos 0)) no_span) done);
}

-- `int b[2] = {7, 8};`
abbrev pair : Variable
pair = record { word = codes "b"; slot = Local 0; span = no_span; shape = Array (Some (pos 2)); start = list_start (number (pos 7) ∷ (number (pos 8) ∷ [])) }

-- a function with that array as its argument
abbrev calling : List Outer
calling = outer_func first ∷ (outer_func (record {
  word = codes "main";
  span = no_span;
  ret = Some Int;
  params = [];
  body = Some (vars Int (pair ∷ []) (gives (call (codes "first") (value (name (codes "b") (Local 0) no_span) no_args) no_span) done));
}) ∷ [])

calling_is_checked : IsChecked calling
calling_is_checked = record { faultless = λ end. refl; is_resolved = refl }

-- what is declared at its file scope is there
calling_is_there : All (IsThere calling) (file_scope calling)
calling_is_there =
    All-from_recursion (IsThere calling) (file_scope calling) (
      (refl, (λ d. refl), (λ f found. ap (λ (z : Function). z.ret) (sym (some_same found)))),
      (
        (refl, (λ d. refl), (λ f found. ap (λ (z : Function). z.ret) (sym (some_same found)))),
        (refl, (refl, (refl, (refl, (refl, (refl, tt)))))),
      ),
    )

-- the state at the call
abbrev at_call : World
at_call = record { objects = record { ty = Int; cells = Some (pos 7) ∷ (Some (pos 8) ∷ []) } ∷ []; globals = []; frame = Some 0 ∷ []; io = record { input = []; expected = [] }; units = 7; tape = [] }

-- a program's own run is one that the laws speak of
own_is_steady : IsSteady no_hole
own_is_steady = record { by = λ old w. tt }

-- the law says of its run that the function takes the array
takes_array : IsCallable calling at_call (codes "first") (value (name (codes "b") (Local 0) no_span) no_args) (Given 0 ∷ [])
unfolding user_call FindsCall
takes_array = (runs-find calling calling_is_checked no_hole own_is_steady at_first).1.2.1.1.0.1.0.1.0

-- what is called by another word than those of the library is defined
own_call : (program : List Outer) (w : World) (word : List ℕ) (args : Args) (gs : List Argument) → IsCallable program w word args gs → is_declared library word ≡ false → IsDefinedFor program word gs w
own_call program w _ _ _ (IsCallable.getchar args) h = absurd (cc)
own_call program w _ _ _ (IsCallable.putchar args v) h = absurd (cc)
own_call program w _ _ _ (IsCallable.abs args v) h = absurd (cc)
own_call program w _ _ _ (IsCallable.exit args v) h = absurd (cc)
own_call program w _ _ _ (IsCallable.printf args f vs is) h = absurd (cc)
own_call program w _ _ _ (IsCallable.scanf s e i has first) h = absurd (cc)
own_call program w _ _ _ (IsCallable.own word args gs free is) h = is

-- it takes no number in the array's place, and not nothing
takes_no_number : (args : Args) → IsCallable calling at_call (codes "first") args (Number (pos 7) ∷ []) → ⊥
takes_no_number args h =
    let own = own_call calling at_call (codes "first") args (Number (pos 7) ∷ []) h refl in
    let same : own.function ≡ first = some_same (sym own.is) in
    let takes : TakesAll first.params (Number (pos 7) ∷ []) at_call = subst (λ (f : Function). TakesAll f.params (Number (pos 7) ∷ []) at_call) same own.takes in
    let wrong : true ≡ false = takes.0 in
    absurd (cc)

takes_not_nothing : (args : Args) → IsCallable calling at_call (codes "first") args [] → ⊥
takes_not_nothing args h =
    let own = own_call calling at_call (codes "first") args [] h refl in
    let same : own.function ≡ first = some_same (sym own.is) in
    subst (λ (f : Function). TakesAll f.params [] at_call) same own.takes

-- nothing is called by a word that is nowhere defined
not_defined : (args : Args) (gs : List Argument) → IsCallable calling at_call (codes "second") args gs → ⊥
not_defined args gs h =
    let own = own_call calling at_call (codes "second") args gs h refl in
    let found : None ≡ Some own.function = own.is in
    absurd (cc)

-- `putchar` takes no other than one argument
one_for_putchar : (program : List Outer) (w : World) (word : List ℕ) (args : Args) (gs : List Argument) → IsCallable program w word args gs → bytes_eq word (codes "putchar") ≡ true → length gs ≡ 1
one_for_putchar program w _ _ _ (IsCallable.getchar args) h = absurd (cc)
one_for_putchar program w _ _ _ (IsCallable.putchar args v) h = refl
one_for_putchar program w _ _ _ (IsCallable.abs args v) h = absurd (cc)
one_for_putchar program w _ _ _ (IsCallable.exit args v) h = absurd (cc)
one_for_putchar program w _ _ _ (IsCallable.printf args f vs is) h = absurd (cc)
one_for_putchar program w _ _ _ (IsCallable.scanf s e i has first) h = absurd (cc)
one_for_putchar program w _ _ _ (IsCallable.own word args gs free is) h =
    let same : codes "putchar" ≡ word = sym ((bytes_eq-Decides word (codes "putchar")).0 h) in
    let declared : true ≡ false = subst (λ (z : List ℕ). is_declared library z ≡ false) (sym same) free in
    absurd (cc)

-- ---- trees of which the laws fail

abbrev main_of : Body → List Outer
main_of body = outer_func (record { word = codes "main"; span = no_span; ret = Some Int; params = []; body = Some body }) ∷ []

-- control leaves the body of `main` by a `break`
leaves_by_break : RunFinds no_hole (main_of (next (break no_span) done)) at_first → ⊥
unfolding user_call FindsCall
leaves_by_break h = h.1.2.1.1.1

-- and by a `return` without a value
leaves_with_nothing : RunFinds no_hole (main_of (next (give None no_span) done)) at_first → ⊥
unfolding user_call FindsCall
leaves_with_nothing h = let wrong : false ≡ true = h.1.2.1.1.1 in absurd (cc)

-- `int x = {7, 8};`, which the rules of kinds refuse
abbrev crowded : Variable
crowded = record { word = codes "x"; slot = Local 0; span = no_span; shape = Scalar; start = list_start (number (pos 7) ∷ (number (pos 8) ∷ [])) }

is_refused : IsChecked (main_of (vars Int (crowded ∷ []) done)) → ⊥
unfolding fault
is_refused h = let none : program_faults (main_of (vars Int (crowded ∷ []) done)) 0 ≡ [] = h.faultless 0 in absurd (cc)

-- its object has no cell for the second
is_crowded : RunFinds no_hole (main_of (vars Int (crowded ∷ []) done)) at_first → ⊥
unfolding user_call FindsCall
is_crowded h = let holds : 2 ≤ 1 = h.1.2.1.1.0.0.1 in absurd (omega arith)

-- ---- arrays as arguments

-- the law says of its call that `b` denotes an array of that type and slot
names_the_array : PassesByName calling (record { word = codes "first"; args = value (name (codes "b") (Local 0) no_span) no_args; scope = variable_declaration Int pair ∷ file_scope calling })
names_the_array = All-head (PassesByName calling) _ [] (arrays-passed calling calling_is_checked)

-- `int f(int a[]) { return a[1]; } int main(void) { int x = 5; return f(x); }`
abbrev second : Function
second = record {
  word = codes "f";
  span = no_span;
  ret = Some Int;
  params = record { word = codes "a"; slot = Local 0; span = no_span; ty = Int; array = true } ∷ [];
  body = Some (gives (index (codes "a") (Local 0) (number (pos 1)) no_span) done);
}

abbrev five : Variable
five = record { word = codes "x"; slot = Local 0; span = no_span; shape = Scalar; start = one_start (number (pos 5)) }

abbrev mistaken : List Outer
mistaken = outer_func second ∷ (outer_func (record {
  word = codes "main";
  span = no_span;
  ret = Some Int;
  params = [];
  body = Some (vars Int (five ∷ []) (gives (call (codes "f") (value (name (codes "x") (Local 0) no_span) no_args) no_span) done));
}) ∷ [])

-- its call, where `x` is an `int`
abbrev given_number : Call
given_number = record { word = codes "f"; args = value (name (codes "x") (Local 0) no_span) no_args; scope = variable_declaration Int five ∷ file_scope mistaken }

is_written : written_calls mistaken ≡ given_number ∷ []
is_written = refl

-- it passes no array
passes_number : PassesByName mistaken given_number → ⊥
passes_number h =
    let wrong : Some (VariableEntity (Local 0) Int false) ≡ Some (VariableEntity (Local 0) Int true) = h.0 refl in
    absurd (cc)

-- so the rules of kinds refuse it
not_checked : IsChecked mistaken → ⊥
not_checked h = passes_number (All-head (PassesByName mistaken) given_number [] (arrays-passed mistaken h))

-- ---- runs that wait

-- the own run of a program without a hole doesn't wait
never_waits : (p : List Outer) → IsChecked p → holes p ≡ [] → (old : Option ℤ) (w x : World) → own_run p w ≡ waiting old x → ⊥
never_waits p checked none old w x e =
    let typed = holes-typed p checked no_hole own_is_steady old w x e in
    All-contains (λ (ds : Names). ⊥) (holes p) typed.scope (subst (λ (hs : List Names). All (λ (ds : Names). ⊥) hs) (sym none) (All-nil (λ (ds : Names). ⊥))) typed.is_scope

-- ---- trees that no text gives

-- `int a[2] = 5;`, `int b[] = {};` and `int x = {7};`, which no rule of kinds refuses
abbrev unbraced : Variable
unbraced = record { word = codes "a"; slot = Local 0; span = no_span; shape = Array (Some (pos 2)); start = one_start (number (pos 5)) }

abbrev unlisted : Variable
unlisted = record { word = codes "b"; slot = Local 1; span = no_span; shape = Array None; start = list_start [] }

abbrev braced : Variable
braced = record { word = codes "x"; slot = Local 2; span = no_span; shape = Scalar; start = list_start (number (pos 7) ∷ []) }

not_refused : IsChecked (main_of (vars Int (unbraced ∷ (unlisted ∷ (braced ∷ []))) done))
not_refused = record { faultless = λ end. refl; is_resolved = refl }
