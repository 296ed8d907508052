-- Small programs, run by the definitions themselves.
use Rattle.std.proofs.Common.{◌≡◌, ℕ, ℤ, pos, negsuc, List, [], ◌∷◌, codes, Bool, true, false, Option, Some, None, refl}
use Rattle.c_tree.specs.declared.expr.BinOp.TheVariants.{Add, Sub, Div, Lt, Eq, Both, Either}
use Rattle.c_tree.specs.declared.stmt.Slot.TheVariants.{Local, Global}
use Rattle.c_tree.specs.declared.stmt.Shape.TheVariants.{Scalar, Array}
use Rattle.c_tree.specs.declared.stmt.Ty.TheVariants.{Int, Char}
use Rattle.c_tree.specs.declared.program.Param.{Param}
use Rattle.c_tree.specs.Tree.{Tree, constant, name, index, call, binary, assign, bump, comma, no_args, value, Initial, bare_start, one_start, list_start, first_vars, act, block, if_then, while, do_while, for, give, break, continue, Body, done, next, vars, Outer, outer_vars, outer_func, no_span}
use Rattle.c_stdio.specs.declared.test.Test.{Test}
use Rattle.c_meaning.specs.declared.outcome.Outcome.TheVariants.{Passed, Wrong, Short, Status, Trapped, Budget, Depth}
use Rattle.c_meaning.specs.Meaning.{looping, user_call}
use Rattle.c_meaning.specs.Ends.{outcome, units_taken}

-- ---- trees

abbrev number : ℕ → Tree
number n = constant (pos n) [] no_span

abbrev v : ℕ → Tree
v n = name (codes "v") (Local n) no_span

abbrev at : ℕ → Tree → Tree
at n e = index (codes "v") (Local n) e no_span

abbrev give_back : Tree → Body
give_back e = next (give (Some e) no_span) done

abbrev does : Tree → Body → Body
does e rest = next (act e no_span) rest

abbrev set_to : Tree → Tree → Tree
set_to place e = assign None place e no_span

abbrev int : ℕ → Initial → Body → Body
int n start rest = vars Int (record { word = codes "v"; slot = Local n; span = no_span; shape = Scalar; start = start } ∷ []) rest

abbrev ints : ℕ → Option ℤ → Initial → Body → Body
ints n size start rest = vars Int (record { word = codes "v"; slot = Local n; span = no_span; shape = Array size; start = start } ∷ []) rest

abbrev parameter : Bool → Param
parameter is_array = record { word = codes "v"; slot = Local 0; span = no_span; ty = Int; array = is_array }

abbrev function : List ℕ → List Param → Body → Outer
function word params body = outer_func (record { word = word; span = no_span; ret = Some Int; params = params; body = Some body })

abbrev main_with : Body → List Outer
main_with body = function (codes "main") [] body ∷ []

-- no input, no output and this status
abbrev returns : ℕ → Test
returns status = record { name = []; input = []; output = []; status = status }

-- no input, this output and the status 0
abbrev writes : List ℕ → Test
writes bytes = record { name = []; input = []; output = bytes; status = 0 }

abbrev put : ℕ → Body → Body
put n rest = does (call (codes "putchar") (value (number n) no_args) no_span) rest

-- ---- ends

-- `return 7;`
seven : outcome (main_with (give_back (number 7))) (returns 7) 2 ≡ Passed
unfolding user_call
seven = refl

seven_needs_two : outcome (main_with (give_back (number 7))) (returns 7) 1 ≡ Budget
unfolding user_call
seven_needs_two = refl

seven_takes_two : units_taken (main_with (give_back (number 7))) (returns 7) 10 ≡ 2
unfolding user_call
seven_takes_two = refl

-- only the low byte of a status counts
low_byte : outcome (main_with (give_back (number 256))) (returns 0) 2 ≡ Passed
unfolding user_call
low_byte = refl

another_status : outcome (main_with (give_back (number 257))) (returns 0) 2 ≡ Status 1
unfolding user_call
another_status = refl

-- the end of `main` returns 0
no_return : outcome (main_with done) (returns 0) 1 ≡ Passed
unfolding user_call
no_return = refl

-- the sum is no value of `int`
overflow : outcome (main_with (give_back (binary Add (number 2147483647) (number 1) no_span))) (returns 0) 2 ≡ Trapped
unfolding user_call
overflow = refl

-- a read before a store
uninitialised : outcome (main_with (int 0 bare_start (give_back (v 0)))) (returns 0) 2 ≡ Trapped
unfolding user_call
uninitialised = refl

-- `putchar(321);` writes `A`
writes_low_byte : outcome (main_with (put 321 done)) (writes (codes "A")) 2 ≡ Passed
unfolding user_call
writes_low_byte = refl

writes_another : outcome (main_with (put 66 done)) (writes (codes "AB")) 2 ≡ Wrong
unfolding user_call
writes_another = refl

writes_too_little : outcome (main_with (put 65 done)) (writes (codes "AB")) 2 ≡ Short
unfolding user_call
writes_too_little = refl

-- ---- calls, recursion and depth

-- `int f(int n) { if (n == 0) return 5; return f(n - 1); }` and `int main(void) { return f(k); }`
abbrev counting_down : ℕ → List Outer
counting_down k =
    function (codes "f") (parameter false ∷ []) (next (if_then (binary Eq (v 0) (number 0) no_span) (give (Some (number 5)) no_span) no_span) (give_back (call (codes "f") (value (binary Sub (v 0) (number 1) no_span) no_args) no_span)))
    ∷ main_with (give_back (call (codes "f") (value (number k) no_args) no_span))

-- each call takes a unit for its entry, one for the `if` and one for the `return`
recursion : outcome (counting_down 3) (returns 5) 14 ≡ Passed
unfolding user_call
recursion = refl

recursion_budget : outcome (counting_down 3) (returns 5) 13 ≡ Budget
unfolding user_call
recursion_budget = refl

-- 254 calls of `f` inside the first, and `main`, are 256 that are live
deep : outcome (counting_down 254) (returns 5) 1000 ≡ Passed
unfolding user_call
deep = refl

too_deep : outcome (counting_down 255) (returns 5) 1000 ≡ Depth
unfolding user_call
too_deep = refl

-- `int f(int v[]) { v[1] = 7; return 0; }` and `int a[2] = {1, 2}; f(a); return a[1];`
by_reference :
    outcome
    (function (codes "f") (parameter true ∷ []) (does (set_to (at 0 (number 1)) (number 7)) (give_back (number 0)))
    ∷ main_with (ints 0 (Some (pos 2)) (list_start (number 1 ∷ number 2 ∷ [])) (does (call (codes "f") (value (v 0) no_args) no_span) (give_back (at 0 (number 1))))))
    (returns 7) 10
    ≡ Passed
unfolding user_call
by_reference = refl

-- the value of a function that ended without one: not used, and used
not_used : outcome (function (codes "f") [] done ∷ main_with (does (call (codes "f") no_args no_span) (give_back (number 3)))) (returns 3) 10 ≡ Passed
unfolding user_call
not_used = refl

left_of_comma : outcome (function (codes "f") [] done ∷ main_with (give_back (comma (call (codes "f") no_args no_span) (number 3) no_span))) (returns 3) 10 ≡ Passed
unfolding user_call
left_of_comma = refl

right_of_comma : outcome (function (codes "f") [] done ∷ main_with (does (comma (number 3) (call (codes "f") no_args no_span) no_span) done)) (returns 0) 10 ≡ Trapped
unfolding user_call
right_of_comma = refl

-- ---- loops

-- `int s = 0; for (int i = 0; i < 4; i++) { if (i == 1) continue; if (i == 3) break; s += i; } return s;`
abbrev loop_of_four : Body
loop_of_four =
    int 0 (one_start (number 0)) (next (for (first_vars Int (record { word = codes "v"; slot = Local 1; span = no_span; shape = Scalar; start = one_start (number 0) } ∷ []))
    (Some (binary Lt (v 1) (number 4) no_span)) (Some (bump false true (v 1) no_span))
    (block (next (if_then (binary Eq (v 1) (number 1) no_span) (continue no_span) no_span) (next (if_then (binary Eq (v 1) (number 3) no_span) (break no_span) no_span) (does (assign (Some Add) (v 0) (v 1) no_span) done))) no_span) no_span)
    (give_back (v 0)))

-- entry, two declarators, four tests, eight less one tests of `if`, a `continue`, a `break`, two sums, a `return`
for_loop : outcome (main_with loop_of_four) (returns 2) 19 ≡ Passed
unfolding user_call looping
for_loop = refl

for_loop_budget : outcome (main_with loop_of_four) (returns 2) 18 ≡ Budget
unfolding user_call looping
for_loop_budget = refl

-- `int i = 0; do i++; while (i < 3); return i;`
do_loop : outcome (main_with (int 0 (one_start (number 0)) (next (do_while (act (bump false true (v 0) no_span) no_span) (binary Lt (v 0) (number 3) no_span) no_span) (give_back (v 0))))) (returns 3) 9 ≡ Passed
unfolding user_call looping
do_loop = refl

-- `int i = 3; while (i) i = i - 1; return i;`
while_loop : outcome (main_with (int 0 (one_start (number 3)) (next (while (v 0) (act (set_to (v 0) (binary Sub (v 0) (number 1) no_span)) no_span) no_span) (give_back (v 0))))) (returns 0) 10 ≡ Passed
unfolding user_call looping
while_loop = refl

while_loop_budget : outcome (main_with (int 0 (one_start (number 3)) (next (while (v 0) (act (set_to (v 0) (binary Sub (v 0) (number 1) no_span)) no_span) no_span) (give_back (v 0))))) (returns 0) 9 ≡ Budget
unfolding user_call looping
while_loop_budget = refl

-- ---- objects

-- an element that a list doesn't reach is 0 at its end, and uninitialised before
rest_is_zero : outcome (main_with (ints 0 (Some (pos 3)) (list_start (number 4 ∷ [])) (give_back (at 0 (number 2))))) (returns 0) 9 ≡ Passed
unfolding user_call
rest_is_zero = refl

not_zero_yet : outcome (main_with (ints 0 (Some (pos 3)) (list_start (at 0 (number 2) ∷ [])) (give_back (number 0)))) (returns 0) 9 ≡ Trapped
unfolding user_call
not_zero_yet = refl

outside : outcome (main_with (ints 0 (Some (pos 3)) bare_start (does (set_to (at 0 (number 3)) (number 1)) (give_back (number 0))))) (returns 0) 9 ≡ Trapped
unfolding user_call
outside = refl

below : outcome (main_with (ints 0 (Some (pos 3)) bare_start (does (set_to (at 0 (constant (negsuc 0) [] no_span)) (number 1)) (give_back (number 0))))) (returns 0) 9 ≡ Trapped
unfolding user_call
below = refl

-- `char g = 127; g++; return g < 0;`
char_wraps : outcome (outer_vars Char (record { word = codes "g"; slot = Global 0; span = no_span; shape = Scalar; start = one_start (number 127) } ∷ []) ∷ main_with (does (bump true true (name (codes "g") (Global 0) no_span) no_span) (give_back (binary Lt (name (codes "g") (Global 0) no_span) (number 0) no_span)))) (returns 1) 9 ≡ Passed
unfolding user_call
char_wraps = refl

-- `1 || 1 / 0` and `0 && 1 / 0`
skipped : outcome (main_with (give_back (binary Add (binary Either (number 1) (binary Div (number 1) (number 0) no_span) no_span) (binary Both (number 0) (binary Div (number 1) (number 0) no_span) no_span) no_span))) (returns 1) 9 ≡ Passed
unfolding user_call
skipped = refl
