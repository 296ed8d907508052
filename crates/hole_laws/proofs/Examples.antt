-- What the laws say of a program: `int main(void){char c=7;int x=c;if(x)c=2;}`.
use Rattle.std.proofs.Common.{◌≡◌, ℕ, ◌<◌, ◌≤◌, pos, List, [], ◌∷◌, codes, false, Some, None, refl, arith, Contains}
use Rattle.std.proofs.lemmas.List.Elements.{All-head}
use Rattle.c_tree.specs.declared.place.Loc.{Loc}
use Rattle.c_tree.specs.declared.place.LocKind.TheVariants.{Guard, Cond, Right}
use Rattle.c_tree.specs.declared.place.Span.{Span}
use Rattle.c_tree.specs.declared.stmt.Shape.TheVariants.{Scalar}
use Rattle.c_tree.specs.declared.stmt.Slot.TheVariants.{Local}
use Rattle.c_tree.specs.declared.stmt.Ty.TheVariants.{Int, Char}
use Rattle.c_tree.specs.Order as order
use Rattle.c_tree.specs.Order.{Within, TreeIn, VariablesIn, CodeIn, OuterIn}
use Rattle.c_tree.specs.Tree.{Tree, constant, name, assign, one_start, Variable, Code, act, if_then, next, vars, done, Function, Outer, outer_func}
use Rattle.c_types.specs.declared.visible.Visible.{Visible}
use Rattle.c_types.specs.Evidence.{IsChecked, IsOrdered}
use Rattle.c_types.specs.Library.{library}
use Rattle.c_types.specs.Programs.{function_declaration}
use Rattle.c_types.specs.Statements.{variable_declaration}
use Rattle.c_types.specs.Visible.{visible_at}
use Rattle.c_location.specs.Locations.{locations}
use Rattle.c_stdio.specs.declared.test.Test.{Test}
use Rattle.c_meaning.specs.Filled.{holed, filled}
use Rattle.c_meaning.specs.Meaning.{user_call}
use Rattle.c_meaning.specs.World.{World, waiting}
use Rattle.scope_laws.specs.Seen.{visible_in, usable}
use Rattle.run_laws.specs.Holes.{Names, holes}
use Rattle.run_laws.specs.Laws.{ShowsVariable}
use Rattle.hole_laws.specs.Laws.{FilledRunsShowLocations}

abbrev at : ℕ → ℕ → Span
at from to = record { from = from; to = to }

abbrev c_name : Span → Tree
c_name s = name (codes "c") (Local 0) s

abbrev x_name : Span → Tree
x_name s = name (codes "x") (Local 1) s

abbrev c : Variable
c = record { word = codes "c"; slot = Local 0; span = at 20 21; shape = Scalar; start = one_start (constant (pos 7) (codes "7") (at 22 23)) }

abbrev x : Variable
x = record { word = codes "x"; slot = Local 1; span = at 28 29; shape = Scalar; start = one_start (c_name (at 30 31)) }

-- `c=2;`
abbrev two : Code
two = act (assign None (c_name (at 37 38)) (constant (pos 2) (codes "2") (at 39 40)) (at 37 40)) (at 37 41)

abbrev main : Function
main = record {
  word = codes "main";
  span = at 4 42;
  ret = Some Int;
  params = [];
  body = Some (vars Char (c ∷ []) (vars Int (x ∷ []) (next (if_then (x_name (at 35 36)) two (at 32 41)) done)));
}

abbrev p : List Outer
p = outer_func main ∷ []

p_is_checked : IsChecked p
p_is_checked = record { faultless = λ end. refl; is_resolved = refl }

within : (from to : ℕ) (s : Span) → from ≤ s.from → s.from < s.to → s.to ≤ to → Within from to s
within from to s a b c = record { begins = a; covers = b; ends = c }

test_in : TreeIn 33 36 (x_name (at 35 36))
test_in = order.name (within 33 36 (at 35 36) (omega arith) (omega arith) (omega arith))

two_in : CodeIn 36 41 two
two_in =
    order.act (within 36 41 (at 37 41) (omega arith) (omega arith) (omega arith))
    (order.assign {m = 38} (within 37 41 (at 37 40) (omega arith) (omega arith) (omega arith))
    (order.name (within 37 38 (at 37 38) (omega arith) (omega arith) (omega arith)))
    (order.constant (within 38 40 (at 39 40) (omega arith) (omega arith) (omega arith))))

c_in : VariablesIn 5 23 (c ∷ [])
c_in =
    order.more {m = 23} (within 5 23 (at 20 21) (omega arith) (omega arith) (omega arith))
    (order.one (order.constant (within 21 23 (at 22 23) (omega arith) (omega arith) (omega arith)))) (order.none (omega arith))

x_in : VariablesIn 23 31 (x ∷ [])
x_in =
    order.more {m = 31} (within 23 31 (at 28 29) (omega arith) (omega arith) (omega arith))
    (order.one (order.name (within 29 31 (at 30 31) (omega arith) (omega arith) (omega arith)))) (order.none (omega arith))

main_in : OuterIn 0 42 (outer_func main)
main_in =
    order.func {m = 5} (within 0 42 (at 4 42) (omega arith) (omega arith) (omega arith)) (order.none (omega arith))
    (order.present (order.vars {m = 23} c_in (order.vars {m = 31} x_in
    (order.next {m = 41} (order.if_then {m = 36} (within 31 41 (at 32 41) (omega arith) (omega arith) (omega arith)) test_in two_in)
    (order.done (omega arith))))))

p_is_ordered : IsOrdered p
p_is_ordered = record { end = 42; placed = order.more {m = 42} main_in (order.none (omega arith)) }

-- ---- the initialiser of `x`, where `x` itself is in scope, but not visible

abbrev start : Loc
start = record { kind = Right; at = at 30 31 }

-- the condition
abbrev test : Loc
test = record { kind = Cond; at = at 35 36 }

-- the assignment
abbrev guarded : Loc
guarded = record { kind = Guard; at = at 37 41 }

abbrev scope : Names
scope = variable_declaration Int x ∷ (variable_declaration Char c ∷ (function_declaration p main ∷ library))

all_locations : locations p ≡ record { kind = Right; at = at 22 23 } ∷ (start ∷ (test ∷ (guarded ∷ (record { kind = Right; at = at 39 40 } ∷ []))))
all_locations = refl

holes_at_start : holes (holed start p) ≡ scope ∷ []
holes_at_start = refl

holes_at_test : holes (holed test p) ≡ scope ∷ []
holes_at_test = refl

holes_at_guarded : holes (holed guarded p) ≡ scope ∷ []
holes_at_guarded = refl

abbrev c_seen : Visible
c_seen = record { word = codes "c"; slot = Local 0; ty = Char; array = false }

abbrev x_seen : Visible
x_seen = record { word = codes "x"; slot = Local 1; ty = Int; array = false }

seen_at_start : visible_at 30 p ≡ c_seen ∷ []
seen_at_start = refl

usable_at_start : usable (Some (codes "x")) (visible_in scope) ≡ c_seen ∷ []
usable_at_start = refl

seen_at_test : visible_at 35 p ≡ x_seen ∷ (c_seen ∷ [])
seen_at_test = refl

-- ---- where the run waits for the first answer at the condition

abbrev at_test : Test → World
at_test t = record {
  objects = record { ty = Char; cells = Some (pos 7) ∷ [] } ∷ (record { ty = Int; cells = Some (pos 7) ∷ [] } ∷ []);
  globals = [];
  frame = Some 0 ∷ (Some 1 ∷ []);
  io = record { input = t.input; expected = t.output };
  units = 6;
  tape = [];
}

waits_at_test : (t : Test) → filled p (Some test) t 10 [] ≡ waiting None (at_test t)
unfolding user_call
waits_at_test t = refl

-- the law says that `x` has its object there
shown_at_test : FilledRunsShowLocations → (t : Test) → ShowsVariable (at_test t) (Local 1) Int false
shown_at_test law t =
    let among : Contains (locations p) test = (2, omega arith, refl) in
    let shown = law p p_is_checked p_is_ordered test among t 10 [] None (at_test t) (waits_at_test t) in
    All-head (λ (v : Visible). ShowsVariable (at_test t) v.slot v.ty v.array) x_seen (c_seen ∷ []) shown.visible
