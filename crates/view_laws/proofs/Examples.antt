-- What the law says of a program: `int x;int main(void){x=1;}`, with a hole in the place of `1`.
use Rattle.std.proofs.Common.{◌≡◌, ℕ, ◌<◌, ◌≤◌, pos, List, [], ◌∷◌, codes, false, Some, None, refl, ap, ◌∙◌, arith}
use Rattle.std.proofs.lemmas.List.Elements.{All-head}
use Rattle.c_tree.specs.declared.place.Loc.{Loc}
use Rattle.c_tree.specs.declared.place.LocKind.TheVariants.{Guard, Right}
use Rattle.c_tree.specs.declared.place.Span.{Span}
use Rattle.c_tree.specs.declared.stmt.Shape.TheVariants.{Scalar}
use Rattle.c_tree.specs.declared.stmt.Slot.TheVariants.{Global}
use Rattle.c_tree.specs.declared.stmt.Ty.TheVariants.{Int}
use Rattle.c_tree.specs.Order as order
use Rattle.c_tree.specs.Order.{Within, CodeIn, OuterIn}
use Rattle.c_tree.specs.Tree.{constant, name, assign, bare_start, Variable, Code, act, next, done, Function, Outer, outer_vars, outer_func}
use Rattle.c_types.specs.declared.visible.Visible.{Visible}
use Rattle.c_types.specs.Evidence.{IsChecked, IsOrdered}
use Rattle.c_types.specs.Reads.{element_at}
use Rattle.c_types.specs.Visible.{visible_at}
use Rattle.c_location.specs.Locations.{locations}
use Rattle.c_stdio.specs.declared.test.Test.{Test}
use Rattle.c_meaning.specs.Filled.{filled}
use Rattle.c_meaning.specs.Meaning.{user_call}
use Rattle.c_meaning.specs.World.{World, waiting}
use Rattle.interp_code.specs.Shown.{Flat, StandsFor}
use Rattle.interp.specs.declared.machine.Machine.{Machine}
use Rattle.interp.specs.declared.machine.View.{View}
use Rattle.interp.specs.Following.{MachinesFollow}
use Rattle.interp.specs.Future.{state_of, event_of, world_at, next_state, Follows}
use Rattle.interp.specs.Seen.{seen, cells_in}
use Rattle.view_laws.specs.Laws.{ComesToHole, IsReadable, ViewsReadLocations}

abbrev at : ℕ → ℕ → Span
at from to = record { from = from; to = to }

abbrev x : Variable
x = record { word = codes "x"; slot = Global 0; span = at 4 5; shape = Scalar; start = bare_start }

-- `x=1;`
abbrev one : Code
one = act (assign None (name (codes "x") (Global 0) (at 21 22)) (constant (pos 1) (codes "1") (at 23 24)) (at 21 24)) (at 21 25)

abbrev main : Function
main = record { word = codes "main"; span = at 10 26; ret = Some Int; params = []; body = Some (next one done) }

abbrev p : List Outer
p = outer_vars Int (x ∷ []) ∷ (outer_func main ∷ [])

p_is_checked : IsChecked p
p_is_checked = record { faultless = λ end. refl; is_resolved = refl }

within : (from to : ℕ) (s : Span) → from ≤ s.from → s.from < s.to → s.to ≤ to → Within from to s
within from to s a b c = record { begins = a; covers = b; ends = c }

one_in : CodeIn 11 25 one
one_in =
    order.act (within 11 25 (at 21 25) (omega arith) (omega arith) (omega arith))
    (order.assign {m = 22} (within 21 25 (at 21 24) (omega arith) (omega arith) (omega arith))
    (order.name (within 21 22 (at 21 22) (omega arith) (omega arith) (omega arith)))
    (order.constant (within 22 24 (at 23 24) (omega arith) (omega arith) (omega arith))))

x_in : OuterIn 0 5 (outer_vars Int (x ∷ []))
x_in =
    order.vars
    (order.more {m = 5} (within 0 5 (at 4 5) (omega arith) (omega arith) (omega arith)) (order.bare (omega arith)) (order.none (omega arith)))

main_in : OuterIn 5 26 (outer_func main)
main_in =
    order.func {m = 11} (within 5 26 (at 10 26) (omega arith) (omega arith) (omega arith)) (order.none (omega arith))
    (order.present (order.next {m = 25} one_in (order.done (omega arith))))

p_is_ordered : IsOrdered p
p_is_ordered = record { end = 26; placed = order.more {m = 5} x_in (order.more {m = 26} main_in (order.none (omega arith))) }

-- the right side
abbrev right : Loc
right = record { kind = Right; at = at 23 24 }

all_locations : locations p ≡ record { kind = Guard; at = at 21 25 } ∷ (right ∷ [])
all_locations = refl

x_seen : visible_at 23 p ≡ record { word = codes "x"; slot = Global 0; ty = Int; array = false } ∷ []
x_seen = refl

-- the state in which the run waits for its first answer
abbrev at_right : Test → World
at_right t = record {
  objects = record { ty = Int; cells = Some (pos 0) ∷ [] } ∷ [];
  globals = Some 0 ∷ [];
  frame = [];
  io = record { input = t.input; expected = t.output };
  units = 8;
  tape = [];
}

waits_at_right : (t : Test) → filled p (Some right) t 10 [] ≡ waiting None (at_right t)
unfolding user_call
waits_at_right t = refl

-- each machine that starts on this program with ten units comes to that hole; the law says that a view of it shows `x`, and it shows 0
module _ (follow : MachinesFollow) (law : ViewsReadLocations) (m : Machine) (code : Flat) (t : Test) (h : Follows m code t 10 []) (stands : StandsFor code (Some right) p) where
  comes : ComesToHole m p right
  comes = record {
    code = code;
    test = t;
    limit = 10;
    given = [];
    follows = h;
    stands = stands;
    checked = p_is_checked;
    ordered = p_is_ordered;
    location = (1, omega arith, refl);
    old = None;
    due = (follow.says m code t 10 [] h).event p (Some right) stands ∙ ap (event_of t.status) (waits_at_right t);
  }

  -- where `next` has given the hole, and a view is taken then
  x_is_readable : (new : Machine) → state_of new ≡ next_state m → (view : View) → seen view ≡ state_of new → IsReadable (seen view) (Global 0) Int false
  x_is_readable new after view is =
      All-head (λ (v : Visible). IsReadable (seen view) v.slot v.ty v.array) (record { word = codes "x"; slot = Global 0; ty = Int; array = false }) []
      (law m p right comes view (is ∙ after)).visible

  x_is_zero : (new : Machine) → state_of new ≡ next_state m → (view : View) → seen view ≡ state_of new → element_at (cells_in (Global 0) (seen view)) (pos 0) ≡ Some (pos 0)
  x_is_zero new after view is =
      ap (λ (w : World). element_at (cells_in (Global 0) w) (pos 0))
      (is ∙ after ∙ (follow.says m code t 10 [] h).state p (Some right) stands ∙ ap world_at (waits_at_right t))
