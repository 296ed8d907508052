-- Each part in text order is sound: its locations rise, and each of them names one place of it.
use Rattle.std.proofs.Common.{◌≡◌, ℕ, suc, ◌≤◌, List, [], ◌++◌, Option, Some, None, refl, sym, ap, append_assoc, suc-le-suc, arith, flat_map}
use Rattle.c_tree.specs.declared.expr.BinOp.{BinOp}
use Rattle.c_tree.specs.declared.place.Loc.{Loc}
use Rattle.c_tree.specs.declared.place.Span.{Span}
use Rattle.c_tree.specs.declared.program.Param.{Param}
use Rattle.c_tree.specs.Parts.{span_of}
use Rattle.c_tree.specs.Tree.{Tree, constant, name, index, call, unary, cast, binary, choice, assign, bump, comma, Args, no_args, value, format, address, Initial, bare_start, one_start, list_start, Variable, First, no_first, first_act, first_vars, Code, empty, act, block, if_then, if_else, while, do_while, for, give, break, continue, Body, done, next, vars, Outer, outer_vars, outer_func}
use Rattle.c_tree.specs.Order as order
use Rattle.c_tree.specs.Order.{Within, TreeIn, ArgsIn, TreesIn, OptionIn, InitialIn, VariablesIn, FirstIn, CodeIn, BodyIn, ParamsIn, DefinitionIn, OuterIn, ProgramIn}
use Rattle.c_location.specs.Locations.{Located, Part, right_side, condition, guard, assigned, in_tree, in_args, in_condition, in_right_side, in_test, in_step, in_value, in_initial, in_variables, in_first, in_code, in_body, in_definition, in_outer, located}
use Rattle.c_location.specs.Rewrites.{Rewrite, at_assigned, to_tree, to_args, to_condition, to_right_side, to_test, to_step, to_value, to_initial, to_variable, to_first, to_code, to_body, to_definition, to_outer}
use Rattle.c_location.specs.OnePlace.{opening, holes_in, holes_in_args, holes_in_option, holes_in_initial, holes_in_first, holes_in_code, holes_in_body, holes_in_definition, holes_in_outer, into_act, fill_tree, fill_args, fill_option, fill_initial, fill_variable, fill_first, fill_code, fill_body, fill_definition, fill_outer}
use Rattle.c_location.proofs.Rises.{rises-order}
use Rattle.c_location.proofs.Sound.{Kind, Sound, sound_from, sound_to, sound_along, leaf, wrap, join, pair, lists, cons, placed}

-- expressions
abbrev trees : Kind Tree
trees = record { to = to_tree; holes = holes_in; fill = fill_tree }

-- arguments
abbrev arguments : Kind Args
arguments = record { to = to_args; holes = holes_in_args; fill = fill_args }

-- conditions
abbrev conditions : Kind Tree
conditions = record trees { to = to_condition }

-- right sides
abbrev right_sides : Kind Tree
right_sides = record trees { to = to_right_side }

-- values of assignments with this operator, or with none
abbrev values_assigned : Option BinOp → Kind Tree
values_assigned f = record trees { to = λ l r e. at_assigned l r f e (to_tree l r e) }

-- conditions of a `for`
abbrev tests : Kind (Option Tree)
tests = record { to = to_test; holes = holes_in_option; fill = fill_option }

-- steps of a `for`
abbrev steps : Kind (Option Tree)
steps = record { to = to_step; holes = holes_in_option; fill = fill_option }

-- values of a `return`
abbrev values : Kind (Option Tree)
values = record { to = to_value; holes = holes_in_option; fill = fill_option }

-- initialisers
abbrev initials : Kind Initial
initials = record { to = to_initial; holes = holes_in_initial; fill = fill_initial }

-- declared variables
abbrev variables : Kind Variable
variables = record { to = to_variable; holes = λ v. holes_in_initial v.start; fill = fill_variable }

-- first clauses of a `for`
abbrev firsts : Kind First
firsts = record { to = to_first; holes = holes_in_first; fill = fill_first }

-- statements
abbrev codes : Kind Code
codes = record { to = to_code; holes = holes_in_code; fill = fill_code }

-- a statement that is a location, with only what is in it changed
abbrev inside_code : Loc → Rewrite → Code → Code
inside_code l r (act e s) = act (to_tree l r e) s
inside_code l r (give e s) = give (to_value l r e) s
inside_code l r c = c

-- such statements
abbrev insides : Kind Code
insides = record codes { to = inside_code }

-- the items of a block
abbrev bodies : Kind Body
bodies = record { to = to_body; holes = holes_in_body; fill = fill_body }

-- bodies that may be absent
abbrev definitions : Kind (Option Body)
definitions = record { to = to_definition; holes = holes_in_definition; fill = fill_definition }

-- what stands at file scope
abbrev outers : Kind Outer
outers = record { to = to_outer; holes = holes_in_outer; fill = fill_outer }

-- an expression that ends at this place or before is sound, with its locations after its first byte
abbrev SoundTree : ℕ → Tree → Type 0
SoundTree to e = Sound trees (in_tree e) (suc (span_of e).from) to e

-- an expression begins where what it lies in does, or later
begins : {from to : ℕ} {e : Tree} → TreeIn from to e → from ≤ (span_of e).from
begins (order.constant w) = w.begins
begins (order.name w) = w.begins
begins (order.index w h) = w.begins
begins (order.call w h) = w.begins
begins (order.unary w h) = w.begins
begins (order.cast w h) = w.begins
begins (order.binary w a b) = w.begins
begins (order.choice w t a b) = w.begins
begins (order.assign w p e) = w.begins
begins (order.bump w h) = w.begins
begins (order.comma w a b) = w.begins

-- so the locations in it begin after the first byte of what it lies in
after_first : {from to : ℕ} {e : Tree} → TreeIn from to e → SoundTree to e → Sound trees (in_tree e) (suc from) to e
after_first h s = sound_from (suc-le-suc (begins h)) s

-- and so not before that byte
from_first : {from to : ℕ} {e : Tree} → TreeIn from to e → SoundTree to e → Sound trees (in_tree e) from to e
from_first h s = let b = begins h in sound_from (omega arith) s

-- a part inside a text, after its first byte, lies where the text does
within : {T : Type 0} {K : Kind T} {xs : List Located} {from to : ℕ} {s : Span} {t : T}
    → Within from to s → Sound K xs (suc s.from) s.to t → Sound K xs from to t
within w h = sound_from (omega arith) (sound_to w.ends h)

-- an expression as a condition
as_condition : {from to : ℕ} {e : Tree} → TreeIn from to e → SoundTree to e → Sound conditions (in_condition e) from to e
as_condition {e = e} h s = placed {own = λ r e. r.tree e} {x = condition e}
    (record { test = λ l r. refl; covers = refl; one = refl; whole = refl; changed = λ r. refl })
    (begins h) s

-- an expression as a right side
as_right_side : {from to : ℕ} {e : Tree} → TreeIn from to e → SoundTree to e → Sound right_sides (in_right_side e) from to e
as_right_side {e = e} h s = placed {own = λ r e. r.tree e} {x = right_side e}
    (record { test = λ l r. refl; covers = refl; one = refl; whole = refl; changed = λ r. refl })
    (begins h) s

-- an expression as the value of an assignment
as_assigned : (f : Option BinOp) {from to : ℕ} {e : Tree}
    → TreeIn from to e → SoundTree to e → Sound (values_assigned f) (assigned f e ++ in_tree e) from to e
as_assigned None h s = as_right_side h s
as_assigned (Some op) h s = from_first h s

mutual
  -- expressions are sound
  sound_tree : {from to : ℕ} {e : Tree} → TreeIn from to e → SoundTree to e
  sound_tree (order.constant {n = n} {w = word} {s = s} w) =
      leaf trees (constant n word s) (omega arith) refl (λ q. refl) (λ l r. refl)
  sound_tree (order.name {w = word} {v = v} {s = s} w) =
      leaf trees (name word v s) (omega arith) refl (λ q. refl) (λ l r. refl)
  sound_tree (order.index {w = word} {v = v} {s = s} w h) = sound_to w.ends (wrap (λ x. index word v x s)
      (record { to = λ l r. refl; holes = λ b. refl; fill = λ q. refl; refill = λ q l. refl })
      (from_first h (sound_tree h)))
  sound_tree (order.call {w = word} {s = s} w h) = sound_to w.ends (wrap (λ x. call word x s)
      (record { to = λ l r. refl; holes = λ b. refl; fill = λ q. refl; refill = λ q l. refl })
      (sound_args h))
  sound_tree (order.unary {f = f} {s = s} w h) = sound_to w.ends (wrap (λ x. unary f x s)
      (record { to = λ l r. refl; holes = λ b. refl; fill = λ q. refl; refill = λ q l. refl })
      (from_first h (sound_tree h)))
  sound_tree (order.cast {ty = ty} {s = s} w h) = sound_to w.ends (wrap (λ x. cast ty x s)
      (record { to = λ l r. refl; holes = λ b. refl; fill = λ q. refl; refill = λ q l. refl })
      (from_first h (sound_tree h)))
  sound_tree (order.binary {f = f} {s = s} w a b) = sound_to w.ends (join (λ x y. binary f x y s)
      (record { to = λ l r a b. refl; holes = λ a b. refl; fill = λ q a b. refl })
      (after_first a (sound_tree a)) (from_first b (sound_tree b)))
  sound_tree (order.choice {s = s} w t a b) = sound_to w.ends (join (λ x y. choice x.0 x.1 y s)
      (record { to = λ l r a b. refl; holes = λ a b. refl; fill = λ q a b. refl })
      (pair (after_first t (sound_tree t)) (from_first a (sound_tree a))) (from_first b (sound_tree b)))
  sound_tree (order.assign {f = f} {place = place} {e = e} {s = s} w p v) =
      sound_to w.ends (sound_along (sym (append_assoc (in_tree place) (assigned f e) (in_tree e)))
      (join {KB = values_assigned f} (λ x y. assign f x y s)
      (record { to = λ l r a b. refl; holes = λ a b. refl; fill = λ q a b. refl })
      (after_first p (sound_tree p)) (as_assigned f v (sound_tree v))))
  sound_tree (order.bump {before = before} {up = up} {s = s} w h) = sound_to w.ends (wrap (λ x. bump before up x s)
      (record { to = λ l r. refl; holes = λ b. refl; fill = λ q. refl; refill = λ q l. refl })
      (after_first h (sound_tree h)))
  sound_tree (order.comma {s = s} w a b) = sound_to w.ends (join (λ x y. comma x y s)
      (record { to = λ l r a b. refl; holes = λ a b. refl; fill = λ q a b. refl })
      (after_first a (sound_tree a)) (from_first b (sound_tree b)))

  -- arguments are sound
  sound_args : {from to : ℕ} {x : Args} → ArgsIn from to x → Sound arguments (in_args x) from to x
  sound_args (order.no_args h) = leaf arguments no_args h refl (λ q. refl) (λ l r. refl)
  sound_args (order.value e x) = join value
      (record { to = λ l r a b. refl; holes = λ a b. refl; fill = λ q a b. refl })
      (from_first e (sound_tree e)) (sound_args x)
  sound_args (order.format {f = f} {s = s} w x) = sound_from (omega arith) (wrap (λ x. format f s x)
      (record { to = λ l r. refl; holes = λ b. refl; fill = λ q. refl; refill = λ q l. refl })
      (sound_args x))
  sound_args (order.address e x) = join address
      (record { to = λ l r a b. refl; holes = λ a b. refl; fill = λ q a b. refl })
      (from_first e (sound_tree e)) (sound_args x)

-- a condition is sound
sound_condition : {from to : ℕ} {e : Tree} → TreeIn from to e → Sound conditions (in_condition e) from to e
sound_condition h = as_condition h (sound_tree h)

-- a right side is sound
sound_right_side : {from to : ℕ} {e : Tree} → TreeIn from to e → Sound right_sides (in_right_side e) from to e
sound_right_side h = as_right_side h (sound_tree h)

-- expressions one after another are sound
sound_trees : {from to : ℕ} {es : List Tree} → TreesIn from to es → Sound (lists trees) (flat_map in_tree es) from to es
sound_trees (order.none h) = leaf (lists trees) [] h refl (λ q. refl) (λ l r. refl)
sound_trees (order.more h rest) = cons (from_first h (sound_tree h)) (sound_trees rest)

-- the condition of a `for` is sound
sound_test : {from to : ℕ} {t : Option Tree} → OptionIn from to t → Sound tests (in_test t) from to t
sound_test (order.absent h) = leaf tests None h refl (λ q. refl) (λ l r. refl)
sound_test (order.present h) = wrap Some
    (record { to = λ l r. refl; holes = λ b. refl; fill = λ q. refl; refill = λ q l. refl })
    (sound_condition h)

-- the step of a `for` is sound
sound_step : {from to : ℕ} {u : Option Tree} → OptionIn from to u → Sound steps (in_step u) from to u
sound_step (order.absent h) = leaf steps None h refl (λ q. refl) (λ l r. refl)
sound_step (order.present h) = wrap Some
    (record { to = λ l r. refl; holes = λ b. refl; fill = λ q. refl; refill = λ q l. refl })
    (from_first h (sound_tree h))

-- the value of a `return` is sound
sound_value : {from to : ℕ} {v : Option Tree} → OptionIn from to v → Sound values (in_value v) from to v
sound_value (order.absent h) = leaf values None h refl (λ q. refl) (λ l r. refl)
sound_value (order.present h) = wrap Some
    (record { to = λ l r. refl; holes = λ b. refl; fill = λ q. refl; refill = λ q l. refl })
    (sound_right_side h)

-- initialisers are sound
sound_initial : {from to : ℕ} {i : Initial} → InitialIn from to i → Sound initials (in_initial i) from to i
sound_initial (order.bare h) = leaf initials bare_start h refl (λ q. refl) (λ l r. refl)
sound_initial (order.one h) = wrap one_start
    (record { to = λ l r. refl; holes = λ b. refl; fill = λ q. refl; refill = λ q l. refl })
    (sound_right_side h)
sound_initial (order.many h) = wrap list_start
    (record { to = λ l r. refl; holes = λ b. refl; fill = λ q. refl; refill = λ q l. refl })
    (sound_trees h)

-- a declared variable is sound
sound_variable : {from to : ℕ} {v : Variable}
    → from ≤ v.span.to → InitialIn v.span.to to v.start → Sound variables (in_initial v.start) from to v
sound_variable {v = v} h i = sound_from h (wrap (λ x. record v { start = x })
    (record { to = λ l r. refl; holes = λ b. refl; fill = λ q. refl; refill = λ q l. refl })
    (sound_initial i))

-- declared variables are sound
sound_variables : {from to : ℕ} {vs : List Variable} → VariablesIn from to vs → Sound (lists variables) (in_variables vs) from to vs
sound_variables (order.none h) = leaf (lists variables) [] h refl (λ q. refl) (λ l r. refl)
sound_variables (order.more w i rest) = cons (sound_variable (omega arith) i) (sound_variables rest)

-- the first clause of a `for` is sound
sound_first : {from to : ℕ} {i : First} → FirstIn from to i → Sound firsts (in_first i) from to i
sound_first (order.none h) = leaf firsts no_first h refl (λ q. refl) (λ l r. refl)
sound_first (order.act h) = wrap first_act
    (record { to = λ l r. refl; holes = λ b. refl; fill = λ q. refl; refill = λ q l. refl })
    (from_first h (sound_tree h))
sound_first (order.vars {ty = ty} h) = wrap (first_vars ty)
    (record { to = λ l r. refl; holes = λ b. refl; fill = λ q. refl; refill = λ q l. refl })
    (sound_variables h)

-- the rule for a hole that is a whole statement leaves a statement whose expression is in text order
act-kept : {from to : ℕ} {e : Tree} (q : Part) (c : Code) → TreeIn from to e → into_act q e c ≡ c
act-kept q c (order.constant w) = refl
act-kept q c (order.name w) = refl
act-kept q c (order.index w h) = refl
act-kept q c (order.call w h) = refl
act-kept q c (order.unary w h) = refl
act-kept q c (order.cast w h) = refl
act-kept q c (order.binary w a b) = refl
act-kept q c (order.choice w t a b) = refl
act-kept q c (order.assign w p e) = refl
act-kept q c (order.bump w h) = refl
act-kept q c (order.comma w a b) = refl

-- also after a change in the expression
act-refilled : {from to : ℕ} {e : Tree} (q : Part) (c : Code) (l : Loc) (r : Rewrite)
    → TreeIn from to e → into_act q (to_tree l r e) c ≡ c
act-refilled q c l r (order.constant w) = refl
act-refilled q c l r (order.name w) = refl
act-refilled q c l r (order.index w h) = refl
act-refilled q c l r (order.call w h) = refl
act-refilled q c l r (order.unary w h) = refl
act-refilled q c l r (order.cast w h) = refl
act-refilled q c l r (order.binary w a b) = refl
act-refilled q c l r (order.choice w t a b) = refl
act-refilled q c l r (order.assign w p e) = refl
act-refilled q c l r (order.bump w h) = refl
act-refilled q c l r (order.comma w a b) = refl

-- an expression as a statement is sound
sound_act : {from to : ℕ} {e : Tree} {s : Span}
    → Within from to s → TreeIn s.from s.to e → Sound codes (in_code (act e s)) from to (act e s)
sound_act {e = e} {s = s} w h = sound_to w.ends (placed {K = insides} {own = λ r c. r.code c} {x = guard (act e s)}
    (record { test = λ l r. refl; covers = refl; one = refl; whole = refl; changed = λ r. refl })
    w.begins
    (wrap (λ x. act x s)
    (record {
      to = λ l r. refl;
      holes = λ b. refl;
      fill = λ q. act-kept q (act (fill_tree q e) s) h;
      refill = λ q l. act-refilled q (act (fill_tree q (to_tree l opening e)) s) l opening h;
    })
    (after_first h (sound_tree h))))

-- a `return` is sound
sound_give : {from to : ℕ} {e : Option Tree} {s : Span}
    → Within from to s → OptionIn (suc s.from) s.to e → Sound codes (in_code (give e s)) from to (give e s)
sound_give {e = e} {s = s} w h = sound_to w.ends (placed {K = insides} {own = λ r c. r.code c} {x = guard (give e s)}
    (record { test = λ l r. refl; covers = refl; one = refl; whole = refl; changed = λ r. refl })
    w.begins
    (wrap (λ x. give x s)
    (record { to = λ l r. refl; holes = λ b. refl; fill = λ q. refl; refill = λ q l. refl })
    (sound_value h)))

-- a `break` is sound
sound_break : {from to : ℕ} {s : Span} → Within from to s → Sound codes (in_code (break s)) from to (break s)
sound_break {s = s} w = sound_to w.ends (placed {K = insides} {own = λ r c. r.code c} {x = guard (break s)}
    (record { test = λ l r. refl; covers = refl; one = refl; whole = refl; changed = λ r. refl })
    w.begins
    (leaf insides (break s) w.covers refl (λ q. refl) (λ l r. refl)))

-- a `continue` is sound
sound_continue : {from to : ℕ} {s : Span} → Within from to s → Sound codes (in_code (continue s)) from to (continue s)
sound_continue {s = s} w = sound_to w.ends (placed {K = insides} {own = λ r c. r.code c} {x = guard (continue s)}
    (record { test = λ l r. refl; covers = refl; one = refl; whole = refl; changed = λ r. refl })
    w.begins
    (leaf insides (continue s) w.covers refl (λ q. refl) (λ l r. refl)))

mutual
  -- statements are sound
  sound_code : {from to : ℕ} {c : Code} → CodeIn from to c → Sound codes (in_code c) from to c
  sound_code (order.empty {s = s} w) = leaf codes (empty s) (omega arith) refl (λ q. refl) (λ l r. refl)
  sound_code (order.act w h) = sound_act w h
  sound_code (order.block {s = s} w h) = within w (wrap (λ x. block x s)
      (record { to = λ l r. refl; holes = λ b. refl; fill = λ q. refl; refill = λ q l. refl })
      (sound_body h))
  sound_code (order.if_then {s = s} w t a) = within w (join (λ x y. if_then x y s)
      (record { to = λ l r a b. refl; holes = λ a b. refl; fill = λ q a b. refl })
      (sound_condition t) (sound_code a))
  sound_code (order.if_else {s = s} w t a b) = within w (join (λ x y. if_else x.0 x.1 y s)
      (record { to = λ l r a b. refl; holes = λ a b. refl; fill = λ q a b. refl })
      (pair (sound_condition t) (sound_code a)) (sound_code b))
  sound_code (order.while {s = s} w t a) = within w (join (λ x y. while x y s)
      (record { to = λ l r a b. refl; holes = λ a b. refl; fill = λ q a b. refl })
      (sound_condition t) (sound_code a))
  sound_code (order.do_while {s = s} w a t) = within w (join (λ x y. do_while x y s)
      (record { to = λ l r a b. refl; holes = λ a b. refl; fill = λ q a b. refl })
      (sound_code a) (sound_condition t))
  sound_code (order.for {s = s} w i t u a) = within w (join (λ x y. for x.0.0 x.0.1 x.1 y s)
      (record { to = λ l r a b. refl; holes = λ a b. refl; fill = λ q a b. refl })
      (pair (pair (sound_first i) (sound_test t)) (sound_step u)) (sound_code a))
  sound_code (order.give w h) = sound_give w h
  sound_code (order.break w) = sound_break w
  sound_code (order.continue w) = sound_continue w

  -- the items of a block are sound
  sound_body : {from to : ℕ} {b : Body} → BodyIn from to b → Sound bodies (in_body b) from to b
  sound_body (order.done h) = leaf bodies done h refl (λ q. refl) (λ l r. refl)
  sound_body (order.next a rest) = join next
      (record { to = λ l r a b. refl; holes = λ a b. refl; fill = λ q a b. refl })
      (sound_code a) (sound_body rest)
  sound_body (order.vars {ty = ty} vs rest) = join (vars ty)
      (record { to = λ l r a b. refl; holes = λ a b. refl; fill = λ q a b. refl })
      (sound_variables vs) (sound_body rest)

-- a body that may be absent is sound
sound_definition : {from to : ℕ} {b : Option Body} → DefinitionIn from to b → Sound definitions (in_definition b) from to b
sound_definition (order.absent h) = leaf definitions None h refl (λ q. refl) (λ l r. refl)
sound_definition (order.present h) = wrap Some
    (record { to = λ l r. refl; holes = λ b. refl; fill = λ q. refl; refill = λ q l. refl })
    (sound_body h)

-- parameters lie between places that follow one another
params-order : {from to : ℕ} {ps : List Param} → ParamsIn from to ps → from ≤ to
params-order (order.none h) = h
params-order (order.more w rest) = let k = params-order rest in omega arith

-- what stands at file scope is sound
sound_outer : {from to : ℕ} {x : Outer} → OuterIn from to x → Sound outers (in_outer x) from to x
sound_outer (order.vars {ty = ty} {vs = vs} h) =
    let s = sound_variables h in
    leaf outers (outer_vars ty vs) (rises-order s.rises) s.closed (λ q. ap (outer_vars ty) (s.kept q)) (λ l r. refl)
sound_outer (order.func {f = f} w ps h) =
    let k = params-order ps in
    sound_from (omega arith) (sound_to w.ends (wrap (λ b. outer_func (record f { body = b }))
    (record { to = λ l r. refl; holes = λ b. refl; fill = λ q. refl; refill = λ q l. refl })
    (sound_definition h)))

-- programs are sound
pub sound_program : {from to : ℕ} {p : List Outer} → ProgramIn from to p → Sound (lists outers) (located p) from to p
sound_program (order.none h) = leaf (lists outers) [] h refl (λ q. refl) (λ l r. refl)
sound_program (order.more x rest) = cons (sound_outer x) (sound_program rest)
