-- A program has the same locations whatever its slots.
use Rattle.std.proofs.Common.{◌≡◌, List, [], ◌∷◌, ◌++◌, map, Option, Some, None, refl, sym, ap, ap₂, ◌∙◌}
use Rattle.std.specs.List.{flat_map}
use Rattle.std.proofs.lemmas.List.{map-append}
use Rattle.c_tree.specs.declared.expr.BinOp.{BinOp}
use Rattle.c_tree.specs.declared.place.Loc.{Loc}
use Rattle.c_tree.specs.declared.place.LocKind.{LocKind}
use Rattle.c_tree.specs.declared.place.LocKind.TheVariants.{Guard, Cond, Right}
use Rattle.c_tree.specs.declared.place.Span.{Span}
use Rattle.c_tree.specs.Parts.{span_of, span_of_code}
use Rattle.c_tree.specs.Tree.{Tree, constant, name, index, call, unary, cast, binary, choice, assign, bump, comma, hole, hole_after, Args, no_args, value, format, address, Initial, bare_start, one_start, list_start, Variable, First, no_first, first_act, first_vars, Code, empty, act, block, if_then, if_else, while, do_while, for, give, break, continue, Body, done, next, vars, Outer, outer_vars, outer_func}
use Rattle.c_types.specs.Unresolved.{unresolved_tree, unresolved_args, unresolved_option, unresolved_initial, unresolved_variable, unresolved_first, unresolved_code, unresolved_body, unresolved_definition, unresolved_outer, unresolved}
use Rattle.c_location.specs.Locations.{Located, guard, condition, right_side, assigned, in_tree, in_args, in_condition, in_right_side, in_test, in_step, in_value, in_initial, in_variables, in_first, in_code, in_body, in_definition, in_outer, located, locations}

-- the location of a kind that is a text
abbrev loc_at : LocKind → Span → Loc
loc_at k s = record { kind = k; at = s }

-- the same locations, whatever stands there
record SameLocs (xs ys : List Located) : Type 0 where
  same : map (λ (x : Located). x.loc) xs ≡ map (λ (y : Located). y.loc) ys

none : SameLocs [] []
none = record { same = refl }

both : {xs ys zs ws : List Located} → SameLocs xs ys → SameLocs zs ws
    → SameLocs (xs ++ zs) (ys ++ ws)
both {xs} {ys} {zs} {ws} a b = record {
  same = map-append (λ (x : Located). x.loc) xs zs ∙ ap₂ (λ x y. x ++ y) a.same b.same
      ∙ sym (map-append (λ (x : Located). x.loc) ys ws);
}

-- one location more
more : {x y : Located} {xs ys : List Located} → x.loc ≡ y.loc → SameLocs xs ys
    → SameLocs (x ∷ xs) (y ∷ ys)
more e a = record { same = ap₂ (λ z zs. z ∷ zs) e a.same }

-- ---- expressions

pub span-same : (e : Tree) → span_of (unresolved_tree e) ≡ span_of e
span-same (constant n word s) = refl
span-same (name word slot s) = refl
span-same (index word slot e s) = refl
span-same (call word x s) = refl
span-same (unary op e s) = refl
span-same (cast ty e s) = refl
span-same (binary op l r s) = refl
span-same (choice t a b s) = refl
span-same (assign op place e s) = refl
span-same (bump before up place s) = refl
span-same (comma l r s) = refl
span-same hole = refl
span-same (hole_after e) = span-same e

assigned-same : (op : Option BinOp) (e : Tree)
    → SameLocs (assigned op (unresolved_tree e)) (assigned op e)
assigned-same None e = more (ap (loc_at Right) (span-same e)) none
assigned-same (Some op) e = none

mutual
  tree-locs : (e : Tree) → SameLocs (in_tree (unresolved_tree e)) (in_tree e)
  tree-locs (constant n word s) = none
  tree-locs (name word slot s) = none
  tree-locs (index word slot e s) = tree-locs e
  tree-locs (call word x s) = args-locs x
  tree-locs (unary op e s) = tree-locs e
  tree-locs (cast ty e s) = tree-locs e
  tree-locs (binary op l r s) = both (tree-locs l) (tree-locs r)
  tree-locs (choice t a b s) = both (both (tree-locs t) (tree-locs a)) (tree-locs b)
  tree-locs (assign op place e s) =
      both (both (tree-locs place) (assigned-same op e)) (tree-locs e)
  tree-locs (bump before up place s) = tree-locs place
  tree-locs (comma l r s) = both (tree-locs l) (tree-locs r)
  tree-locs hole = none
  tree-locs (hole_after e) = tree-locs e

  args-locs : (x : Args) → SameLocs (in_args (unresolved_args x)) (in_args x)
  args-locs no_args = none
  args-locs (value e x) = both (tree-locs e) (args-locs x)
  args-locs (format text s x) = args-locs x
  args-locs (address e x) = both (tree-locs e) (args-locs x)

condition-locs : (e : Tree) → SameLocs (in_condition (unresolved_tree e)) (in_condition e)
condition-locs e = more (ap (loc_at Cond) (span-same e)) (tree-locs e)

right_side-locs : (e : Tree) → SameLocs (in_right_side (unresolved_tree e)) (in_right_side e)
right_side-locs e = more (ap (loc_at Right) (span-same e)) (tree-locs e)

test-locs : (o : Option Tree) → SameLocs (in_test (unresolved_option o)) (in_test o)
test-locs None = none
test-locs (Some e) = condition-locs e

step-locs : (o : Option Tree) → SameLocs (in_step (unresolved_option o)) (in_step o)
step-locs None = none
step-locs (Some e) = tree-locs e

value-locs : (o : Option Tree) → SameLocs (in_value (unresolved_option o)) (in_value o)
value-locs None = none
value-locs (Some e) = right_side-locs e

trees-locs : (es : List Tree)
    → SameLocs (flat_map in_tree (map unresolved_tree es)) (flat_map in_tree es)
trees-locs [] = none
trees-locs (e ∷ es) = both (tree-locs e) (trees-locs es)

initial-locs : (start : Initial) → SameLocs (in_initial (unresolved_initial start)) (in_initial start)
initial-locs bare_start = none
initial-locs (one_start e) = right_side-locs e
initial-locs (list_start es) = trees-locs es

-- ---- statements

variables-locs : (vs : List Variable)
    → SameLocs (in_variables (map unresolved_variable vs)) (in_variables vs)
variables-locs [] = none
variables-locs (v ∷ vs) = both (initial-locs v.start) (variables-locs vs)

first-locs : (f : First) → SameLocs (in_first (unresolved_first f)) (in_first f)
first-locs no_first = none
first-locs (first_act e) = tree-locs e
first-locs (first_vars ty vs) = variables-locs vs

mutual
  code-locs : (c : Code) → SameLocs (in_code (unresolved_code c)) (in_code c)
  code-locs (empty s) = none
  code-locs (act e s) = more refl (tree-locs e)
  code-locs (block body s) = body-locs body
  code-locs (if_then t a s) = both (condition-locs t) (code-locs a)
  code-locs (if_else t a b s) = both (both (condition-locs t) (code-locs a)) (code-locs b)
  code-locs (while t a s) = both (condition-locs t) (code-locs a)
  code-locs (do_while a t s) = both (code-locs a) (condition-locs t)
  code-locs (for f t u a s) =
      both (both (both (first-locs f) (test-locs t)) (step-locs u)) (code-locs a)
  code-locs (give e s) = more refl (value-locs e)
  code-locs (break s) = more refl none
  code-locs (continue s) = more refl none

  body-locs : (b : Body) → SameLocs (in_body (unresolved_body b)) (in_body b)
  body-locs done = none
  body-locs (next c rest) = both (code-locs c) (body-locs rest)
  body-locs (vars ty vs rest) = both (variables-locs vs) (body-locs rest)

-- ---- programs

definition-locs : (b : Option Body)
    → SameLocs (in_definition (unresolved_definition b)) (in_definition b)
definition-locs None = none
definition-locs (Some body) = body-locs body

outer-locs : (x : Outer) → SameLocs (in_outer (unresolved_outer x)) (in_outer x)
outer-locs (outer_vars ty vs) = none
outer-locs (outer_func f) = definition-locs f.body

program-locs : (p : List Outer) → SameLocs (located (unresolved p)) (located p)
program-locs [] = none
program-locs (x ∷ p) = both (outer-locs x) (program-locs p)

-- a program has the same locations without its slots
pub locations-same : (p : List Outer) → locations (unresolved p) ≡ locations p
locations-same p = (program-locs p).same
