-- The holes of a program in which what stands at a location was rewritten: as many as if a hole were put there, each in the
-- scope of what stood there.
use Rattle.std.proofs.Common.{◌≡◌, ℕ, ◌+◌, Bool, true, false, if◌then◌else◌, List, [], ◌∷◌, ◌++◌, map, sum, Option, Some, None, refl, sym, subst, arith}
use Rattle.std.specs.List.{flat_map}
use Rattle.c_tree.specs.declared.expr.BinOp.{BinOp}
use Rattle.c_tree.specs.declared.place.Loc.{Loc}
use Rattle.c_tree.specs.declared.place.LocKind.{LocKind}
use Rattle.c_tree.specs.declared.place.LocKind.TheVariants.{Guard, Cond, Right}
use Rattle.c_tree.specs.declared.stmt.Ty.{Ty}
use Rattle.c_tree.specs.Order as order
use Rattle.c_tree.specs.Order.{TreeIn, ArgsIn, TreesIn, OptionIn, InitialIn, VariablesIn, FirstIn, CodeIn, BodyIn, DefinitionIn, ProgramIn}
use Rattle.c_tree.specs.Parts.{span_of, span_of_code}
use Rattle.c_tree.specs.Tree.{Tree, hole, act, give, break, continue, no_span, Args, Initial, Variable, First, no_first, first_act, first_vars, Code, Body, Function, Outer}
use Rattle.c_types.specs.Found.{option_found, initial_found, variables_found, first_found, code_found, body_found, definition_found, outers_found}
use Rattle.c_types.specs.declared.scope.Declaration.{Declaration}
use Rattle.c_types.specs.Programs.{function_declaration, params_declared}
use Rattle.c_types.specs.Statements.{variable_declaration, declared, first_declared}
use Rattle.c_types.specs.Uses.{Use, tree_uses, args_uses}
use Rattle.c_location.specs.Locations.{Located, expression, guard, stands, in_tree, in_args, in_condition, assigned, in_test, in_step, in_value, in_initial, in_variables, in_first, in_code, in_body, in_definition, located}
use Rattle.c_location.specs.OnePlace.{opening, IsOf, holes_in, holes_in_args, holes_in_option, holes_in_initial, holes_in_variables, holes_in_first, holes_in_code, holes_in_body, holes_in_definition, holes_in_outer}
use Rattle.c_location.specs.Rewrites.{Rewrite, at_tree, at_assigned, at_code, to_tree, to_args, to_test, to_step, to_value, to_initial, to_variable, to_first, to_code, to_body, to_definition, rewritten}
use Rattle.scope_laws.specs.Spots.{Spot, spot, tree_spots, args_spots, option_spots, initial_spots, variables_spots, first_spots, code_spots, body_spots, definition_spots, outers_spots}
use Rattle.scope_laws.proofs.Every.{Every, nil, head}
use Rattle.run_laws.specs.Holes.{Names, tree_holes, args_holes, of_holes}
use Rattle.hole_laws.proofs.Parts.{Facts, inside, unnamed, within, one, two, grouped, own_spot, InScope, tree_scope, option_scope, Counted, none, both, as_many, summed, counted, closed_tree, closed_option, closed_variables}

-- an expression as a location of a kind
abbrev pub of_kind : LocKind → Tree → Located
of_kind kind e = record { loc = record { kind = kind; at = span_of e }; part = expression e }

-- sums of three and of four numbers
regrouped : (i j k : ℕ) → i + (j + k) ≡ i + j + k
regrouped i j k = omega arith

regrouped_four : (i j k m : ℕ) → i + (j + (k + m)) ≡ i + j + k + m
regrouped_four i j k m = omega arith

-- a function with its body rewritten
abbrev pub changed : Loc → Rewrite → Function → Function
changed l r f = record f { body = to_definition l r f.body }

-- What a rewrite makes of what stands at a location is one hole in its scope, where it has none before: this is known of the
-- spots, the locations and the names of a program.
pub record Opens (l : Loc) (r : Rewrite) (R : Spot → Type 0) (P : Located → Type 0) (Q : Use → Type 0) (H : Names → Type 0) : Type 0 where
  pub tree : (ds : Names) (o : Option (List ℕ)) (kind : LocKind) (e : Tree) → IsOf kind (span_of e) (expression e) → stands l kind (span_of e) ≡ true
      → R (spot ds o (span_of e)) → P (of_kind kind e) → Every Q (tree_uses ds o e) → tree_holes ds e ≡ [] → Counted H (tree_holes ds (r.tree e)) 1
  pub code : (ds : Names) (c : Code) → stands l Guard (span_of_code c) ≡ true
      → R (spot ds None (span_of_code c)) → P (guard c) → Every Q (code_found tree_uses ds c) → InScope ds None (code_found tree_uses ds c) → code_found of_holes ds c ≡ []
      → Counted H (code_found of_holes ds (r.code c)) 1

module _ (l : Loc) (r : Rewrite) (R : Spot → Type 0) (P : Located → Type 0) (Q : Use → Type 0) (H : Names → Type 0) (opens : Opens l r R P Q H) where
  module _ (ds : Names) (o : Option (List ℕ)) where
    -- what is known of an expression and of arguments, and what is shown
    abbrev T : Tree → Type 0
    T e = Facts R P Q (tree_spots ds o e) (in_tree e) (tree_uses ds o e)

    abbrev Made : Tree → Type 0
    Made e = Counted H (tree_holes ds (to_tree l r e)) (holes_in (to_tree l opening e))

    abbrev MadeAt : LocKind → Tree → Type 0
    MadeAt kind e = Counted H (tree_holes ds (at_tree l r kind e (to_tree l r e))) (holes_in (at_tree l opening kind e (to_tree l opening e)))

    -- a part that can be a location, given what its inside becomes
    at_part : {from to : ℕ} {e : Tree} (kind : LocKind) → IsOf kind (span_of e) (expression e) → TreeIn from to e
        → Every R (tree_spots ds o e) → P (of_kind kind e) → Every Q (tree_uses ds o e) → Made e → MadeAt kind e
    at_part {e = e} kind of x s p u m = by_test (stands l kind (span_of e)) refl
      where
        by_test : (b : Bool) → stands l kind (span_of e) ≡ b
            → Counted H (tree_holes ds (if b then r.tree e else to_tree l r e)) (holes_in (if b then hole else to_tree l opening e))
        by_test true is = opens.tree ds o kind e of is (own_spot ds o x s) p u (closed_tree ds x).nothing
        by_test false is = m

    -- the value of an assignment
    at_value : {from to : ℕ} {e : Tree} (op : Option BinOp) → TreeIn from to e → Facts R P Q (tree_spots ds o e) (assigned op e ++ in_tree e) (tree_uses ds o e) → Made e
        → Counted H (tree_holes ds (at_assigned l r op e (to_tree l r e))) (holes_in (at_assigned l opening op e (to_tree l opening e)))
    at_value None x h m = at_part Right refl x h.spots (head h.located) h.uses m
    at_value (Some op) x h m = m

    inner_value : (e : Tree) (op : Option BinOp) → Facts R P Q (tree_spots ds o e) (assigned op e ++ in_tree e) (tree_uses ds o e) → T e
    inner_value e None h = within h
    inner_value e (Some op) h = h

    mutual
      tree : {from to : ℕ} {e : Tree} → TreeIn from to e → T e → Made e
      tree (order.constant w) h = none
      tree (order.name w) h = none
      tree (order.index w a) h = tree a (unnamed (inside h))
      tree (order.call w x) h = args x (inside h)
      tree (order.unary w a) h = tree a (inside h)
      tree (order.cast w a) h = tree a (inside h)
      tree (order.binary {l = e} {r = f} w a b) h = both
          (tree a (one (tree_spots ds o e) (tree_spots ds o f) (in_tree e) (in_tree f) (tree_uses ds o e) (tree_uses ds o f) (inside h)))
          (tree b (two (tree_spots ds o e) (tree_spots ds o f) (in_tree e) (in_tree f) (tree_uses ds o e) (tree_uses ds o f) (inside h)))
      tree (order.choice {t = e} {a = f} {b = g} w t a b) h =
          let all = grouped (in_tree e) (in_tree f) (in_tree g) (inside h) in
          let rest = two (tree_spots ds o e) (tree_spots ds o f ++ tree_spots ds o g) (in_tree e) (in_tree f ++ in_tree g) (tree_uses ds o e) (tree_uses ds o f ++ tree_uses ds o g) all in
          as_many (both
          (tree t (one (tree_spots ds o e) (tree_spots ds o f ++ tree_spots ds o g) (in_tree e) (in_tree f ++ in_tree g) (tree_uses ds o e) (tree_uses ds o f ++ tree_uses ds o g) all))
          (both
          (tree a (one (tree_spots ds o f) (tree_spots ds o g) (in_tree f) (in_tree g) (tree_uses ds o f) (tree_uses ds o g) rest))
          (tree b (two (tree_spots ds o f) (tree_spots ds o g) (in_tree f) (in_tree g) (tree_uses ds o f) (tree_uses ds o g) rest))))
          (regrouped (holes_in (to_tree l opening e)) (holes_in (to_tree l opening f)) (holes_in (to_tree l opening g)))
      tree (order.assign {f = op} {place = e} {e = f} w a b) h =
          let all = grouped (in_tree e) (assigned op f) (in_tree f) (inside h) in
          let value = two (tree_spots ds o e) (tree_spots ds o f) (in_tree e) (assigned op f ++ in_tree f) (tree_uses ds o e) (tree_uses ds o f) all in
          both
          (tree a (one (tree_spots ds o e) (tree_spots ds o f) (in_tree e) (assigned op f ++ in_tree f) (tree_uses ds o e) (tree_uses ds o f) all))
          (at_value op b value (tree b (inner_value f op value)))
      tree (order.bump w a) h = tree a (inside h)
      tree (order.comma {l = e} {r = f} w a b) h = both
          (tree a (one (tree_spots ds o e) (tree_spots ds o f) (in_tree e) (in_tree f) (tree_uses ds o e) (tree_uses ds o f) (inside h)))
          (tree b (two (tree_spots ds o e) (tree_spots ds o f) (in_tree e) (in_tree f) (tree_uses ds o e) (tree_uses ds o f) (inside h)))

      args : {from to : ℕ} {x : Args} → ArgsIn from to x → Facts R P Q (args_spots ds o x) (in_args x) (args_uses ds o x)
          → Counted H (args_holes ds (to_args l r x)) (holes_in_args (to_args l opening x))
      args (order.no_args le) h = none
      args (order.value {e = e} {rest = x} a rest) h = both
          (tree a (one (tree_spots ds o e) (args_spots ds o x) (in_tree e) (in_args x) (tree_uses ds o e) (args_uses ds o x) h))
          (args rest (two (tree_spots ds o e) (args_spots ds o x) (in_tree e) (in_args x) (tree_uses ds o e) (args_uses ds o x) h))
      args (order.format w rest) h = args rest h
      args (order.address {e = e} {rest = x} a rest) h = both
          (tree a (one (tree_spots ds o e) (args_spots ds o x) (in_tree e) (in_args x) (tree_uses ds o e) (args_uses ds o x) h))
          (args rest (two (tree_spots ds o e) (args_spots ds o x) (in_tree e) (in_args x) (tree_uses ds o e) (args_uses ds o x) h))

    -- a condition or a right side, with what is in it
    part : {from to : ℕ} {e : Tree} (kind : LocKind) → IsOf kind (span_of e) (expression e) → TreeIn from to e
        → Facts R P Q (tree_spots ds o e) (of_kind kind e ∷ in_tree e) (tree_uses ds o e) → MadeAt kind e
    part kind of x h = at_part kind of x h.spots (head h.located) h.uses (tree x (within h))

  module _ (ds : Names) where
    trees : {from to : ℕ} {es : List Tree} → TreesIn from to es → Facts R P Q (flat_map (tree_spots ds None) es) (flat_map in_tree es) (flat_map (tree_uses ds None) es)
        → Counted H (flat_map (tree_holes ds) (map (to_tree l r) es)) (sum (map holes_in (map (to_tree l opening) es)))
    trees (order.none le) h = none
    trees (order.more {e = e} {es = es} x rest) h =
        let more = flat_map (tree_spots ds None) es in
        summed (holes_in (to_tree l opening e)) (map holes_in (map (to_tree l opening) es)) (both
        (tree ds None x (one (tree_spots ds None e) more (in_tree e) (flat_map in_tree es) (tree_uses ds None e) (flat_map (tree_uses ds None) es) h))
        (trees rest (two (tree_spots ds None e) more (in_tree e) (flat_map in_tree es) (tree_uses ds None e) (flat_map (tree_uses ds None) es) h)))

    initial : {from to : ℕ} {start : Initial} (word : List ℕ) → InitialIn from to start → Facts R P Q (initial_spots ds word start) (in_initial start) (initial_found tree_uses ds word start)
        → Counted H (initial_found of_holes ds word (to_initial l r start)) (holes_in_initial (to_initial l opening start))
    initial word (order.bare le) h = none
    initial word (order.one x) h = part ds (Some word) Right refl x h
    initial word (order.many xs) h = trees xs h

    test : {from to : ℕ} {e : Option Tree} → OptionIn from to e → Facts R P Q (option_spots ds e) (in_test e) (option_found tree_uses ds e)
        → Counted H (option_found of_holes ds (to_test l r e)) (holes_in_option (to_test l opening e))
    test (order.absent le) h = none
    test (order.present x) h = part ds None Cond refl x h

    step : {from to : ℕ} {e : Option Tree} → OptionIn from to e → Facts R P Q (option_spots ds e) (in_step e) (option_found tree_uses ds e)
        → Counted H (option_found of_holes ds (to_step l r e)) (holes_in_option (to_step l opening e))
    step (order.absent le) h = none
    step (order.present x) h = tree ds None x h

    given : {from to : ℕ} {e : Option Tree} → OptionIn from to e → Facts R P Q (option_spots ds e) (in_value e) (option_found tree_uses ds e)
        → Counted H (option_found of_holes ds (to_value l r e)) (holes_in_option (to_value l opening e))
    given (order.absent le) h = none
    given (order.present x) h = part ds None Right refl x h

    -- a statement that can be a location, given what its inside becomes
    at_statement : (c made opened : Code) → R (spot ds None (span_of_code c)) → P (guard c) → Every Q (code_found tree_uses ds c) → InScope ds None (code_found tree_uses ds c) → code_found of_holes ds c ≡ []
        → Counted H (code_found of_holes ds made) (holes_in_code opened)
        → Counted H (code_found of_holes ds (at_code l r c made)) (holes_in_code (at_code l opening c opened))
    at_statement c made opened s p u k n m = by_test (stands l Guard (span_of_code c)) refl
      where
        by_test : (b : Bool) → stands l Guard (span_of_code c) ≡ b
            → Counted H (code_found of_holes ds (if b then r.code c else made)) (holes_in_code (if b then act hole no_span else opened))
        by_test true is = opens.code ds c is s p u k n
        by_test false is = m

  -- what the rewritten declarators declare
  declared_same : (q : Rewrite) (ty : Ty) (vs : List Variable) (here : Names) → declared ty (map (to_variable l q) vs) here ≡ declared ty vs here
  declared_same q ty [] here = refl
  declared_same q ty (v ∷ vs) here = declared_same q ty vs (variable_declaration ty v ∷ here)

  first_same : (f : First) → first_declared (to_first l r f) ≡ first_declared f
  first_same no_first = refl
  first_same (first_act e) = refl
  first_same (first_vars ty vs) = declared_same r ty vs []

  variables : {from to : ℕ} {vs : List Variable} (here around : Names) (ty : Ty) → VariablesIn from to vs
      → Facts R P Q (variables_spots here around ty vs) (in_variables vs) (variables_found tree_uses here around ty vs)
      → Counted H (variables_found of_holes here around ty (map (to_variable l r) vs)) (holes_in_variables (map (to_variable l opening) vs))
  variables here around ty (order.none le) h = none
  variables here around ty (order.more {v = v} {vs = vs} w start rest) h =
      let d = variable_declaration ty v in
      let inner = d ∷ (here ++ around) in
      summed (holes_in_initial (to_initial l opening v.start)) (map (λ (u : Variable). holes_in_initial u.start) (map (to_variable l opening) vs)) (both
      (initial inner v.word start (one (initial_spots inner v.word v.start) (variables_spots (d ∷ here) around ty vs) (in_initial v.start) (in_variables vs) (initial_found tree_uses inner v.word v.start) (variables_found tree_uses (d ∷ here) around ty vs) h))
      (variables (d ∷ here) around ty rest (two (initial_spots inner v.word v.start) (variables_spots (d ∷ here) around ty vs) (in_initial v.start) (in_variables vs) (initial_found tree_uses inner v.word v.start) (variables_found tree_uses (d ∷ here) around ty vs) h)))

  first : {from to : ℕ} {f : First} (ds : Names) → FirstIn from to f → Facts R P Q (first_spots ds f) (in_first f) (first_found tree_uses ds f)
      → Counted H (first_found of_holes ds (to_first l r f)) (holes_in_first (to_first l opening f))
  first ds (order.none le) h = none
  first ds (order.act x) h = tree ds None x h
  first ds (order.vars {ty = ty} vs) h = variables [] ds ty vs h

  abbrev C : Names → Code → Type 0
  C ds c = Facts R P Q (code_spots ds c) (in_code c) (code_found tree_uses ds c)

  abbrev MadeCode : Names → Code → Type 0
  MadeCode ds c = Counted H (code_found of_holes ds (to_code l r c)) (holes_in_code (to_code l opening c))

  mutual
    code : {from to : ℕ} {c : Code} (ds : Names) → CodeIn from to c → C ds c → MadeCode ds c
    code ds (order.empty w) h = none
    code ds (order.act {e = e} {s = s} w x) h =
        at_statement ds (act e s) (act (to_tree l r e) s) (act (to_tree l opening e) s) (head h.spots) (head h.located) h.uses (tree_scope ds None e) (closed_tree ds x).nothing
        (tree ds None x (inside (within h)))
    code ds (order.block w b) h = body [] ds b (inside h)
    code ds (order.if_then {t = e} {a = c} w t a) h = both
        (part ds None Cond refl t (one (tree_spots ds None e) (code_spots ds c) (in_condition e) (in_code c) (tree_uses ds None e) (code_found tree_uses ds c) (inside h)))
        (code ds a (two (tree_spots ds None e) (code_spots ds c) (in_condition e) (in_code c) (tree_uses ds None e) (code_found tree_uses ds c) (inside h)))
    code ds (order.if_else {t = e} {a = c} {b = d} w t a b) h =
        let all = grouped (in_condition e) (in_code c) (in_code d) (inside h) in
        let arms = two (tree_spots ds None e) (code_spots ds c ++ code_spots ds d) (in_condition e) (in_code c ++ in_code d) (tree_uses ds None e) (code_found tree_uses ds c ++ code_found tree_uses ds d) all in
        as_many (both
        (part ds None Cond refl t (one (tree_spots ds None e) (code_spots ds c ++ code_spots ds d) (in_condition e) (in_code c ++ in_code d) (tree_uses ds None e) (code_found tree_uses ds c ++ code_found tree_uses ds d) all))
        (both
        (code ds a (one (code_spots ds c) (code_spots ds d) (in_code c) (in_code d) (code_found tree_uses ds c) (code_found tree_uses ds d) arms))
        (code ds b (two (code_spots ds c) (code_spots ds d) (in_code c) (in_code d) (code_found tree_uses ds c) (code_found tree_uses ds d) arms))))
        (regrouped (holes_in (at_tree l opening Cond e (to_tree l opening e))) (holes_in_code (to_code l opening c)) (holes_in_code (to_code l opening d)))
    code ds (order.while {t = e} {a = c} w t a) h = both
        (part ds None Cond refl t (one (tree_spots ds None e) (code_spots ds c) (in_condition e) (in_code c) (tree_uses ds None e) (code_found tree_uses ds c) (inside h)))
        (code ds a (two (tree_spots ds None e) (code_spots ds c) (in_condition e) (in_code c) (tree_uses ds None e) (code_found tree_uses ds c) (inside h)))
    code ds (order.do_while {a = c} {t = e} w a t) h = both
        (code ds a (one (code_spots ds c) (tree_spots ds None e) (in_code c) (in_condition e) (code_found tree_uses ds c) (tree_uses ds None e) (inside h)))
        (part ds None Cond refl t (two (code_spots ds c) (tree_spots ds None e) (in_code c) (in_condition e) (code_found tree_uses ds c) (tree_uses ds None e) (inside h)))
    code ds (order.for {i = f} {t = e} {u = g} {a = c} w x t u a) h =
        let inner = first_declared f ++ ds in
        let all = grouped (in_first f) (in_test e) (in_step g ++ in_code c) (grouped (in_first f ++ in_test e) (in_step g) (in_code c) (inside h)) in
        let after_first = two (first_spots ds f) (option_spots inner e ++ (option_spots inner g ++ code_spots inner c)) (in_first f) (in_test e ++ (in_step g ++ in_code c)) (first_found tree_uses ds f) (option_found tree_uses inner e ++ (option_found tree_uses inner g ++ code_found tree_uses inner c)) all in
        let after_test = two (option_spots inner e) (option_spots inner g ++ code_spots inner c) (in_test e) (in_step g ++ in_code c) (option_found tree_uses inner e) (option_found tree_uses inner g ++ code_found tree_uses inner c) after_first in
        let p = first ds x (one (first_spots ds f) (option_spots inner e ++ (option_spots inner g ++ code_spots inner c)) (in_first f) (in_test e ++ (in_step g ++ in_code c)) (first_found tree_uses ds f) (option_found tree_uses inner e ++ (option_found tree_uses inner g ++ code_found tree_uses inner c)) all) in
        let q = test inner t (one (option_spots inner e) (option_spots inner g ++ code_spots inner c) (in_test e) (in_step g ++ in_code c) (option_found tree_uses inner e) (option_found tree_uses inner g ++ code_found tree_uses inner c) after_first) in
        let v = step inner u (one (option_spots inner g) (code_spots inner c) (in_step g) (in_code c) (option_found tree_uses inner g) (code_found tree_uses inner c) after_test) in
        let z = code inner a (two (option_spots inner g) (code_spots inner c) (in_step g) (in_code c) (option_found tree_uses inner g) (code_found tree_uses inner c) after_test) in
        let scope : first_declared f ≡ first_declared (to_first l r f) = sym (first_same f) in
        subst (λ (hs : Names). Counted H
        (first_found of_holes ds (to_first l r f) ++ (option_found of_holes (hs ++ ds) (to_test l r e) ++ (option_found of_holes (hs ++ ds) (to_step l r g) ++ code_found of_holes (hs ++ ds) (to_code l r c))))
        (holes_in_first (to_first l opening f) + holes_in_option (to_test l opening e) + holes_in_option (to_step l opening g) + holes_in_code (to_code l opening c))) scope
        (as_many (both p (both q (both v z)))
        (regrouped_four (holes_in_first (to_first l opening f)) (holes_in_option (to_test l opening e)) (holes_in_option (to_step l opening g)) (holes_in_code (to_code l opening c))))
    code ds (order.give {e = e} {s = s} w x) h =
        at_statement ds (give e s) (give (to_value l r e) s) (give (to_value l opening e) s) (head h.spots) (head h.located) h.uses (option_scope ds e) (closed_option ds x)
        (given ds x (inside (within h)))
    code ds (order.break {s = s} w) h = at_statement ds (break s) (break s) (break s) (head h.spots) (head h.located) h.uses nil refl none
    code ds (order.continue {s = s} w) h = at_statement ds (continue s) (continue s) (continue s) (head h.spots) (head h.located) h.uses nil refl none

    body : {from to : ℕ} {b : Body} (here around : Names) → BodyIn from to b → Facts R P Q (body_spots here around b) (in_body b) (body_found tree_uses here around b)
        → Counted H (body_found of_holes here around (to_body l r b)) (holes_in_body (to_body l opening b))
    body here around (order.done le) h = none
    body here around (order.next {a = c} {rest = b} a rest) h = both
        (code (here ++ around) a (one (code_spots (here ++ around) c) (body_spots here around b) (in_code c) (in_body b) (code_found tree_uses (here ++ around) c) (body_found tree_uses here around b) h))
        (body here around rest (two (code_spots (here ++ around) c) (body_spots here around b) (in_code c) (in_body b) (code_found tree_uses (here ++ around) c) (body_found tree_uses here around b) h))
    body here around (order.vars {ty = ty} {vs = vs} {rest = b} x rest) h =
        let later = declared ty vs here in
        let p = variables here around ty x (one (variables_spots here around ty vs) (body_spots later around b) (in_variables vs) (in_body b) (variables_found tree_uses here around ty vs) (body_found tree_uses later around b) h) in
        let q = body later around rest (two (variables_spots here around ty vs) (body_spots later around b) (in_variables vs) (in_body b) (variables_found tree_uses here around ty vs) (body_found tree_uses later around b) h) in
        let scope : later ≡ declared ty (map (to_variable l r) vs) here = sym (declared_same r ty vs here) in
        subst (λ (hs : Names). Counted H
        (variables_found of_holes here around ty (map (to_variable l r) vs) ++ body_found of_holes hs around (to_body l r b))
        (holes_in_variables (map (to_variable l opening) vs) + holes_in_body (to_body l opening b))) scope
        (both p q)

  definition : {from to : ℕ} {b : Option Body} (here around : Names) → DefinitionIn from to b
      → Facts R P Q (definition_spots here around b) (in_definition b) (definition_found tree_uses here around b)
      → Counted H (definition_found of_holes here around (to_definition l r b)) (holes_in_definition (to_definition l opening b))
  definition here around (order.absent le) h = none
  definition here around (order.present b) h = body here around b h

  module _ (file : List Outer) (same : (f : Function) → function_declaration (rewritten l r file) (changed l r f) ≡ function_declaration file f) where
    pub outers : {from to : ℕ} {os : List Outer} (here : Names) → ProgramIn from to os
        → Facts R P Q (outers_spots file here os) (located os) (outers_found tree_uses file here os)
        → Counted H (outers_found of_holes (rewritten l r file) here (rewritten l r os)) (sum (map holes_in_outer (rewritten l opening os)))
    outers here (order.none le) h = none
    outers here (order.more {p = os} (order.vars {ty = ty} {vs = vs} x) rest) h =
        let later = declared ty vs here in
        let more : Facts R P Q (outers_spots file later os) (located os) (outers_found tree_uses file later os) =
        two (variables_spots here [] ty vs) (outers_spots file later os) [] (located os) (variables_found tree_uses here [] ty vs) (outers_found tree_uses file later os) h in
        summed (holes_in_variables vs) (map holes_in_outer (rewritten l opening os)) (both (counted (closed_variables here [] ty x)) (outers later rest more))
    outers here (order.more {p = os} (order.func {f = f} w ps d) rest) h =
        let around = function_declaration file f ∷ here in
        let own = definition_spots (params_declared f.params []) around f.body in
        let names = definition_found tree_uses (params_declared f.params []) around f.body in
        let p = definition (params_declared f.params []) around d (one own (outers_spots file around os) (in_definition f.body) (located os) names (outers_found tree_uses file around os) h) in
        let q = outers around rest (two own (outers_spots file around os) (in_definition f.body) (located os) names (outers_found tree_uses file around os) h) in
        let scope : function_declaration file f ≡ function_declaration (rewritten l r file) (changed l r f) = sym (same f) in
        summed (holes_in_definition (to_definition l opening f.body)) (map holes_in_outer (rewritten l opening os))
        (subst (λ (d : Declaration). Counted H
        (definition_found of_holes (params_declared f.params []) (d ∷ here) (to_definition l r f.body) ++ outers_found of_holes (rewritten l r file) (d ∷ here) (rewritten l r os))
        (holes_in_definition (to_definition l opening f.body) + sum (map holes_in_outer (rewritten l opening os)))) scope
        (both p q))
