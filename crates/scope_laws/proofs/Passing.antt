-- What a part declares by the text: nothing at a place before it, and of a statement nothing behind it.
-- Behind declarators and parameters it is what they declare by the tree.
use Rattle.std.proofs.Common.{◌≡◌, ℕ, ◌<◌, ◌≤◌, Bool, true, false, ◌&&◌, nat_lt, nat_le, if◌then◌else◌, List, [], ◌∷◌, ◌++◌, reverse, Option, refl, ap, ◌∙◌, arith}
use Rattle.std.proofs.lemmas.Bool.Decides.{nat_tests}
use Rattle.c_tree.specs.declared.program.Param.{Param}
use Rattle.c_tree.specs.declared.stmt.Ty.{Ty}
use Rattle.c_tree.specs.Order as order
use Rattle.c_tree.specs.Order.{Within, TreeIn, InitialIn, VariablesIn, FirstIn, CodeIn, BodyIn, ParamsIn, DefinitionIn, OuterIn, ProgramIn}
use Rattle.c_tree.specs.Parts.{span_of}
use Rattle.c_tree.specs.Tree.{Initial, Variable, First, Code, Body, Outer}
use Rattle.c_types.specs.declared.scope.Declaration.{Declaration}
use Rattle.c_types.specs.declared.visible.Visible.{Visible}
use Rattle.c_types.specs.Programs.{param_declaration, params_declared}
use Rattle.c_types.specs.Statements.{variable_declaration, declared, first_declared}
use Rattle.c_types.specs.Visible.{others, and_then, visible_variable, visible_param, is_inside, with_variable, with_variables, with_param, with_params, with_first, with_code, with_body, with_definition, with_outer, with_outers}
use Rattle.scope_laws.specs.Seen.{visible_in}
use Rattle.scope_laws.proofs.Hiding.{and_then-reverse}
use Rattle.scope_laws.proofs.Orders.{tree_text, tree_le, option_le, variables_le, first_le, code_le, params_le, outer_le}

pub if_true : {A : Type 0} (b : Bool) (x y : A) → b ≡ true → (if b then x else y) ≡ x
if_true true x y is = refl
if_true false x y is = absurd (cc)

pub if_false : {A : Type 0} (b : Bool) (x y : A) → b ≡ false → (if b then x else y) ≡ y
if_false true x y is = absurd (cc)
if_false false x y is = refl

pub either : {A : Type 0} (b : Bool) (x y z : A) → x ≡ z → y ≡ z → (if b then x else y) ≡ z
either true x y z p q = p
either false x y z p q = q

pub is_below : (a b : ℕ) → a < b → nat_lt a b ≡ true
is_below a b lt = grind (arith, nat_tests)

pub isnt_below : (a b : ℕ) → b ≤ a → nat_lt a b ≡ false
isnt_below a b le = grind (arith, nat_tests)

pub is_upto : (a b : ℕ) → a ≤ b → nat_le a b ≡ true
is_upto a b le = grind (arith, nat_tests)

pub both_true : (a b : Bool) → a ≡ true → b ≡ true → (a && b) ≡ true
both_true true b p q = q
both_true false b p q = absurd (cc)

second_false : (a b : Bool) → b ≡ false → (a && b) ≡ false
second_false true b q = q
second_false false b q = refl

module _ (place : ℕ) where
  -- a place behind an initialiser isn't in it
  pub isnt_inside : {i j : ℕ} {start : Initial} → InitialIn i j start → j ≤ place → is_inside place start ≡ false
  isnt_inside (order.bare h) le = refl
  isnt_inside (order.one {e = e} x) le =
      second_false (nat_le (span_of e).from place) (nat_lt place (span_of e).to)
      (isnt_below place (span_of e).to (omega (arith, (tree_text x).ends, le)))
  isnt_inside (order.many xs) le = refl

  -- ---- before a part

  pub variable_before : (ty : Ty) (v : Variable) (before : List Visible) → place < v.span.to → with_variable place ty v before ≡ before
  variable_before ty v before lt = if_true (nat_lt place v.span.to) before _ (is_below place v.span.to lt)

  pub variables_before : {i j : ℕ} {vs : List Variable} → VariablesIn i j vs → place ≤ i → (ty : Ty) (before : List Visible)
      → with_variables place ty vs before ≡ before
  variables_before (order.none h) le ty before = refl
  variables_before (order.more {m = m} {v = v} {vs = vs} w start rest) le ty before =
      let soon : place < v.span.to = omega (arith, w.begins, w.covers, le) in
      let next : place ≤ m = omega (arith, w.ends, soon) in
      ap (with_variables place ty vs) (variable_before ty v before soon) ∙ variables_before rest next ty before

  pub params_before : {i j : ℕ} {ps : List Param} → ParamsIn i j ps → place ≤ i → (before : List Visible) → with_params place ps before ≡ before
  params_before (order.none h) le before = refl
  params_before (order.more {m = m} {p = p} {ps = ps} w rest) le before =
      let soon : place < p.span.to = omega (arith, w.begins, w.covers, le) in
      let next : place ≤ m = omega (arith, w.ends, soon) in
      ap (with_params place ps) (if_true (nat_lt place p.span.to) before _ (is_below place p.span.to soon)) ∙ params_before rest next before

  pub first_before : {i j : ℕ} {f : First} → FirstIn i j f → place ≤ i → (before : List Visible) → with_first place f before ≡ before
  first_before (order.none h) le before = refl
  first_before (order.act x) le before = refl
  first_before (order.vars {ty = ty} vs) le before = variables_before vs le ty before

  mutual
    pub code_before : {i j : ℕ} {c : Code} → CodeIn i j c → place ≤ i → (before : List Visible) → with_code place c before ≡ before
    code_before (order.empty w) le before = refl
    code_before (order.act w x) le before = refl
    code_before (order.block {body = body} {s = s} w b) le before =
        either (nat_lt place s.to) (with_body place body before) before before (body_before b (omega (arith, w.begins, le)) before) refl
    code_before (order.if_then w t a) le before = code_before a (omega (arith, w.begins, tree_le t, le)) before
    code_before (order.if_else {a = c} {b = d} w t a b) le before =
        ap (with_code place d) (code_before a (omega (arith, w.begins, tree_le t, le)) before)
        ∙ code_before b (omega (arith, w.begins, tree_le t, code_le a, le)) before
    code_before (order.while w t a) le before = code_before a (omega (arith, w.begins, tree_le t, le)) before
    code_before (order.do_while w a t) le before = code_before a (omega (arith, w.begins, le)) before
    code_before (order.for {i = f} {a = c} {s = s} w i t u a) le before =
        either (nat_lt place s.to) (with_code place c (with_first place f before)) before before
        (ap (with_code place c) (first_before i (omega (arith, w.begins, le)) before)
        ∙ code_before a (omega (arith, w.begins, first_le i, option_le t, option_le u, le)) before) refl
    code_before (order.give w e) le before = refl
    code_before (order.break w) le before = refl
    code_before (order.continue w) le before = refl

    pub body_before : {i j : ℕ} {b : Body} → BodyIn i j b → place ≤ i → (before : List Visible) → with_body place b before ≡ before
    body_before (order.done h) le before = refl
    body_before (order.next {a = c} {rest = r} a rest) le before =
        ap (with_body place r) (code_before a le before) ∙ body_before rest (omega (arith, code_le a, le)) before
    body_before (order.vars {ty = ty} {vs = vs} {rest = r} h rest) le before =
        ap (with_body place r) (variables_before h le ty before) ∙ body_before rest (omega (arith, variables_le h, le)) before

  pub definition_before : {i j : ℕ} {d : Option Body} → DefinitionIn i j d → place ≤ i → (before : List Visible)
      → with_definition place d before ≡ before
  definition_before (order.absent h) le before = refl
  definition_before (order.present b) le before = body_before b le before

  pub outer_before : {i j : ℕ} {o : Outer} → OuterIn i j o → place ≤ i → (before : List Visible) → with_outer place o before ≡ before
  outer_before (order.vars {ty = ty} vs) le before = variables_before vs le ty before
  outer_before (order.func {f = f} w ps d) le before =
      either (nat_lt place f.span.to) (with_definition place f.body (with_params place f.params before)) before before
      (ap (with_definition place f.body) (params_before ps (omega (arith, w.begins, le)) before)
      ∙ definition_before d (omega (arith, w.begins, params_le ps, le)) before) refl

  pub outers_before : {i j : ℕ} {p : List Outer} → ProgramIn i j p → place ≤ i → (before : List Visible) → with_outers place p before ≡ before
  outers_before (order.none h) le before = refl
  outers_before (order.more {x = o} {p = p} x rest) le before =
      ap (with_outers place p) (outer_before x le before) ∙ outers_before rest (omega (arith, outer_le x, le)) before

  -- ---- behind a part

  pub code_after : {i j : ℕ} {c : Code} → CodeIn i j c → j ≤ place → (before : List Visible) → with_code place c before ≡ before
  code_after (order.empty w) le before = refl
  code_after (order.act w x) le before = refl
  code_after (order.block {body = body} {s = s} w b) le before =
      if_false (nat_lt place s.to) (with_body place body before) before (isnt_below place s.to (omega (arith, w.ends, le)))
  code_after (order.if_then w t a) le before = code_after a (omega (arith, w.ends, le)) before
  code_after (order.if_else {a = c} {b = d} w t a b) le before =
      ap (with_code place d) (code_after a (omega (arith, w.ends, code_le b, le)) before)
      ∙ code_after b (omega (arith, w.ends, le)) before
  code_after (order.while w t a) le before = code_after a (omega (arith, w.ends, le)) before
  code_after (order.do_while w a t) le before = code_after a (omega (arith, w.ends, tree_le t, le)) before
  code_after (order.for {i = f} {a = c} {s = s} w i t u a) le before =
      if_false (nat_lt place s.to) (with_code place c (with_first place f before)) before (isnt_below place s.to (omega (arith, w.ends, le)))
  code_after (order.give w e) le before = refl
  code_after (order.break w) le before = refl
  code_after (order.continue w) le before = refl

  -- a declarator, its initialiser left out
  pub variable_begun : (ty : Ty) (v : Variable) (before : List Visible) → v.span.to ≤ place
      → with_variable place ty v before ≡ (if is_inside place v.start then others v.word before else and_then (visible_variable ty v) before)
  variable_begun ty v before le = if_false (nat_lt place v.span.to) before _ (isnt_below place v.span.to le)

  pub variable_after : (ty : Ty) (v : Variable) (before : List Visible) (ds : List Declaration) → v.span.to ≤ place → is_inside place v.start ≡ false
      → reverse before ≡ visible_in ds → reverse (with_variable place ty v before) ≡ visible_in (variable_declaration ty v ∷ ds)
  variable_after ty v before ds le out h =
      ap reverse (variable_begun ty v before le ∙ if_false (is_inside place v.start) (others v.word before) (and_then (visible_variable ty v) before) out)
      ∙ and_then-reverse (visible_variable ty v) before
      ∙ ap (λ xs. visible_variable ty v ∷ others v.word xs) h

  pub variables_after : {i j : ℕ} {vs : List Variable} → VariablesIn i j vs → j ≤ place → (ty : Ty) (before : List Visible) (here around : List Declaration)
      → reverse before ≡ visible_in (here ++ around) → reverse (with_variables place ty vs before) ≡ visible_in (declared ty vs here ++ around)
  variables_after (order.none h) le ty before here around is = is
  variables_after (order.more {m = m} {v = v} w start rest) le ty before here around is =
      let next : m ≤ place = omega (arith, variables_le rest, le) in
      variables_after rest le ty (with_variable place ty v before) (variable_declaration ty v ∷ here) around
      (variable_after ty v before (here ++ around) (omega (arith, w.ends, next)) (isnt_inside start next) is)

  pub params_after : {i j : ℕ} {ps : List Param} → ParamsIn i j ps → j ≤ place → (before : List Visible) (here around : List Declaration)
      → reverse before ≡ visible_in (here ++ around) → reverse (with_params place ps before) ≡ visible_in (params_declared ps here ++ around)
  params_after (order.none h) le before here around is = is
  params_after (order.more {m = m} {p = p} w rest) le before here around is =
      let past : p.span.to ≤ place = omega (arith, w.ends, params_le rest, le) in
      params_after rest le (with_param place p before) (param_declaration p ∷ here) around
      (ap reverse (if_false (nat_lt place p.span.to) before (and_then (visible_param p) before) (isnt_below place p.span.to past))
      ∙ and_then-reverse (visible_param p) before
      ∙ ap (λ xs. visible_param p ∷ others p.word xs) is)

  pub first_after : {i j : ℕ} {f : First} → FirstIn i j f → j ≤ place → (before : List Visible) (ds : List Declaration)
      → reverse before ≡ visible_in ds → reverse (with_first place f before) ≡ visible_in (first_declared f ++ ds)
  first_after (order.none h) le before ds is = is
  first_after (order.act x) le before ds is = is
  first_after (order.vars {ty = ty} vs) le before ds is = variables_after vs le ty before [] ds is
