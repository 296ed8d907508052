-- What is visible by the text where an expression or a statement stands is what the declarations in scope there make
-- visible.
use Rattle.std.proofs.Common.{◌≡◌, ℕ, suc, ◌<◌, ◌≤◌, Bool, true, false, ◌&&◌, nat_lt, nat_le, if◌then◌else◌, List, [], ◌∷◌, ◌++◌, reverse, Option, Some, None, refl, sym, ap, ◌∙◌, subst, arith, append-nil}
use Rattle.std.specs.List.{All, Contains, flat_map}
use Rattle.std.specs.Str.{bytes_eq}
use Rattle.std.proofs.lemmas.List.Elements.{All-same}
use Rattle.c_tree.specs.declared.place.Span.{Span}
use Rattle.c_tree.specs.declared.stmt.Ty.{Ty}
use Rattle.c_tree.specs.Order as order
use Rattle.c_tree.specs.Order.{Within, TreeIn, ArgsIn, TreesIn, OptionIn, InitialIn, VariablesIn, FirstIn, CodeIn, BodyIn, ParamsIn, DefinitionIn, OuterIn, ProgramIn}
use Rattle.c_tree.specs.Parts.{span_of, span_of_code}
use Rattle.c_tree.specs.Tree.{Tree, Args, Initial, Variable, First, Code, block, for, Body, Function, Outer, outer_func}
use Rattle.c_types.specs.declared.fault.FaultKind.{FaultKind}
use Rattle.c_types.specs.declared.fault.FaultKind.TheVariants.{Twice}
use Rattle.c_types.specs.declared.scope.Declaration.{Declaration}
use Rattle.c_types.specs.declared.scope.Entity.{Entity}
use Rattle.c_types.specs.declared.scope.Entity.TheVariants.{Variable as VariableEntity, Function as FunctionEntity, Library, Printf, Scanf}
use Rattle.c_types.specs.declared.scope.Storage.TheVariants.{Static}
use Rattle.c_types.specs.declared.visible.Visible.{Visible}
use Rattle.c_types.specs.Least.{fault}
use Rattle.c_types.specs.Library.{library}
use Rattle.c_types.specs.Programs.{function_declaration, params_declared, redeclared_faults, name_faults, function_faults, outers_faults, main_faults, program_faults}
use Rattle.c_types.specs.Statements.{variable_declaration, declared, first_declared, variables_faults}
use Rattle.c_types.specs.Visible.{others, and_then, visible_variable, is_inside, with_variable, with_variables, with_params, with_first, with_code, with_body, with_definition, with_outer, with_outers, visible_at}
use Rattle.scope_laws.specs.Seen.{onto, visible_in, usable, IsMeant}
use Rattle.scope_laws.specs.Spots.{Spot, spot, tree_spots, args_spots, first_byte, option_spots, initial_spots, variables_spots, first_spots, code_spots, body_spots, definition_spots, outers_spots, spots}
use Rattle.scope_laws.specs.Laws.{Sees, SeesScope}
use Rattle.scope_laws.proofs.Every.{Every, nil, cons, append, weaker}
use Rattle.scope_laws.proofs.Hiding.{others-cons, others-own, others-twice, others-swap, others-reverse, and_then-reverse}
use Rattle.scope_laws.proofs.Meant.{usable_are_meant, meant_are_usable}
use Rattle.scope_laws.proofs.Orders.{tree_text, tree_own, code_text, code_own, text_le, tree_le, args_le, trees_le, option_le, variables_le, first_le, code_le, body_le, params_le, program_le}
use Rattle.scope_laws.proofs.Passing.{if_true, if_false, is_below, isnt_below, is_upto, both_true, isnt_inside, variables_before, code_before, body_before, outers_before, code_after, variable_begun, variable_after, variables_after, params_after, first_after}

-- A text lies between two places and isn't empty, and at a place of it these variables, of which the latest comes
-- last, are those that its declarations make visible.
pub record Fits (place i j : ℕ) (found : List Visible) (u : Spot) : Type 0 where
  pub begins : i ≤ u.text.from
  pub covers : u.text.from < u.text.to
  pub ends : u.text.to ≤ j
  pub agrees : u.text.from ≤ place → place < u.text.to → reverse found ≡ usable u.initialised (visible_in u.scope)

-- so it is at each of some texts
abbrev FitAll : ℕ → ℕ → ℕ → List Visible → List Spot → Type 0
FitAll place i j found us = Every (Fits place i j found) us

module _ (place : ℕ) where
  -- between other places, and where other variables are found only elsewhere
  wider : (k l i j : ℕ) (inner found : List Visible) → i ≤ k → l ≤ j → (k ≤ place → place < l → found ≡ inner)
      → {us : List Spot} → FitAll place k l inner us → FitAll place i j found us
  wider k l i j inner found ik lj same =
      weaker (λ u f. record {
        begins = omega (arith, f.begins, ik);
        covers = f.covers;
        ends = omega (arith, f.ends, lj);
        agrees = λ p q. ap reverse (same (omega (arith, f.begins, p)) (omega (arith, f.ends, q))) ∙ f.agrees p q;
      })

  -- what is found between two places is found between places that lie between them
  narrow : {k l i j : ℕ} {T : Type 0} → i ≤ k → l ≤ j → (i ≤ place → place < j → T) → k ≤ place → place < l → T
  narrow ik lj h p q = h (omega (arith, ik, p)) (omega (arith, lj, q))

  -- a part, where the others declare nothing
  part : (k l i j : ℕ) → i ≤ k → l ≤ j → {found vs : List Visible} {us : List Spot} → (i ≤ place → place < j → reverse found ≡ vs)
      → ((k ≤ place → place < l → reverse found ≡ vs) → FitAll place k l found us) → FitAll place i j found us
  part k l i j ik lj {found = found} h fits = wider k l i j found found ik lj (λ p q. refl) (fits (narrow ik lj h))

  -- the text of an expression
  own : {i j : ℕ} {s : Span} {found : List Visible} {ds : List Declaration} {o : Option (List ℕ)} → Within i j s
      → (i ≤ place → place < j → reverse found ≡ usable o (visible_in ds)) → Fits place i j found (spot ds o s)
  own w h = record {
    begins = w.begins;
    covers = w.covers;
    ends = w.ends;
    agrees = λ p q. h (omega (arith, w.begins, p)) (omega (arith, w.ends, q));
  }

  module _ (found : List Visible) (ds : List Declaration) (o : Option (List ℕ)) where
    mutual
      tree_fits : {i j : ℕ} {e : Tree} → TreeIn i j e → (i ≤ place → place < j → reverse found ≡ usable o (visible_in ds))
          → FitAll place i j found (tree_spots ds o e)
      tree_fits (order.constant w) h = cons (own w h) nil
      tree_fits (order.name w) h = cons (own w h) nil
      tree_fits {i = i} {j = j} (order.index {s = s} w x) h =
          cons (own w h) (part (suc s.from) s.to i j (omega (arith, w.begins)) w.ends h (tree_fits x))
      tree_fits {i = i} {j = j} (order.call {s = s} w x) h =
          cons (own w h) (part (suc s.from) s.to i j (omega (arith, w.begins)) w.ends h (args_fits x))
      tree_fits {i = i} {j = j} (order.unary {s = s} w x) h =
          cons (own w h) (part (suc s.from) s.to i j (omega (arith, w.begins)) w.ends h (tree_fits x))
      tree_fits {i = i} {j = j} (order.cast {s = s} w x) h =
          cons (own w h) (part (suc s.from) s.to i j (omega (arith, w.begins)) w.ends h (tree_fits x))
      tree_fits {i = i} {j = j} (order.binary {m = m} {s = s} w x y) h =
          cons (own w h) (append
          (part s.from m i j w.begins (omega (arith, tree_le y, w.ends)) h (tree_fits x))
          (part m s.to i j (omega (arith, tree_le x, w.begins)) w.ends h (tree_fits y)))
      tree_fits {i = i} {j = j} (order.choice {m = m} {n = n} {s = s} w x y z) h =
          cons (own w h) (append
          (part s.from m i j w.begins (omega (arith, tree_le y, tree_le z, w.ends)) h (tree_fits x))
          (append
          (part m n i j (omega (arith, tree_le x, w.begins)) (omega (arith, tree_le z, w.ends)) h (tree_fits y))
          (part n s.to i j (omega (arith, tree_le x, tree_le y, w.begins)) w.ends h (tree_fits z))))
      tree_fits {i = i} {j = j} (order.assign {m = m} {s = s} w x y) h =
          cons (own w h) (append
          (part s.from m i j w.begins (omega (arith, tree_le y, w.ends)) h (tree_fits x))
          (part m s.to i j (omega (arith, tree_le x, w.begins)) w.ends h (tree_fits y)))
      tree_fits {i = i} {j = j} (order.bump {s = s} w x) h =
          cons (own w h) (part s.from s.to i j w.begins w.ends h (tree_fits x))
      tree_fits {i = i} {j = j} (order.comma {m = m} {s = s} w x y) h =
          cons (own w h) (append
          (part s.from m i j w.begins (omega (arith, tree_le y, w.ends)) h (tree_fits x))
          (part m s.to i j (omega (arith, tree_le x, w.begins)) w.ends h (tree_fits y)))

      args_fits : {i j : ℕ} {x : Args} → ArgsIn i j x → (i ≤ place → place < j → reverse found ≡ usable o (visible_in ds))
          → FitAll place i j found (args_spots ds o x)
      args_fits (order.no_args le) h = nil
      args_fits {i = i} {j = j} (order.value {m = m} x rest) h =
          append
          (part i m i j (omega arith) (args_le rest) h (tree_fits x))
          (part m j i j (tree_le x) (omega arith) h (args_fits rest))
      args_fits {i = i} {j = j} (order.format {m = m} w rest) h = part m j i j (text_le w) (omega arith) h (args_fits rest)
      args_fits {i = i} {j = j} (order.address {m = m} x rest) h =
          append
          (part i m i j (omega arith) (args_le rest) h (tree_fits x))
          (part m j i j (tree_le x) (omega arith) h (args_fits rest))

  module _ (found : List Visible) (ds : List Declaration) where
    trees_fits : {i j : ℕ} {es : List Tree} → TreesIn i j es → (i ≤ place → place < j → reverse found ≡ visible_in ds)
        → FitAll place i j found (flat_map (tree_spots ds None) es)
    trees_fits (order.none le) h = nil
    trees_fits {i = i} {j = j} (order.more {m = m} x rest) h =
        append
        (part i m i j (omega arith) (trees_le rest) h (tree_fits found ds None x))
        (part m j i j (tree_le x) (omega arith) h (trees_fits rest))

    option_fits : {i j : ℕ} {e : Option Tree} → OptionIn i j e → (i ≤ place → place < j → reverse found ≡ visible_in ds)
        → FitAll place i j found (option_spots ds e)
    option_fits (order.absent le) h = nil
    option_fits (order.present x) h = tree_fits found ds None x h

  -- in a scalar's initialiser neither its name is usable nor one that it hides
  hidden : (ty : Ty) (v : Variable) (before : List Visible) (ds : List Declaration) → reverse before ≡ visible_in ds
      → reverse (others v.word before) ≡ others v.word (visible_variable ty v ∷ others v.word (visible_in ds))
  hidden ty v before ds is =
      others-reverse v.word before ∙ ap (others v.word) is
      ∙ sym (others-own (visible_variable ty v) (others v.word (visible_in ds)) ∙ others-twice v.word (visible_in ds))

  -- the initialiser of a variable that is declared
  initial_fits : {i j : ℕ} {start : Initial} → InitialIn i j start → (ty : Ty) (v : Variable) (before : List Visible) (ds : List Declaration)
      → (i ≤ place → place < j → reverse before ≡ visible_in ds)
      → FitAll place i j (if is_inside place start then others v.word before else and_then (visible_variable ty v) before)
      (initial_spots (variable_declaration ty v ∷ ds) v.word start)
  initial_fits (order.bare le) ty v before ds h = nil
  initial_fits {i = i} {j = j} (order.one {e = e} x) ty v before ds h =
      let s = span_of e in
      let w = tree_text x in
      wider s.from s.to i j (others v.word before)
      (if nat_le s.from place && nat_lt place s.to then others v.word before else and_then (visible_variable ty v) before)
      w.begins w.ends
      (λ p q. if_true (nat_le s.from place && nat_lt place s.to) (others v.word before) (and_then (visible_variable ty v) before)
      (both_true (nat_le s.from place) (nat_lt place s.to) (is_upto s.from place p) (is_below place s.to q)))
      (tree_fits (others v.word before) (variable_declaration ty v ∷ ds) (Some v.word) (tree_own x)
      (λ p q. hidden ty v before ds (h (omega (arith, w.begins, p)) (omega (arith, w.ends, q)))))
  initial_fits (order.many xs) ty v before ds h =
      trees_fits (and_then (visible_variable ty v) before) (variable_declaration ty v ∷ ds) xs
      (λ p q. and_then-reverse (visible_variable ty v) before ∙ ap (λ us. visible_variable ty v ∷ others v.word us) (h p q))

  variables_fits : {i j : ℕ} {vs : List Variable} → VariablesIn i j vs → (ty : Ty) (before : List Visible) (here around : List Declaration)
      → (i ≤ place → place < j → reverse before ≡ visible_in (here ++ around))
      → FitAll place i j (with_variables place ty vs before) (variables_spots here around ty vs)
  variables_fits (order.none le) ty before here around h = nil
  variables_fits {i = i} {j = j} (order.more {m = m} {v = v} {vs = vs} w start rest) ty before here around h =
      let mj = variables_le rest in
      let found = with_variable place ty v before in
      let d = variable_declaration ty v in
      append
      (wider v.span.to m i j
      (if is_inside place v.start then others v.word before else and_then (visible_variable ty v) before)
      (with_variables place ty vs found) (omega (arith, w.begins, w.covers)) mj
      (λ p q. variables_before place rest (omega (arith, q)) ty found ∙ variable_begun place ty v before p)
      (initial_fits start ty v before (here ++ around)
      (λ p q. h (omega (arith, w.begins, w.covers, p)) (omega (arith, mj, q)))))
      (wider m j i j (with_variables place ty vs found) (with_variables place ty vs found)
      (omega (arith, w.begins, w.covers, w.ends)) (omega arith) (λ p q. refl)
      (variables_fits rest ty found (d ∷ here) around
      (λ p q. variable_after place ty v before (here ++ around) (omega (arith, w.ends, p)) (isnt_inside place start p)
      (h (omega (arith, w.begins, w.covers, w.ends, p)) q))))

  first_fits : {i j : ℕ} {f : First} → FirstIn i j f → (before : List Visible) (ds : List Declaration)
      → (i ≤ place → place < j → reverse before ≡ visible_in ds) → FitAll place i j (with_first place f before) (first_spots ds f)
  first_fits (order.none le) before ds h = nil
  first_fits (order.act x) before ds h = tree_fits before ds None x h
  first_fits (order.vars {ty = ty} vs) before ds h = variables_fits vs ty before [] ds h

  -- the first byte of a statement
  first_byte_fits : {i j : ℕ} {c : Code} → CodeIn i j c → (before : List Visible) (ds : List Declaration)
      → (i ≤ place → place < j → reverse before ≡ visible_in ds)
      → Fits place i j (with_code place c before) (spot ds None (first_byte (span_of_code c)))
  first_byte_fits x before ds h =
      let w = code_text x in
      record {
        begins = w.begins;
        covers = omega arith;
        ends = omega (arith, w.covers, w.ends);
        agrees = λ p q. ap reverse (code_before place (code_own x) (omega (arith, q)) before)
            ∙ h (omega (arith, w.begins, p)) (omega (arith, w.covers, w.ends, q));
      }

  -- the condition of a statement, where its other parts declare nothing
  test_fits : (k l i j : ℕ) → i ≤ k → l ≤ j → {e : Tree} → TreeIn k l e → (before found : List Visible) (ds : List Declaration)
      → (k ≤ place → place < l → found ≡ before)
      → (i ≤ place → place < j → reverse before ≡ visible_in ds) → FitAll place i j found (tree_spots ds None e)
  test_fits k l i j ik lj x before found ds same h =
      wider k l i j before found ik lj same (tree_fits before ds None x (narrow ik lj h))

  mutual
    code_fits : {i j : ℕ} {c : Code} → CodeIn i j c → (before : List Visible) (ds : List Declaration)
        → (i ≤ place → place < j → reverse before ≡ visible_in ds) → FitAll place i j (with_code place c before) (code_spots ds c)
    code_fits (order.empty w) before ds h = cons (own w h) nil
    code_fits {i = i} {j = j} (order.act {s = s} w x) before ds h =
        cons (own w h) (test_fits s.from s.to i j w.begins w.ends x before before ds (λ p q. refl) h)
    code_fits {i = i} {j = j} (order.block {body = body} {s = s} w b) before ds h =
        cons (first_byte_fits (order.block w b) before ds h)
        (wider (suc s.from) s.to i j (with_body place body before) (with_code place (block body s) before) (omega (arith, w.begins)) w.ends
        (λ p q. if_true (nat_lt place s.to) (with_body place body before) before (is_below place s.to q))
        (body_fits b before [] ds (λ p q. h (omega (arith, w.begins, p)) (omega (arith, w.ends, q)))))
    code_fits {i = i} {j = j} (order.if_then {m = m} {a = c} {s = s} w t a) before ds h =
        let found = with_code place c before in
        cons (first_byte_fits (order.if_then w t a) before ds h) (append
        (test_fits (suc s.from) m i j (omega (arith, w.begins)) (omega (arith, code_le a, w.ends)) t before found ds
        (λ p q. code_before place a (omega (arith, q)) before) h)
        (wider m s.to i j found found (omega (arith, w.begins, tree_le t)) w.ends (λ p q. refl)
        (code_fits a before ds (λ p q. h (omega (arith, w.begins, tree_le t, p)) (omega (arith, w.ends, q))))))
    code_fits {i = i} {j = j} (order.if_else {m = m} {n = n} {a = c} {b = d} {s = s} w t a b) before ds h =
        let inner = with_code place c before in
        let found = with_code place d inner in
        let from_n : i ≤ n = omega (arith, w.begins, tree_le t, code_le a) in
        let upto_n : n ≤ j = omega (arith, code_le b, w.ends) in
        cons (first_byte_fits (order.if_else w t a b) before ds h) (append
        (test_fits (suc s.from) m i j (omega (arith, w.begins)) (omega (arith, code_le a, upto_n)) t before found ds
        (λ p q. ap (with_code place d) (code_before place a (omega (arith, q)) before) ∙ code_before place b (omega (arith, code_le a, q)) before) h)
        (append
        (wider m n i j inner found (omega (arith, w.begins, tree_le t)) upto_n
        (λ p q. code_before place b (omega (arith, q)) inner)
        (code_fits a before ds (λ p q. h (omega (arith, w.begins, tree_le t, p)) (omega (arith, upto_n, q)))))
        (wider n s.to i j found found from_n w.ends (λ p q. refl)
        (code_fits b inner ds (λ p q. ap reverse (code_after place a p before) ∙ h (omega (arith, from_n, p)) (omega (arith, w.ends, q)))))))
    code_fits {i = i} {j = j} (order.while {m = m} {a = c} {s = s} w t a) before ds h =
        let found = with_code place c before in
        cons (first_byte_fits (order.while w t a) before ds h) (append
        (test_fits (suc s.from) m i j (omega (arith, w.begins)) (omega (arith, code_le a, w.ends)) t before found ds
        (λ p q. code_before place a (omega (arith, q)) before) h)
        (wider m s.to i j found found (omega (arith, w.begins, tree_le t)) w.ends (λ p q. refl)
        (code_fits a before ds (λ p q. h (omega (arith, w.begins, tree_le t, p)) (omega (arith, w.ends, q))))))
    code_fits {i = i} {j = j} (order.do_while {m = m} {a = c} {s = s} w a t) before ds h =
        let found = with_code place c before in
        cons (first_byte_fits (order.do_while w a t) before ds h) (append
        (wider (suc s.from) m i j found found (omega (arith, w.begins)) (omega (arith, tree_le t, w.ends)) (λ p q. refl)
        (code_fits a before ds (λ p q. h (omega (arith, w.begins, p)) (omega (arith, tree_le t, w.ends, q)))))
        (test_fits m s.to i j (omega (arith, w.begins, code_le a)) w.ends t before found ds (λ p q. code_after place a p before) h))
    code_fits {i = i} {j = j} (order.for {k = k} {m = m} {n = n} {i = f} {t = e} {u = g} {a = c} {s = s} w x t u a) before ds h =
        let inner = with_first place f before in
        let found = with_code place (for f e g c s) before in
        let es = first_declared f ++ ds in
        let entered : (q : place < s.to) → found ≡ with_code place c inner =
        λ q. if_true (nat_lt place s.to) (with_code place c inner) before (is_below place s.to q) in
        let upto_k : k ≤ s.to = omega (arith, option_le t, option_le u, code_le a) in
        let upto_m : m ≤ s.to = omega (arith, option_le u, code_le a) in
        let from_k : i ≤ k = omega (arith, w.begins, first_le x) in
        let from_m : i ≤ m = omega (arith, from_k, option_le t) in
        let from_n : i ≤ n = omega (arith, from_m, option_le u) in
        cons (first_byte_fits (order.for w x t u a) before ds h) (append
        (wider (suc s.from) k i j inner found (omega (arith, w.begins)) (omega (arith, upto_k, w.ends))
        (λ p q. entered (omega (arith, upto_k, q)) ∙ code_before place a (omega (arith, option_le t, option_le u, q)) inner)
        (first_fits x before ds (λ p q. h (omega (arith, w.begins, p)) (omega (arith, upto_k, w.ends, q)))))
        (append
        (wider k m i j inner found from_k (omega (arith, upto_m, w.ends))
        (λ p q. entered (omega (arith, upto_m, q)) ∙ code_before place a (omega (arith, option_le u, q)) inner)
        (option_fits inner es t (λ p q. first_after place x p before ds (h (omega (arith, from_k, p)) (omega (arith, upto_m, w.ends, q))))))
        (append
        (wider m n i j inner found from_m (omega (arith, code_le a, w.ends))
        (λ p q. entered (omega (arith, code_le a, q)) ∙ code_before place a (omega (arith, q)) inner)
        (option_fits inner es u (λ p q. first_after place x (omega (arith, option_le t, p)) before ds (h (omega (arith, from_m, p)) (omega (arith, code_le a, w.ends, q))))))
        (wider n s.to i j (with_code place c inner) found from_n w.ends (λ p q. entered q)
        (code_fits a inner es
        (λ p q. first_after place x (omega (arith, option_le t, option_le u, p)) before ds (h (omega (arith, from_n, p)) (omega (arith, w.ends, q)))))))))
    code_fits {i = i} {j = j} (order.give {s = s} w e) before ds h =
        cons (own w h) (part (suc s.from) s.to i j (omega (arith, w.begins)) w.ends h (option_fits before ds e))
    code_fits (order.break w) before ds h = cons (own w h) nil
    code_fits (order.continue w) before ds h = cons (own w h) nil

    body_fits : {i j : ℕ} {b : Body} → BodyIn i j b → (before : List Visible) (here around : List Declaration)
        → (i ≤ place → place < j → reverse before ≡ visible_in (here ++ around))
        → FitAll place i j (with_body place b before) (body_spots here around b)
    body_fits (order.done le) before here around h = nil
    body_fits {i = i} {j = j} (order.next {m = m} {a = c} {rest = r} a rest) before here around h =
        let inner = with_code place c before in
        let found = with_body place r inner in
        append
        (wider i m i j inner found (omega arith) (body_le rest) (λ p q. body_before place rest (omega (arith, q)) inner)
        (code_fits a before (here ++ around) (λ p q. h p (omega (arith, body_le rest, q)))))
        (wider m j i j found found (code_le a) (omega arith) (λ p q. refl)
        (body_fits rest inner here around
        (λ p q. ap reverse (code_after place a p before) ∙ h (omega (arith, code_le a, p)) q)))
    body_fits {i = i} {j = j} (order.vars {m = m} {ty = ty} {vs = vs} {rest = r} x rest) before here around h =
        let inner = with_variables place ty vs before in
        let found = with_body place r inner in
        append
        (wider i m i j inner found (omega arith) (body_le rest) (λ p q. body_before place rest (omega (arith, q)) inner)
        (variables_fits x ty before here around (λ p q. h p (omega (arith, body_le rest, q)))))
        (wider m j i j found found (variables_le x) (omega arith) (λ p q. refl)
        (body_fits rest inner (declared ty vs here) around
        (λ p q. variables_after place x p ty before here around (h (omega (arith, variables_le x, p)) q))))

  definition_fits : {i j : ℕ} {d : Option Body} → DefinitionIn i j d → (before : List Visible) (here around : List Declaration)
      → (i ≤ place → place < j → reverse before ≡ visible_in (here ++ around))
      → FitAll place i j (with_definition place d before) (definition_spots here around d)
  definition_fits (order.absent le) before here around h = nil
  definition_fits (order.present b) before here around h = body_fits b before here around h

-- where lists together are empty, each is
none_left : {A : Type 0} (xs ys : List A) → xs ++ ys ≡ [] → xs ≡ []
none_left [] ys h = refl
none_left (x ∷ xs) ys h = absurd (cc)

none_right : {A : Type 0} (xs ys : List A) → xs ++ ys ≡ [] → ys ≡ []
none_right [] ys h = h
none_right (x ∷ xs) ys h = absurd (cc)

no_such : {A : Type 0} (kind : FaultKind) (s : Span) → fault kind s ≡ [] → A
unfolding fault
no_such kind s h = absurd (cc)

-- a function whose name has no fault hides no variable: one of its name would be declared twice
pub nothing_hidden : (ds : List Declaration) (f : Function) → name_faults ds f ≡ [] → others f.word (visible_in ds) ≡ visible_in ds
nothing_hidden [] f h = refl
nothing_hidden (d ∷ ds) f h =
    let own = if bytes_eq d.word f.word then redeclared_faults d.entity f else [] in
    by_entity (others d.word (visible_in ds)) (bytes_eq d.word f.word) refl d.entity (none_left own (name_faults ds f) h)
    (others-swap f.word d.word (visible_in ds) ∙ ap (others d.word) (nothing_hidden ds f (none_right own (name_faults ds f) h)))
  where
    by_entity : (seen : List Visible) (b : Bool) → bytes_eq d.word f.word ≡ b → (e : Entity) → (if b then redeclared_faults e f else []) ≡ []
        → others f.word seen ≡ seen → others f.word (onto d.word e seen) ≡ onto d.word e seen
    by_entity seen true is (VariableEntity slot ty array) none behind = no_such Twice f.span none
    by_entity seen false is (VariableEntity slot ty array) none behind =
        let v : Visible = record { word = d.word; slot = slot; ty = ty; array = array } in
        others-cons f.word v seen false is ∙ ap (λ xs. v ∷ xs) behind
    by_entity seen b is (FunctionEntity ret params body defined) none behind = behind
    by_entity seen b is (Library ret params) none behind = behind
    by_entity seen b is Printf none behind = behind
    by_entity seen b is Scanf none behind = behind

module _ (place : ℕ) (file : List Outer) where
  -- a function, where its own name hides nothing
  function_fits : {i j m : ℕ} (f : Function) → Within i j f.span → ParamsIn (suc f.span.from) m f.params → DefinitionIn m f.span.to f.body
      → (before : List Visible) (here : List Declaration) → name_faults here f ≡ []
      → (i ≤ place → place < j → reverse before ≡ visible_in here)
      → FitAll place i j (with_outer place (outer_func f) before)
      (definition_spots (params_declared f.params []) (function_declaration file f ∷ here) f.body)
  function_fits {i = i} {j = j} {m = m} f w ps d before here none h =
      let inner = with_params place f.params before in
      let itself = function_declaration file f in
      wider place m f.span.to i j (with_definition place f.body inner) (with_outer place (outer_func f) before)
      (omega (arith, w.begins, params_le ps)) w.ends
      (λ p q. if_true (nat_lt place f.span.to) (with_definition place f.body inner) before (is_below place f.span.to q))
      (definition_fits place d inner (params_declared f.params []) (itself ∷ here)
      (λ p q. params_after place ps p before [] (itself ∷ here)
      (h (omega (arith, w.begins, params_le ps, p)) (omega (arith, w.ends, q)) ∙ sym (nothing_hidden here f none))))

  outers_fits : {i j : ℕ} {os : List Outer} → ProgramIn i j os → (before : List Visible) (here : List Declaration)
      → outers_faults file here os ≡ [] → (i ≤ place → place < j → reverse before ≡ visible_in here)
      → FitAll place i j (with_outers place os before) (outers_spots file here os)
  outers_fits (order.none le) before here none h = nil
  outers_fits {i = i} {j = j} (order.more {m = m} {p = os} (order.vars {ty = ty} {vs = vs} x) rest) before here none h =
      let inner = with_variables place ty vs before in
      let found = with_outers place os inner in
      let whole : (ds : List Declaration) → visible_in ds ≡ visible_in (ds ++ []) = λ ds. ap visible_in (sym (append-nil ds)) in
      append
      (wider place i m i j inner found (omega arith) (program_le rest) (λ p q. outers_before place rest (omega (arith, q)) inner)
      (variables_fits place x ty before here [] (λ p q. h p (omega (arith, program_le rest, q)) ∙ whole here)))
      (wider place m j i j found found (variables_le x) (omega arith) (λ p q. refl)
      (outers_fits rest inner (declared ty vs here) (none_right (variables_faults Static here [] ty vs) _ none)
      (λ p q. variables_after place x p ty before here [] (h (omega (arith, variables_le x, p)) q ∙ whole here) ∙ sym (whole (declared ty vs here)))))
  outers_fits {i = i} {j = j} (order.more {m = m} {p = os} (order.func {f = f} w ps d) rest) before here none h =
      let inner = with_outer place (outer_func f) before in
      let found = with_outers place os inner in
      let own_name : name_faults here f ≡ [] = none_left (name_faults here f) _ (none_left (function_faults file here f) _ none) in
      append
      (wider place i m i j inner found (omega arith) (program_le rest) (λ p q. outers_before place rest (omega (arith, q)) inner)
      (function_fits f w ps d before here own_name (λ p q. h p (omega (arith, program_le rest, q)))))
      (wider place m j i j found found (text_le w) (omega arith) (λ p q. refl)
      (outers_fits rest inner (function_declaration file f ∷ here) (none_right (function_faults file here f) _ none)
      (λ p q. ap reverse (if_false (nat_lt place f.span.to) _ before (isnt_below place f.span.to (omega (arith, w.ends, p))))
      ∙ h (omega (arith, text_le w, p)) q ∙ sym (nothing_hidden here f own_name))))

-- what is visible by the text, and so which variables words denote
pub sees : (file : List Outer) (place : ℕ) (ds : List Declaration) (o : Option (List ℕ)) → visible_at place file ≡ usable o (visible_in ds)
    → Sees file place ds o
sees file place ds o is = record {
  same = is;
  meant = All-same (IsMeant ds) (visible_at place file) (usable o (visible_in ds)) is (usable_are_meant ds o);
  complete = λ v h other. subst (λ (vs : List Visible). Contains vs v) (sym is) (meant_are_usable ds o v h other);
}

pub scopes_agree : (file : List Outer) (from to end : ℕ) → ProgramIn from to file → program_faults file end ≡ [] → All (SeesScope file) (spots file)
scopes_agree file from to end ordered none k d lt =
    let at : (place : ℕ) → FitAll place from to (with_outers place file []) (spots file) =
    λ place. outers_fits place file ordered [] library (none_left (outers_faults file library file) (main_faults file end) none) (λ p q. refl) in
    record {
      covers = ((at 0).all k d lt).covers;
      sees = λ place p q. sees file place _ _ (((at place).all k d lt).agrees p q);
    }
