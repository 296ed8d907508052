-- Declarations, statements and programs that are derived from tokens whose spans rise are in text order.
use Rattle.std.proofs.Common.{ℕ, ℤ, ◌≤◌, ◌<◌, Bool, List, Option, arith}
use Rattle.c_tree.specs.declared.place.Span.{Span}
use Rattle.c_tree.specs.declared.program.Param.{Param}
use Rattle.c_tree.specs.declared.stmt.Ty.{Ty}
use Rattle.c_tree.specs.Parts.{span_of_code}
use Rattle.c_tree.specs.Tree.{Tree, Variable, First, Code, Body, Outer}
use Rattle.c_tree.specs.Order.{Within, TreesIn, OptionIn, InitialIn, VariablesIn, FirstIn, CodeIn, BodyIn, ParamsIn, DefinitionIn, OuterIn, ProgramIn}
use Rattle.c_lex.specs.Lexemes.{Rise}
use Rattle.c_grammar.specs.Grammar.{Tokens}
use Rattle.c_grammar.specs.Programs.{Length, Elements, Declarator, Declarators, Vars, Clause, Optional, Statement, Items, Parameter, Parameters, Signature, External, Derives}
use Rattle.c_grammar.proofs.ExpressionOrder.{text_in, moved, spread, Placed, tree_placed}

-- ---- parts between other places

within_spread : {i j k l : ℕ} {s : Span} → Within i j s → k ≤ i → j ≤ l → Within k l s
within_spread w h g = record { begins = let b = w.begins in omega arith; covers = w.covers; ends = let e = w.ends in omega arith }

trees_spread : {i j k l : ℕ} {ts : List Tree} → TreesIn i j ts → k ≤ i → j ≤ l → TreesIn k l ts
trees_spread (TreesIn.none o) h g = TreesIn.none (omega arith)
trees_spread (TreesIn.more {m = m} x y) h g = TreesIn.more {m = m} (spread x h (omega arith)) (trees_spread y (omega arith) g)

option_spread : {i j k l : ℕ} {t : Option Tree} → OptionIn i j t → k ≤ i → j ≤ l → OptionIn k l t
option_spread (OptionIn.absent o) h g = OptionIn.absent (omega arith)
option_spread (OptionIn.present x) h g = OptionIn.present (spread x h g)

variables_spread : {i j k l : ℕ} {vs : List Variable} → VariablesIn i j vs → k ≤ i → j ≤ l → VariablesIn k l vs
variables_spread (VariablesIn.none o) h g = VariablesIn.none (omega arith)
variables_spread (VariablesIn.more {m = m} w x y) h g =
    VariablesIn.more {m = m} (within_spread w h (omega arith)) x (variables_spread y (omega arith) g)

first_spread : {i j k l : ℕ} {f : First} → FirstIn i j f → k ≤ i → j ≤ l → FirstIn k l f
first_spread (FirstIn.none o) h g = FirstIn.none (omega arith)
first_spread (FirstIn.act x) h g = FirstIn.act (spread x h g)
first_spread (FirstIn.vars x) h g = FirstIn.vars (variables_spread x h g)

-- the text of a statement lies where the statement does
code_in : {i j : ℕ} {c : Code} → CodeIn i j c → Within i j (span_of_code c)
code_in (CodeIn.empty w) = w
code_in (CodeIn.act w x) = w
code_in (CodeIn.block w x) = w
code_in (CodeIn.if_then w x y) = w
code_in (CodeIn.if_else w x y z) = w
code_in (CodeIn.while w x y) = w
code_in (CodeIn.do_while w x y) = w
code_in (CodeIn.for w x y z u) = w
code_in (CodeIn.give w x) = w
code_in (CodeIn.break w) = w
code_in (CodeIn.continue w) = w

-- a statement lies wherever its text does
code_moved : {i j k l : ℕ} {c : Code} → CodeIn i j c → Within k l (span_of_code c) → CodeIn k l c
code_moved (CodeIn.empty v) w = CodeIn.empty w
code_moved (CodeIn.act v x) w = CodeIn.act w x
code_moved (CodeIn.block v x) w = CodeIn.block w x
code_moved (CodeIn.if_then v x y) w = CodeIn.if_then w x y
code_moved (CodeIn.if_else v x y z) w = CodeIn.if_else w x y z
code_moved (CodeIn.while v x y) w = CodeIn.while w x y
code_moved (CodeIn.do_while v x y) w = CodeIn.do_while w x y
code_moved (CodeIn.for v x y z u) w = CodeIn.for w x y z u
code_moved (CodeIn.give v x) w = CodeIn.give w x
code_moved (CodeIn.break v) w = CodeIn.break w
code_moved (CodeIn.continue v) w = CodeIn.continue w

code_spread : {i j k l : ℕ} {c : Code} → CodeIn i j c → k ≤ i → j ≤ l → CodeIn k l c
code_spread x h g = code_moved x (within_spread (code_in x) h g)

body_spread : {i j k l : ℕ} {b : Body} → BodyIn i j b → k ≤ i → j ≤ l → BodyIn k l b
body_spread (BodyIn.done o) h g = BodyIn.done (omega arith)
body_spread (BodyIn.next {m = m} x y) h g = BodyIn.next {m = m} (code_spread x h (omega arith)) (body_spread y (omega arith) g)
body_spread (BodyIn.vars {m = m} x y) h g = BodyIn.vars {m = m} (variables_spread x h (omega arith)) (body_spread y (omega arith) g)

params_spread : {i j k l : ℕ} {ps : List Param} → ParamsIn i j ps → k ≤ i → j ≤ l → ParamsIn k l ps
params_spread (ParamsIn.none o) h g = ParamsIn.none (omega arith)
params_spread (ParamsIn.more {m = m} w x) h g = ParamsIn.more {m = m} (within_spread w h (omega arith)) (params_spread x (omega arith) g)

-- ---- declarations

-- what rises on after the `]`
record Bracketed (from end : ℕ) (b : Tokens) (e : Span) : Type 0 where
  order : from < e.to
  rise : Rise e.to end b

length_placed : {r : ℕ} {a b : Tokens} {n : Option ℤ} {e : Span} → Length r a b n e → (from end : ℕ) → Rise from end a
    → Bracketed from end b e
length_placed Length.bare from end h = let g = h.2 in record { order = omega arith; rise = g.2 }
length_placed Length.constant from end h = let g = h.2 in let l = g.2 in record { order = omega arith; rise = l.2 }

elements_placed : {r : ℕ} {a b : Tokens} {ts : List Tree} → Elements r a b ts → (from end : ℕ) → Rise from end a
    → Placed (λ i j. TreesIn i j ts) from end b
elements_placed (Elements.last d) from end h =
    let p = tree_placed d from end h in
    record { at = p.at; order = p.order; part = TreesIn.more {m = p.at} p.part (TreesIn.none (omega arith)); rise = p.rise }
elements_placed (Elements.last_comma {s = s} d) from end h =
    let p = tree_placed d from end h in
    let x = p.order in
    let l = p.rise in
    record { at = s.to; order = omega arith; part = TreesIn.more {m = p.at} p.part (TreesIn.none (omega arith)); rise = l.2 }
elements_placed (Elements.more {s = s} d e) from end h =
    let p = tree_placed d from end h in
    let x = p.order in
    let l = p.rise in
    let q = elements_placed e s.to end l.2 in
    let y = q.order in
    record { at = q.at; order = omega arith; part = TreesIn.more {m = p.at} p.part (trees_spread q.part (omega arith) (omega arith)); rise = q.rise }

-- a declared variable lies between two places
record VariableIn (from to : ℕ) (v : Variable) : Type 0 where
  text : Within from to v.span
  start : InitialIn v.span.to to v.start

declarator_placed : {r : ℕ} {a b : Tokens} {v : Variable} → Declarator r a b v → (from end : ℕ) → Rise from end a
    → Placed (λ i j. VariableIn i j v) from end b
declarator_placed (Declarator.scalar {s = s}) from end h =
    record {
      at = s.to;
      order = omega arith;
      part = record { text = record { begins = h.0; covers = h.1; ends = omega arith }; start = (InitialIn.bare (omega arith)) };
      rise = h.2;
    }
declarator_placed (Declarator.scalar_start {s = s} {o = o} d) from end h =
    let g = h.2 in
    let p = tree_placed d o.to end g.2 in
    let x = p.order in
    record {
      at = p.at;
      order = omega arith;
      part = record {
        text = record { begins = h.0; covers = h.1; ends = omega arith };
        start = InitialIn.one (spread p.part (omega arith) (omega arith));
      };
      rise = p.rise;
    }
declarator_placed (Declarator.array {s = s} {e = e} d) from end h =
    let p = length_placed d s.to end h.2 in
    let x = p.order in
    record {
      at = e.to;
      order = omega arith;
      part = record { text = record { begins = h.0; covers = omega arith; ends = omega arith }; start = (InitialIn.bare (omega arith)) };
      rise = p.rise;
    }
declarator_placed (Declarator.array_list {s = s} {e = e} {o = o} {p = z} {q = c} d f) from end h =
    let p = length_placed d s.to end h.2 in
    let x = p.order in
    let g = p.rise in
    let l = g.2 in
    let q = elements_placed f z.to end l.2 in
    let y = q.order in
    let k = q.rise in
    record {
      at = c.to;
      order = omega arith;
      part = record {
        text = record { begins = h.0; covers = omega arith; ends = omega arith };
        start = InitialIn.many (trees_spread q.part (omega arith) (omega arith));
      };
      rise = k.2;
    }

declarators_placed : {r : ℕ} {a b : Tokens} {vs : List Variable} → Declarators r a b vs → (from end : ℕ)
    → Rise from end a → Placed (λ i j. VariablesIn i j vs) from end b
declarators_placed (Declarators.last d) from end h =
    let p = declarator_placed d from end h in
    record { at = p.at; order = p.order; part = VariablesIn.more {m = p.at} p.part.text p.part.start (VariablesIn.none (omega arith)); rise = p.rise }
declarators_placed (Declarators.more {s = s} d e) from end h =
    let p = declarator_placed d from end h in
    let x = p.order in
    let l = p.rise in
    let q = declarators_placed e s.to end l.2 in
    let y = q.order in
    record {
      at = q.at;
      order = omega arith;
      part = VariablesIn.more {m = p.at} p.part.text p.part.start (variables_spread q.part (omega arith) (omega arith));
      rise = q.rise;
    }

vars_placed : {r : ℕ} {a b : Tokens} {ty : Ty} {vs : List Variable} → Vars r a b ty vs → (from end : ℕ)
    → Rise from end a → Placed (λ i j. VariablesIn i j vs) from end b
vars_placed (Vars.vars {s = s} {e = e} i d) from end h =
    let p = declarators_placed d s.to end h.2 in
    let x = p.order in
    let l = p.rise in
    record { at = e.to; order = omega arith; part = variables_spread p.part (omega arith) (omega arith); rise = l.2 }

-- ---- statements

clause_placed : {r : ℕ} {a b : Tokens} {i : First} → Clause r a b i → (from end : ℕ) → Rise from end a
    → Placed (λ k j. FirstIn k j i) from end b
clause_placed (Clause.empty {e = e}) from end h = record { at = e.to; order = omega arith; part = (FirstIn.none (omega arith)); rise = h.2 }
clause_placed (Clause.act {e = e} d) from end h =
    let p = tree_placed d from end h in
    let x = p.order in
    let l = p.rise in
    record { at = e.to; order = omega arith; part = FirstIn.act (spread p.part (omega arith) (omega arith)); rise = l.2 }
clause_placed (Clause.vars d) from end h =
    let p = vars_placed d from end h in
    record { at = p.at; order = p.order; part = FirstIn.vars p.part; rise = p.rise }

optional_placed : {r : ℕ} {a b : Tokens} {t : Option Tree} → Optional r a b t → (from end : ℕ) → Rise from end a
    → Placed (λ i j. OptionIn i j t) from end b
optional_placed Optional.absent from end h = record { at = from; order = omega arith; part = (OptionIn.absent (omega arith)); rise = h }
optional_placed (Optional.present d) from end h =
    let p = tree_placed d from end h in
    record { at = p.at; order = p.order; part = OptionIn.present p.part; rise = p.rise }

mutual
  code_placed : {o : Bool} {r : ℕ} {a b : Tokens} {x : Code} → Statement o r a b x → (from end : ℕ) → Rise from end a
      → Placed (λ i j. CodeIn i j x) from end b
  code_placed (Statement.empty {s = s}) from end h =
      record { at = s.to; order = omega arith; part = CodeIn.empty (record { begins = h.0; covers = h.1; ends = omega arith }); rise = h.2 }
  code_placed (Statement.act {e = e} d) from end h =
      let p = tree_placed d from end h in
      let x = p.order in
      let l = p.rise in
      let w = text_in p.part in
      record {
        at = e.to;
        order = omega arith;
        part = CodeIn.act (record { begins = w.begins; covers = omega arith; ends = omega arith })
            (moved p.part (record { begins = omega arith; covers = w.covers; ends = omega arith }));
        rise = l.2;
      }
  code_placed (Statement.block {s = s} {e = e} d) from end h =
      let p = body_placed d s.to end h.2 in
      let x = p.order in
      let l = p.rise in
      record {
        at = e.to;
        order = omega arith;
        part = CodeIn.block (record { begins = h.0; covers = omega arith; ends = omega arith }) (body_spread p.part (omega arith) (omega arith));
        rise = l.2;
      }
  code_placed (Statement.if_then {s = s} {p = p} {e = e} d f) from end h =
      let g = h.2 in
      let t = tree_placed d p.to end g.2 in
      let x = t.order in
      let l = t.rise in
      let c = code_placed f e.to end l.2 in
      let y = c.order in
      let w = code_in c.part in
      record {
        at = c.at;
        order = omega arith;
        part = CodeIn.if_then {m = t.at} (record { begins = h.0; covers = omega arith; ends = w.ends }) (spread t.part (omega arith) (omega arith))
            (code_moved c.part (record { begins = omega arith; covers = w.covers; ends = omega arith }));
        rise = c.rise;
      }
  code_placed (Statement.if_else {s = s} {p = p} {e = e} {q = q} d f v) from end h =
      let g = h.2 in
      let t = tree_placed d p.to end g.2 in
      let x = t.order in
      let l = t.rise in
      let c = code_placed f e.to end l.2 in
      let y = c.order in
      let k = c.rise in
      let z = code_placed v q.to end k.2 in
      let u = z.order in
      let w = code_in z.part in
      record {
        at = z.at;
        order = omega arith;
        part = CodeIn.if_else {m = t.at} {n = c.at} (record { begins = h.0; covers = omega arith; ends = w.ends }) (spread t.part (omega arith) (omega arith))
            (code_spread c.part (omega arith) (omega arith)) (code_moved z.part (record { begins = omega arith; covers = w.covers; ends = omega arith }));
        rise = z.rise;
      }
  code_placed (Statement.while {s = s} {p = p} {e = e} d f) from end h =
      let g = h.2 in
      let t = tree_placed d p.to end g.2 in
      let x = t.order in
      let l = t.rise in
      let c = code_placed f e.to end l.2 in
      let y = c.order in
      let w = code_in c.part in
      record {
        at = c.at;
        order = omega arith;
        part = CodeIn.while {m = t.at} (record { begins = h.0; covers = omega arith; ends = w.ends }) (spread t.part (omega arith) (omega arith))
            (code_moved c.part (record { begins = omega arith; covers = w.covers; ends = omega arith }));
        rise = c.rise;
      }
  code_placed (Statement.do_while {s = s} {w = v} {p = p} {e = e} {q = q} d f) from end h =
      let c = code_placed d s.to end h.2 in
      let x = c.order in
      let k = c.rise in
      let g = k.2 in
      let t = tree_placed f p.to end g.2 in
      let y = t.order in
      let l = t.rise in
      let z = l.2 in
      record {
        at = q.to;
        order = omega arith;
        part = CodeIn.do_while {m = c.at} (record { begins = h.0; covers = omega arith; ends = omega arith }) (code_spread c.part (omega arith) (omega arith))
            (spread t.part (omega arith) (omega arith));
        rise = z.2;
      }
  code_placed (Statement.for {s = s} {p = p} {e = e} {q = q} d1 d2 d3 d4) from end h =
      let g = h.2 in
      let i = clause_placed d1 p.to end g.2 in
      let x = i.order in
      let t = optional_placed d2 i.at end i.rise in
      let y = t.order in
      let k = t.rise in
      let u = optional_placed d3 e.to end k.2 in
      let z = u.order in
      let l = u.rise in
      let c = code_placed d4 q.to end l.2 in
      let v = c.order in
      let w = code_in c.part in
      record {
        at = c.at;
        order = omega arith;
        part = CodeIn.for {k = i.at} {m = t.at} {n = u.at} (record { begins = h.0; covers = omega arith; ends = w.ends })
            (first_spread i.part (omega arith) (omega arith)) t.part (option_spread u.part (omega arith) (omega arith))
            (code_moved c.part (record { begins = omega arith; covers = w.covers; ends = omega arith }));
        rise = c.rise;
      }
  code_placed (Statement.give {s = s} {e = e} d) from end h =
      let p = optional_placed d s.to end h.2 in
      let x = p.order in
      let l = p.rise in
      record {
        at = e.to;
        order = omega arith;
        part = CodeIn.give (record { begins = h.0; covers = omega arith; ends = omega arith }) (option_spread p.part (omega arith) (omega arith));
        rise = l.2;
      }
  code_placed (Statement.break {s = s} {e = e}) from end h =
      let g = h.2 in
      record { at = e.to; order = omega arith; part = CodeIn.break (record { begins = h.0; covers = omega arith; ends = omega arith }); rise = g.2 }
  code_placed (Statement.continue {s = s} {e = e}) from end h =
      let g = h.2 in
      record { at = e.to; order = omega arith; part = CodeIn.continue (record { begins = h.0; covers = omega arith; ends = omega arith }); rise = g.2 }

  body_placed : {r : ℕ} {a b : Tokens} {x : Body} → Items r a b x → (from end : ℕ) → Rise from end a
      → Placed (λ i j. BodyIn i j x) from end b
  body_placed Items.none from end h = record { at = from; order = omega arith; part = (BodyIn.done (omega arith)); rise = h }
  body_placed (Items.vars d e) from end h =
      let p = vars_placed d from end h in
      let x = p.order in
      let q = body_placed e p.at end p.rise in
      let y = q.order in
      record { at = q.at; order = omega arith; part = BodyIn.vars {m = p.at} p.part q.part; rise = q.rise }
  body_placed (Items.statement d e) from end h =
      let p = code_placed d from end h in
      let x = p.order in
      let q = body_placed e p.at end p.rise in
      let y = q.order in
      record { at = q.at; order = omega arith; part = BodyIn.next {m = p.at} p.part q.part; rise = q.rise }

-- ---- programs

parameter_placed : {r : ℕ} {a b : Tokens} {x : Param} → Parameter r a b x → (from end : ℕ) → Rise from end a
    → Placed (λ i j. Within i j x.span) from end b
parameter_placed (Parameter.scalar {o = o} {s = s} i) from end h =
    let g = h.2 in
    record { at = s.to; order = omega arith; part = record { begins = omega arith; covers = g.1; ends = omega arith }; rise = g.2 }
parameter_placed (Parameter.array {o = o} {s = s} {e = e} i d) from end h =
    let g = h.2 in
    let p = length_placed d s.to end g.2 in
    let x = p.order in
    record { at = e.to; order = omega arith; part = record { begins = omega arith; covers = omega arith; ends = omega arith }; rise = p.rise }

parameters_placed : {r : ℕ} {a b : Tokens} {xs : List Param} → Parameters r a b xs → (from end : ℕ) → Rise from end a
    → Placed (λ i j. ParamsIn i j xs) from end b
parameters_placed (Parameters.last d) from end h =
    let p = parameter_placed d from end h in
    record { at = p.at; order = p.order; part = ParamsIn.more {m = p.at} p.part (ParamsIn.none (omega arith)); rise = p.rise }
parameters_placed (Parameters.more {s = s} d e) from end h =
    let p = parameter_placed d from end h in
    let x = p.order in
    let l = p.rise in
    let q = parameters_placed e s.to end l.2 in
    let y = q.order in
    record { at = q.at; order = omega arith; part = ParamsIn.more {m = p.at} p.part (params_spread q.part (omega arith) (omega arith)); rise = q.rise }

signature_placed : {r : ℕ} {a b : Tokens} {xs : List Param} → Signature r a b xs → (from end : ℕ) → Rise from end a
    → Placed (λ i j. ParamsIn i j xs) from end b
signature_placed Signature.empty from end h = record { at = from; order = omega arith; part = (ParamsIn.none (omega arith)); rise = h }
signature_placed (Signature.void {s = s}) from end h = record { at = s.to; order = omega arith; part = (ParamsIn.none (omega arith)); rise = h.2 }
signature_placed (Signature.parameters d) from end h = parameters_placed d from end h

external_placed : {r : ℕ} {a b : Tokens} {x : Outer} → External r a b x → (from end : ℕ) → Rise from end a
    → Placed (λ i j. OuterIn i j x) from end b
external_placed (External.vars d) from end h =
    let p = vars_placed d from end h in
    record { at = p.at; order = p.order; part = OuterIn.vars p.part; rise = p.rise }
external_placed (External.prototype {o = o} {s = s} {p = p} {e = e} {q = q} i d) from end h =
    let g = h.2 in
    let l = g.2 in
    let x = signature_placed d p.to end l.2 in
    let y = x.order in
    let k = x.rise in
    let z = k.2 in
    record {
      at = q.to;
      order = omega arith;
      part = OuterIn.func {m = x.at} (record { begins = omega arith; covers = omega arith; ends = omega arith }) (params_spread x.part (omega arith) (omega arith))
          (DefinitionIn.absent (omega arith));
      rise = z.2;
    }
external_placed (External.definition {o = o} {s = s} {p = p} {e = e} {q = q} {z = z} i d f) from end h =
    let g = h.2 in
    let l = g.2 in
    let x = signature_placed d p.to end l.2 in
    let y = x.order in
    let k = x.rise in
    let n = k.2 in
    let c = body_placed f q.to end n.2 in
    let v = c.order in
    let w = c.rise in
    record {
      at = z.to;
      order = omega arith;
      part = OuterIn.func {m = x.at} (record { begins = omega arith; covers = omega arith; ends = omega arith }) (params_spread x.part (omega arith) (omega arith))
          (DefinitionIn.present (body_spread c.part (omega arith) (omega arith)));
      rise = w.2;
    }

program_placed : {r : ℕ} {a : Tokens} {p : List Outer} → Derives r a p → (from end : ℕ) → Rise from end a
    → ProgramIn from end p
program_placed (Derives.last d) from end h = let p = external_placed d from end h in ProgramIn.more {m = p.at} p.part (ProgramIn.none (omega arith))
program_placed (Derives.more d e) from end h =
    let p = external_placed d from end h in ProgramIn.more {m = p.at} p.part (program_placed e p.at end p.rise)

-- a derived program is in text order
pub program_in_order : (r end : ℕ) (a : Tokens) (p : List Outer) → Rise 0 end a → Derives r a p → ProgramIn 0 end p
program_in_order r end a p h d = program_placed d 0 end h
