-- The room of declarations, statements and programs is their nesting: at each opener the room before the part is the nesting there and
-- the room after it.
use Rattle.std.proofs.Common.{◌≡◌, ℕ, ℤ, ◌≤◌, ◌+◌, Bool, List, Option, arith, length}
use Rattle.c_tree.specs.declared.place.Span.{Span}
use Rattle.c_tree.specs.declared.program.Param.{Param}
use Rattle.c_tree.specs.declared.stmt.Ty.{Ty}
use Rattle.c_tree.specs.Tree.{Tree, Variable, First, Code, Body, Outer}
use Rattle.c_grammar.specs.Terminals.{rest}
use Rattle.c_grammar.specs.Grammar.{Tokens}
use Rattle.c_grammar.specs.Programs.{Length, Elements, Declarator, Declarators, Vars, Clause, Optional, Statement, Items, Parameter, Parameters, Signature, External, Derives}
use Rattle.c_grammar.specs.Nesting.{nesting, ending, length_openers, elements_openers, elements_ending, length_ending, declarator_openers, declarators_openers, vars_openers, clause_openers, optional_openers, optional_ending, statement_ending, items_ending, statement_openers, items_openers, parameter_openers, parameters_openers, signature_openers, signature_ending, external_openers, program_openers}
use Rattle.c_grammar.specs.Rooms.{Along, length_rooms, elements_rooms, declarator_rooms, declarators_rooms, vars_rooms, clause_rooms, optional_rooms, statement_rooms, items_rooms, parameter_rooms, parameters_rooms, signature_rooms, external_rooms, program_rooms}
use Rattle.c_grammar.proofs.ExpressionBasics.{reads_shorter}
use Rattle.c_grammar.proofs.ProgramBasics.{length_shorter, elements_shorter, declarators_shorter, clause_shorter, optional_shorter, statement_shorter, items_shorter, parameters_shorter, signature_shorter}
use Rattle.c_grammar.proofs.Nested.{NestsIn, nests_none, nests_one, nests_join, nests_open, nests_wide, nests_shut, along_map}
use Rattle.c_grammar.proofs.ExpressionNesting.{reads_within, reads_bracketed}

-- ---- declarations

pub length_fit : {r : ℕ} {a b : Tokens} {n : Option ℤ} {e : Span} (d : Length r a b n e) (z : ℕ) → z ≤ length b → NestsIn r r (length a) (length b) z (length_openers d) (length_rooms d)
length_fit {a = a} (Length.bare {r = r}) z h =
    nests_shut (nests_one r (length a) (length (rest a)) a (rest a) (omega arith) (omega arith) (omega arith)) (omega arith) (omega arith) h
length_fit {a = a} (Length.constant {r = r}) z h =
    nests_shut (nests_one r (length a) (length (rest (rest a))) a (rest (rest a)) (omega arith) (omega arith) (omega arith)) (omega arith) (omega arith) h

pub elements_fit : {r : ℕ} {a b : Tokens} {ts : List Tree} (d : Elements r a b ts) (z : ℕ) → z ≤ length b → NestsIn r r (length a) (length b) z (elements_openers d) (elements_rooms d)
elements_fit {b = b} (Elements.last d) z h = reads_within d (ending d) (omega arith) (length b) z (omega arith) h
elements_fit {b = b} (Elements.last_comma d) z h = reads_within d (ending d) (omega arith) (length b) z (omega arith) h
elements_fit (Elements.more d e) z h = let x = elements_shorter e in
    nests_join (reads_within d (ending d) (omega arith) (length (ending d)) z (omega arith) (omega arith)) (elements_fit e z h) (omega arith)

pub declarator_fit : {r : ℕ} {a b : Tokens} {v : Variable} (d : Declarator r a b v) (z : ℕ) → z ≤ length b → NestsIn r r (length a) (length b) z (declarator_openers d) (declarator_rooms d)
declarator_fit {r = r} {a = a} {b = b} Declarator.scalar z h = nests_none r (length a) (length b) z (omega arith) h
declarator_fit {b = b} (Declarator.scalar_start d) z h = nests_wide (reads_within d (ending d) (omega arith) (length b) z (omega arith) h) (omega arith) (omega arith) h
declarator_fit (Declarator.array d) z h = nests_wide (length_fit d z h) (omega arith) (omega arith) h
declarator_fit {a = a} {b = b} (Declarator.array_list d e) z h =
    let x = elements_shorter e in
    let y = length_shorter d in
    let o = rest (length_ending d) in
    let c = elements_ending e in
    nests_wide
    (nests_join (length_fit d z (omega arith)) (nests_shut {h = length o} {p = length b} (nests_open o c (elements_fit e (length c) (omega arith)) (omega arith)) (omega arith) (omega arith) h) (omega arith))
    (omega arith) (omega arith) h

pub declarators_fit : {r : ℕ} {a b : Tokens} {vs : List Variable} (d : Declarators r a b vs) (z : ℕ) → z ≤ length b → NestsIn r r (length a) (length b) z (declarators_openers d) (declarators_rooms d)
declarators_fit (Declarators.last d) z h = declarator_fit d z h
declarators_fit (Declarators.more d e) z h = let x = declarators_shorter e in nests_join (declarator_fit d z (omega arith)) (declarators_fit e z h) (omega arith)

pub vars_fit : {r : ℕ} {a b : Tokens} {ty : Ty} {vs : List Variable} (d : Vars r a b ty vs) (z : ℕ) → z ≤ length b → NestsIn r r (length a) (length b) z (vars_openers d) (vars_rooms d)
vars_fit (Vars.vars i d) z h = nests_wide (declarators_fit d z (omega arith)) (omega arith) (omega arith) h

-- ---- statements

pub clause_fit : {r : ℕ} {a b : Tokens} {i : First} (d : Clause r a b i) (z : ℕ) → z ≤ length b → NestsIn r r (length a) (length b) z (clause_openers d) (clause_rooms d)
clause_fit {r = r} {a = a} {b = b} Clause.empty z h = nests_none r (length a) (length b) z (omega arith) h
clause_fit {b = b} (Clause.act d) z h = reads_within d (ending d) (omega arith) (length b) z (omega arith) h
clause_fit (Clause.vars d) z h = vars_fit d z h

-- what stands in a clause or statement is closed at its end
pub optional_fit : {r : ℕ} {a b : Tokens} {t : Option Tree} (d : Optional r a b t) (end : Tokens) → length end ≤ length b → (j z : ℕ) → j ≤ length end → z ≤ j
    → NestsIn r r (length a) j z (optional_openers d end) (optional_rooms d)
optional_fit {r = r} {a = a} Optional.absent end h j z x y = nests_none r (length a) j z (omega arith) y
optional_fit (Optional.present d) end h j z x y = reads_within d end h j z x y

mutual
  pub statement_fit : {o : Bool} {r : ℕ} {a b : Tokens} {x : Code} (d : Statement o r a b x) (z : ℕ) → z ≤ length b
      → NestsIn r r (length a) (length b) z (statement_openers d) (statement_rooms d)
  statement_fit {r = r} {a = a} {b = b} Statement.empty z h = nests_none r (length a) (length b) z (omega arith) h
  statement_fit {b = b} (Statement.act d) z h = reads_within d b (omega arith) (length b) z (omega arith) h
  statement_fit {a = a} (Statement.block d) z h =
      nests_shut (nests_open a (items_ending d) (items_fit d (length (items_ending d)) (omega arith)) (omega arith)) (omega arith) (omega arith) h
  statement_fit {a = a} {b = b} (Statement.if_then d e) z h =
      let x = statement_shorter e in
      let y = reads_shorter d in
      let p = reads_bracketed (rest a) d (omega arith) (length (rest (ending d))) (length b) (omega arith) (omega arith) in
      nests_shut (nests_open a b (nests_join p (statement_fit e (length b) (omega arith)) (omega arith)) (omega arith)) (omega arith) (omega arith) h
  statement_fit {a = a} {b = b} (Statement.if_else d e f) z h =
      let w = statement_shorter f in
      let x = statement_shorter e in
      let y = reads_shorter d in
      let p = reads_bracketed (rest a) d (omega arith) (length (rest (ending d))) (length b) (omega arith) (omega arith) in
      nests_shut (nests_open a b (nests_join (nests_join p (statement_fit e (length b) (omega arith)) (omega arith)) (statement_fit f (length b) (omega arith)) (omega arith)) (omega arith))
      (omega arith) (omega arith) h
  statement_fit {a = a} {b = b} (Statement.while d e) z h =
      let x = statement_shorter e in
      let y = reads_shorter d in
      let p = reads_bracketed (rest a) d (omega arith) (length (rest (ending d))) (length b) (omega arith) (omega arith) in
      nests_shut (nests_open a b (nests_join p (statement_fit e (length b) (omega arith)) (omega arith)) (omega arith)) (omega arith) (omega arith) h
  statement_fit {a = a} {b = b} (Statement.do_while d e) z h =
      let x = statement_shorter d in
      let y = reads_shorter e in
      let p = reads_bracketed (rest (statement_ending d)) e (omega arith) (length b) (length b) (omega arith) (omega arith) in
      nests_shut (nests_open a b (nests_join (statement_fit d (length b) (omega arith)) p (omega arith)) (omega arith)) (omega arith) (omega arith) h
  statement_fit {a = a} {b = b} (Statement.for d e f g) z h =
      let w = clause_shorter d in
      let x = optional_shorter e in
      let y = optional_shorter f in
      let v = statement_shorter g in
      let c = optional_ending f in
      let k = optional_fit e (optional_ending e) (omega arith) (length (optional_ending e)) (length c) (omega arith) (omega arith) in
      let l = optional_fit f c (omega arith) (length c) (length c) (omega arith) (omega arith) in
      let i = nests_open (rest a) c (nests_join (nests_join (clause_fit d (length c) (omega arith)) k (omega arith)) l (omega arith)) (omega arith) in
      let p = nests_shut {h = length (rest a)} {p = length (rest c)} {d = length b} i (omega arith) (omega arith) (omega arith) in
      nests_shut (nests_open a b (nests_join p (statement_fit g (length b) (omega arith)) (omega arith)) (omega arith)) (omega arith) (omega arith) h
  statement_fit {a = a} {b = b} (Statement.give d) z h = nests_wide (optional_fit d b (omega arith) (length b) z (omega arith) h) (omega arith) (omega arith) h
  statement_fit {r = r} {a = a} {b = b} Statement.break z h = nests_none r (length a) (length b) z (omega arith) h
  statement_fit {r = r} {a = a} {b = b} Statement.continue z h = nests_none r (length a) (length b) z (omega arith) h

  pub items_fit : {r : ℕ} {a b : Tokens} {body : Body} (d : Items r a b body) (z : ℕ) → z ≤ length b
      → NestsIn r r (length a) (length b) z (items_openers d) (items_rooms d)
  items_fit {r = r} {a = a} Items.none z h = nests_none r (length a) (length a) z (omega arith) h
  items_fit (Items.vars d e) z h = let x = items_shorter e in nests_join (vars_fit d z (omega arith)) (items_fit e z h) (omega arith)
  items_fit (Items.statement d e) z h = let x = items_shorter e in nests_join (statement_fit d z (omega arith)) (items_fit e z h) (omega arith)

-- ---- programs

pub parameter_fit : {r : ℕ} {a b : Tokens} {x : Param} (d : Parameter r a b x) (z : ℕ) → z ≤ length b → NestsIn r r (length a) (length b) z (parameter_openers d) (parameter_rooms d)
parameter_fit {r = r} {a = a} {b = b} (Parameter.scalar i) z h = nests_none r (length a) (length b) z (omega arith) h
parameter_fit (Parameter.array i d) z h = nests_wide (length_fit d z h) (omega arith) (omega arith) h

pub parameters_fit : {r : ℕ} {a b : Tokens} {xs : List Param} (d : Parameters r a b xs) (z : ℕ) → z ≤ length b → NestsIn r r (length a) (length b) z (parameters_openers d) (parameters_rooms d)
parameters_fit (Parameters.last d) z h = parameter_fit d z h
parameters_fit (Parameters.more d e) z h = let x = parameters_shorter e in nests_join (parameter_fit d z (omega arith)) (parameters_fit e z h) (omega arith)

pub signature_fit : {r : ℕ} {a b : Tokens} {xs : List Param} (d : Signature r a b xs) (z : ℕ) → z ≤ length b → NestsIn r r (length a) (length b) z (signature_openers d) (signature_rooms d)
signature_fit {r = r} {a = a} {b = b} Signature.empty z h = nests_none r (length a) (length b) z (omega arith) h
signature_fit {r = r} {a = a} {b = b} Signature.void z h = nests_none r (length a) (length b) z (omega arith) h
signature_fit (Signature.parameters d) z h = parameters_fit d z h

pub external_fit : {r : ℕ} {a b : Tokens} {x : Outer} (d : External r a b x) (z : ℕ) → z ≤ length b → NestsIn r r (length a) (length b) z (external_openers d) (external_rooms d)
external_fit (External.vars d) z h = vars_fit d z h
external_fit {a = a} (External.prototype i d) z h = let x = signature_shorter d in let c = signature_ending d in
    nests_shut (nests_open (rest (rest a)) c (signature_fit d (length c) (omega arith)) (omega arith)) (omega arith) (omega arith) h
external_fit {a = a} {b = b} (External.definition i d e) z h =
    let x = signature_shorter d in
    let y = items_shorter e in
    let c = signature_ending d in
    let q = items_ending e in
    let p = nests_shut {h = length a} {p = length (rest c)} {d = z} (nests_open (rest (rest a)) c (signature_fit d (length c) (omega arith)) (omega arith)) (omega arith) (omega arith) (omega arith) in
    nests_join p (nests_shut {h = length (rest c)} {p = length b} (nests_open (rest c) q (items_fit e (length q) (omega arith)) (omega arith)) (omega arith) (omega arith) h) (omega arith)

pub program_fit : {r : ℕ} {a : Tokens} {p : List Outer} (d : Derives r a p) → NestsIn r r (length a) 0 0 (program_openers d) (program_rooms d)
program_fit (Derives.last d) = external_fit d 0 (omega arith)
program_fit (Derives.more d e) = nests_join (external_fit d 0 (omega arith)) (program_fit e) (omega arith)

-- ---- the laws

-- the room used at an opener is the nesting there
pub room_used : (r : ℕ) (a : Tokens) (p : List Outer) (d : Derives r a p) → Along (λ o n. n + nesting (program_openers d) o.0 ≡ r) (program_openers d) (program_rooms d)
room_used r a p d = let f = program_fit d in along_map (λ o n (x, y, z). omega arith) f.along

-- no nesting passes the room
pub nesting_within : (r : ℕ) (a : Tokens) (p : List Outer) (d : Derives r a p) (c : Tokens) → nesting (program_openers d) c ≤ r
nesting_within r a p d c = let f = program_fit d in f.bounded c
