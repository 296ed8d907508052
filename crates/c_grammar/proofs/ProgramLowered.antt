-- A program after whose openers there is room to spare is one with less room: so it is one with any room that its nesting doesn't pass.
use Rattle.std.proofs.Common.{◌≡◌, ℕ, ℤ, zero, suc, ◌≤◌, ◌+◌, ◌-◌, Bool, List, ◌++◌, Option, inl, inr, arith, subst, All}
use Rattle.std.proofs.lemmas.List.Elements.{All-head, All-tail}
use Rattle.c_tree.specs.declared.place.Span.{Span}
use Rattle.c_tree.specs.declared.program.Param.{Param}
use Rattle.c_tree.specs.declared.stmt.Ty.{Ty}
use Rattle.c_tree.specs.Tree.{Tree, Variable, First, Code, Body, Outer}
use Rattle.c_grammar.specs.Grammar.{Tokens}
use Rattle.c_grammar.specs.Programs.{Length, Elements, Declarator, Declarators, Vars, Clause, Optional, Statement, Items, Parameter, Parameters, Signature, External, Derives}
use Rattle.c_grammar.specs.Nesting.{Opener, nesting, program_openers}
use Rattle.c_grammar.specs.Rooms.{Along, rooms, length_rooms, elements_rooms, declarator_rooms, declarators_rooms, vars_rooms, clause_rooms, optional_rooms, statement_rooms, items_rooms, parameter_rooms, parameters_rooms, signature_rooms, external_rooms, program_rooms}
use Rattle.c_grammar.proofs.ProgramBasics.{derives_lift}
use Rattle.c_grammar.proofs.Nested.{larger}
use Rattle.c_grammar.proofs.ProgramNesting.{room_used}
use Rattle.c_grammar.proofs.ExpressionLowered.{Spare, first, others, left, right, suc_less, reads_lower}

-- ---- declarations

pub length_lower : {r : ℕ} {a b : Tokens} {n : Option ℤ} {e : Span} (x : ℕ) (d : Length r a b n e) → Spare x (length_rooms d) → Length (r - x) a b n e
length_lower x (Length.bare {r = r}) h = rw (suc_less x r (first h)) Length.bare
length_lower x (Length.constant {r = r}) h = rw (suc_less x r (first h)) Length.constant

pub elements_lower : {r : ℕ} {a b : Tokens} {ts : List Tree} (x : ℕ) (d : Elements r a b ts) → Spare x (elements_rooms d) → Elements (r - x) a b ts
elements_lower x (Elements.last d) h = Elements.last (reads_lower x d h)
elements_lower x (Elements.last_comma d) h = Elements.last_comma (reads_lower x d h)
elements_lower x (Elements.more d e) h = Elements.more (reads_lower x d (left (rooms d) _ h)) (elements_lower x e (right (rooms d) h))

-- the room of brackets, said otherwise
pub length_in : {r : ℕ} {a b : Tokens} {n : Option ℤ} {e : Span} (s : ℕ) → r ≡ s → Length r a b n e → Length s a b n e
length_in {r} {a} {b} {n} {e} s i d = subst (λ k. Length k a b n e) i d

pub declarator_lower : {r : ℕ} {a b : Tokens} {v : Variable} (x : ℕ) (d : Declarator r a b v) → Spare x (declarator_rooms d) → Declarator (r - x) a b v
declarator_lower x Declarator.scalar h = Declarator.scalar
declarator_lower x (Declarator.scalar_start d) h = Declarator.scalar_start (reads_lower x d h)
declarator_lower x (Declarator.array d) h = Declarator.array (length_lower x d h)
declarator_lower x (Declarator.array_list {r = r} d e) h =
    let k = right (length_rooms d) h in
    let q = suc_less x r (first k) in
    rw q (Declarator.array_list (length_in (suc (r - x)) q (length_lower x d (left (length_rooms d) _ h))) (elements_lower x e (others k)))

pub declarators_lower : {r : ℕ} {a b : Tokens} {vs : List Variable} (x : ℕ) (d : Declarators r a b vs) → Spare x (declarators_rooms d) → Declarators (r - x) a b vs
declarators_lower x (Declarators.last d) h = Declarators.last (declarator_lower x d h)
declarators_lower x (Declarators.more d e) h = Declarators.more (declarator_lower x d (left (declarator_rooms d) _ h)) (declarators_lower x e (right (declarator_rooms d) h))

pub vars_lower : {r : ℕ} {a b : Tokens} {ty : Ty} {vs : List Variable} (x : ℕ) (d : Vars r a b ty vs) → Spare x (vars_rooms d) → Vars (r - x) a b ty vs
vars_lower x (Vars.vars i d) h = Vars.vars i (declarators_lower x d h)

-- ---- statements

pub clause_lower : {r : ℕ} {a b : Tokens} {i : First} (x : ℕ) (d : Clause r a b i) → Spare x (clause_rooms d) → Clause (r - x) a b i
clause_lower x Clause.empty h = Clause.empty
clause_lower x (Clause.act d) h = Clause.act (reads_lower x d h)
clause_lower x (Clause.vars d) h = Clause.vars (vars_lower x d h)

pub optional_lower : {r : ℕ} {a b : Tokens} {t : Option Tree} (x : ℕ) (d : Optional r a b t) → Spare x (optional_rooms d) → Optional (r - x) a b t
optional_lower x Optional.absent h = Optional.absent
optional_lower x (Optional.present d) h = Optional.present (reads_lower x d h)

-- the room of a statement, said otherwise
pub statement_in : {o : Bool} {r : ℕ} {a b : Tokens} {y : Code} (s : ℕ) → r ≡ s → Statement o r a b y → Statement o s a b y
statement_in {o} {r} {a} {b} {y} s i d = subst (λ k. Statement o k a b y) i d

pub two_less : (x r : ℕ) → x ≤ r → suc (suc r) - x ≡ suc (suc (r - x))
two_less x r h = omega arith

mutual
  pub statement_lower : {o : Bool} {r : ℕ} {a b : Tokens} {y : Code} (x : ℕ) (d : Statement o r a b y) → Spare x (statement_rooms d) → Statement o (r - x) a b y
  statement_lower x Statement.empty h = Statement.empty
  statement_lower x (Statement.act d) h = Statement.act (reads_lower x d h)
  statement_lower x (Statement.block {r = r} d) h = rw (suc_less x r (first h)) (Statement.block (items_lower x d (others h)))
  statement_lower x (Statement.if_then {r = r} d e) h =
      let k = others (others h) in
      let i = first (others h) in
      rw (two_less x r i) (Statement.if_then (reads_lower x d (left (rooms d) _ k)) (statement_in (suc (r - x)) (suc_less x r i) (statement_lower x e (right (rooms d) k))))
  statement_lower x (Statement.if_else {r = r} d e f) h =
      let k = others (others h) in
      let l = left (rooms d ++ statement_rooms e) _ k in
      let i = first (others h) in
      rw (two_less x r i)
      (Statement.if_else (reads_lower x d (left (rooms d) _ l)) (statement_in (suc (r - x)) (suc_less x r i) (statement_lower x e (right (rooms d) l)))
      (statement_in (suc (r - x)) (suc_less x r i) (statement_lower x f (right (rooms d ++ statement_rooms e) k))))
  statement_lower x (Statement.while {r = r} d e) h =
      let k = others (others h) in
      let i = first (others h) in
      rw (two_less x r i) (Statement.while (reads_lower x d (left (rooms d) _ k)) (statement_in (suc (r - x)) (suc_less x r i) (statement_lower x e (right (rooms d) k))))
  statement_lower x (Statement.do_while {r = r} d e) h =
      let k = others h in
      let l = right (statement_rooms d) k in
      let i = first l in
      rw (two_less x r i) (Statement.do_while (statement_in (suc (r - x)) (suc_less x r i) (statement_lower x d (left (statement_rooms d) _ k))) (reads_lower x e (others l)))
  statement_lower x (Statement.for {r = r} d e f g) h =
      let k = others (others h) in
      let l = left (clause_rooms d ++ optional_rooms e ++ optional_rooms f) _ k in
      let m = left (clause_rooms d ++ optional_rooms e) _ l in
      let i = first (others h) in
      rw (two_less x r i)
      (Statement.for (clause_lower x d (left (clause_rooms d) _ m)) (optional_lower x e (right (clause_rooms d) m)) (optional_lower x f (right (clause_rooms d ++ optional_rooms e) l))
      (statement_in (suc (r - x)) (suc_less x r i) (statement_lower x g (right (clause_rooms d ++ optional_rooms e ++ optional_rooms f) k))))
  statement_lower x (Statement.give d) h = Statement.give (optional_lower x d h)
  statement_lower x Statement.break h = Statement.break
  statement_lower x Statement.continue h = Statement.continue

  pub items_lower : {r : ℕ} {a b : Tokens} {body : Body} (x : ℕ) (d : Items r a b body) → Spare x (items_rooms d) → Items (r - x) a b body
  items_lower x Items.none h = Items.none
  items_lower x (Items.vars d e) h = Items.vars (vars_lower x d (left (vars_rooms d) _ h)) (items_lower x e (right (vars_rooms d) h))
  items_lower x (Items.statement d e) h = Items.statement (statement_lower x d (left (statement_rooms d) _ h)) (items_lower x e (right (statement_rooms d) h))

-- ---- programs

pub parameter_lower : {r : ℕ} {a b : Tokens} {y : Param} (x : ℕ) (d : Parameter r a b y) → Spare x (parameter_rooms d) → Parameter (r - x) a b y
parameter_lower x (Parameter.scalar i) h = Parameter.scalar i
parameter_lower x (Parameter.array i d) h = Parameter.array i (length_lower x d h)

pub parameters_lower : {r : ℕ} {a b : Tokens} {ys : List Param} (x : ℕ) (d : Parameters r a b ys) → Spare x (parameters_rooms d) → Parameters (r - x) a b ys
parameters_lower x (Parameters.last d) h = Parameters.last (parameter_lower x d h)
parameters_lower x (Parameters.more d e) h = Parameters.more (parameter_lower x d (left (parameter_rooms d) _ h)) (parameters_lower x e (right (parameter_rooms d) h))

pub signature_lower : {r : ℕ} {a b : Tokens} {ys : List Param} (x : ℕ) (d : Signature r a b ys) → Spare x (signature_rooms d) → Signature (r - x) a b ys
signature_lower x Signature.empty h = Signature.empty
signature_lower x Signature.void h = Signature.void
signature_lower x (Signature.parameters d) h = Signature.parameters (parameters_lower x d h)

pub external_lower : {r : ℕ} {a b : Tokens} {y : Outer} (x : ℕ) (d : External r a b y) → Spare x (external_rooms d) → External (r - x) a b y
external_lower x (External.vars d) h = External.vars (vars_lower x d h)
external_lower x (External.prototype {r = r} i d) h = rw (suc_less x r (first h)) (External.prototype i (signature_lower x d (others h)))
external_lower x (External.definition {r = r} i d e) h =
    let k = others h in
    rw (suc_less x r (first h)) (External.definition i (signature_lower x d (left (signature_rooms d) _ k)) (items_lower x e (others (right (signature_rooms d) k))))

pub program_lower : {r : ℕ} {a : Tokens} {p : List Outer} (x : ℕ) (d : Derives r a p) → Spare x (program_rooms d) → Derives (r - x) a p
program_lower x (Derives.last d) h = Derives.last (external_lower x d h)
program_lower x (Derives.more d e) h = Derives.more (external_lower x d (left (external_rooms d) _ h)) (program_lower x e (right (external_rooms d) h))

-- ---- the law

-- where no opener nests deeper than a room, after each opener there is as much to spare as the room before the program is larger
pub spared : (l : List Opener) (r : ℕ) {s : ℕ} {k : List Opener} {q : List ℕ} → Along (λ o n. n + nesting l o.0 ≡ s) k q → All (λ o. nesting l o.0 ≤ r) k → Spare (s - r) q
spared l r Along.none h = Spare.none
spared l r (Along.also {o = o} {k = k} x y) h = let z = All-head (λ o. nesting l o.0 ≤ r) o k h in Spare.also (omega arith) (spared l r y (All-tail (λ o. nesting l o.0 ≤ r) o k h))

-- with more room the same is derived
pub derives_raise : {r : ℕ} {a : Tokens} {p : List Outer} (x : ℕ) → Derives r a p → Derives (x + r) a p
derives_raise {r = r} zero d = let e : 0 + r ≡ r = omega arith in rw e d
derives_raise {r = r} (suc x) d = let e : suc x + r ≡ suc (x + r) = omega arith in rw e (derives_lift (derives_raise x d))

-- a program whose openers nest nowhere deeper than a room is one with that room
pub nesting_suffices : (r s : ℕ) (a : Tokens) (p : List Outer) (d : Derives s a p) → All (λ o. nesting (program_openers d) o.0 ≤ r) (program_openers d) → Derives r a p
nesting_suffices r s a p d h = elim (larger s r) [
  | inl x ↦ let e : (r - s) + s ≡ r = omega arith in subst (λ k. Derives k a p) e (derives_raise (r - s) d)
  | inr x ↦ let e : s - (s - r) ≡ r = omega arith in subst (λ k. Derives k a p) e (program_lower (s - r) d (spared (program_openers d) r (room_used s a p d) h))
]
