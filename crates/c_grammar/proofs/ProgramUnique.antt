-- The openers of a program are the same however it is derived, and whatever the room.
use Rattle.std.proofs.Common.{◌≡◌, ℕ, ℤ, ◌≤◌, ◌<◌, Bool, true, false, List, [], ◌∷◌, Option, refl, ap, sym, ◌∙◌, arith, subst}
use Rattle.c_tree.specs.declared.place.Span.{Span}
use Rattle.c_tree.specs.declared.program.Param.{Param}
use Rattle.c_tree.specs.declared.stmt.Ty.{Ty}
use Rattle.c_tree.specs.Tree.{Tree, Variable, First, Code, Body, Outer}
use Rattle.c_grammar.specs.declared.nonterminal.Nonterminal.{Nonterminal}
use Rattle.c_grammar.specs.Grammar.{Tokens, Reads}
use Rattle.c_grammar.specs.Programs.{Length, Elements, Declarator, Declarators, Vars, Clause, Optional, Statement, Items, Parameter, Parameters, Signature, External, Derives}
use Rattle.c_grammar.specs.Terminals.{lookahead, rest, keyword_terminal, is_close_paren, is_close_brace, is_open_bracket, is_else, is_end}
use Rattle.c_grammar.specs.Nesting.{Opener, nesting, ◌until◌, ending, openers, length_openers, elements_openers, elements_ending, length_ending, declarator_openers, declarators_openers, vars_openers, clause_openers, optional_openers, statement_ending, items_ending, statement_openers, items_openers, parameter_openers, parameters_openers, signature_openers, signature_ending, external_openers, program_openers}
use Rattle.c_grammar.proofs.Terminals.{terminal_result}
use Rattle.c_grammar.proofs.ExpressionFirstSets.{starting, starts, starting_no_brace}
use Rattle.c_grammar.proofs.ProgramFirstSets.{no_bracket, brace_loose, length_opens, elements_start, vars_start, vars_no_func, acting, statement_starts, acting_no_brace, items_no_else, parameters_start, result_func, derives_no_end}
use Rattle.c_grammar.proofs.ExpressionComplete.{loose_at, reach}
use Rattle.c_grammar.proofs.ProgramNesting.{nesting_within}
use Rattle.c_grammar.proofs.ExpressionUnique.{reads_end, reads_unique, bracketed, joined}

-- two derivations end at one place and have the same openers
abbrev Agree : Tokens → Tokens → List Opener → List Opener → Type 0
Agree b c k l = (b ≡ c) × (k ≡ l)

-- an opener before openers
headed : {k l : List Opener} {b c : Tokens} (a : Tokens) → b ≡ c → k ≡ l → (a until b) ∷ k ≡ (a until c) ∷ l
headed {k} {l} {b} {c} a x y = ap (λ z. (a until z) ∷ k) x ∙ ap (λ z. (a until c) ∷ z) y

-- an expression that is closed at its end
ended : {N : Nonterminal} {r m s n : ℕ} {a b e c : Tokens} {t u : Tree} → a ≡ e → (d : Reads N r a m b t) (f : Reads N s e n c u) → reach N < loose_at b → reach N < loose_at c
    → Agree b c (openers d b) (openers f c)
ended {b = b} q d f x y = let w = reads_end q d f x y in (w, reads_unique q d f x y b ∙ ap (openers f) w)

-- ---- declarations

length_same : {r s : ℕ} {a b e c : Tokens} {n m : Option ℤ} {v w : Span} → a ≡ e → (d : Length r a b n v) (f : Length s e c m w) → Agree b c (length_openers d) (length_openers f)
length_same q Length.bare Length.bare = (cc (q), ap (λ z. (z until rest z) ∷ []) q)
length_same q Length.bare Length.constant = absurd (cc (ap (λ z. lookahead (rest z)) q))
length_same q Length.constant Length.bare = absurd (cc (ap (λ z. lookahead (rest z)) q))
length_same q Length.constant Length.constant = (cc (q), ap (λ z. (z until rest (rest z)) ∷ []) q)

elements_same : {r s : ℕ} {a b e c : Tokens} {ts us : List Tree} → a ≡ e → (d : Elements r a b ts) (f : Elements s e c us) → is_close_brace (lookahead b) ≡ true → is_close_brace (lookahead c) ≡ true
    → Agree b c (elements_openers d) (elements_openers f)
elements_same {b = b} {c = c} q (Elements.last d) (Elements.last f) x y = let v = brace_loose (lookahead b) x in let w = brace_loose (lookahead c) y in ended q d f (omega arith) (omega arith)
elements_same {b = b} q (Elements.last d) (Elements.last_comma f) x y =
    let v = brace_loose (lookahead b) x in let w = reads_end q d f (omega arith) (omega arith) in let z = sym x ∙ ap (λ z. is_close_brace (lookahead z)) w in absurd (cc (z))
elements_same {b = b} q (Elements.last d) (Elements.more f g) x y =
    let v = brace_loose (lookahead b) x in let w = reads_end q d f (omega arith) (omega arith) in let z = sym x ∙ ap (λ z. is_close_brace (lookahead z)) w in absurd (cc (z))
elements_same {c = c} q (Elements.last_comma d) (Elements.last f) x y =
    let v = brace_loose (lookahead c) y in let w = reads_end q d f (omega arith) (omega arith) in let z = sym y ∙ ap (λ z. is_close_brace (lookahead z)) (sym w) in absurd (cc (z))
elements_same q (Elements.last_comma d) (Elements.last_comma f) x y = let w = ended q d f (omega arith) (omega arith) in let z = w.0 in (cc (z), w.1)
elements_same q (Elements.last_comma {b = b} d) (Elements.more {b = b2} f g) x y =
    let w = reads_end q d f (omega arith) (omega arith) in
    let p : b ≡ b2 = cc (w) in
    let z = sym x ∙ (ap (λ z. is_close_brace (lookahead z)) p ∙ starting_no_brace (lookahead b2) (elements_start g)) in
    absurd (cc (z))
elements_same {c = c} q (Elements.more d g) (Elements.last f) x y =
    let v = brace_loose (lookahead c) y in let w = reads_end q d f (omega arith) (omega arith) in let z = sym y ∙ ap (λ z. is_close_brace (lookahead z)) (sym w) in absurd (cc (z))
elements_same q (Elements.more {b = b} d g) (Elements.last_comma {b = b2} f) x y =
    let w = reads_end q d f (omega arith) (omega arith) in
    let p : b ≡ b2 = cc (w) in
    let z = sym y ∙ (ap (λ z. is_close_brace (lookahead z)) (sym p) ∙ starting_no_brace (lookahead b) (elements_start g)) in
    absurd (cc (z))
elements_same q (Elements.more {b = b} d g) (Elements.more {b = b2} f h) x y =
    let w = ended q d f (omega arith) (omega arith) in
    let p : b ≡ b2 = let v = w.0 in cc (v) in
    let o = elements_same p g h x y in
    (o.0, joined w.1 o.1)

declarator_same : {r s : ℕ} {a b e c : Tokens} {v w : Variable} → a ≡ e → (d : Declarator r a b v) (f : Declarator s e c w) → 13 < loose_at b → 13 < loose_at c
    → Agree b c (declarator_openers d) (declarator_openers f)
declarator_same q Declarator.scalar Declarator.scalar x y = (cc (q), refl)
declarator_same q Declarator.scalar (Declarator.scalar_start f) x y = let w = ap (λ z. loose_at (rest z)) q in absurd (omega arith)
declarator_same {b = b} q Declarator.scalar (Declarator.array f) x y =
    let w = sym (no_bracket (lookahead b) x) ∙ (ap (λ z. is_open_bracket (lookahead (rest z))) q ∙ length_opens f) in absurd (cc (w))
declarator_same {b = b} q Declarator.scalar (Declarator.array_list f g) x y =
    let w = sym (no_bracket (lookahead b) x) ∙ (ap (λ z. is_open_bracket (lookahead (rest z))) q ∙ length_opens f) in absurd (cc (w))
declarator_same q (Declarator.scalar_start d) Declarator.scalar x y = let w = ap (λ z. loose_at (rest z)) q in absurd (omega arith)
declarator_same q (Declarator.scalar_start {a = a} d) (Declarator.scalar_start {a = e} f) x y = let p : a ≡ e = cc (q) in ended p d f x y
declarator_same q (Declarator.scalar_start d) (Declarator.array f) x y = let w = ap (λ z. is_open_bracket (lookahead (rest z))) q ∙ length_opens f in absurd (cc (w))
declarator_same q (Declarator.scalar_start d) (Declarator.array_list f g) x y = let w = ap (λ z. is_open_bracket (lookahead (rest z))) q ∙ length_opens f in absurd (cc (w))
declarator_same {c = c} q (Declarator.array d) Declarator.scalar x y =
    let w = sym (no_bracket (lookahead c) y) ∙ (ap (λ z. is_open_bracket (lookahead (rest z))) (sym q) ∙ length_opens d) in absurd (cc (w))
declarator_same q (Declarator.array d) (Declarator.scalar_start f) x y = let w = ap (λ z. is_open_bracket (lookahead (rest z))) (sym q) ∙ length_opens d in absurd (cc (w))
declarator_same q (Declarator.array {a = a} d) (Declarator.array {a = e} f) x y = let p : a ≡ e = cc (q) in length_same p d f
declarator_same q (Declarator.array {a = a} d) (Declarator.array_list {a = e} f g) x y =
    let p : a ≡ e = cc (q) in let w = ap loose_at ((length_same p d f).0) in absurd (omega arith)
declarator_same {c = c} q (Declarator.array_list d g) Declarator.scalar x y =
    let w = sym (no_bracket (lookahead c) y) ∙ (ap (λ z. is_open_bracket (lookahead (rest z))) (sym q) ∙ length_opens d) in absurd (cc (w))
declarator_same q (Declarator.array_list d g) (Declarator.scalar_start f) x y = let w = ap (λ z. is_open_bracket (lookahead (rest z))) (sym q) ∙ length_opens d in absurd (cc (w))
declarator_same q (Declarator.array_list {a = a} d g) (Declarator.array {a = e} f) x y =
    let p : a ≡ e = cc (q) in let w = ap loose_at ((length_same p d f).0) in absurd (omega arith)
declarator_same q (Declarator.array_list {a = a} {b = b} d g) (Declarator.array_list {a = e} {b = b2} f h) x y =
    let p : a ≡ e = cc (q) in
    let w = length_same p d f in
    let v = w.0 in
    let i : b ≡ b2 = cc (v) in
    let o = elements_same i g h refl refl in
    let z = o.0 in
    (cc (z), joined w.1 (ap (λ k. (rest k until elements_ending g) ∷ elements_openers g) v ∙ headed (rest (length_ending f)) z o.1))

declarators_same : {r s : ℕ} {a b e c : Tokens} {vs ws : List Variable} → a ≡ e → (d : Declarators r a b vs) (f : Declarators s e c ws) → 14 < loose_at b → 14 < loose_at c
    → Agree b c (declarators_openers d) (declarators_openers f)
declarators_same q (Declarators.last d) (Declarators.last f) x y = declarator_same q d f (omega arith) (omega arith)
declarators_same q (Declarators.last d) (Declarators.more f g) x y = let w = ap loose_at ((declarator_same q d f (omega arith) (omega arith)).0) in absurd (omega arith)
declarators_same q (Declarators.more d g) (Declarators.last f) x y = let w = ap loose_at ((declarator_same q d f (omega arith) (omega arith)).0) in absurd (omega arith)
declarators_same q (Declarators.more {b = b} d g) (Declarators.more {b = b2} f h) x y =
    let w = declarator_same q d f (omega arith) (omega arith) in
    let v = w.0 in
    let p : b ≡ b2 = cc (v) in
    let o = declarators_same p g h x y in
    (o.0, joined w.1 o.1)

vars_same : {r s : ℕ} {a b e c : Tokens} {ty uy : Ty} {vs ws : List Variable} → a ≡ e → (d : Vars r a b ty vs) (f : Vars s e c uy ws) → Agree b c (vars_openers d) (vars_openers f)
vars_same q (Vars.vars {a = a} i d) (Vars.vars {a = e} j f) =
    let p : a ≡ e = cc (q) in
    let w = declarators_same p d f (omega arith) (omega arith) in
    let v = w.0 in
    (cc (v), w.1)

-- ---- statements

clause_same : {r s : ℕ} {a b c : Tokens} {i j : First} (d : Clause r a b i) (f : Clause s a c j) → Agree b c (clause_openers d) (clause_openers f)
clause_same Clause.empty Clause.empty = (refl, refl)
clause_same Clause.empty (Clause.act f) = let w = starts f in absurd (cc (w))
clause_same Clause.empty (Clause.vars f) = let w = vars_start f in absurd (cc (w))
clause_same (Clause.act d) Clause.empty = let w = starts d in absurd (cc (w))
clause_same (Clause.act d) (Clause.act f) = let w = ended refl d f (omega arith) (omega arith) in let v = w.0 in (cc (v), w.1)
clause_same (Clause.act d) (Clause.vars f) = let w = sym (starts d) ∙ ap starting (vars_start f) in absurd (cc (w))
clause_same (Clause.vars d) Clause.empty = let w = vars_start d in absurd (cc (w))
clause_same (Clause.vars d) (Clause.act f) = let w = sym (starts f) ∙ ap starting (vars_start d) in absurd (cc (w))
clause_same (Clause.vars d) (Clause.vars f) = vars_same refl d f

optional_end : {r s : ℕ} {a b e c : Tokens} {t u : Option Tree} → a ≡ e → (d : Optional r a b t) (f : Optional s e c u) → starting (lookahead b) ≡ false → starting (lookahead c) ≡ false
    → 14 < loose_at b → 14 < loose_at c → (b ≡ c) × ((end : Tokens) → optional_openers d end ≡ optional_openers f end)
optional_end q Optional.absent Optional.absent x y z w = (q, λ end. refl)
optional_end q Optional.absent (Optional.present f) x y z w = let v = sym (starts f) ∙ (ap (λ k. starting (lookahead k)) (sym q) ∙ x) in absurd (cc (v))
optional_end q (Optional.present d) Optional.absent x y z w = let v = sym (starts d) ∙ (ap (λ k. starting (lookahead k)) q ∙ y) in absurd (cc (v))
optional_end q (Optional.present d) (Optional.present f) x y z w = (reads_end q d f z w, λ end. reads_unique q d f z w end)

-- an expression that may be absent, and is closed at its end
optional_same : {r s : ℕ} {a b e c : Tokens} {t u : Option Tree} → a ≡ e → (d : Optional r a b t) (f : Optional s e c u) → starting (lookahead b) ≡ false → starting (lookahead c) ≡ false
    → 14 < loose_at b → 14 < loose_at c → Agree b c (optional_openers d b) (optional_openers f c)
optional_same {b = b} q d f x y z w = let v = optional_end q d f x y z w in (v.0, v.1 b ∙ ap (optional_openers f) v.0)

statement_at : {o p : Bool} {r s : ℕ} {a b e c : Tokens} {x y : Code} (d : Statement o r a b x) → a ≡ e → ((g : Statement p s a c y) → Agree b c (statement_openers d) (statement_openers g))
    → (f : Statement p s e c y) → Agree b c (statement_openers d) (statement_openers f)
statement_at {o} {p} {r} {s} {a} {b} {e} {c} {x} {y} d q h f = subst (λ w. (g : Statement p s w c y) → Agree b c (statement_openers d) (statement_openers g)) q h f

items_at : {r s : ℕ} {a b e c : Tokens} {x y : Body} (d : Items r a b x) → a ≡ e → ((g : Items s a c y) → Agree b c (items_openers d) (items_openers g))
    → (f : Items s e c y) → Agree b c (items_openers d) (items_openers f)
items_at {r} {s} {a} {b} {e} {c} {x} {y} d q h f = subst (λ w. (g : Items s w c y) → Agree b c (items_openers d) (items_openers g)) q h f

mutual
  statement_same : {o p : Bool} {r s : ℕ} {a b c : Tokens} {x y : Code} (d : Statement o r a b x) (f : Statement p s a c y) → (o ≡ true → is_else (lookahead b) ≡ false)
      → (p ≡ true → is_else (lookahead c) ≡ false) → Agree b c (statement_openers d) (statement_openers f)
  statement_same (Statement.act d) Statement.empty x y = let w = starts d in absurd (cc (w))
  statement_same (Statement.act d) (Statement.block e) x y = let w = starts d in absurd (cc (w))
  statement_same (Statement.act d) (Statement.if_then e f) x y = let w = starts d in absurd (cc (w))
  statement_same (Statement.act d) (Statement.if_else e f g) x y = let w = starts d in absurd (cc (w))
  statement_same (Statement.act d) (Statement.while e f) x y = let w = starts d in absurd (cc (w))
  statement_same (Statement.act d) (Statement.do_while e f) x y = let w = starts d in absurd (cc (w))
  statement_same (Statement.act d) (Statement.for e f g i) x y = let w = starts d in absurd (cc (w))
  statement_same (Statement.act d) (Statement.give e) x y = let w = starts d in absurd (cc (w))
  statement_same (Statement.act d) Statement.break x y = let w = starts d in absurd (cc (w))
  statement_same (Statement.act d) Statement.continue x y = let w = starts d in absurd (cc (w))
  statement_same Statement.empty (Statement.act d) x y = let w = starts d in absurd (cc (w))
  statement_same (Statement.block e) (Statement.act d) x y = let w = starts d in absurd (cc (w))
  statement_same (Statement.if_then e f) (Statement.act d) x y = let w = starts d in absurd (cc (w))
  statement_same (Statement.if_else e f g) (Statement.act d) x y = let w = starts d in absurd (cc (w))
  statement_same (Statement.while e f) (Statement.act d) x y = let w = starts d in absurd (cc (w))
  statement_same (Statement.do_while e f) (Statement.act d) x y = let w = starts d in absurd (cc (w))
  statement_same (Statement.for e f g i) (Statement.act d) x y = let w = starts d in absurd (cc (w))
  statement_same (Statement.give e) (Statement.act d) x y = let w = starts d in absurd (cc (w))
  statement_same Statement.break (Statement.act d) x y = let w = starts d in absurd (cc (w))
  statement_same Statement.continue (Statement.act d) x y = let w = starts d in absurd (cc (w))
  statement_same Statement.empty Statement.empty x y = (refl, refl)
  statement_same {b = b} {c = c} (Statement.act d) (Statement.act f) x y =
      let w = reads_end refl d f (omega arith) (omega arith) in
      let p : b ≡ c = cc (w) in
      (p, reads_unique refl d f (omega arith) (omega arith) b ∙ ap (openers f) p)
  statement_same {a = a} (Statement.block d) (Statement.block f) x y = let w = items_same d f refl refl in let v = w.0 in (cc (v), headed a v w.1)
  statement_same {a = a} (Statement.if_then {b = b} d e) (Statement.if_then {b = b2} d2 e2) x y =
      let t = reads_end refl d d2 (omega arith) (omega arith) in
      let p : b ≡ b2 = cc (t) in
      let k = bracketed (rest a) d d2 t (λ end. reads_unique refl d d2 (omega arith) (omega arith) end) in
      let w = statement_at e p (λ g. statement_same e g (λ _. x refl) (λ _. y refl)) e2 in
      (w.0, headed a w.0 (joined k w.1))
  statement_same (Statement.if_then {b = b} d e) (Statement.if_else {b = b2} d2 e2 f2) x y =
      let t = reads_end refl d d2 (omega arith) (omega arith) in
      let p : b ≡ b2 = cc (t) in
      let w = statement_at e p (λ g. statement_same e g (λ _. x refl) (λ h. absurd (cc (h)))) e2 in
      let v = sym (x refl) ∙ ap (λ z. is_else (lookahead z)) w.0 in
      absurd (cc (v))
  statement_same (Statement.if_else {b = b} d e f) (Statement.if_then {b = b2} d2 e2) x y =
      let t = reads_end refl d d2 (omega arith) (omega arith) in
      let p : b ≡ b2 = cc (t) in
      let w = statement_at e p (λ g. statement_same e g (λ h. absurd (cc (h))) (λ _. y refl)) e2 in
      let v = sym (y refl) ∙ ap (λ z. is_else (lookahead z)) (sym w.0) in
      absurd (cc (v))
  statement_same {a = a} (Statement.if_else {b = b} {c = c} d e f) (Statement.if_else {b = b2} {c = c2} d2 e2 f2) x y =
      let t = reads_end refl d d2 (omega arith) (omega arith) in
      let p : b ≡ b2 = cc (t) in
      let k = bracketed (rest a) d d2 t (λ end. reads_unique refl d d2 (omega arith) (omega arith) end) in
      let w = statement_at e p (λ g. statement_same e g (λ h. absurd (cc (h))) (λ h. absurd (cc (h)))) e2 in
      let i = w.0 in
      let j : c ≡ c2 = cc (i) in
      let v = statement_at f j (λ g. statement_same f g x y) f2 in
      (v.0, headed a v.0 (joined (joined k w.1) v.1))
  statement_same {a = a} (Statement.while {b = b} d e) (Statement.while {b = b2} d2 e2) x y =
      let t = reads_end refl d d2 (omega arith) (omega arith) in
      let p : b ≡ b2 = cc (t) in
      let k = bracketed (rest a) d d2 t (λ end. reads_unique refl d d2 (omega arith) (omega arith) end) in
      let w = statement_at e p (λ g. statement_same e g x y) e2 in
      (w.0, headed a w.0 (joined k w.1))
  statement_same {a = a} (Statement.do_while {b = b} {c = c} d e) (Statement.do_while {b = b2} {c = c2} d2 e2) x y =
      let w = statement_same d d2 (λ _. refl) (λ _. refl) in
      let i = w.0 in
      let p : b ≡ b2 = cc (i) in
      let t = reads_end p e e2 (omega arith) (omega arith) in
      let j : c ≡ c2 = cc (t) in
      let k = ap (λ z. (rest z until ending e) ∷ openers e (ending e)) i ∙ bracketed (rest (statement_ending d2)) e e2 t (λ end. reads_unique p e e2 (omega arith) (omega arith) end) in
      (j, headed a j (joined w.1 k))
  statement_same {a = a} (Statement.for {c = c} {d = h} d e f g) (Statement.for {c = c2} {d = h2} d2 e2 f2 g2) x y =
      let w = clause_same d d2 in
      let v = optional_same w.0 e e2 refl refl (omega arith) (omega arith) in
      let i = v.0 in
      let p : c ≡ c2 = cc (i) in
      let u = optional_same p f f2 refl refl (omega arith) (omega arith) in
      let j = u.0 in
      let q : h ≡ h2 = cc (j) in
      let t = statement_at g q (λ k. statement_same g k x y) g2 in
      (t.0, headed a t.0 (joined (headed (rest a) j (joined (joined w.1 v.1) u.1)) t.1))
  statement_same {b = b} {c = c} (Statement.give d) (Statement.give f) x y =
      let w = optional_end refl d f refl refl (omega arith) (omega arith) in
      let v = w.0 in
      let p : b ≡ c = cc (v) in
      (p, w.1 b ∙ ap (optional_openers f) p)
  statement_same Statement.break Statement.break x y = (refl, refl)
  statement_same Statement.continue Statement.continue x y = (refl, refl)

  items_same : {r s : ℕ} {a b c : Tokens} {x y : Body} (d : Items r a b x) (f : Items s a c y) → is_close_brace (lookahead b) ≡ true → is_close_brace (lookahead c) ≡ true
      → Agree b c (items_openers d) (items_openers f)
  items_same Items.none Items.none x y = (refl, refl)
  items_same Items.none (Items.vars f g) x y = let w = sym x ∙ ap is_close_brace (vars_start f) in absurd (cc (w))
  items_same {a = a} Items.none (Items.statement f g) x y = let w = sym x ∙ acting_no_brace (lookahead a) (statement_starts f) in absurd (cc (w))
  items_same (Items.vars d e) Items.none x y = let w = sym y ∙ ap is_close_brace (vars_start d) in absurd (cc (w))
  items_same (Items.vars d e) (Items.vars f g) x y =
      let w = vars_same refl d f in
      let v = items_at e w.0 (λ k. items_same e k x y) g in
      (v.0, joined w.1 v.1)
  items_same (Items.vars d e) (Items.statement f g) x y = let w = sym (statement_starts f) ∙ ap acting (vars_start d) in absurd (cc (w))
  items_same {a = a} (Items.statement d e) Items.none x y = let w = sym y ∙ acting_no_brace (lookahead a) (statement_starts d) in absurd (cc (w))
  items_same (Items.statement d e) (Items.vars f g) x y = let w = sym (statement_starts d) ∙ ap acting (vars_start f) in absurd (cc (w))
  items_same (Items.statement d e) (Items.statement f g) x y =
      let w = statement_same d f (λ _. items_no_else e x) (λ _. items_no_else g y) in
      let v = items_at e w.0 (λ k. items_same e k x y) g in
      (v.0, joined w.1 v.1)

-- ---- programs

parameter_same : {r s : ℕ} {a b e c : Tokens} {v w : Param} → a ≡ e → (d : Parameter r a b v) (f : Parameter s e c w) → 13 < loose_at b → 13 < loose_at c
    → Agree b c (parameter_openers d) (parameter_openers f)
parameter_same q (Parameter.scalar i) (Parameter.scalar j) x y = (cc (q), refl)
parameter_same {b = b} q (Parameter.scalar i) (Parameter.array j f) x y =
    let w = sym (no_bracket (lookahead b) x) ∙ (ap (λ z. is_open_bracket (lookahead (rest (rest z)))) q ∙ length_opens f) in absurd (cc (w))
parameter_same {c = c} q (Parameter.array i d) (Parameter.scalar j) x y =
    let w = sym (no_bracket (lookahead c) y) ∙ (ap (λ z. is_open_bracket (lookahead (rest (rest z)))) (sym q) ∙ length_opens d) in absurd (cc (w))
parameter_same q (Parameter.array {a = a} i d) (Parameter.array {a = e} j f) x y = let p : a ≡ e = cc (q) in length_same p d f

parameters_same : {r s : ℕ} {a b e c : Tokens} {vs ws : List Param} → a ≡ e → (d : Parameters r a b vs) (f : Parameters s e c ws) → 14 < loose_at b → 14 < loose_at c
    → Agree b c (parameters_openers d) (parameters_openers f)
parameters_same q (Parameters.last d) (Parameters.last f) x y = parameter_same q d f (omega arith) (omega arith)
parameters_same q (Parameters.last d) (Parameters.more f g) x y = let w = ap loose_at ((parameter_same q d f (omega arith) (omega arith)).0) in absurd (omega arith)
parameters_same q (Parameters.more d g) (Parameters.last f) x y = let w = ap loose_at ((parameter_same q d f (omega arith) (omega arith)).0) in absurd (omega arith)
parameters_same q (Parameters.more {b = b} d g) (Parameters.more {b = b2} f h) x y =
    let w = parameter_same q d f (omega arith) (omega arith) in
    let v = w.0 in
    let p : b ≡ b2 = cc (v) in
    let o = parameters_same p g h x y in
    (o.0, joined w.1 o.1)

signature_same : {r s : ℕ} {a b c : Tokens} {vs ws : List Param} (d : Signature r a b vs) (f : Signature s a c ws) → is_close_paren (lookahead b) ≡ true → is_close_paren (lookahead c) ≡ true
    → 14 < loose_at b → 14 < loose_at c → Agree b c (signature_openers d) (signature_openers f)
signature_same Signature.empty Signature.empty x y z w = (refl, refl)
signature_same Signature.empty Signature.void x y z w = absurd (cc (x))
signature_same Signature.empty (Signature.parameters f) x y z w = let v = sym x ∙ ap is_close_paren (parameters_start f).1 in absurd (cc (v))
signature_same Signature.void Signature.empty x y z w = absurd (cc (y))
signature_same Signature.void Signature.void x y z w = (refl, refl)
signature_same Signature.void (Signature.parameters f) x y z w = let v = (parameters_start f).1 in absurd (cc (v))
signature_same (Signature.parameters d) Signature.empty x y z w = let v = sym y ∙ ap is_close_paren (parameters_start d).1 in absurd (cc (v))
signature_same (Signature.parameters d) Signature.void x y z w = let v = (parameters_start d).1 in absurd (cc (v))
signature_same (Signature.parameters d) (Signature.parameters f) x y z w = parameters_same refl d f z w

external_same : {r s : ℕ} {a b c : Tokens} {v w : Outer} (d : External r a b v) (f : External s a c w) → Agree b c (external_openers d) (external_openers f)
external_same (External.vars d) (External.vars f) = vars_same refl d f
external_same {a = a} (External.vars d) (External.prototype {k = k} {ret = ret} j f) =
    let w = sym (vars_no_func d) ∙ result_func (keyword_terminal k) ret a (terminal_result k ret j) refl in absurd (cc (w))
external_same {a = a} (External.vars d) (External.definition {k = k} {ret = ret} j f g) =
    let w = sym (vars_no_func d) ∙ result_func (keyword_terminal k) ret a (terminal_result k ret j) refl in absurd (cc (w))
external_same {a = a} (External.prototype {k = k} {ret = ret} i d) (External.vars f) =
    let w = sym (vars_no_func f) ∙ result_func (keyword_terminal k) ret a (terminal_result k ret i) refl in absurd (cc (w))
external_same {a = a} (External.prototype {b = b} i d) (External.prototype {b = b2} j f) =
    let w = signature_same d f refl refl (omega arith) (omega arith) in
    let v = w.0 in
    let p : b ≡ b2 = cc (v) in
    (p, headed (rest (rest a)) v w.1)
external_same (External.prototype i d) (External.definition j f g) =
    let w = ap (λ z. lookahead (rest z)) ((signature_same d f refl refl (omega arith) (omega arith)).0) in absurd (cc (w))
external_same {a = a} (External.definition {k = k} {ret = ret} i d e) (External.vars f) =
    let w = sym (vars_no_func f) ∙ result_func (keyword_terminal k) ret a (terminal_result k ret i) refl in absurd (cc (w))
external_same (External.definition i d e) (External.prototype j f) =
    let w = ap (λ z. lookahead (rest z)) ((signature_same d f refl refl (omega arith) (omega arith)).0) in absurd (cc (w))
external_same {a = a} (External.definition {b = b} {c = c} i d e) (External.definition {b = b2} {c = c2} j f g) =
    let w = signature_same d f refl refl (omega arith) (omega arith) in
    let v = w.0 in
    let p : b ≡ b2 = cc (v) in
    let u = items_at e p (λ k. items_same e k refl refl) g in
    let t = u.0 in
    let q : c ≡ c2 = cc (t) in
    (q, joined (headed (rest (rest a)) v w.1) (ap (λ z. (rest z until items_ending e) ∷ items_openers e) v ∙ headed (rest (signature_ending f)) t u.1))

derives_at : {r s : ℕ} {a e : Tokens} {p o : List Outer} (d : Derives r a p) → a ≡ e → ((g : Derives s a o) → program_openers d ≡ program_openers g) → (f : Derives s e o) → program_openers d ≡ program_openers f
derives_at {r} {s} {a} {e} {p} {o} d q h f = subst (λ w. (g : Derives s w o) → program_openers d ≡ program_openers g) q h f

-- the openers of a program are the same however it is derived
pub program_unique : (r s : ℕ) (a : Tokens) (p o : List Outer) (d : Derives r a p) (f : Derives s a o) → program_openers d ≡ program_openers f
program_unique r s a p o (Derives.last d) (Derives.last f) = (external_same d f).1
program_unique r s a p o (Derives.last d) (Derives.more f g) =
    let w = ap (λ z. is_end (lookahead z)) ((external_same d f).0) ∙ derives_no_end g in absurd (cc (w))
program_unique r s a p o (Derives.more d e) (Derives.last f) =
    let w = ap (λ z. is_end (lookahead z)) (sym ((external_same d f).0)) ∙ derives_no_end e in absurd (cc (w))
program_unique r s a p o (Derives.more {b = b} {p = v} d e) (Derives.more {p = w} f g) =
    let x = external_same d f in
    joined x.1 (derives_at e x.0 (λ k. program_unique r s b v w e k) g)

-- where a program is derived with a room, its nesting doesn't pass the room, however else it is derived
pub nesting_at_most : (r s : ℕ) (a : Tokens) (p o : List Outer) (d : Derives s a p) → Derives r a o → (c : Tokens) → nesting (program_openers d) c ≤ r
nesting_at_most r s a p o d f c = subst (λ k. nesting k c ≤ r) (sym (program_unique s r a p o d f)) (nesting_within r a o f c)
