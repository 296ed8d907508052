-- What begins a statement or the items of a block is passed by the descent.
use Rattle.std.proofs.Common.{◌≡◌, ◌⊎◌, inl, inr, ℕ, zero, suc, ◌<◌, Bool, true, false, List, ◌∷◌, Option, refl, subst, sym, ap, ◌∙◌, arith, length}
use Rattle.c_lex.specs.declared.token.TokenKind.TheVariants as kind
use Rattle.c_lex.specs.declared.token.Keyword.TheVariants as key
use Rattle.c_lex.specs.declared.token.Punct.TheVariants as mark
use Rattle.c_tree.specs.declared.place.Span.{Span}
use Rattle.c_tree.specs.declared.stmt.Ty.{Ty}
use Rattle.c_tree.specs.Tree as tree
use Rattle.c_tree.specs.Tree.{Tree, Variable, First, Code, Body}
use Rattle.c_tree.specs.Parts.{span_of}
use Rattle.c_grammar.specs.declared.terminal.Terminal.{Terminal}
use Rattle.c_grammar.specs.declared.terminal.Terminal.TheVariants as terminal
use Rattle.c_grammar.specs.declared.nonterminal.Nonterminal.TheVariants.{Expression}
use Rattle.c_grammar.specs.Grammar.{Tokens, over, Begins}
use Rattle.c_grammar.specs.Programs.{Vars, Clause, Optional, Statement, BeginsVars, BeginsClause, BeginsStatement, BeginsItems}
use Rattle.c_grammar.specs.Terminals.{lookahead, is_else, is_while, is_close_paren, is_close_brace, is_semicolon}
use Rattle.c_grammar.specs.Descent.{Reading, found, unexpected, and_then, expected}
use Rattle.c_grammar.specs.ProgramDescent as descent
use Rattle.c_grammar.specs.ProgramDescent.{does, under, items_within}
use Rattle.c_grammar.proofs.ProgramBasics.{vars_shorter, statement_shorter}
use Rattle.c_grammar.proofs.ExpressionFirstSets.{starting, starting_no_semicolon, starting_no_close}
use Rattle.c_grammar.proofs.ProgramFirstSets.{acting, acting_no_brace, acting_one, starting_act, statement_starts, vars_start}
use Rattle.c_grammar.proofs.ProgramComplete.{complete_vars, complete_tested, complete_optional, complete_clause, complete_clauses, complete_statement, does_under}
use Rattle.c_grammar.proofs.ExpressionConsumption.{Within, within_then, stays, expected_within}
use Rattle.c_grammar.proofs.ProgramConsumption.{tested_within, optional_within, clauses_within, before_within, some_items_within, otherwise_by_within, does_within}
use Rattle.c_grammar.proofs.ExpressionViable.{within_more, no_part, refused, goes_on}
use Rattle.c_grammar.proofs.DeclarationViable.{arrives, begins_stops, pass_value, pass_optional, pass_vars, vars_or, pass_clause}

-- ---- parts of statements

-- `( expression )`
pass_tested : {r : ℕ} {a b : Tokens} (p : Span) → Begins Expression r a b → Within b (descent.tested (suc r) ((kind.Punct mark.OpenParen, p) ∷ a))
pass_tested {r} p d = within_then (pass_value d) (λ t n c. within_then (expected_within is_close_paren (suc r) c) (λ e q x. stays))

-- `( clause condition ; step )`, as far as each part
pass_first : {r : ℕ} {a b : Tokens} (p : Span) → BeginsClause r a b → Within b (descent.clauses (suc r) ((kind.Punct mark.OpenParen, p) ∷ a))
pass_first {r} p d =
    within_then (pass_clause d) (λ i n c.
    within_then (optional_within is_semicolon n c) (λ t q x.
    within_then (expected_within is_semicolon q x)
    (λ e v y. within_then (optional_within is_close_paren v y) (λ u w z. within_then (expected_within is_close_paren (suc r) z) (λ f g h. stays)))))

pass_condition : {r : ℕ} {a b c : Tokens} {i : First} (p : Span) → Clause r a b i → Begins Expression r b c
    → Within c (descent.clauses (suc r) ((kind.Punct mark.OpenParen, p) ∷ a))
pass_condition {r} p x d =
    rw (complete_clause x)
    (within_then (pass_optional is_semicolon starting_no_semicolon d) (λ t q x.
    within_then (expected_within is_semicolon q x)
    (λ e v y. within_then (optional_within is_close_paren v y) (λ u w z. within_then (expected_within is_close_paren (suc r) z) (λ f g h. stays)))))

pass_step : {r : ℕ} {a b c d : Tokens} {e : Span} {i : First} {t : Option Tree} (p : Span) → Clause r a b i
    → Optional r b ((kind.Punct mark.Semicolon, e) ∷ c) t → Begins Expression r c d
    → Within d (descent.clauses (suc r) ((kind.Punct mark.OpenParen, p) ∷ a))
pass_step {r} {a} {b} {c} {d} {e} {i} {t} p x y f =
    let z : descent.optional is_semicolon r b ≡ found t r ((kind.Punct mark.Semicolon, e) ∷ c) =
    complete_optional is_semicolon starting_no_semicolon y refl (omega arith) in
    rw (complete_clause x, z)
    (within_then (pass_optional is_close_paren starting_no_close f) (λ u w z. within_then (expected_within is_close_paren (suc r) z) (λ f g h. stays)))

-- ---- a statement or an item at a token that begins none is nothing yet

no_act : (self : Tokens → Reading Code) (l : Terminal) (r : ℕ) (a : Tokens) → acting l ≡ false → descent.statement_by self l r a ≡ descent.act r a
no_act self terminal.Semicolon r a e = absurd (cc (e))
no_act self terminal.OpenBrace r a e = absurd (cc (e))
no_act self terminal.If r a e = absurd (cc (e))
no_act self terminal.While r a e = absurd (cc (e))
no_act self terminal.Do r a e = absurd (cc (e))
no_act self terminal.For r a e = absurd (cc (e))
no_act self terminal.Return r a e = absurd (cc (e))
no_act self terminal.Break r a e = absurd (cc (e))
no_act self terminal.Continue r a e = absurd (cc (e))
no_act self _ r a e = refl

acting_no_start : (l : Terminal) → acting l ≡ false → starting l ≡ false
acting_no_start terminal.Semicolon e = refl
acting_no_start terminal.OpenBrace e = refl
acting_no_start terminal.If e = refl
acting_no_start terminal.While e = refl
acting_no_start terminal.Do e = refl
acting_no_start terminal.For e = refl
acting_no_start terminal.Return e = refl
acting_no_start terminal.Break e = refl
acting_no_start terminal.Continue e = refl
acting_no_start _ e = e

no_statement : (r : ℕ) (a : Tokens) → acting (lookahead a) ≡ false → does r a ≡ unexpected a
no_statement r a e =
    does_under r a
    ∙ (no_act (under r) (lookahead a) r a e
    ∙ ap (λ z. and_then (and_then z (λ t m b. found t.0 r b)) (λ t m b. and_then (expected is_semicolon m b) (λ e n c. found (tree.act t (over (span_of t) e)) n c)))
    (no_part r Expression r a (acting_no_start (lookahead a) e)))

else_no_act : (l : Terminal) → is_else l ≡ true → acting l ≡ false
else_no_act terminal.Else e = refl
else_no_act _ e = absurd (cc (e))

-- no item begins with an `else`
else_no_item : (r q : ℕ) (a : Tokens) → is_else (lookahead a) ≡ true → items_within (does r) (suc q) r a ≡ unexpected a
unfolding items_within
else_no_item r q a e = item (lookahead a) refl e
  where
    item : (l : Terminal) → lookahead a ≡ l → is_else l ≡ true
        → descent.items_by (does r) (is_close_brace l) (items_within (does r) q) r a ≡ unexpected a
    item terminal.Else h e = ap (λ l. and_then (descent.item_by (does r) l r a) (λ x m b. descent.before x (items_within (does r) q r b))) h
        ∙ ap (λ z. and_then (and_then z (λ c m b. found (tree.next c tree.done) m b)) (λ x m b. descent.before x (items_within (does r) q r b)))
        (no_statement r a (ap acting h))
    item _ h e = absurd (cc (e))

-- ---- a whole statement is passed, also where an `else` goes on with it
weak : {o : Bool} {r : ℕ} {a b : Tokens} {x : Code} → Statement o r a b x → Within b (does r a)
unfolding does
weak Statement.empty = arrives (complete_statement Statement.empty (λ h. absurd (cc (h))))
weak (Statement.act d) = arrives (complete_statement (Statement.act d) (λ h. absurd (cc (h))))
weak (Statement.block {s = s} d) = arrives (complete_statement (Statement.block {s = s} d) (λ h. absurd (cc (h))))
weak (Statement.if_then {r = r} {s = s} {p = p} {t = t} d f) =
    rw (complete_tested p d)
    (within_then (weak f) (λ y q x. otherwise_by_within (does (suc r)) (does_within (suc r)) (suc (suc r)) (is_else (lookahead x)) s t y q x))
weak (Statement.if_else {p = p} d f g) = rw (complete_tested p d, complete_statement f (λ h. absurd (cc (h)))) (within_then (weak g) (λ y q x. stays))
weak (Statement.while {p = p} d f) = rw (complete_tested p d) (within_then (weak f) (λ y q x. stays))
weak (Statement.do_while {s = s} f d) = arrives (complete_statement (Statement.do_while {s = s} f d) (λ h. absurd (cc (h))))
weak (Statement.for {p = p} v x z g) = rw (complete_clauses p v x z) (within_then (weak g) (λ y q x. stays))
weak (Statement.give {s = s} d) = arrives (complete_statement (Statement.give {s = s} d) (λ h. absurd (cc (h))))
weak Statement.break = arrives (complete_statement Statement.break (λ h. absurd (cc (h))))
weak Statement.continue = arrives (complete_statement Statement.continue (λ h. absurd (cc (h))))

-- ---- the parts of a block

act_passes : {r : ℕ} {a b : Tokens} → Begins Expression r a b → (x : Bool) → starting (lookahead a) ≡ x → Within b (does r a)
act_passes {r} {a} {b} d false e = within_more (begins_stops d e) (does_within r a)
act_passes {r} {a} {b} d true e =
    subst (Within b) (sym (does_under r a ∙ starting_act (under r) (lookahead a) r a e))
    (within_then (pass_value d) (λ t m c. within_then (expected_within is_semicolon m c) (λ e n x. stays)))

vars_pass : {r : ℕ} {a b : Tokens} (q : ℕ) → BeginsVars r a b → ((a ≡ b) ⊎ ((ty : Ty) × (lookahead a ≡ terminal.Type ty)))
    → Within b (items_within (does r) (suc q) r a)
unfolding items_within
vars_pass {r} {a} {b} q d (inl e) = subst (λ b. Within b (items_within (does r) (suc q) r a)) e (some_items_within (does r) (does_within r) (suc q) r a)
vars_pass {r} {a} {b} q d (inr x) =
    let y : Within b (descent.item_by (does r) (lookahead a) r a) = rw x.1 (within_then (pass_vars d) (λ v m c. stays)) in
    subst (λ l. Within b (descent.items_by (does r) (is_close_brace l) (items_within (does r) q) r a)) (sym x.1)
    (within_then y (λ z m c. before_within z (items_within (does r) q r c) (some_items_within (does r) (does_within r) q r c)))

statement_passes : (q r : ℕ) (a b : Tokens) → Within b (does r a) → (x : Bool) → acting (lookahead a) ≡ x → Within b (items_within (does r) (suc q) r a)
unfolding items_within
statement_passes q r a b f false e = within_more (refused (does r a) (no_statement r a e) f) (some_items_within (does r) (does_within r) (suc q) r a)
statement_passes q r a b f true e =
    rw (acting_no_brace (lookahead a) e, acting_one (does r) (lookahead a) r a e)
    (within_then (within_then f (λ c m x. stays)) (λ z m c. before_within z (items_within (does r) q r c) (some_items_within (does r) (does_within r) q r c)))

vars_go_on : {r : ℕ} {a b c : Tokens} {ty : Ty} {vs : List Variable} (q : ℕ) → Vars r a b ty vs → Within c (items_within (does r) q r b)
    → Within c (items_within (does r) (suc q) r a)
unfolding items_within
vars_go_on {r} {a} {b} {c} {ty} {vs} q d f =
    let x : descent.item_by (does r) (lookahead a) r a ≡ found (tree.vars ty vs tree.done) r b =
    ap (λ l. descent.item_by (does r) l r a) (vars_start d) ∙ ap (λ z. and_then z (λ v m b. found (tree.vars v.0 v.1 tree.done) m b)) (complete_vars d) in
    subst (λ l. Within c (descent.items_by (does r) (is_close_brace l) (items_within (does r) q) r a)) (sym (vars_start d))
    (goes_on c (descent.item (does r) r a) (λ x m b. descent.before x (items_within (does r) q r b)) (tree.vars ty vs tree.done) r b x
    (before_within (tree.vars ty vs tree.done) (items_within (does r) q r b) f))

statement_goes_on : {o : Bool} {r : ℕ} {a b c : Tokens} {x : Code} (q : ℕ) → Statement o r a b x → (y : Bool) → is_else (lookahead b) ≡ y
    → Within c (items_within (does r) (suc q) r b)
    → Within c (items_within (does r) (suc (suc q)) r a)
unfolding items_within
statement_goes_on {o} {r} {a} {b} {c} {x} q d true e f =
    statement_passes (suc q) r a c (within_more (refused (items_within (does r) (suc q) r b) (else_no_item r q b e) f) (weak d)) true (statement_starts d)
statement_goes_on {o} {r} {a} {b} {c} {x} q d false e f =
    rw (acting_no_brace (lookahead a) (statement_starts d), acting_one (does r) (lookahead a) r a (statement_starts d), complete_statement d (λ h. e))
    (before_within (tree.next x tree.done) (items_within (does r) (suc q) r b) f)

-- ---- statements and blocks

mutual
  unfolding does

  pub pass_statement : {r : ℕ} {a b : Tokens} → BeginsStatement r a b → Within b (does r a)
  pass_statement (BeginsStatement.act {r} {a} {b} d) = act_passes d (starting (lookahead a)) refl
  pass_statement (BeginsStatement.block {r} {a} {b} d) =
      within_then (pass_items (suc (length a)) d (omega arith)) (λ z n c. within_then (expected_within is_close_brace (suc r) c) (λ e q x. stays))
  pass_statement (BeginsStatement.if_word {r} {a} {s}) =
      within_then (tested_within r a)
      (λ t n c. within_then (does_within r c) (λ y q x. otherwise_by_within (does r) (does_within r) (suc r) (is_else (lookahead x)) s t y q x))
  pass_statement (BeginsStatement.if_test {r} {a} {b} {s} {p} d) =
      within_then (pass_tested p d)
      (λ t n c.
      within_then (does_within (suc r) c) (λ y q x. otherwise_by_within (does (suc r)) (does_within (suc r)) (suc (suc r)) (is_else (lookahead x)) s t y q x))
  pass_statement (BeginsStatement.if_then {r = r} {s = s} {p = p} {t = t} d f) =
      rw (complete_tested p d)
      (within_then (pass_statement f) (λ y q x. otherwise_by_within (does (suc r)) (does_within (suc r)) (suc (suc r)) (is_else (lookahead x)) s t y q x))
  pass_statement (BeginsStatement.if_else {p = p} d f g) =
      rw (complete_tested p d, complete_statement f (λ h. absurd (cc (h)))) (within_then (pass_statement g) (λ y q x. stays))
  pass_statement (BeginsStatement.while_word {r} {a}) = within_then (tested_within r a) (λ t n c. within_then (does_within r c) (λ y q x. stays))
  pass_statement (BeginsStatement.while_test {r} {a} {b} {s} {p} d) =
      within_then (pass_tested p d) (λ t n c. within_then (does_within (suc r) c) (λ y q x. stays))
  pass_statement (BeginsStatement.while {p = p} d f) = rw (complete_tested p d) (within_then (pass_statement f) (λ y q x. stays))
  pass_statement (BeginsStatement.do_body {r} {a} {b} d) = within_then (pass_statement d) (λ y n c.
      within_then (expected_within is_while n c)
      (λ w q x. within_then (tested_within q x) (λ t v z. within_then (expected_within is_semicolon (suc r) z) (λ e i z. stays))))
  pass_statement (BeginsStatement.do_word {r = r} {b = b} {y = y} f) =
      rw (complete_statement f (λ h. refl)) (within_then (tested_within r b) (λ t v x. within_then (expected_within is_semicolon (suc r) x) (λ e i z. stays)))
  pass_statement (BeginsStatement.do_test {r = r} {p = p} f d) =
      rw (complete_statement f (λ h. refl))
      (within_then (pass_tested p d) (λ t v x. within_then (expected_within is_semicolon (suc (suc r)) x) (λ e i z. stays)))
  pass_statement (BeginsStatement.do_close {r = r} {c = c} {p = p} f d) =
      rw (complete_statement f (λ h. refl), complete_tested p d) (within_then (expected_within is_semicolon (suc (suc r)) c) (λ e i z. stays))
  pass_statement (BeginsStatement.for_word {r} {a}) = within_then (clauses_within r a) (λ h n c. within_then (does_within r c) (λ y q x. stays))
  pass_statement (BeginsStatement.for_first {r} {a} {b} {s} {p} d) =
      within_then (pass_first p d) (λ h n c. within_then (does_within (suc r) c) (λ y q x. stays))
  pass_statement (BeginsStatement.for_test {r = r} {p = p} x d) =
      within_then (pass_condition p x d) (λ h n c. within_then (does_within (suc r) c) (λ y q x. stays))
  pass_statement (BeginsStatement.for_step {r = r} {p = p} x y d) =
      within_then (pass_step p x y d) (λ h n c. within_then (does_within (suc r) c) (λ y q x. stays))
  pass_statement (BeginsStatement.for {p = p} x y z g) = rw (complete_clauses p x y z) (within_then (pass_statement g) (λ y q x. stays))
  pass_statement (BeginsStatement.give {r} {a} {b} {s} d) =
      subst (Within b) (sym (does_under r ((kind.Word key.Return, s) ∷ a)))
      (within_then (pass_optional is_semicolon starting_no_semicolon d) (λ t n c. within_then (expected_within is_semicolon n c) (λ e q x. stays)))
  pass_statement (BeginsStatement.break {r} {a} {s}) =
      subst (Within a) (sym (does_under r ((kind.Word key.Break, s) ∷ a))) (within_then (expected_within is_semicolon r a) (λ e n c. stays))
  pass_statement (BeginsStatement.continue {r} {a} {s}) =
      subst (Within a) (sym (does_under r ((kind.Word key.Continue, s) ∷ a))) (within_then (expected_within is_semicolon r a) (λ e n c. stays))
  pass_statement (BeginsStatement.end d) = weak d

  pub pass_items : {r : ℕ} {a b : Tokens} (q : ℕ) → BeginsItems r a b → length a < q → Within b (items_within (does r) q r a)
  pass_items zero d h = absurd (omega arith)
  pass_items (suc q) (BeginsItems.vars d) h = vars_pass q d (vars_or d)
  pass_items (suc q) (BeginsItems.statement {r} {a} {b} d) h = statement_passes q r a b (pass_statement d) (acting (lookahead a)) refl
  pass_items (suc q) (BeginsItems.more_vars d f) h = let w = vars_shorter d in vars_go_on q d (pass_items q f (omega arith))
  pass_items (suc zero) (BeginsItems.more_statement d f) h = absurd (let w = statement_shorter d in omega arith)
  pass_items (suc (suc q)) (BeginsItems.more_statement {b = b} d f) h =
      let w = statement_shorter d in statement_goes_on q d (is_else (lookahead b)) refl (pass_items (suc q) f (omega arith))
