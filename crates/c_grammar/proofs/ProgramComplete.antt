-- What is derived of declarations, statements and programs is read.
use Rattle.std.proofs.Common.{◌≡◌, ℕ, ℤ, zero, suc, ◌<◌, Bool, true, false, List, [], ◌∷◌, Option, Some, None, refl, ap, ◌∙◌, arith, length}
use Rattle.c_lex.specs.declared.token.TokenKind.TheVariants as kind
use Rattle.c_lex.specs.declared.token.Keyword.{Keyword}
use Rattle.c_lex.specs.declared.token.Keyword.TheVariants as key
use Rattle.c_lex.specs.declared.token.Punct.TheVariants as mark
use Rattle.c_tree.specs.declared.place.Span.{Span}
use Rattle.c_tree.specs.declared.program.Param.{Param}
use Rattle.c_tree.specs.declared.stmt.Ty.{Ty}
use Rattle.c_tree.specs.declared.stmt.Shape.TheVariants.{Scalar, Array}
use Rattle.c_tree.specs.Parts.{span_of, span_of_code}
use Rattle.c_tree.specs.Tree as tree
use Rattle.c_tree.specs.Tree.{Tree, Variable, First, Code, Body, Outer}
use Rattle.c_grammar.specs.declared.terminal.Terminal.{Terminal}
use Rattle.c_grammar.specs.declared.nonterminal.Nonterminal.{Nonterminal}
use Rattle.c_grammar.specs.declared.nonterminal.Nonterminal.TheVariants.{Expression, Assignment}
use Rattle.c_grammar.specs.Operators.{result_word}
use Rattle.c_grammar.specs.Grammar.{Tokens, over, Reads}
use Rattle.c_grammar.specs.Programs.{variable, parameter, function, Length, Elements, Declarator, Declarators, Vars, Clause, Optional, Statement, Items, Parameter, Parameters, Signature, External, Derives}
use Rattle.c_grammar.specs.Terminals.{lookahead, keyword_terminal, is_close_paren, is_open_bracket, is_close_brace, is_semicolon, is_else, is_while, is_assign, is_end, never, type_at}
use Rattle.c_grammar.specs.Descent.{Reading, found, and_then, expected, name, type_by, ahead, listed}
use Rattle.c_grammar.specs.ProgramDescent as descent
use Rattle.c_grammar.specs.ProgramDescent.{value, bracketed, elements, list_by, array, scalar_by, declared_by, declarator, declarators, vars, tested, optional_by, optional, first_act, clause_by, clause, clauses, act, append, before, one, item_by, item, items_by, items_within, otherwise_by, statement_by, statement, does, under, parameter_by, param, params_by, params, signature, result_by, body, ended_by, func, external_by, external, externals_by, externals, program}
use Rattle.c_grammar.proofs.Terminals.{terminal_type, terminal_result}
use Rattle.c_grammar.proofs.ProgramBasics.{declarator_shorter, vars_shorter, statement_shorter, parameter_shorter, external_shorter}
use Rattle.c_grammar.proofs.ExpressionBasics.{reads_shorter}
use Rattle.c_grammar.proofs.ExpressionFirstSets.{starting, starts, starting_no_brace, starting_no_semicolon, starting_no_close}
use Rattle.c_grammar.proofs.ProgramFirstSets.{no_bracket, no_assign, brace_loose, length_opens, elements_start, vars_start, vars_no_func, statement_starts, acting_no_brace, items_no_else, acting_one, starting_act, starting_first, parameters_start, close_params, result_func, derives_no_end}
use Rattle.c_grammar.proofs.Turns.{and_is, listed_last, listed_end, listed_more}
use Rattle.c_grammar.proofs.ExpressionComplete.{loose_at, reach, no_comma, complete}

-- an expression is read, and the room is what it was before
pub complete_value : {N : Nonterminal} {r m : ℕ} {a b : Tokens} {t : Tree} → Reads N r a m b t → reach N < loose_at b → value N r a ≡ found t r b
complete_value {N} {r} {m} {a} {b} {t} d l = let g = complete r d (omega arith) l in ap (λ z. and_then z (λ t m b. found t.0 r b)) g.1

-- ---- declarations

-- the brackets after an array's name are read
pub complete_length : {r : ℕ} {a b : Tokens} {n : Option ℤ} {e : Span} → Length r a b n e → bracketed r a ≡ found (n, e) r b
complete_length Length.bare = refl
complete_length Length.constant = refl

-- the elements of an initialiser list are read up to its `}`
pub complete_elements : {r : ℕ} {a b : Tokens} {ts : List Tree} (q : ℕ) → Elements r a b ts → length a < q → is_close_brace (lookahead b) ≡ true
    → listed is_close_brace (value Assignment r) q r a ≡ found ts r b
complete_elements zero d h e = absurd (omega arith)
complete_elements (suc q) (Elements.last {r} {m} {a} {b} {t} d) h e =
    let l = brace_loose (lookahead b) e in
    listed_last is_close_brace (value Assignment r) q r a b t (complete_value d (omega arith)) (no_comma (lookahead b) (omega arith))
complete_elements (suc q) (Elements.last_comma {r} {m} {a} {b} {t} {s} d) h e =
    listed_end is_close_brace (value Assignment r) q r a b t s (complete_value d (omega arith)) e
complete_elements (suc q) (Elements.more {r} {m} {a} {b} {c} {t} {ts} {s} d f) h e =
    let w = reads_shorter d in
    listed_more is_close_brace (value Assignment r) q r a b c t ts s (complete_value d (omega arith)) (starting_no_brace (lookahead b) (elements_start f))
    (complete_elements q f (omega arith) e)

-- a declared variable is read
pub complete_declarator : {r : ℕ} {a b : Tokens} {v : Variable} → Declarator r a b v → 13 < loose_at b → declarator r a ≡ found v r b
complete_declarator (Declarator.scalar {r} {a} {w} {s}) l =
    ap (λ x. declared_by x (w, s) r a) (no_bracket (lookahead a) l) ∙ ap (λ x. scalar_by x (w, s) r a) (no_assign (lookahead a) l)
complete_declarator (Declarator.scalar_start {r} {m} {a} {b} {w} {s} {o} {t} d) l =
    ap (λ z. and_then z (λ t q c. found (variable w s Scalar (tree.one_start t)) q c)) (complete_value d l)
complete_declarator (Declarator.array {r} {a} {b} {w} {s} {e} {n} d) l =
    ap (λ x. declared_by x (w, s) r a) (length_opens d)
    ∙ and_is (bracketed r a) (λ n m b. list_by (is_assign (lookahead b)) (w, s) n m b) (n, e) r b _ (complete_length d)
    (ap (λ x. list_by x (w, s) (n, e) r b) (no_assign (lookahead b) l))
complete_declarator (Declarator.array_list {r} {a} {b} {c} {w} {s} {e} {o} {p} {q} {n} {ts} d f) l =
    ap (λ x. declared_by x (w, s) (suc r) a) (length_opens d)
    ∙ and_is (bracketed (suc r) a) (λ n m b. list_by (is_assign (lookahead b)) (w, s) n m b) (n, e) (suc r)
    ((kind.Punct mark.Assign, o) ∷ (kind.Punct mark.OpenBrace, p) ∷ b) _ (complete_length d)
    (ap (λ z. and_then (and_then z (λ ts n c. and_then (expected is_close_brace (suc r) c) (λ e q d. found ts q d)))
    (λ ts q c. found (variable w (over s e) (Array n) (tree.list_start ts)) q c))
    (complete_elements (suc (length b)) f (omega arith) refl))

-- declared variables are read
pub declarators_within : {r : ℕ} {a b : Tokens} {vs : List Variable} (q : ℕ) → Declarators r a b vs → length a < q → 14 < loose_at b
    → listed never (declarator r) q r a ≡ found vs r b
declarators_within zero d h l = absurd (omega arith)
declarators_within (suc q) (Declarators.last {r} {a} {b} {v} d) h l =
    listed_last never (declarator r) q r a b v (complete_declarator d (omega arith)) (no_comma (lookahead b) l)
declarators_within (suc q) (Declarators.more {r} {a} {b} {c} {v} {vs} {s} d f) h l =
    let w = declarator_shorter d in
    listed_more never (declarator r) q r a b c v vs s (complete_declarator d (omega arith)) refl (declarators_within q f (omega arith) l)

pub complete_declarators : {r : ℕ} {a b : Tokens} {vs : List Variable} → Declarators r a b vs → 14 < loose_at b → declarators r a ≡ found vs r b
complete_declarators {r} {a} {b} {vs} d l = declarators_within (suc (length a)) d (omega arith) l

-- a declaration of variables is read
pub complete_vars : {r : ℕ} {a b : Tokens} {ty : Ty} {vs : List Variable} → Vars r a b ty vs → vars r a ≡ found (ty, vs) r b
complete_vars (Vars.vars {r} {a} {b} {k} {s} {e} {ty} {vs} h d) =
    ap (λ x. and_then (type_by (type_at x) r ((kind.Word k, s) ∷ a))
    (λ ty m b. and_then (declarators m b) (λ vs n c. and_then (expected is_semicolon n c) (λ e q d. found (ty, vs) q d)))) (terminal_type k ty h)
    ∙ ap (λ z. and_then z (λ vs n c. and_then (expected is_semicolon n c) (λ e q d. found (ty, vs) q d))) (complete_declarators d (omega arith))

-- ---- parts of statements

-- `( expression )` is read
pub complete_tested : {r m : ℕ} {a b : Tokens} {e : Span} {t : Tree} (p : Span) → Reads Expression r a m ((kind.Punct mark.CloseParen, e) ∷ b) t
    → tested (suc r) ((kind.Punct mark.OpenParen, p) ∷ a) ≡ found t (suc r) b
complete_tested {r} {m} {a} {b} {e} {t} p d =
    ap (λ z. and_then z (λ t n c. and_then (expected is_close_paren (suc r) c) (λ e q d. found t q d))) (complete_value d (omega arith))

-- an expression that may be absent is read, where a token comes after it that no expression begins with and none goes on with
pub complete_optional : {r : ℕ} {a b : Tokens} {t : Option Tree} (ends : Terminal → Bool) → ((l : Terminal) → starting l ≡ true → ends l ≡ false) → Optional r a b t
    → ends (lookahead b) ≡ true → 14 < loose_at b → optional ends r a ≡ found t r b
complete_optional ends g (Optional.absent {r} {a}) e l = ap (λ x. optional_by x r a) e
complete_optional ends g (Optional.present {r} {m} {a} {b} {t} d) e l =
    ap (λ x. optional_by x r a) (g (lookahead a) (starts d)) ∙ ap (λ z. and_then z (λ t m b. found (Some t) m b)) (complete_value d l)

-- the first clause of a `for` is read
pub complete_clause : {r : ℕ} {a b : Tokens} {i : First} → Clause r a b i → clause r a ≡ found i r b
complete_clause Clause.empty = refl
complete_clause (Clause.act {r} {m} {a} {b} {e} {t} d) =
    starting_first (lookahead a) r a (starts d)
    ∙ ap (λ z. and_then z (λ t m b. and_then (expected is_semicolon m b) (λ e n c. found (tree.first_act t) n c))) (complete_value d (omega arith))
complete_clause (Clause.vars {r} {a} {b} {ty} {vs} d) =
    ap (λ l. clause_by l r a) (vars_start d) ∙ ap (λ z. and_then z (λ v m b. found (tree.first_vars v.0 v.1) m b)) (complete_vars d)

-- the clauses of a `for` are read
pub complete_clauses : {r : ℕ} {a b c d : Tokens} {e q : Span} {i : First} {t u : Option Tree} (p : Span) → Clause r a b i
    → Optional r b ((kind.Punct mark.Semicolon, e) ∷ c) t
    → Optional r c ((kind.Punct mark.CloseParen, q) ∷ d) u → clauses (suc r) ((kind.Punct mark.OpenParen, p) ∷ a) ≡ found (i, t, u) (suc r) d
complete_clauses {r} {a} {b} {c} {d} {e} {q} {i} {t} {u} p x y z =
    and_is (clause r a)
    (λ i n c.
    and_then (optional is_semicolon n c) (λ t q d.
    and_then (expected is_semicolon q d)
    (λ e v x. and_then (optional is_close_paren v x) (λ u y z. and_then (expected is_close_paren (suc r) z) (λ f g h. found (i, t, u) g h))))) i r b _
    (complete_clause x)
    (and_is (optional is_semicolon r b)
    (λ t q d. and_then (expected is_semicolon q d)
    (λ e v x. and_then (optional is_close_paren v x) (λ u y z. and_then (expected is_close_paren (suc r) z) (λ f g h. found (i, t, u) g h)))) t r
    ((kind.Punct mark.Semicolon, e) ∷ c) _ (complete_optional is_semicolon starting_no_semicolon y refl (omega arith))
    (ap (λ x. and_then x (λ u y z. and_then (expected is_close_paren (suc r) z) (λ f g h. found (i, t, u) g h)))
    (complete_optional is_close_paren starting_no_close z refl (omega arith))))

-- ---- statements

-- a statement is read by the reader of statements that have one room less
pub does_under : (r : ℕ) (a : Tokens) → does r a ≡ statement (under r) r a
unfolding does
does_under zero a = refl
does_under (suc r) a = refl

-- where no `else` comes next, an `if` has none
pub else_stops : (self : Tokens → Reading Code) (r : ℕ) (s : Span) (t : Tree) (y : Code) (m : ℕ) (b : Tokens) → is_else (lookahead b) ≡ false
    → otherwise_by self r (is_else (lookahead b)) s t y m b ≡ found (tree.if_then t y (over s (span_of_code y))) r b
else_stops self r s t y m b e = ap (λ x. otherwise_by self r x s t y m b) e

mutual
  unfolding does items_within

  pub items_read : {r : ℕ} {a b : Tokens} {x : Body} (q : ℕ) → Items r a b x → length a < q → is_close_brace (lookahead b) ≡ true
      → items_within (does r) q r a ≡ found x r b
  items_read zero d h e = absurd (omega arith)
  items_read (suc q) (Items.none {r} {a}) h e = ap (λ x. items_by (does r) x (items_within (does r) q) r a) e
  items_read (suc q) (Items.vars {r} {a} {b} {c} {ty} {vs} {body = x} d f) h e =
      let w = vars_shorter d in
      ap (λ l. items_by (does r) (is_close_brace l) (items_within (does r) q) r a) (vars_start d)
      ∙ (ap (λ l. and_then (item_by (does r) l r a) (λ x m b. before x (items_within (does r) q r b))) (vars_start d)
      ∙ (ap (λ z. and_then (and_then z (λ v m b. found (tree.vars v.0 v.1 tree.done) m b)) (λ x m b. before x (items_within (does r) q r b)))
      (complete_vars d)
      ∙ ap (λ o. before (tree.vars ty vs tree.done) o) (items_read q f (omega arith) e)))
  items_read (suc q) (Items.statement {o} {r} {a} {b} {c} {x = y} {body = x} d f) h e =
      let w = statement_shorter d in
      ap (λ x. items_by (does r) x (items_within (does r) q) r a) (acting_no_brace (lookahead a) (statement_starts d))
      ∙ (ap (λ z. and_then z (λ x m b. before x (items_within (does r) q r b))) (acting_one (does r) (lookahead a) r a (statement_starts d))
      ∙ (ap (λ z. and_then (and_then z (λ c m b. found (tree.next c tree.done) m b)) (λ x m b. before x (items_within (does r) q r b)))
      (complete_statement d (λ _. items_no_else f e))
      ∙ ap (λ o. before (tree.next y tree.done) o) (items_read q f (omega arith) e)))

  -- a statement is read, unless an `else` comes next that would belong to it
  pub complete_statement : {o : Bool} {r : ℕ} {a b : Tokens} {x : Code} → Statement o r a b x → (o ≡ true → is_else (lookahead b) ≡ false)
      → does r a ≡ found x r b
  complete_statement (Statement.empty {r} {a} {s}) l = does_under r ((kind.Punct mark.Semicolon, s) ∷ a)
  complete_statement (Statement.act {r} {m} {a} {b} {e} {t} d) l =
      does_under r a
      ∙ (starting_act (under r) (lookahead a) r a (starts d)
      ∙ ap (λ z. and_then z (λ t m b. and_then (expected is_semicolon m b) (λ e n c. found (tree.act t (over (span_of t) e)) n c)))
      (complete_value d (omega arith)))
  complete_statement (Statement.block {r} {a} {b} {s} {e} {body = x} d) l =
      ap (λ z. and_then z (λ x n c. and_then (expected is_close_brace (suc r) c) (λ e q d. found (tree.block x (over s e)) q d)))
      (items_read (suc (length a)) d (omega arith) refl)
  complete_statement (Statement.if_then {o} {r} {m} {a} {b} {c} {s} {p} {e} {t} {y} d f) l =
      and_is (tested (suc r) ((kind.Punct mark.OpenParen, p) ∷ a))
      (λ t n c. and_then (does (suc r) c) (λ y q d. otherwise_by (does (suc r)) (suc (suc r)) (is_else (lookahead d)) s t y q d)) t (suc r) b _
      (complete_tested p d)
      (and_is (does (suc r) b) (λ y q d. otherwise_by (does (suc r)) (suc (suc r)) (is_else (lookahead d)) s t y q d) y (suc r) c _
      (complete_statement f (λ _. l refl))
      (else_stops (does (suc r)) (suc (suc r)) s t y (suc r) c (l refl)))
  complete_statement (Statement.if_else {o} {r} {m} {a} {b} {c} {d} {s} {p} {e} {q} {t} {y} {z} x f g) l =
      and_is (tested (suc r) ((kind.Punct mark.OpenParen, p) ∷ a))
      (λ t n c. and_then (does (suc r) c) (λ y q d. otherwise_by (does (suc r)) (suc (suc r)) (is_else (lookahead d)) s t y q d)) t (suc r) b _
      (complete_tested p x)
      (and_is (does (suc r) b) (λ y q d. otherwise_by (does (suc r)) (suc (suc r)) (is_else (lookahead d)) s t y q d) y (suc r) ((kind.Word key.Else, q) ∷ c) _
      (complete_statement f (λ h. absurd (cc (h))))
      (ap (λ v. and_then v (λ z q d. found (tree.if_else t y z (over s (span_of_code z))) (suc (suc r)) d)) (complete_statement g l)))
  complete_statement (Statement.while {o} {r} {m} {a} {b} {c} {s} {p} {e} {t} {y} d f) l =
      and_is (tested (suc r) ((kind.Punct mark.OpenParen, p) ∷ a))
      (λ t n c. and_then (does (suc r) c) (λ y q d. found (tree.while t y (over s (span_of_code y))) (suc (suc r)) d)) t (suc r) b _ (complete_tested p d)
      (ap (λ v. and_then v (λ y q d. found (tree.while t y (over s (span_of_code y))) (suc (suc r)) d)) (complete_statement f l))
  complete_statement (Statement.do_while {o} {r} {m} {a} {b} {c} {s} {w} {p} {e} {q} {t} {y} f d) l =
      and_is (does (suc r) a)
      (λ y n c. and_then (expected is_while n c)
      (λ w q d. and_then (tested q d) (λ t v x. and_then (expected is_semicolon (suc (suc r)) x) (λ e i z. found (tree.do_while y t (over s e)) i z)))) y
      (suc r)
      ((kind.Word key.While, w) ∷ (kind.Punct mark.OpenParen, p) ∷ b) _ (complete_statement f (λ _. refl))
      (ap (λ x. and_then x (λ t v x. and_then (expected is_semicolon (suc (suc r)) x) (λ e i z. found (tree.do_while y t (over s e)) i z)))
      (complete_tested p d))
  complete_statement (Statement.for {o} {r} {a} {b} {c} {d} {f} {s} {p} {e} {q} {i} {t} {u} {y} v x z g) l =
      and_is (clauses (suc r) ((kind.Punct mark.OpenParen, p) ∷ a))
      (λ h n c. and_then (does (suc r) c) (λ y q d. found (tree.for h.0 h.1 h.2 y (over s (span_of_code y))) (suc (suc r)) d)) (i, t, u) (suc r) d _
      (complete_clauses p v x z)
      (ap (λ x. and_then x (λ y q d. found (tree.for i t u y (over s (span_of_code y))) (suc (suc r)) d)) (complete_statement g l))
  complete_statement (Statement.give {r} {a} {b} {s} {e} {t} d) l =
      does_under r ((kind.Word key.Return, s) ∷ a)
      ∙ ap (λ z. and_then z (λ t n c. and_then (expected is_semicolon n c) (λ e q d. found (tree.give t (over s e)) q d)))
      (complete_optional is_semicolon starting_no_semicolon d refl (omega arith))
  complete_statement (Statement.break {r} {a} {s} {e}) l = does_under r ((kind.Word key.Break, s) ∷ (kind.Punct mark.Semicolon, e) ∷ a)
  complete_statement (Statement.continue {r} {a} {s} {e}) l = does_under r ((kind.Word key.Continue, s) ∷ (kind.Punct mark.Semicolon, e) ∷ a)

-- the items of a block are read up to its `}`
pub complete_items : {r : ℕ} {a b : Tokens} {x : Body} → Items r a b x → is_close_brace (lookahead b) ≡ true → descent.items (does r) r a ≡ found x r b
complete_items {r} {a} {b} {x} d e = items_read (suc (length a)) d (omega arith) e

-- ---- programs

-- a parameter is read
pub complete_parameter : {r : ℕ} {a b : Tokens} {x : Param} → Parameter r a b x → 13 < loose_at b → param r a ≡ found x r b
complete_parameter (Parameter.scalar {r} {a} {k} {w} {o} {s} {ty} h) l =
    ap (λ x. and_then (type_by (type_at x) r ((kind.Word k, o) ∷ (kind.Name w, s) ∷ a))
    (λ ty m b. and_then (name m b) (λ w n c. parameter_by (is_open_bracket (lookahead c)) ty w n c))) (terminal_type k ty h)
    ∙ ap (λ x. parameter_by x ty (w, s) r a) (no_bracket (lookahead a) l)
complete_parameter (Parameter.array {r} {a} {b} {k} {w} {o} {s} {e} {ty} {n} h d) l =
    ap (λ x. and_then (type_by (type_at x) r ((kind.Word k, o) ∷ (kind.Name w, s) ∷ a))
    (λ ty m b. and_then (name m b) (λ w n c. parameter_by (is_open_bracket (lookahead c)) ty w n c))) (terminal_type k ty h)
    ∙ (ap (λ x. parameter_by x ty (w, s) r a) (length_opens d)
    ∙ ap (λ z. and_then z (λ n m b. found (parameter w (over s n.1) ty true) m b)) (complete_length d))

-- parameters are read
pub parameters_within : {r : ℕ} {a b : Tokens} {xs : List Param} (q : ℕ) → Parameters r a b xs → length a < q → 14 < loose_at b
    → listed never (param r) q r a ≡ found xs r b
parameters_within zero d h l = absurd (omega arith)
parameters_within (suc q) (Parameters.last {r} {a} {b} {x} d) h l =
    listed_last never (param r) q r a b x (complete_parameter d (omega arith)) (no_comma (lookahead b) l)
parameters_within (suc q) (Parameters.more {r} {a} {b} {c} {x} {xs} {s} d f) h l =
    let w = parameter_shorter d in
    listed_more never (param r) q r a b c x xs s (complete_parameter d (omega arith)) refl (parameters_within q f (omega arith) l)

pub complete_parameters : {r : ℕ} {a b : Tokens} {xs : List Param} → Parameters r a b xs → 14 < loose_at b → params r a ≡ found xs r b
complete_parameters {r} {a} {b} {xs} d l = ap (λ l. params_by l r a) (parameters_start d).1 ∙ parameters_within (suc (length a)) d (omega arith) l

-- what stands between a function's parentheses is read
pub complete_params : {r : ℕ} {a b : Tokens} {xs : List Param} → Signature r a b xs → is_close_paren (lookahead b) ≡ true → 14 < loose_at b
    → params r a ≡ found xs r b
complete_params (Signature.empty {r} {a}) e l = close_params (lookahead a) r a e
complete_params Signature.void e l = refl
complete_params (Signature.parameters d) e l = complete_parameters d l

pub complete_signature : {r : ℕ} {a b : Tokens} {e : Span} {xs : List Param} (p : Span) → Signature r a ((kind.Punct mark.CloseParen, e) ∷ b) xs
    → signature (suc r) ((kind.Punct mark.OpenParen, p) ∷ a) ≡ found xs (suc r) b
complete_signature {r} {a} {b} {e} {xs} p d =
    ap (λ z. and_then z (λ xs n c. and_then (expected is_close_paren (suc r) c) (λ e q d. found xs q d))) (complete_params d refl (omega arith))

-- a function is read, where what stands after its signature is
func_is : {r : ℕ} {a b : Tokens} {e : Span} {ret : Option Ty} {xs : List Param} (k : Keyword) (w : List ℕ) (o s p : Span) (x : Outer) (c : Tokens)
    → result_word k ≡ Some ret
    → Signature r a ((kind.Punct mark.CloseParen, e) ∷ b) xs → ended_by (is_semicolon (lookahead b)) ret (w, s) xs (suc r) b ≡ found x (suc r) c
    → external (suc r) ((kind.Word k, o) ∷ (kind.Name w, s) ∷ (kind.Punct mark.OpenParen, p) ∷ a) ≡ found x (suc r) c
func_is {r} {a} {b} {e} {ret} {xs} k w o s p x c h d f =
    ap (λ x. external_by x (suc r) ((kind.Word k, o) ∷ (kind.Name w, s) ∷ (kind.Punct mark.OpenParen, p) ∷ a))
    (result_func (keyword_terminal k) ret ((kind.Word k, o) ∷ (kind.Name w, s) ∷ (kind.Punct mark.OpenParen, p) ∷ a) (terminal_result k ret h) refl)
    ∙ (ap (λ x. and_then (result_by x (suc r) ((kind.Word k, o) ∷ (kind.Name w, s) ∷ (kind.Punct mark.OpenParen, p) ∷ a)) (λ ret m b.
    and_then (name m b) (λ w n c. and_then (signature n c) (λ xs q d. ended_by (is_semicolon (lookahead d)) ret w xs q d)))) (terminal_result k ret h)
    ∙ and_is (signature (suc r) ((kind.Punct mark.OpenParen, p) ∷ a)) (λ xs q d. ended_by (is_semicolon (lookahead d)) ret (w, s) xs q d) xs (suc r) b _
    (complete_signature p d) f)

-- what stands at file scope is read
pub complete_external : {r : ℕ} {a b : Tokens} {x : Outer} → External r a b x → external r a ≡ found x r b
complete_external (External.vars {r} {a} {b} {ty} {vs} d) =
    ap (λ x. external_by x r a) (vars_no_func d) ∙ ap (λ z. and_then z (λ v m b. found (tree.outer_vars v.0 v.1) m b)) (complete_vars d)
complete_external (External.prototype {r} {a} {b} {k} {w} {o} {s} {p} {e} {q} {ret} {xs} h d) =
    func_is k w o s p (function w (over s q) ret xs None) b h d refl
complete_external (External.definition {r} {a} {b} {c} {k} {w} {o} {s} {p} {e} {q} {z} {ret} {xs} {body = x} h d f) =
    func_is k w o s p (function w (over s z) ret xs (Some x)) c h d
    (ap (λ v. and_then {A = Body × Span} (and_then v (λ x n c. and_then (expected is_close_brace (suc r) c) (λ e q d. found (x, e) q d)))
    (λ x m b. found (function w (over s x.1) ret xs (Some x.0)) m b)) (complete_items f refl))

pub externals_within : {r : ℕ} {a : Tokens} {p : List Outer} (q : ℕ) → Derives r a p → length a < q → externals q r a ≡ found p r []
unfolding externals
externals_within zero d h = absurd (omega arith)
externals_within (suc q) (Derives.last {r} {a} {x} d) h =
    ap (λ z. and_then z (λ x m b. externals_by (is_end (lookahead b)) (externals q) x m b)) (complete_external d)
externals_within (suc q) (Derives.more {r} {a} {b} {x} {p} d f) h =
    let w = external_shorter d in
    and_is (external r a) (λ x m b. externals_by (is_end (lookahead b)) (externals q) x m b) x r b _ (complete_external d)
    (ap (λ y. externals_by y (externals q) x r b) (derives_no_end f) ∙ ap (λ o. ahead (x ∷ []) o) (externals_within q f (omega arith)))

-- a program is read
pub complete_program : {r : ℕ} {a : Tokens} {p : List Outer} → Derives r a p → program r a ≡ found p r []
complete_program {r} {a} {p} d = externals_within (suc (length a)) d (omega arith)

-- a program is read, with some room after it
pub program_complete : {r : ℕ} {a : Tokens} {p : List Outer} → Derives r a p → (m : ℕ) × (program r a ≡ found p m [])
program_complete {r} {a} {p} d = (r, complete_program d)
