-- What is derived is read, where what follows doesn't go on with it.
use Rattle.std.proofs.Common.{◌≡◌, ℕ, ℤ, zero, suc, ◌≤◌, ◌<◌, Bool, true, false, List, [], ◌∷◌, Option, Some, None, refl, ap, ◌∙◌, arith, length, if◌then◌else◌, ◌==◌}
use Rattle.std.proofs.lemmas.Bool.Decides.{nat_tests}
use Rattle.c_lex.specs.declared.token.TokenKind.TheVariants as kind
use Rattle.c_lex.specs.declared.token.Keyword.{Keyword}
use Rattle.c_lex.specs.declared.token.Punct.{Punct}
use Rattle.c_lex.specs.declared.token.Punct.TheVariants as mark
use Rattle.c_tree.specs.declared.expr.BinOp.{BinOp}
use Rattle.c_tree.specs.declared.expr.UnOp.{UnOp}
use Rattle.c_tree.specs.declared.place.Span.{Span}
use Rattle.c_tree.specs.declared.stmt.Slot.TheVariants.{Unset}
use Rattle.c_tree.specs.declared.stmt.Ty.{Ty}
use Rattle.c_tree.specs.Parts.{span_of}
use Rattle.c_tree.specs.Tree as tree
use Rattle.c_tree.specs.Tree.{Tree}
use Rattle.c_grammar.specs.declared.terminal.Terminal.{Terminal}
use Rattle.c_grammar.specs.declared.terminal.Terminal.TheVariants as terminal
use Rattle.c_grammar.specs.declared.nonterminal.Nonterminal.{Nonterminal}
use Rattle.c_grammar.specs.declared.nonterminal.Nonterminal.TheVariants.{Expression, Assignment, Conditional, Binary, Cast, Unary, Postfix, Primary}
use Rattle.c_grammar.specs.Operators.{binary_operator, rank, weakest, prefix_operator, bump_operator, assignment_operator, type_word}
use Rattle.c_grammar.specs.Grammar as given
use Rattle.c_grammar.specs.Grammar.{Tokens, over, wrapped, prefixed, joined, chosen, assigned, followed, Given, args, Reads, Argument, Arguments}
use Rattle.c_grammar.specs.Terminals.{lookahead, punct_terminal, keyword_terminal, is_comma, is_close_paren, is_close_bracket, is_question, is_colon, type_at, is_type, bump_at, assignment_at, operator_at}
use Rattle.c_grammar.specs.Descent as descent
use Rattle.c_grammar.specs.Descent.{Reading, found, Reader, and_then, opened, expected, type_by, listed, Read, argument, argument_by, arguments_by, named_by, primary, bumped_by, bumped, postfix, unary, unary_by, prefix_by, cast, cast_by, operated, operators, choose_by, choose, conditional, assign_by, placed, comma_by, commas, expression, assignment, run}
use Rattle.c_grammar.proofs.Terminals.{terminal_binary, terminal_bump, terminal_assignment, terminal_prefix, terminal_prefix_no_bump, terminal_type}
use Rattle.c_grammar.proofs.ExpressionBasics.{room, argument_shorter}
use Rattle.c_grammar.proofs.ExpressionFirstSets.{starts, starting_value, arguments_no_close, not_cast, unary_postfix}
use Rattle.c_grammar.proofs.Turns.{and_is, listed_last, listed_more}

-- how loosely a token goes on with what stands before it
abbrev pub loose : Terminal → ℕ
loose terminal.OpenParen = 0
loose terminal.OpenBracket = 0
loose (terminal.Bump up) = 1
loose (terminal.Binary f) = suc (rank f)
loose terminal.Question = 12
loose (terminal.Assign f) = 13
loose terminal.Comma = 14
loose _ = 15

-- how loosely the next token goes on with what stands before it
abbrev pub loose_at : Tokens → ℕ
loose_at a = loose (lookahead a)

-- the loosest token that goes on with a part
abbrev pub reach : Nonterminal → ℕ
reach Expression = 14
reach Assignment = 13
reach Conditional = 12
reach (Binary j) = suc j
reach Cast = 1
reach Unary = 1
reach Postfix = 1
reach Primary = 0

-- ---- where nothing goes on, the descent stops

pub operator_stops : (j : ℕ) (l : Terminal) → suc j < loose l → operator_at j l ≡ None
operator_stops j (terminal.Binary f) h = let q : (rank f == j) ≡ false = grind (arith, nat_tests) in ap (λ (x : Bool). if x then Some f else None) q
operator_stops j _ h = refl

operator_goes : (j : ℕ) (p : Punct) (f : BinOp) → binary_operator p ≡ Some f → rank f ≡ j → operator_at j (punct_terminal p) ≡ Some f
operator_goes j p f e h =
    let q : (rank f == j) ≡ true = grind (arith, nat_tests) in
    ap (operator_at j) (terminal_binary p f e) ∙ ap (λ (x : Bool). if x then Some f else None) q

module _ (self : Nonterminal → Reader Read) where
  pub named_stops : (l : Terminal) (w : List ℕ) (s : Span) (m : ℕ) (b : Tokens) → 0 < loose l → named_by self l w s m b ≡ found (tree.name w Unset s, true) m b
  named_stops terminal.OpenParen w s m b h = absurd (omega arith)
  named_stops terminal.OpenBracket w s m b h = absurd (omega arith)
  named_stops _ w s m b h = refl

  pub bumped_stops : (l : Terminal) (t : Read) (m : ℕ) (b : Tokens) → 1 < loose l → bumped_by self (bump_at l) t m b ≡ found t m b
  bumped_stops (terminal.Bump up) t m b h = absurd (omega arith)
  bumped_stops _ t m b h = refl

  pub choose_stops : (l : Terminal) (t : Read) (m : ℕ) (b : Tokens) → 12 < loose l → choose_by self (is_question l) t m b ≡ found t m b
  choose_stops terminal.Question t m b h = absurd (omega arith)
  choose_stops _ t m b h = refl

  pub assign_stops : (l : Terminal) (t : Read) (m : ℕ) (b : Tokens) → 13 < loose l → assign_by self (assignment_at l) t m b ≡ found t m b
  assign_stops (terminal.Assign f) t m b h = absurd (omega arith)
  assign_stops _ t m b h = refl

  pub placed_stops : (t : Tree) (u : Bool) (m : ℕ) (b : Tokens) → 13 < loose_at b → placed self (t, u) m b ≡ found (t, u) m b
  placed_stops t true m b h = assign_stops (lookahead b) (t, true) m b h
  placed_stops t false m b h = refl

  pub comma_stops : (l : Terminal) (on : Read → Reader Read) (t : Read) (m : ℕ) (b : Tokens) → 14 < loose l → comma_by self (is_comma l) on t m b ≡ found t m b
  comma_stops terminal.Comma on t m b h = absurd (omega arith)
  comma_stops _ on t m b h = refl

  -- the operators of a rank, where what follows is looser
  pub operators_over : (q j : ℕ) (t : Read) (m : ℕ) (b : Tokens) → m < q → suc (suc j) < loose_at b → operators self q j t m b ≡ found t m b
  operators_over zero j t m b h l = absurd (omega arith)
  operators_over (suc q) j t m b h l = ap (λ x. operated self j (operators self q j) x t m b) (operator_stops (suc j) (lookahead b) l)

  pub commas_over : (q : ℕ) (t : Read) (m : ℕ) (b : Tokens) → m < q → 14 < loose_at b → commas self q t m b ≡ found t m b
  commas_over zero t m b h l = absurd (omega arith)
  commas_over (suc q) t m b h l = comma_stops (lookahead b) (commas self q) t m b l

  -- what an operand is, the looser parts are, where no operator follows
  pub up_binary : (n j r : ℕ) (a : Tokens) (t : Read) (m : ℕ) (b : Tokens) → m ≤ n → suc j < loose_at b → cast self r a ≡ found t m b
      → descent.binary self (suc n) j r a ≡ found t m b
  up_binary n zero r a t m b h l e = e
  up_binary n (suc j) r a t m b h l e =
      and_is (descent.binary self (suc n) j r a) (operators self (suc n) j) t m b _ (up_binary n j r a t m b h (omega arith) e)
      (operators_over (suc n) j t m b (omega arith) l)

-- no comma comes where what comes is looser
pub no_comma : (l : Terminal) → 14 < loose l → is_comma l ≡ false
no_comma terminal.Comma h = absurd (omega arith)
no_comma _ h = refl

-- ---- what the induction says

-- a reading finds that tree
abbrev pub ReadsTree : Reading Read → Tree → ℕ → Tokens → Type 0
ReadsTree o t m b = (u : Bool) × (o ≡ found (t, u) m b)

-- What the descent comes to at a part, by its kind. Where operators or commas may follow that belong to the part, it comes to what
-- reads them.
abbrev pub Goal : Nonterminal → ℕ → ℕ → Tokens → ℕ → Tokens → Tree → Type 0
Goal Primary n r a m b t = 0 < loose_at b → primary (run n) r a ≡ found (t, true) m b
Goal Postfix n r a m b t = 1 < loose_at b → postfix (run n) r a ≡ found (t, true) m b
Goal Unary n r a m b t = 1 < loose_at b → unary (run n) r a ≡ found (t, true) m b
Goal Cast n r a m b t = 1 < loose_at b → ReadsTree (cast (run n) r a) t m b
Goal (Binary zero) n r a m b t = 1 < loose_at b → ReadsTree (cast (run n) r a) t m b
Goal (Binary (suc j)) n r a m b t =
    suc j < loose_at b → (u : Bool) × (q : ℕ) × (m < q) × (descent.binary (run n) (suc n) (suc j) r a ≡ operators (run n) q j (t, u) m b)
Goal Conditional n r a m b t = 12 < loose_at b → ReadsTree (conditional (run n) (suc n) r a) t m b
Goal Assignment n r a m b t = 13 < loose_at b → ReadsTree (assignment (run n) (suc n) r a) t m b
Goal Expression n r a m b t = 13 < loose_at b → (u : Bool) × (q : ℕ) × (m < q) × (expression (run n) (suc n) r a ≡ commas (run n) q (t, u) m b)

-- a part is read
pub record Complete (N : Nonterminal) (r : ℕ) (a : Tokens) (m : ℕ) (b : Tokens) (t : Tree) : Type 0 where
  pub goal : (n : ℕ) → r ≤ n → Goal N n r a m b t

-- an argument is read
pub record CompleteArgument (r : ℕ) (a b : Tokens) (g : Given) : Type 0 where
  pub goal : (n : ℕ) → r ≤ n → 13 < loose_at b → argument (run (suc n)) r a ≡ found g r b

-- arguments are read
pub record CompleteArguments (r : ℕ) (a b : Tokens) (gs : List Given) : Type 0 where
  pub goal : (n q : ℕ) → r ≤ n → length a < q → 14 < loose_at b → listed (λ l. false) (argument (run (suc n)) r) q r a ≡ found gs r b

pub at_suc : (P : ℕ → Type 0) (n r : ℕ) → suc r ≤ n → ((i : ℕ) → r ≤ i → P (suc i)) → P n
at_suc P zero r h f = absurd (omega arith)
at_suc P (suc n) r h f = f n (omega arith)

closed_binary : (j n r : ℕ) (a : Tokens) (m : ℕ) (b : Tokens) (t : Tree) → Goal (Binary j) n r a m b t → suc j < loose_at b
    → ReadsTree (descent.binary (run n) (suc n) j r a) t m b
closed_binary zero n r a m b t g l = g l
closed_binary (suc j) n r a m b t g l = let x = g (omega arith) in (x.0, x.3 ∙ operators_over (run n) x.1 j (t, x.0) m b x.2 l)

closed_expression : (n r : ℕ) (a : Tokens) (m : ℕ) (b : Tokens) (t : Tree) → Goal Expression n r a m b t → 14 < loose_at b
    → ReadsTree (expression (run n) (suc n) r a) t m b
closed_expression n r a m b t g l = let x = g (omega arith) in (x.0, x.3 ∙ commas_over (run n) x.1 (t, x.0) m b x.2 l)

-- the whole part is found, where what follows doesn't go on with it
pub closed : (N : Nonterminal) (n r : ℕ) (a : Tokens) (m : ℕ) (b : Tokens) (t : Tree) → Goal N n r a m b t → reach N < loose_at b → ReadsTree (run (suc n) N r a) t m b
unfolding run
closed Expression n r a m b t g l = closed_expression n r a m b t g l
closed Assignment n r a m b t g l = g l
closed Conditional n r a m b t g l = g l
closed (Binary j) n r a m b t g l = closed_binary j n r a m b t g l
closed Cast n r a m b t g l = g l
closed Unary n r a m b t g l = (true, g l)
closed Postfix n r a m b t g l = (true, g l)
closed Primary n r a m b t g l = (true, g l)

-- ---- one lemma for each production

c_constant : {r : ℕ} {a : Tokens} {i : ℤ} {w : List ℕ} {s : Span} → Complete Primary r ((kind.Const i w, s) ∷ a) r a (tree.constant i w s)
c_constant = record { goal = λ n h l. refl }

c_name : {r : ℕ} {a : Tokens} {w : List ℕ} {s : Span} → Complete Primary r ((kind.Name w, s) ∷ a) r a (tree.name w Unset s)
c_name {r} {a} {w} {s} = record { goal = λ n h l. named_stops (run n) (lookahead a) w s r a l }

c_index : {r m : ℕ} {a b : Tokens} {w : List ℕ} {s o e : Span} {t : Tree} → Complete Expression r a m ((kind.Punct mark.CloseBracket, e) ∷ b) t
    → Complete Primary (suc r) ((kind.Name w, s) ∷ (kind.Punct mark.OpenBracket, o) ∷ a) (suc r) b (tree.index w Unset t (over s e))
c_index {r} {m} {a} {b} {w} {s} {o} {e} {t} f = record {
  goal = λ n h. at_suc
      (λ n. Goal Primary n (suc r) ((kind.Name w, s) ∷ (kind.Punct mark.OpenBracket, o) ∷ a) (suc r) b (tree.index w Unset t (over s e))) n r h (λ n h l.
      let g = closed Expression n r a m ((kind.Punct mark.CloseBracket, e) ∷ b) t (f.goal n h) (omega arith) in
      ap (λ z. and_then z (λ t n c. and_then (expected is_close_bracket (suc r) c) (λ e q d. found (tree.index w Unset t.0 (over s e), true) q d))) g.1);
}

c_call_bare : {r : ℕ} {a : Tokens} {w : List ℕ} {s o e : Span}
    → Complete Primary (suc r) ((kind.Name w, s) ∷ (kind.Punct mark.OpenParen, o) ∷ (kind.Punct mark.CloseParen, e) ∷ a) (suc r) a
    (tree.call w tree.no_args (over s e))
c_call_bare = record { goal = λ n h l. refl }

c_call : {r : ℕ} {a b : Tokens} {w : List ℕ} {s o e : Span} {gs : List Given} → Arguments r a ((kind.Punct mark.CloseParen, e) ∷ b) gs
    → CompleteArguments r a ((kind.Punct mark.CloseParen, e) ∷ b) gs
    → Complete Primary (suc r) ((kind.Name w, s) ∷ (kind.Punct mark.OpenParen, o) ∷ a) (suc r) b (tree.call w (args gs) (over s e))
c_call {r} {a} {b} {w} {s} {o} {e} {gs} d f = record {
  goal = λ n h. at_suc
      (λ n. Goal Primary n (suc r) ((kind.Name w, s) ∷ (kind.Punct mark.OpenParen, o) ∷ a) (suc r) b (tree.call w (args gs) (over s e))) n r h (λ n h l.
      ap (λ z. and_then z (λ gs n c. and_then (expected is_close_paren (suc r) c) (λ e q d. found (tree.call w (args gs) (over s e), true) q d)))
      (ap (λ x. arguments_by (run (suc n)) x r a) (arguments_no_close d) ∙ f.goal n (suc (length a)) h (omega arith) (omega arith)));
}

c_paren : {r m : ℕ} {a b : Tokens} {o e : Span} {t : Tree} → Complete Expression r a m ((kind.Punct mark.CloseParen, e) ∷ b) t
    → Complete Primary (suc r) ((kind.Punct mark.OpenParen, o) ∷ a) (suc r) b (wrapped (over o e) t)
c_paren {r} {m} {a} {b} {o} {e} {t} f = record {
  goal = λ n h. at_suc (λ n. Goal Primary n (suc r) ((kind.Punct mark.OpenParen, o) ∷ a) (suc r) b (wrapped (over o e) t)) n r h (λ n h l.
      let g = closed Expression n r a m ((kind.Punct mark.CloseParen, e) ∷ b) t (f.goal n h) (omega arith) in
      ap (λ z. and_then z (λ t n c. and_then (expected is_close_paren (suc r) c) (λ e q d. found (wrapped (over o e) t.0, true) q d))) g.1);
}

c_postfix : {r m : ℕ} {a b : Tokens} {t : Tree} → Complete Primary r a m b t → Complete Postfix r a m b t
c_postfix {r} {m} {a} {b} {t} f = record {
  goal = λ n h l. and_is (primary (run n) r a) (bumped (run n)) (t, true) m b _ (f.goal n h (omega arith)) (bumped_stops (run n) (lookahead b) (t, true) m b l);
}

c_bump_after : {r m : ℕ} {a b : Tokens} {t : Tree} {p : Punct} {s : Span} {up : Bool} → bump_operator p ≡ Some up
    → Complete Primary r a m ((kind.Punct p, s) ∷ b) t
    → Complete Postfix r a m b (tree.bump false up t (over (span_of t) s))
c_bump_after {r} {m} {a} {b} {t} {p} {s} {up} e f = record {
  goal = λ n h l.
      let x = terminal_bump p up e in
      let y : loose (punct_terminal p) ≡ 1 = ap loose x in
      and_is (primary (run n) r a) (bumped (run n)) (t, true) m ((kind.Punct p, s) ∷ b) _ (f.goal n h (omega arith))
      (ap (λ l. bumped_by (run n) (bump_at l) (t, true) m ((kind.Punct p, s) ∷ b)) x);
}

c_unary : {r m : ℕ} {a b : Tokens} {t : Tree} → Reads Postfix r a m b t → Complete Postfix r a m b t → Complete Unary r a m b t
c_unary d f = record { goal = λ n h l. unary_postfix (run n) d ∙ f.goal n h l }

c_bump_before : {r m : ℕ} {a b : Tokens} {t : Tree} {p : Punct} {s : Span} {up : Bool} → bump_operator p ≡ Some up → Complete Unary r a m b t
    → Complete Unary (suc r) ((kind.Punct p, s) ∷ a) m b (tree.bump true up t (over s (span_of t)))
c_bump_before {r} {m} {a} {b} {t} {p} {s} {up} e f = record {
  goal = λ n h. at_suc (λ n. Goal Unary n (suc r) ((kind.Punct p, s) ∷ a) m b (tree.bump true up t (over s (span_of t)))) n r h (λ n h l.
      let g = closed Unary n r a m b t (f.goal n h) l in
      ap (λ l. unary_by (run (suc n)) (bump_at l) (suc r) ((kind.Punct p, s) ∷ a)) (terminal_bump p up e)
      ∙ ap (λ z. and_then z (λ t n c. found (tree.bump true up t.0 (over s (span_of t.0)), true) n c)) g.1);
}

c_prefix : {r m : ℕ} {a b : Tokens} {t : Tree} {p : Punct} {s : Span} {f : UnOp} → prefix_operator p ≡ Some f → Complete Cast r a m b t
    → Complete Unary (suc r) ((kind.Punct p, s) ∷ a) m b (prefixed f s t)
c_prefix {r} {m} {a} {b} {t} {p} {s} {f} e x = record {
  goal = λ n h. at_suc (λ n. Goal Unary n (suc r) ((kind.Punct p, s) ∷ a) m b (prefixed f s t)) n r h (λ n h l.
      let g = closed Cast n r a m b t (x.goal n h) l in
      ap (λ x. unary_by (run (suc n)) x (suc r) ((kind.Punct p, s) ∷ a)) (terminal_prefix_no_bump p f e)
      ∙ (ap (λ x. prefix_by (run (suc n)) x (suc r) ((kind.Punct p, s) ∷ a)) (terminal_prefix p f e)
      ∙ ap (λ z. and_then z (λ t n c. found (prefixed f s t.0, true) n c)) g.1));
}

c_cast : {r m : ℕ} {a b : Tokens} {t : Tree} → Reads Unary r a m b t → Complete Unary r a m b t → Complete Cast r a m b t
c_cast {r} {m} {a} {b} {t} d f = record { goal = λ n h l. (true, ap (λ x. cast_by (run n) x r a) (not_cast d) ∙ f.goal n h l) }

c_cast_to : {r m : ℕ} {a b : Tokens} {t : Tree} {k : Keyword} {o s e : Span} {ty : Ty} → type_word k ≡ Some ty → Complete Cast r a m b t
    → Complete Cast (suc r) ((kind.Punct mark.OpenParen, o) ∷ (kind.Word k, s) ∷ (kind.Punct mark.CloseParen, e) ∷ a) m b
    (tree.cast ty t (over o (span_of t)))
c_cast_to {r} {m} {a} {b} {t} {k} {o} {s} {e} {ty} h f = record {
  goal = λ n i. at_suc
      (λ n. Goal Cast n (suc r) ((kind.Punct mark.OpenParen, o) ∷ (kind.Word k, s) ∷ (kind.Punct mark.CloseParen, e) ∷ a) m b
      (tree.cast ty t (over o (span_of t)))) n r i (λ n i l.
      let g = closed Cast n r a m b t (f.goal n i) l in
      let x : type_at (keyword_terminal k) ≡ Some ty = ap type_at (terminal_type k ty h) in (
        false,
        ap (λ x. cast_by (run (suc n)) (is_type x) (suc r) ((kind.Punct mark.OpenParen, o) ∷ (kind.Word k, s) ∷ (kind.Punct mark.CloseParen, e) ∷ a)) x
            ∙ (ap (λ x. and_then (type_by x r ((kind.Word k, s) ∷ (kind.Punct mark.CloseParen, e) ∷ a)) (λ ty y c.
            and_then (expected is_close_paren y c)
            (λ e q d. and_then (run (suc n) Cast q d) (λ t v x. found (tree.cast ty t.0 (over o (span_of t.0)), false) v x)))) x
            ∙ ap (λ z. and_then z (λ t v x. found (tree.cast ty t.0 (over o (span_of t.0)), false) v x)) g.1),
      ));
}

c_operand : {r m : ℕ} {a b : Tokens} {t : Tree} → Complete Cast r a m b t → Complete (Binary 0) r a m b t
c_operand f = record { goal = λ n h l. f.goal n h l }

c_weaker : {r m j : ℕ} {a b : Tokens} {t : Tree} → m ≤ r → Complete (Binary j) r a m b t → Complete (Binary (suc j)) r a m b t
c_weaker {r} {m} {j} {a} {b} {t} le f = record {
  goal = λ n h l.
      let g = closed_binary j n r a m b t (f.goal n h) l in
      (g.0, suc n, omega arith, ap (λ o. and_then o (operators (run n) (suc n) j)) g.1);
}

c_binary : {r m i j : ℕ} {a b c : Tokens} {t v : Tree} {p : Punct} {s : Span} {f : BinOp} → binary_operator p ≡ Some f → rank f ≡ suc j → suc m ≤ r → i ≤ m
    → Complete (Binary (suc j)) r a (suc m) ((kind.Punct p, s) ∷ b) t → Complete (Binary j) m b i c v → Complete (Binary (suc j)) r a i c (joined f t v)
c_binary {r} {m} {i} {j} {a} {b} {c} {t} {v} {p} {s} {f} e k le le2 f1 f2 = record {
  goal = λ n h l. at_suc
      (λ n. r ≤ n → (u : Bool) × (q : ℕ) × (i < q) × (descent.binary (run n) (suc n) (suc j) r a ≡ operators (run n) q j (joined f t v, u) i c)) n m
      (omega arith) (λ n h2 h.
      let lo : loose (punct_terminal p) ≡ suc (rank f) = ap loose (terminal_binary p f e) in
      let x = f1.goal (suc n) h (omega arith) in
      let y = closed (Binary j) n m b i c v (f2.goal n h2) l in
      go n x.0 x.1 x.2 x.3 y.0 y.1) h;
}
  where
    go : (n : ℕ) (u : Bool) (q : ℕ) → suc m < q
        → descent.binary (run (suc n)) (suc (suc n)) (suc j) r a ≡ operators (run (suc n)) q j (t, u) (suc m) ((kind.Punct p, s) ∷ b)
        → (w : Bool) → run (suc n) (Binary j) m b ≡ found (v, w) i c
        → (u : Bool) × (q : ℕ) × (i < q) × (descent.binary (run (suc n)) (suc (suc n)) (suc j) r a ≡ operators (run (suc n)) q j (joined f t v, u) i c)
    go n u zero lt x w y = absurd (omega arith)
    go n u (suc q) lt x w y = (
      false,
      q,
      omega arith,
      x ∙ (ap (λ z. operated (run (suc n)) j (operators (run (suc n)) q j) z (t, u) (suc m) ((kind.Punct p, s) ∷ b)) (operator_goes (suc j) p f e k)
          ∙ ap (λ z. and_then z (λ v x d. operators (run (suc n)) q j (joined f t v.0, false) x d)) y),
    )

c_conditional : {r m : ℕ} {a b : Tokens} {t : Tree} → Complete (Binary weakest) r a m b t → Complete Conditional r a m b t
c_conditional {r} {m} {a} {b} {t} f = record {
  goal = λ n h l.
      let g = closed_binary weakest n r a m b t (f.goal n h) (omega arith) in
      (g.0, and_is (descent.binary (run n) (suc n) weakest r a) (choose (run n)) (t, g.0) m b _ g.1 (choose_stops (run n) (lookahead b) (t, g.0) m b l));
}

c_choose : {r m i q : ℕ} {a b c d : Tokens} {t v w : Tree} {s o : Span} → suc m ≤ r → i ≤ m
    → Complete (Binary weakest) r a (suc m) ((kind.Punct mark.Question, s) ∷ b) t
    → Complete Expression m b i ((kind.Punct mark.Colon, o) ∷ c) v → Complete Conditional i c q d w → Complete Conditional r a q d (chosen t v w)
c_choose {r} {m} {i} {q} {a} {b} {c} {d} {t} {v} {w} {s} {o} le le2 f1 f2 f3 = record {
  goal = λ n h l. at_suc (λ n. r ≤ n → ReadsTree (conditional (run n) (suc n) r a) (chosen t v w) q d) n m (omega arith) (λ n h2 h.
      let x = closed_binary weakest (suc n) r a (suc m) ((kind.Punct mark.Question, s) ∷ b) t (f1.goal (suc n) h) (omega arith) in
      let y = closed Expression n m b i ((kind.Punct mark.Colon, o) ∷ c) v (f2.goal n h2) (omega arith) in
      let z = closed Conditional n i c q d w (f3.goal n (omega arith)) l in (
        false,
        and_is (descent.binary (run (suc n)) (suc (suc n)) weakest r a) (choose (run (suc n))) (t, x.0) (suc m) ((kind.Punct mark.Question, s) ∷ b) _ x.1
            (and_is (run (suc n) Expression m b)
            (λ u q d. and_then (expected is_colon q d) (λ o v x. and_then (run (suc n) Conditional v x) (λ w y z. found (chosen t u.0 w.0, false) y z)))
            (v, y.0) i ((kind.Punct mark.Colon, o) ∷ c) _ y.1
            (ap (λ x. and_then x (λ w y z. found (chosen t v w.0, false) y z)) z.1)),
      )) h;
}

c_assignment : {r m : ℕ} {a b : Tokens} {t : Tree} → Complete Conditional r a m b t → Complete Assignment r a m b t
c_assignment {r} {m} {a} {b} {t} f = record {
  goal = λ n h l.
      let g = f.goal n h (omega arith) in
      (g.0, and_is (conditional (run n) (suc n) r a) (placed (run n)) (t, g.0) m b _ g.1 (placed_stops (run n) t g.0 m b l));
}

c_assign : {r m i : ℕ} {a b c : Tokens} {t v : Tree} {p : Punct} {s : Span} {f : Option BinOp} → assignment_operator p ≡ Some f → suc m ≤ r
    → Reads Unary r a (suc m) ((kind.Punct p, s) ∷ b) t
    → Complete Unary r a (suc m) ((kind.Punct p, s) ∷ b) t → Complete Assignment m b i c v → Complete Assignment r a i c (assigned f t v)
c_assign {r} {m} {i} {a} {b} {c} {t} {v} {p} {s} {f} e le d f1 f2 = record {
  goal = λ n h l. at_suc (λ n. r ≤ n → ReadsTree (assignment (run n) (suc n) r a) (assigned f t v) i c) n m (omega arith) (λ n h2 h.
      let self = run (suc n) in
      let k = (kind.Punct p, s) ∷ b in
      let lo : loose (punct_terminal p) ≡ 13 = ap loose (terminal_assignment p f e) in
      let x : cast (run (suc n)) r a ≡ found (t, true) (suc m) ((kind.Punct p, s) ∷ b) =
      ap (λ x. cast_by (run (suc n)) x r a) (not_cast d) ∙ f1.goal (suc n) h (omega arith) in
      let y = up_binary self (suc n) weakest r a (t, true) (suc m) k (omega arith) (omega arith) x in
      let z = closed Assignment n m b i c v (f2.goal n h2) l in (
        false,
        and_is (conditional self (suc (suc n)) r a) (placed self) (t, true) (suc m) k _
            (and_is (descent.binary self (suc (suc n)) weakest r a) (choose self) (t, true) (suc m) k _ y
            (choose_stops self (punct_terminal p) (t, true) (suc m) k (omega arith)))
            (ap (λ l. assign_by self (assignment_at l) (t, true) (suc m) k) (terminal_assignment p f e)
            ∙ ap (λ o. and_then o (λ u q d. found (assigned f t u.0, false) q d)) z.1),
      )) h;
}

c_expression : {r m : ℕ} {a b : Tokens} {t : Tree} → m ≤ r → Complete Assignment r a m b t → Complete Expression r a m b t
c_expression {r} {m} {a} {b} {t} le f = record {
  goal = λ n h l.
      let g = f.goal n h l in
      (g.0, suc n, omega arith, ap (λ o. and_then o (commas (run n) (suc n))) g.1);
}

c_comma : {r m i : ℕ} {a b c : Tokens} {t v : Tree} {s : Span} → suc m ≤ r → i ≤ m
    → Complete Expression r a (suc m) ((kind.Punct mark.Comma, s) ∷ b) t → Complete Assignment m b i c v → Complete Expression r a i c (followed t v)
c_comma {r} {m} {i} {a} {b} {c} {t} {v} {s} le le2 f1 f2 = record {
  goal = λ n h l. at_suc (λ n. r ≤ n → (u : Bool) × (q : ℕ) × (i < q) × (expression (run n) (suc n) r a ≡ commas (run n) q (followed t v, u) i c)) n m
      (omega arith) (λ n h2 h.
      let x = f1.goal (suc n) h (omega arith) in
      let y = closed Assignment n m b i c v (f2.goal n h2) l in
      go n x.0 x.1 x.2 x.3 y.0 y.1) h;
}
  where
    go : (n : ℕ) (u : Bool) (q : ℕ) → suc m < q
        → expression (run (suc n)) (suc (suc n)) r a ≡ commas (run (suc n)) q (t, u) (suc m) ((kind.Punct mark.Comma, s) ∷ b)
        → (w : Bool) → run (suc n) Assignment m b ≡ found (v, w) i c → (u : Bool) × (q : ℕ) × (i < q) ×
        (expression (run (suc n)) (suc (suc n)) r a ≡ commas (run (suc n)) q (followed t v, u) i c)
    go n u zero lt x w y = absurd (omega arith)
    go n u (suc q) lt x w y = (false, q, omega arith, x ∙ ap (λ z. and_then z (λ v x c. commas (run (suc n)) q (followed t v.0, false) x c)) y)

c_value : {r m : ℕ} {a b : Tokens} {t : Tree} → Reads Assignment r a m b t → Complete Assignment r a m b t → CompleteArgument r a b (given.by_value t)
c_value {r} {m} {a} {b} {t} d f = record {
  goal = λ n h l.
      let g = closed Assignment n r a m b t (f.goal n h) l in
      starting_value (run (suc n)) (lookahead a) r a (starts d) ∙ ap (λ z. and_then z (λ t m b. found (given.by_value t.0) r b)) g.1;
}

c_format : {r : ℕ} {a : Tokens} {w : List ℕ} {s : Span} → CompleteArgument r ((kind.Str w, s) ∷ a) a (given.by_format w s)
c_format = record { goal = λ n h l. refl }

c_address : {r m : ℕ} {a b : Tokens} {t : Tree} {s : Span} → Complete Unary r a m b t
    → CompleteArgument (suc r) ((kind.Punct mark.And, s) ∷ a) b (given.by_address t)
c_address {r} {m} {a} {b} {t} {s} f = record {
  goal = λ n h l.
      let i : r ≤ n = omega arith in
      let g = closed Unary n r a m b t (f.goal n i) (omega arith) in
      ap (λ z. and_then z (λ t m b. found (given.by_address t.0) (suc r) b)) g.1;
}

c_last : {r : ℕ} {a b : Tokens} {g : Given} → CompleteArgument r a b g → CompleteArguments r a b (g ∷ [])
c_last {r} {a} {b} {g} f = record { goal = λ n q h k l. last n q h k l }
  where
    last : (n q : ℕ) → r ≤ n → length a < q → 14 < loose_at b → listed (λ l. false) (argument (run (suc n)) r) q r a ≡ found (g ∷ []) r b
    last n zero h k l = absurd (omega arith)
    last n (suc q) h k l = listed_last (λ l. false) (argument (run (suc n)) r) q r a b g (f.goal n h (omega arith)) (no_comma (lookahead b) l)

c_more : {r : ℕ} {a b c : Tokens} {g : Given} {gs : List Given} {s : Span} → length b < length a
    → CompleteArgument r a ((kind.Punct mark.Comma, s) ∷ b) g → CompleteArguments r b c gs → CompleteArguments r a c (g ∷ gs)
c_more {r} {a} {b} {c} {g} {gs} {s} le f f2 = record { goal = λ n q h k l. more n q h k l }
  where
    more : (n q : ℕ) → r ≤ n → length a < q → 14 < loose_at c → listed (λ l. false) (argument (run (suc n)) r) q r a ≡ found (g ∷ gs) r c
    more n zero h k l = absurd (omega arith)
    more n (suc q) h k l =
        listed_more (λ l. false) (argument (run (suc n)) r) q r a b c g gs s (f.goal n h (omega arith)) refl (f2.goal n q h (omega arith) l)

mutual
  pub complete_part : {N : Nonterminal} {r m : ℕ} {a b : Tokens} {t : Tree} → Reads N r a m b t → Complete N r a m b t
  complete_part Reads.constant = c_constant
  complete_part Reads.name = c_name
  complete_part (Reads.index d) = c_index (complete_part d)
  complete_part Reads.call_bare = c_call_bare
  complete_part (Reads.call d) = c_call d (complete_arguments d)
  complete_part (Reads.paren d) = c_paren (complete_part d)
  complete_part (Reads.postfix d) = c_postfix (complete_part d)
  complete_part (Reads.bump_after e d) = c_bump_after e (complete_part d)
  complete_part (Reads.unary d) = c_unary d (complete_part d)
  complete_part (Reads.bump_before e d) = c_bump_before e (complete_part d)
  complete_part (Reads.prefix e d) = c_prefix e (complete_part d)
  complete_part (Reads.cast d) = c_cast d (complete_part d)
  complete_part (Reads.cast_to e d) = c_cast_to e (complete_part d)
  complete_part (Reads.operand d) = c_operand (complete_part d)
  complete_part (Reads.weaker d) = c_weaker (room d) (complete_part d)
  complete_part (Reads.binary e h d1 d2) = c_binary e h (room d1) (room d2) (complete_part d1) (complete_part d2)
  complete_part (Reads.conditional d) = c_conditional (complete_part d)
  complete_part (Reads.choose d1 d2 d3) = c_choose (room d1) (room d2) (complete_part d1) (complete_part d2) (complete_part d3)
  complete_part (Reads.assignment d) = c_assignment (complete_part d)
  complete_part (Reads.assign e d1 d2) = c_assign e (room d1) d1 (complete_part d1) (complete_part d2)
  complete_part (Reads.expression d) = c_expression (room d) (complete_part d)
  complete_part (Reads.comma d1 d2) = c_comma (room d1) (room d2) (complete_part d1) (complete_part d2)

  pub complete_argument_part : {r : ℕ} {a b : Tokens} {g : Given} → Argument r a b g → CompleteArgument r a b g
  complete_argument_part (Argument.value d) = c_value d (complete_part d)
  complete_argument_part Argument.format = c_format
  complete_argument_part (Argument.address d) = c_address (complete_part d)

  pub complete_arguments : {r : ℕ} {a b : Tokens} {gs : List Given} → Arguments r a b gs → CompleteArguments r a b gs
  complete_arguments (Arguments.last d) = c_last (complete_argument_part d)
  complete_arguments (Arguments.more d e) = c_more (let h = argument_shorter d in omega arith) (complete_argument_part d) (complete_arguments e)

-- what is derived is read, where what follows doesn't go on with it
pub complete : {N : Nonterminal} {r m : ℕ} {a b : Tokens} {t : Tree} (n : ℕ) → Reads N r a m b t → r ≤ n → reach N < loose_at b
    → (u : Bool) × (run (suc n) N r a ≡ found (t, u) m b)
complete {N} {r} {m} {a} {b} {t} n d h l = closed N n r a m b t ((complete_part d).goal n h) l

-- an argument is read, where no operator follows
pub complete_argument : {r : ℕ} {a b : Tokens} {g : Given} (n : ℕ) → Argument r a b g → r ≤ n → 13 < loose_at b → argument (run (suc n)) r a ≡ found g r b
complete_argument n d h l = (complete_argument_part d).goal n h l
