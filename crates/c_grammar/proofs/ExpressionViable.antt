-- What begins an expression is passed by the descent.
use Rattle.std.proofs.Common.{◌≡◌, ℕ, zero, suc, ◌≤◌, ◌<◌, Bool, true, false, List, [], ◌∷◌, Option, Some, None, refl, subst, sym, ap, ◌∙◌, arith, length, if◌then◌else◌, ◌==◌}
use Rattle.std.proofs.lemmas.Bool.Decides.{nat_tests}
use Rattle.c_lex.specs.declared.token.TokenKind.TheVariants as kind
use Rattle.c_lex.specs.declared.token.Keyword.{Keyword}
use Rattle.c_lex.specs.declared.token.Punct.{Punct}
use Rattle.c_lex.specs.declared.token.Punct.TheVariants as mark
use Rattle.c_tree.specs.declared.expr.BinOp.{BinOp}
use Rattle.c_tree.specs.declared.expr.BinOp.TheVariants as op
use Rattle.c_tree.specs.declared.expr.UnOp.{UnOp}
use Rattle.c_tree.specs.declared.place.Span.{Span}
use Rattle.c_tree.specs.declared.stmt.Ty.{Ty}
use Rattle.c_tree.specs.Tree.{Tree}
use Rattle.c_grammar.specs.declared.terminal.Terminal.{Terminal}
use Rattle.c_grammar.specs.declared.terminal.Terminal.TheVariants as terminal
use Rattle.c_grammar.specs.declared.nonterminal.Nonterminal.{Nonterminal}
use Rattle.c_grammar.specs.declared.nonterminal.Nonterminal.TheVariants.{Expression, Assignment, Conditional, Binary, Cast, Unary, Postfix, Primary}
use Rattle.c_grammar.specs.Operators.{binary_operator, rank, weakest, prefix_operator, bump_operator, assignment_operator, type_word}
use Rattle.c_grammar.specs.Grammar.{Tokens, Reads, Begins, Given, Argument, Arguments, BeginsArgument, BeginsArguments, over, wrapped, joined, followed}
use Rattle.c_grammar.specs.Terminals.{lookahead, rest, punct_terminal, terminal_of, is_comma, is_open_paren, is_close_paren, is_close_bracket, is_colon, type_at, is_type, casts_by, casts, prefix_at, bump_at, binary_prefix, operator_at}
use Rattle.c_grammar.specs.Descent as descent
use Rattle.c_grammar.specs.Descent.{Reading, found, unexpected, too_deep, Reader, Read, and_then, opened, expected, step, run}
use Rattle.c_grammar.proofs.Terminals.{terminal_binary, terminal_bump, terminal_assignment, terminal_prefix, terminal_prefix_no_bump, terminal_type, open_paren_is, close_paren_is}
use Rattle.c_grammar.proofs.ExpressionBasics.{room, argument_shorter}
use Rattle.c_grammar.proofs.ExpressionFirstSets.{starting, is_prefix, not_cast, arguments_no_close}
use Rattle.c_grammar.proofs.ExpressionComplete.{loose, complete, complete_part, complete_arguments, complete_argument, at_suc, up_binary, choose_stops}
use Rattle.c_grammar.proofs.ExpressionConsumption.{Far, Within, within_then, stays, expected_within, type_within, ahead_within, listed_by_within, listed_within, argument_by_within, argument_within, named_by_within, bumped_within, bump_within, prefix_within, operators_within, choose_within, placed_within, commas_within, step_within, run_within}

pub within_more : {A : Type 0} {a b : Tokens} {o : Reading A} → length a ≤ length b → Within a o → Within b o
within_more h f = record { far = let i = f.far in omega arith }

-- ---- an expression stops at once at a token that begins none

no_primary : (self : Nonterminal → Reader Read) (l : Terminal) (r : ℕ) (a : Tokens) → starting l ≡ false → descent.primary_by self l r a ≡ unexpected a
no_primary self terminal.Constant r a e = absurd (cc (e))
no_primary self terminal.Name r a e = absurd (cc (e))
no_primary self terminal.OpenParen r a e = absurd (cc (e))
no_primary self _ r a e = refl

no_bump : (l : Terminal) → starting l ≡ false → bump_at l ≡ None
no_bump (terminal.Bump up) e = absurd (cc (e))
no_bump _ e = refl

no_operator : (x : Option UnOp) → is_prefix x ≡ false → x ≡ None
no_operator (Some f) e = absurd (cc (e))
no_operator None e = refl

no_prefix : (l : Terminal) → starting l ≡ false → prefix_at l ≡ None
no_prefix (terminal.Prefix f) e = absurd (cc (e))
no_prefix (terminal.Binary f) e = no_operator (binary_prefix f) e
no_prefix _ e = refl

no_cast : (l : Terminal) (a : Tokens) → starting l ≡ false → casts_by l a ≡ false
no_cast terminal.OpenParen a e = absurd (cc (e))
no_cast _ a e = refl

no_postfix : (self : Nonterminal → Reader Read) (r : ℕ) (a : Tokens) → starting (lookahead a) ≡ false → descent.postfix self r a ≡ unexpected a
no_postfix self r a e = ap (λ o. and_then o (descent.bumped self)) (no_primary self (lookahead a) r a e)

no_unary : (self : Nonterminal → Reader Read) (r : ℕ) (a : Tokens) → starting (lookahead a) ≡ false → descent.unary self r a ≡ unexpected a
no_unary self r a e =
    ap (λ x. descent.unary_by self x r a) (no_bump (lookahead a) e) ∙ (ap (λ x. descent.prefix_by self x r a) (no_prefix (lookahead a) e) ∙ no_postfix self r a e)

no_operand : (self : Nonterminal → Reader Read) (r : ℕ) (a : Tokens) → starting (lookahead a) ≡ false → descent.cast self r a ≡ unexpected a
no_operand self r a e = ap (λ x. descent.cast_by self x r a) (no_cast (lookahead a) a e) ∙ no_unary self r a e

no_binary : (self : Nonterminal → Reader Read) (n j r : ℕ) (a : Tokens) → starting (lookahead a) ≡ false → descent.binary self n j r a ≡ unexpected a
no_binary self n zero r a e = no_operand self r a e
no_binary self n (suc j) r a e = ap (λ o. and_then o (descent.operators self n j)) (no_binary self n j r a e)

no_conditional : (self : Nonterminal → Reader Read) (n r : ℕ) (a : Tokens) → starting (lookahead a) ≡ false → descent.conditional self n r a ≡ unexpected a
no_conditional self n r a e = ap (λ o. and_then o (descent.choose self)) (no_binary self n weakest r a e)

no_assignment : (self : Nonterminal → Reader Read) (n r : ℕ) (a : Tokens) → starting (lookahead a) ≡ false → descent.assignment self n r a ≡ unexpected a
no_assignment self n r a e = ap (λ o. and_then o (descent.placed self)) (no_conditional self n r a e)

pub no_part : (n : ℕ) (N : Nonterminal) (r : ℕ) (a : Tokens) → starting (lookahead a) ≡ false → run (suc n) N r a ≡ unexpected a
unfolding run
no_part n Expression r a e = ap (λ o. and_then o (descent.commas (run n) (suc n))) (no_assignment (run n) (suc n) r a e)
no_part n Assignment r a e = no_assignment (run n) (suc n) r a e
no_part n Conditional r a e = no_conditional (run n) (suc n) r a e
no_part n (Binary j) r a e = no_binary (run n) (suc n) j r a e
no_part n Cast r a e = no_operand (run n) r a e
no_part n Unary r a e = no_unary (run n) r a e
no_part n Postfix r a e = no_postfix (run n) r a e
no_part n Primary r a e = no_primary (run n) (lookahead a) r a e

-- what isn't refused at once
pub refused : {A : Type 0} {a b : Tokens} (o : Reading A) → o ≡ unexpected a → Within b o → length a ≤ length b
refused o e f = let i = f.far in let x = subst (Within _) e f in x.far

-- ---- what the induction says

-- the descent reads down to b at least
record Pass (N : Nonterminal) (r : ℕ) (a b : Tokens) : Type 0 where
  pub goal : (n : ℕ) → r ≤ n → Within b (step (run n) (suc n) N r a)

record PassArgument (r : ℕ) (a b : Tokens) : Type 0 where
  pub goal : (n : ℕ) → r ≤ n → Within b (descent.argument (run (suc n)) r a)

record PassArguments (r : ℕ) (a b : Tokens) : Type 0 where
  pub goal : (n q : ℕ) → r ≤ n → length a < q → Within b (descent.listed (λ l. false) (descent.argument (run (suc n)) r) q r a)

run_is : (n : ℕ) (N : Nonterminal) (r : ℕ) (a b : Tokens) → Within b (step (run n) (suc n) N r a) → Within b (run (suc n) N r a)
unfolding run
run_is n N r a b f = f

-- a part that is read, and then what is passed after it
pub goes_on : {A B : Type 0} (c : Tokens) (o : Reading A) (f : A → Reader B) (x : A) (m : ℕ) (b : Tokens) → o ≡ found x m b → Within c (f x m b)
    → Within c (and_then o f)
goes_on c o f x m b e h = subst (λ o. Within c (and_then o f)) (sym e) h

-- a list, by its first part
module _ {A : Type 0} (ends : Terminal → Bool) (part : Tokens → Reading A) where
  pub list_passes : ((a : Tokens) → Within a (part a)) → (q r : ℕ) (a b : Tokens) → Within b (part a) → Within b (descent.listed ends part (suc q) r a)
  unfolding descent.listed
  list_passes H q r a b f =
      within_then f (λ x m c. listed_by_within ends part H (is_comma (lookahead c)) (descent.listed ends part q) (listed_within ends part H q) x m c)

  pub list_goes_on : (q r : ℕ) (a b c : Tokens) (x : A) (s : Span) → part a ≡ found x r ((kind.Punct mark.Comma, s) ∷ b) → ends (lookahead b) ≡ false
      → Within c (descent.listed ends part q r b)
      → Within c (descent.listed ends part (suc q) r a)
  unfolding descent.listed
  list_goes_on q r a b c x s e h f = rw (e, h) (ahead_within (x ∷ []) (descent.listed ends part q r b) f)

-- ---- one lemma for each production

pass_none : {N : Nonterminal} {r : ℕ} {a : Tokens} → Pass N r a a
pass_none {N} {r} {a} = record { goal = λ n h. step_within (run n) (run_within n) (suc n) N r a }

pass_name : {r : ℕ} {a : Tokens} {w : List ℕ} {s : Span} → Pass Primary r ((kind.Name w, s) ∷ a) a
pass_name {r} {a} {w} {s} = record { goal = λ n h. named_by_within (run n) (run_within n) (lookahead a) w s r a }

pass_index : {r : ℕ} {a b : Tokens} {w : List ℕ} {s o : Span} → Pass Expression r a b
    → Pass Primary (suc r) ((kind.Name w, s) ∷ (kind.Punct mark.OpenBracket, o) ∷ a) b
pass_index {r} {a} {b} {w} {s} {o} f = record {
  goal = λ n h. at_suc (λ n. Within b (descent.primary (run n) (suc r) ((kind.Name w, s) ∷ (kind.Punct mark.OpenBracket, o) ∷ a))) n r h (λ n h.
      within_then (run_is n Expression r a b (f.goal n h)) (λ t n c. within_then (expected_within is_close_bracket (suc r) c) (λ e q d. stays)));
}

pass_index_end : {r m : ℕ} {a b : Tokens} {w : List ℕ} {s o e : Span} {t : Tree} → Reads Expression r a m ((kind.Punct mark.CloseBracket, e) ∷ b) t
    → Pass Primary (suc r) ((kind.Name w, s) ∷ (kind.Punct mark.OpenBracket, o) ∷ a) b
pass_index_end {r} {m} {a} {b} {w} {s} {o} {e} {t} d = record {
  goal = λ n h. at_suc (λ n. Within b (descent.primary (run n) (suc r) ((kind.Name w, s) ∷ (kind.Punct mark.OpenBracket, o) ∷ a))) n r h (λ n h.
      let x = complete n d h (omega arith) in rw x.1 stays);
}

pass_call_bare : {r : ℕ} {a : Tokens} {w : List ℕ} {s o e : Span}
    → Pass Primary (suc r) ((kind.Name w, s) ∷ (kind.Punct mark.OpenParen, o) ∷ (kind.Punct mark.CloseParen, e) ∷ a) a
pass_call_bare = record { goal = λ n h. stays }

at_close : (n r : ℕ) (s : Span) (a b : Tokens)
    → Within b (descent.listed (λ l. false) (descent.argument (run (suc n)) r) (suc (length ((kind.Punct mark.CloseParen, s) ∷ a))) r ((kind.Punct mark.CloseParen, s) ∷ a))
    → length ((kind.Punct mark.CloseParen, s) ∷ a) ≤ length b
unfolding descent.listed run
at_close n r s a b f = f.far

-- where a `)` comes next no argument is passed
arguments_pass : (n : ℕ) (x : Bool) (r : ℕ) (a b : Tokens) → is_close_paren (lookahead a) ≡ x
    → Within b (descent.listed (λ l. false) (descent.argument (run (suc n)) r) (suc (length a)) r a)
    → Within b (descent.arguments_by (run (suc n)) x r a)
arguments_pass n false r a b e f = f
arguments_pass n true r [] b e f = absurd (cc (e))
arguments_pass n true r ((k, s) ∷ a) b e f =
    let x = close_paren_is k e in
    within_more
    (at_close n r s a b
    (subst (λ k. Within b (descent.listed (λ l. false) (descent.argument (run (suc n)) r) (suc (length ((k, s) ∷ a))) r ((k, s) ∷ a))) x f)) stays

pass_call : {r : ℕ} {a b : Tokens} {w : List ℕ} {s o : Span} → PassArguments r a b
    → Pass Primary (suc r) ((kind.Name w, s) ∷ (kind.Punct mark.OpenParen, o) ∷ a) b
pass_call {r} {a} {b} {w} {s} {o} f = record {
  goal = λ n h. at_suc (λ n. Within b (descent.primary (run n) (suc r) ((kind.Name w, s) ∷ (kind.Punct mark.OpenParen, o) ∷ a))) n r h (λ n h.
      within_then (arguments_pass n (is_close_paren (lookahead a)) r a b refl (f.goal n (suc (length a)) h (omega arith)))
      (λ gs n c. within_then (expected_within is_close_paren (suc r) c) (λ e q d. stays)));
}

pass_call_end : {r : ℕ} {a b : Tokens} {w : List ℕ} {s o e : Span} {gs : List Given} → Arguments r a ((kind.Punct mark.CloseParen, e) ∷ b) gs
    → Pass Primary (suc r) ((kind.Name w, s) ∷ (kind.Punct mark.OpenParen, o) ∷ a) b
pass_call_end {r} {a} {b} {w} {s} {o} {e} {gs} d = record {
  goal = λ n h. at_suc (λ n. Within b (descent.primary (run n) (suc r) ((kind.Name w, s) ∷ (kind.Punct mark.OpenParen, o) ∷ a))) n r h (λ n h.
      let x : descent.arguments (run (suc n)) r a ≡ found gs r ((kind.Punct mark.CloseParen, e) ∷ b) =
      ap (λ x. descent.arguments_by (run (suc n)) x r a) (arguments_no_close d)
      ∙ (complete_arguments d).goal n (suc (length a)) h (omega arith) (omega arith) in
      rw x stays);
}

pass_paren : {r : ℕ} {a b : Tokens} {o : Span} → Pass Expression r a b → Pass Primary (suc r) ((kind.Punct mark.OpenParen, o) ∷ a) b
pass_paren {r} {a} {b} {o} f = record {
  goal = λ n h. at_suc (λ n. Within b (descent.primary (run n) (suc r) ((kind.Punct mark.OpenParen, o) ∷ a))) n r h (λ n h.
      within_then (run_is n Expression r a b (f.goal n h)) (λ t n c. within_then (expected_within is_close_paren (suc r) c) (λ e q d. stays)));
}

pass_paren_end : {r m : ℕ} {a b : Tokens} {o e : Span} {t : Tree} → Reads Expression r a m ((kind.Punct mark.CloseParen, e) ∷ b) t
    → Pass Primary (suc r) ((kind.Punct mark.OpenParen, o) ∷ a) b
pass_paren_end {r} {m} {a} {b} {o} {e} {t} d = record {
  goal = λ n h. at_suc (λ n. Within b (descent.primary (run n) (suc r) ((kind.Punct mark.OpenParen, o) ∷ a))) n r h (λ n h.
      let x = complete n d h (omega arith) in rw x.1 stays);
}

pass_postfix : {r : ℕ} {a b : Tokens} → Pass Primary r a b → Pass Postfix r a b
pass_postfix f = record { goal = λ n h. within_then (f.goal n h) (bumped_within (run n) (run_within n)) }

pass_bump_after : {r m : ℕ} {a b : Tokens} {t : Tree} {p : Punct} {s : Span} {up : Bool} → bump_operator p ≡ Some up
    → Reads Primary r a m ((kind.Punct p, s) ∷ b) t → Pass Postfix r a b
pass_bump_after {r} {m} {a} {b} {t} {p} {s} {up} e d = record {
  goal = λ n h.
      let x = terminal_bump p up e in
      let y : loose (punct_terminal p) ≡ 1 = ap loose x in
      let z : descent.primary (run n) r a ≡ found (t, true) m ((kind.Punct p, s) ∷ b) = (complete_part d).goal n h (omega arith) in
      rw (z, x) stays;
}

-- `++`, `--` and a prefix operator begin no primary expression
bump_no_primary : (self : Nonterminal → Reader Read) (l : Terminal) (up : Bool) (r : ℕ) (a : Tokens) → bump_at l ≡ Some up → descent.primary_by self l r a ≡ unexpected a
bump_no_primary self (terminal.Bump up) v r a e = refl
bump_no_primary self _ v r a e = absurd (cc (e))

prefix_no_primary : (self : Nonterminal → Reader Read) (l : Terminal) (f : UnOp) (r : ℕ) (a : Tokens) → prefix_at l ≡ Some f
    → descent.primary_by self l r a ≡ unexpected a
prefix_no_primary self (terminal.Prefix g) f r a e = refl
prefix_no_primary self (terminal.Binary g) f r a e = refl
prefix_no_primary self _ f r a e = absurd (cc (e))

prefix_passes : (n : ℕ) (x : Option UnOp) (r : ℕ) (a b : Tokens) → prefix_at (lookahead a) ≡ x → Within b (descent.postfix (run n) r a)
    → Within b (descent.prefix_by (run n) x r a)
prefix_passes n None r a b e f = f
prefix_passes n (Some g) r a b e f =
    within_more (refused (descent.postfix (run n) r a) (ap (λ o. and_then o (descent.bumped (run n))) (prefix_no_primary (run n) (lookahead a) g r a e)) f)
    (prefix_within (run n) (run_within n) g r a)

unary_passes : (n : ℕ) (x : Option Bool) (r : ℕ) (a b : Tokens) → bump_at (lookahead a) ≡ x → Within b (descent.postfix (run n) r a)
    → Within b (descent.unary_by (run n) x r a)
unary_passes n None r a b e f = prefix_passes n (prefix_at (lookahead a)) r a b refl f
unary_passes n (Some up) r a b e f =
    within_more (refused (descent.postfix (run n) r a) (ap (λ o. and_then o (descent.bumped (run n))) (bump_no_primary (run n) (lookahead a) up r a e)) f)
    (bump_within (run n) (run_within n) up r a)

pass_unary : {r : ℕ} {a b : Tokens} → Pass Postfix r a b → Pass Unary r a b
pass_unary {r} {a} {b} f = record { goal = λ n h. unary_passes n (bump_at (lookahead a)) r a b refl (f.goal n h) }

pass_bump_before : {r : ℕ} {a b : Tokens} {p : Punct} {s : Span} {up : Bool} → bump_operator p ≡ Some up → Pass Unary r a b
    → Pass Unary (suc r) ((kind.Punct p, s) ∷ a) b
pass_bump_before {r} {a} {b} {p} {s} {up} e f = record {
  goal = λ n h. at_suc (λ n. Within b (descent.unary (run n) (suc r) ((kind.Punct p, s) ∷ a))) n r h (λ n h.
      rw (terminal_bump p up e) (within_then (run_is n Unary r a b (f.goal n h)) (λ t n c. stays)));
}

pass_prefix : {r : ℕ} {a b : Tokens} {p : Punct} {s : Span} {f : UnOp} → prefix_operator p ≡ Some f → Pass Cast r a b
    → Pass Unary (suc r) ((kind.Punct p, s) ∷ a) b
pass_prefix {r} {a} {b} {p} {s} {f} e x = record {
  goal = λ n h. at_suc (λ n. Within b (descent.unary (run n) (suc r) ((kind.Punct p, s) ∷ a))) n r h (λ n h.
      rw (terminal_prefix_no_bump p f e, terminal_prefix p f e) (within_then (run_is n Cast r a b (x.goal n h)) (λ t n c. stays)));
}

-- a parenthesis before a type is passed as a conversion where it would be as an expression
type_no_start : (l : Terminal) → is_type (type_at l) ≡ true → starting l ≡ false
type_no_start (terminal.Type ty) e = refl
type_no_start _ e = absurd (cc (e))

type_after : (l : Terminal) (a : Tokens) → casts_by l a ≡ true → (is_open_paren l ≡ true) × (is_type (type_at (lookahead (rest a))) ≡ true)
type_after terminal.OpenParen a e = (refl, e)
type_after _ a e = absurd (cc (e))

converted_within : (n r : ℕ) (o : Span) (a : Tokens) → Within a (descent.conversion (run n) (suc r) ((kind.Punct mark.OpenParen, o) ∷ a))
converted_within n r o a =
    within_then (type_within r a)
    (λ ty n2 c. within_then (expected_within is_close_paren n2 c) (λ e q d. within_then (run_within n Cast q d) (λ t v x. stays)))

paren_passes : (n r : ℕ) (o : Span) (a b : Tokens) → starting (lookahead a) ≡ false → Within b (descent.unary (run n) r ((kind.Punct mark.OpenParen, o) ∷ a))
    → Within b (descent.conversion (run n) r ((kind.Punct mark.OpenParen, o) ∷ a))
unfolding run
paren_passes n zero o a b e f = record { far = f.far }
paren_passes zero (suc r) o a b e f = within_more f.far (converted_within zero r o a)
paren_passes (suc n) (suc r) o a b e f =
    within_more
    (refused (descent.unary (run (suc n)) (suc r) ((kind.Punct mark.OpenParen, o) ∷ a))
    (ap (λ z. and_then (and_then z (λ t n c. and_then (expected is_close_paren (suc r) c) (λ e q d. found (wrapped (over o e) t.0, true) q d)))
    (descent.bumped (run (suc n)))) (no_part n Expression r a e)) f)
    (converted_within (suc n) r o a)

cast_passes : (n : ℕ) (x : Bool) (r : ℕ) (a b : Tokens) → casts a ≡ x → Within b (descent.unary (run n) r a) → Within b (descent.cast_by (run n) x r a)
cast_passes n false r a b e f = f
cast_passes n true r [] b e f = absurd (cc (e))
cast_passes n true r ((k, o) ∷ a) b e f =
    let x = type_after (terminal_of k) ((k, o) ∷ a) e in
    let y = open_paren_is k x.0 in
    subst (λ k. Within b (descent.conversion (run n) r ((k, o) ∷ a))) (sym y)
    (paren_passes n r o a b (type_no_start (lookahead a) x.1) (subst (λ k. Within b (descent.unary (run n) r ((k, o) ∷ a))) y f))

pass_cast : {r : ℕ} {a b : Tokens} → Pass Unary r a b → Pass Cast r a b
pass_cast {r} {a} {b} f = record { goal = λ n h. cast_passes n (casts a) r a b refl (f.goal n h) }

pass_cast_open : {r : ℕ} {a : Tokens} {o : Span} → Pass Cast (suc r) ((kind.Punct mark.OpenParen, o) ∷ a) a
pass_cast_open {r} {a} {o} = record { goal = λ n h. opened n (is_type (type_at (lookahead a))) }
  where
    opened : (n : ℕ) (x : Bool) → Within a (descent.cast_by (run n) x (suc r) ((kind.Punct mark.OpenParen, o) ∷ a))
    opened n true = converted_within n r o a
    opened n false =
        within_then (within_then (run_within n Expression r a) (λ t n2 c. within_then (expected_within is_close_paren (suc r) c) (λ e q d. stays)))
        (bumped_within (run n) (run_within n))

pass_cast_type : {r : ℕ} {a : Tokens} {k : Keyword} {o s : Span} {ty : Ty} → type_word k ≡ Some ty
    → Pass Cast (suc r) ((kind.Punct mark.OpenParen, o) ∷ (kind.Word k, s) ∷ a) a
pass_cast_type {r} {a} {k} {o} {s} {ty} e = record {
  goal = λ n h.
      let y : Within a (descent.conversion (run n) (suc r) ((kind.Punct mark.OpenParen, o) ∷ (kind.Word k, s) ∷ a)) =
      rw (terminal_type k ty e) (within_then (expected_within is_close_paren r a) (λ e q d. within_then (run_within n Cast q d) (λ t v x. stays))) in
      rw (terminal_type k ty e) y;
}

pass_cast_to : {r : ℕ} {a b : Tokens} {k : Keyword} {o s e : Span} {ty : Ty} → type_word k ≡ Some ty → Pass Cast r a b
    → Pass Cast (suc r) ((kind.Punct mark.OpenParen, o) ∷ (kind.Word k, s) ∷ (kind.Punct mark.CloseParen, e) ∷ a) b
pass_cast_to {r} {a} {b} {k} {o} {s} {e} {ty} h f = record {
  goal = λ n i.
      at_suc (λ n. Within b (descent.cast (run n) (suc r) ((kind.Punct mark.OpenParen, o) ∷ (kind.Word k, s) ∷ (kind.Punct mark.CloseParen, e) ∷ a))) n r i (λ n i.
      let y : Within b (descent.conversion (run (suc n)) (suc r) ((kind.Punct mark.OpenParen, o) ∷ (kind.Word k, s) ∷ (kind.Punct mark.CloseParen, e) ∷ a)) =
      rw (terminal_type k ty h) (within_then (run_is n Cast r a b (f.goal n i)) (λ t v x. stays)) in
      rw (terminal_type k ty h) y);
}

pass_operand : {r : ℕ} {a b : Tokens} → Pass Cast r a b → Pass (Binary 0) r a b
pass_operand f = record { goal = λ n h. f.goal n h }

pass_weaker : {r j : ℕ} {a b : Tokens} → Pass (Binary j) r a b → Pass (Binary (suc j)) r a b
pass_weaker {r} {j} {a} {b} f = record { goal = λ n h. within_then (f.goal n h) (operators_within (run n) (run_within n) (suc n) j) }

operator_comes : (j : ℕ) (p : Punct) (f : BinOp) → binary_operator p ≡ Some f → rank f ≡ j → operator_at j (punct_terminal p) ≡ Some f
operator_comes j p f e h =
    let q : (rank f == j) ≡ true = grind (arith, nat_tests) in
    ap (operator_at j) (terminal_binary p f e) ∙ ap (λ (x : Bool). if x then Some f else None) q

pass_binary : {r m j : ℕ} {a b c : Tokens} {t : Tree} {p : Punct} {s : Span} {f : BinOp} → binary_operator p ≡ Some f → rank f ≡ suc j
    → Reads (Binary (suc j)) r a (suc m) ((kind.Punct p, s) ∷ b) t → Pass (Binary j) m b c → Pass (Binary (suc j)) r a c
pass_binary {r} {m} {j} {a} {b} {c} {t} {p} {s} {f} e k d g = record {
  goal = λ n h. let le = room d in at_suc (λ n. r ≤ n → Within c (descent.binary (run n) (suc n) (suc j) r a)) n m (omega arith) (λ n h2 h.
      let lo : loose (punct_terminal p) ≡ suc (rank f) = ap loose (terminal_binary p f e) in
      let x = (complete_part d).goal (suc n) h (omega arith) in
      turn n x.0 x.1 x.2 x.3 (run_is n (Binary j) m b c (g.goal n h2))) h;
}
  where
    turn : (n : ℕ) (u : Bool) (q : ℕ) → suc m < q
        → descent.binary (run (suc n)) (suc (suc n)) (suc j) r a ≡ descent.operators (run (suc n)) q j (t, u) (suc m) ((kind.Punct p, s) ∷ b)
        → Within c (run (suc n) (Binary j) m b) → Within c (descent.binary (run (suc n)) (suc (suc n)) (suc j) r a)
    turn n u zero lt x y = absurd (omega arith)
    turn n u (suc q) lt x y =
        rw (x, operator_comes (suc j) p f e k) (within_then y (λ v i d. operators_within (run (suc n)) (run_within (suc n)) q j (joined f t v.0, false) i d))

pass_conditional : {r : ℕ} {a b : Tokens} → Pass (Binary weakest) r a b → Pass Conditional r a b
pass_conditional f = record { goal = λ n h. within_then (f.goal n h) (choose_within (run n) (run_within n)) }

-- after a `?`
asked : (n r m : ℕ) (a b c : Tokens) (t : Tree) (s : Span) → Reads (Binary weakest) r a (suc m) ((kind.Punct mark.Question, s) ∷ b) t → r ≤ suc n
    → ((u : Bool) → Within c (descent.choose_by (run (suc n)) true (t, u) (suc m) ((kind.Punct mark.Question, s) ∷ b)))
    → Within c (descent.conditional (run (suc n)) (suc (suc n)) r a)
unfolding run
asked n r m a b c t s d h f =
    let x = complete (suc n) d h (omega arith) in
    goes_on c (descent.binary (run (suc n)) (suc (suc n)) weakest r a) (descent.choose (run (suc n))) (t, x.0) (suc m) ((kind.Punct mark.Question, s) ∷ b) x.1
    (f x.0)

pass_choose : {r m : ℕ} {a b c : Tokens} {t : Tree} {s : Span} → Reads (Binary weakest) r a (suc m) ((kind.Punct mark.Question, s) ∷ b) t
    → Pass Expression m b c → Pass Conditional r a c
pass_choose {r} {m} {a} {b} {c} {t} {s} d f = record {
  goal = λ n h. let le = room d in at_suc (λ n. r ≤ n → Within c (descent.conditional (run n) (suc n) r a)) n m (omega arith) (λ n h2 h.
      asked n r m a b c t s d h
      (λ u.
      within_then (run_is n Expression m b c (f.goal n h2))
      (λ u q d. within_then (expected_within is_colon q d) (λ o v x. within_then (run_within (suc n) Conditional v x) (λ w y z. stays))))) h;
}

pass_choose_no : {r m i : ℕ} {a b c d : Tokens} {t v : Tree} {s o : Span} → Reads (Binary weakest) r a (suc m) ((kind.Punct mark.Question, s) ∷ b) t
    → Reads Expression m b i ((kind.Punct mark.Colon, o) ∷ c) v → Pass Conditional i c d → Pass Conditional r a d
pass_choose_no {r} {m} {i} {a} {b} {c} {d} {t} {v} {s} {o} d1 d2 f = record {
  goal = λ n h. let le = room d1 in at_suc (λ n. r ≤ n → Within d (descent.conditional (run n) (suc n) r a)) n m (omega arith) (λ n h2 h.
      let le2 = room d2 in
      let y = complete n d2 h2 (omega arith) in
      asked n r m a b d t s d1 h (λ u. rw y.1 (within_then (run_is n Conditional i c d (f.goal n (omega arith))) (λ w y z. stays)))) h;
}

pass_assignment : {r : ℕ} {a b : Tokens} → Pass Conditional r a b → Pass Assignment r a b
pass_assignment f = record { goal = λ n h. within_then (f.goal n h) (placed_within (run n) (run_within n)) }

pass_assign : {r m : ℕ} {a b c : Tokens} {t : Tree} {p : Punct} {s : Span} {f : Option BinOp} → assignment_operator p ≡ Some f
    → Reads Unary r a (suc m) ((kind.Punct p, s) ∷ b) t → Pass Assignment m b c → Pass Assignment r a c
pass_assign {r} {m} {a} {b} {c} {t} {p} {s} {f} e d g = record {
  goal = λ n h. let le = room d in at_suc (λ n. r ≤ n → Within c (descent.assignment (run n) (suc n) r a)) n m (omega arith) (λ n h2 h.
      let k = (kind.Punct p, s) ∷ b in
      let lo : loose (punct_terminal p) ≡ 13 = ap loose (terminal_assignment p f e) in
      let x : descent.cast (run (suc n)) r a ≡ found (t, true) (suc m) ((kind.Punct p, s) ∷ b) =
      ap (λ x. descent.cast_by (run (suc n)) x r a) (not_cast d) ∙ (complete_part d).goal (suc n) h (omega arith) in
      let y = up_binary (run (suc n)) (suc n) weakest r a (t, true) (suc m) k (omega arith) (omega arith) x in
      let z = choose_stops (run (suc n)) (punct_terminal p) (t, true) (suc m) k (omega arith) in
      goes_on c (descent.conditional (run (suc n)) (suc (suc n)) r a) (descent.placed (run (suc n))) (t, true) (suc m) k
      (ap (λ o. and_then o (descent.choose (run (suc n)))) y ∙ z)
      (rw (terminal_assignment p f e) (within_then (run_is n Assignment m b c (g.goal n h2)) (λ v i x. stays)))) h;
}

pass_expression : {r : ℕ} {a b : Tokens} → Pass Assignment r a b → Pass Expression r a b
pass_expression f = record { goal = λ n h. within_then (f.goal n h) (commas_within (run n) (run_within n) (suc n)) }

pass_comma : {r m : ℕ} {a b c : Tokens} {t : Tree} {s : Span} → Reads Expression r a (suc m) ((kind.Punct mark.Comma, s) ∷ b) t → Pass Assignment m b c
    → Pass Expression r a c
pass_comma {r} {m} {a} {b} {c} {t} {s} d f = record {
  goal = λ n h. let le = room d in at_suc (λ n. r ≤ n → Within c (descent.expression (run n) (suc n) r a)) n m (omega arith) (λ n h2 h.
      let x = (complete_part d).goal (suc n) h (omega arith) in
      turn n x.0 x.1 x.2 x.3 (run_is n Assignment m b c (f.goal n h2))) h;
}
  where
    turn : (n : ℕ) (u : Bool) (q : ℕ) → suc m < q
        → descent.expression (run (suc n)) (suc (suc n)) r a ≡ descent.commas (run (suc n)) q (t, u) (suc m) ((kind.Punct mark.Comma, s) ∷ b)
        → Within c (run (suc n) Assignment m b) → Within c (descent.expression (run (suc n)) (suc (suc n)) r a)
    turn n u zero lt x y = absurd (omega arith)
    turn n u (suc q) lt x y = rw x (within_then y (λ v i d. commas_within (run (suc n)) (run_within (suc n)) q (followed t v.0, false) i d))

-- ---- arguments

argument_passes : (n r : ℕ) (l : Terminal) (a b : Tokens) → lookahead a ≡ l → Within b (run (suc n) Assignment r a)
    → Within b (descent.argument_by (run (suc n)) l r a)
argument_passes n r terminal.Text a b e f =
    within_more (refused (run (suc n) Assignment r a) (no_part n Assignment r a (ap starting e)) f)
    (argument_by_within (run (suc n)) (run_within (suc n)) terminal.Text r a)
argument_passes n r (terminal.Binary op.BitAnd) a b e f =
    within_more (refused (run (suc n) Assignment r a) (no_part n Assignment r a (ap starting e)) f)
    (argument_by_within (run (suc n)) (run_within (suc n)) (terminal.Binary op.BitAnd) r a)
argument_passes n r (terminal.Binary g) a b e f = within_then f (λ t m c. stays)
argument_passes n r l a b e f = within_then f (λ t m c. stays)

pass_value : {r : ℕ} {a b : Tokens} → Pass Assignment r a b → PassArgument r a b
pass_value {r} {a} {b} f = record { goal = λ n h. argument_passes n r (lookahead a) a b refl (run_is n Assignment r a b (f.goal n h)) }

pass_format : {r : ℕ} {a : Tokens} {w : List ℕ} {s : Span} → PassArgument r ((kind.Str w, s) ∷ a) a
pass_format = record { goal = λ n h. stays }

pass_address : {r : ℕ} {a b : Tokens} {s : Span} → Pass Unary r a b → PassArgument (suc r) ((kind.Punct mark.And, s) ∷ a) b
pass_address {r} {a} {b} {s} f = record { goal = λ n h. within_then (run_is n Unary r a b (f.goal n (omega arith))) (λ t m c. stays) }

pass_last : {r : ℕ} {a b : Tokens} → PassArgument r a b → PassArguments r a b
pass_last {r} {a} {b} f = record { goal = last }
  where
    last : (n q : ℕ) → r ≤ n → length a < q → Within b (descent.listed (λ l. false) (descent.argument (run (suc n)) r) q r a)
    last n zero h k = absurd (omega arith)
    last n (suc q) h k =
        list_passes (λ l. false) (descent.argument (run (suc n)) r) (argument_within (run (suc n)) (run_within (suc n)) r) q r a b (f.goal n h)

pass_more : {r : ℕ} {a b c : Tokens} {g : Given} {s : Span} → Argument r a ((kind.Punct mark.Comma, s) ∷ b) g → PassArguments r b c → PassArguments r a c
pass_more {r} {a} {b} {c} {g} {s} d f = record { goal = more }
  where
    more : (n q : ℕ) → r ≤ n → length a < q → Within c (descent.listed (λ l. false) (descent.argument (run (suc n)) r) q r a)
    more n zero h k = absurd (omega arith)
    more n (suc q) h k = let le = argument_shorter d in
        list_goes_on (λ l. false) (descent.argument (run (suc n)) r) q r a b c g s (complete_argument n d h (omega arith)) refl (f.goal n q h (omega arith))

mutual
  pass : {N : Nonterminal} {r : ℕ} {a b : Tokens} → Begins N r a b → Pass N r a b
  pass Begins.none = pass_none
  pass Begins.constant = record { goal = λ n h. stays }
  pass Begins.name = pass_name
  pass (Begins.index d) = pass_index (pass d)
  pass (Begins.index_end d) = pass_index_end d
  pass Begins.call_bare = pass_call_bare
  pass (Begins.call d) = pass_call (pass_arguments d)
  pass (Begins.call_end d) = pass_call_end d
  pass (Begins.paren d) = pass_paren (pass d)
  pass (Begins.paren_end d) = pass_paren_end d
  pass (Begins.postfix d) = pass_postfix (pass d)
  pass (Begins.bump_after e d) = pass_bump_after e d
  pass (Begins.unary d) = pass_unary (pass d)
  pass (Begins.bump_before e d) = pass_bump_before e (pass d)
  pass (Begins.prefix e d) = pass_prefix e (pass d)
  pass (Begins.cast d) = pass_cast (pass d)
  pass Begins.cast_open = pass_cast_open
  pass (Begins.cast_type e) = pass_cast_type e
  pass (Begins.cast_to e d) = pass_cast_to e (pass d)
  pass (Begins.operand d) = pass_operand (pass d)
  pass (Begins.weaker d) = pass_weaker (pass d)
  pass (Begins.binary e h d1 d2) = pass_binary e h d1 (pass d2)
  pass (Begins.conditional d) = pass_conditional (pass d)
  pass (Begins.choose d1 d2) = pass_choose d1 (pass d2)
  pass (Begins.choose_no d1 d2 d3) = pass_choose_no d1 d2 (pass d3)
  pass (Begins.assignment d) = pass_assignment (pass d)
  pass (Begins.assign e d1 d2) = pass_assign e d1 (pass d2)
  pass (Begins.expression d) = pass_expression (pass d)
  pass (Begins.comma d1 d2) = pass_comma d1 (pass d2)

  pass_argument : {r : ℕ} {a b : Tokens} → BeginsArgument r a b → PassArgument r a b
  pass_argument (BeginsArgument.value d) = pass_value (pass d)
  pass_argument BeginsArgument.format = pass_format
  pass_argument (BeginsArgument.address d) = pass_address (pass d)

  pass_arguments : {r : ℕ} {a b : Tokens} → BeginsArguments r a b → PassArguments r a b
  pass_arguments (BeginsArguments.last d) = pass_last (pass_argument d)
  pass_arguments (BeginsArguments.more d e) = pass_more d (pass_arguments e)

pub passes : {N : Nonterminal} {r : ℕ} {a b : Tokens} (n : ℕ) → Begins N r a b → r ≤ n → Within b (run (suc n) N r a)
passes {N} {r} {a} {b} n d h = run_is n N r a b ((pass d).goal n h)

pub passed : {N : Nonterminal} {r : ℕ} {a b : Tokens} (n : ℕ) → Begins N r a b → r ≤ n → Far b (run (suc n) N r a)
passed n d h = (passes n d h).far
