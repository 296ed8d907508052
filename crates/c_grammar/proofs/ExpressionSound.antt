-- What the descent reads is an expression; where it stops, what comes before begins one.
use Rattle.std.proofs.Common.{◌≡◌, ℕ, zero, suc, ◌≤◌, ◌<◌, Bool, true, false, List, [], ◌∷◌, Option, Some, None, refl, subst, sym, ap, arith}
use Rattle.c_lex.specs.declared.token.TokenKind.TheVariants as kind
use Rattle.c_lex.specs.declared.token.Punct.{Punct}
use Rattle.c_lex.specs.declared.token.Punct.TheVariants as mark
use Rattle.c_tree.specs.declared.expr.BinOp.{BinOp}
use Rattle.c_tree.specs.declared.expr.BinOp.TheVariants as op
use Rattle.c_tree.specs.declared.expr.UnOp.{UnOp}
use Rattle.c_tree.specs.declared.place.Span.{Span}
use Rattle.c_tree.specs.Tree as tree
use Rattle.c_tree.specs.Tree.{Tree}
use Rattle.c_grammar.specs.declared.terminal.Terminal.{Terminal}
use Rattle.c_grammar.specs.declared.terminal.Terminal.TheVariants as terminal
use Rattle.c_grammar.specs.declared.nonterminal.Nonterminal.{Nonterminal}
use Rattle.c_grammar.specs.declared.nonterminal.Nonterminal.TheVariants.{Expression, Assignment, Conditional, Binary, Cast, Unary, Postfix, Primary}
use Rattle.c_grammar.specs.Operators.{binary_operator, rank, weakest, prefix_operator, bump_operator, assignment_operator}
use Rattle.c_grammar.specs.Grammar.{Tokens, args, over, joined, followed, Reads, Argument, Arguments, Begins, BeginsArgument, BeginsArguments}
use Rattle.c_grammar.specs.Terminals.{lookahead, is_close_paren, is_open_paren, is_open_bracket, is_question, is_comma, bump_at, prefix_at, assignment_at, operator_at, casts, casts_by}
use Rattle.c_grammar.specs.Descent.{Reading, found, Read, Reader, and_then, expected, value, address, argument_by, argument, arguments_by, index, call, named_by, named, paren, number, primary_by, primary, bumped_by, postfix, bump, prefix, prefix_by, unary_by, unary, conversion, cast_by, cast, operated, operators, binary, choose_by, conditional, assign_by, placed_by, assignment, comma_by, commas, expression, step, run}
use Rattle.c_grammar.proofs.Terminals.{bump_is, prefix_is, assignment_is, operator_is}
use Rattle.c_grammar.proofs.ExpressionBasics.{room, reads_lift, reads_begun, argument_lift, arguments_begun}
use Rattle.c_grammar.proofs.Fits.{Fits, Kept, part_fits, as_fits, lookahead_is, lookahead_tells, token_fits, token_opens, name_opens, constant_opens, text_opens, type_opens, close_paren, open_paren, open_bracket, close_bracket, question, colon, comma}
use Rattle.c_grammar.proofs.ListFits.{Listing, listed_fits}

-- What is read, which is a unary expression where it is marked as one.
pub record Got (N : Nonterminal) (r : ℕ) (a : Tokens) (t : Read) (m : ℕ) (b : Tokens) : Type 0 where
  pub reads : Reads N r a m b t.0
  pub whole : t.1 ≡ true → Reads Unary r a m b t.0

-- what is found is an expression of that kind; where it isn't, what comes before begins one
abbrev pub Sound : Nonterminal → ℕ → Tokens → Reading Read → Type 0
Sound N r a o = Fits (Begins N r a) (Begins N (suc r) a) (Got N r a) o

got_primary : {r m : ℕ} {a b : Tokens} {t : Read} → Reads Primary r a m b t.0 → Got Primary r a t m b
got_primary d = record { reads = d; whole = λ _. Reads.unary (Reads.postfix d) }

got_postfix : {r m : ℕ} {a b : Tokens} {t : Read} → Reads Postfix r a m b t.0 → Got Postfix r a t m b
got_postfix d = record { reads = d; whole = λ _. Reads.unary d }

got_unary : {r m : ℕ} {a b : Tokens} {t : Read} → Reads Unary r a m b t.0 → Got Unary r a t m b
got_unary d = record { reads = d; whole = λ _. d }

-- not marked
got_other : {N : Nonterminal} {r m : ℕ} {a b : Tokens} {t : Tree} → Reads N r a m b t → Got N r a (t, false) m b
got_other d = record { reads = d; whole = λ e. absurd (cc (e)) }

abbrev Lists : ℕ → Type 0
Lists r = Listing (λ _. false) (λ a g b. Argument r a b g) (λ a gs b. Arguments r a b gs) (BeginsArgument r) (BeginsArgument (suc r)) (BeginsArguments r)
    (BeginsArguments (suc r))

lists : (r : ℕ) → Lists r
lists r =
    record {
      none = λ a. BeginsArguments.last (BeginsArgument.value Begins.none);
      last = λ d. Arguments.last d;
      last_comma = λ e d. absurd (cc (e));
      more = λ d x. Arguments.more d x;
      begins_last = λ v. BeginsArguments.last v;
      deeper_last = λ v. BeginsArguments.last v;
      begins_more = λ d v. BeginsArguments.more d v;
      deeper_more = λ d v. BeginsArguments.more (argument_lift d) v;
    }

and_is : (p : Punct) → binary_operator p ≡ Some op.BitAnd → p ≡ mark.And
and_is mark.And e = refl
and_is _ e = absurd (cc (e))

module _ (self : Nonterminal → Reader Read) (n : ℕ) (H : (N : Nonterminal) (r : ℕ) (a : Tokens) → r < n → Sound N r a (self N r a)) where
  -- ---- arguments

  value_ok : (r : ℕ) (a : Tokens) → r < n → Fits (BeginsArgument r a) (BeginsArgument (suc r) a) (Kept r (λ g b. Argument r a b g)) (value self r a)
  value_ok r a h =
      part_fits (H Assignment r a h) (λ b v. BeginsArgument.value v) (λ b v. BeginsArgument.value v)
      (λ t m b d. Fits.finds (record { same = refl; is = Argument.value d.reads }))

  address_ok : (r : ℕ) (s : Span) (a : Tokens) → r < n
      → Fits (BeginsArgument r ((kind.Punct mark.And, s) ∷ a)) (BeginsArgument (suc r) ((kind.Punct mark.And, s) ∷ a))
      (Kept r (λ g b. Argument r ((kind.Punct mark.And, s) ∷ a) b g))
      (address self r ((kind.Punct mark.And, s) ∷ a))
  address_ok zero s a h = Fits.sinks (BeginsArgument.value Begins.none) (BeginsArgument.address Begins.none)
  address_ok (suc r) s a h =
      part_fits (H Unary r a (omega arith)) (λ b v. BeginsArgument.address v) (λ b v. BeginsArgument.address v)
      (λ t m b d. Fits.finds (record { same = refl; is = Argument.address d.reads }))

  argument_by_ok : (l : Terminal) (r : ℕ) (a : Tokens) → lookahead a ≡ l → r < n
      → Fits (BeginsArgument r a) (BeginsArgument (suc r) a) (Kept r (λ g b. Argument r a b g)) (argument_by self l r a)
  argument_by_ok terminal.Text r a e h =
      text_opens (BeginsArgument r) (BeginsArgument (suc r)) (λ z. Kept r (λ g b. Argument r z b g)) _ r a (BeginsArgument.value Begins.none)
      (λ w s c. Fits.finds (record { same = refl; is = Argument.format }))
  argument_by_ok (terminal.Binary op.BitAnd) r a e h =
      lookahead_tells kind.Punct (operator_at 6) (λ p f. binary_operator p ≡ Some f) (λ k f i. let x = operator_is 6 k f i in (x.0, x.1, x.2)) refl
      (λ z. Fits (BeginsArgument r z) (BeginsArgument (suc r) z) (Kept r (λ g b. Argument r z b g)) (address self r z)) op.BitAnd a (ap (operator_at 6) e)
      (λ p s c q. subst (λ k. Fits (BeginsArgument r ((kind.Punct k, s) ∷ c)) (BeginsArgument (suc r) ((kind.Punct k, s) ∷ c))
      (Kept r (λ g b. Argument r ((kind.Punct k, s) ∷ c) b g)) (address self r ((kind.Punct k, s) ∷ c)))
      (sym (and_is p q)) (address_ok r s c h))
  argument_by_ok _ r a e h = value_ok r a h

  argument_ok : (r : ℕ) → r < n → (a : Tokens) → Fits (BeginsArgument r a) (BeginsArgument (suc r) a) (Kept r (λ g b. Argument r a b g)) (argument self r a)
  argument_ok r h a = argument_by_ok (lookahead a) r a refl h

  -- ---- primary expressions

  index_ok : (w : List ℕ) (s : Span) (r : ℕ) (o : Span) (a : Tokens) → r ≤ n
      → Sound Primary r ((kind.Name w, s) ∷ (kind.Punct mark.OpenBracket, o) ∷ a) (index self w s r ((kind.Punct mark.OpenBracket, o) ∷ a))
  index_ok w s zero o a h = Fits.sinks Begins.name (Begins.index Begins.none)
  index_ok w s (suc r) o a h =
      part_fits (H Expression r a (omega arith)) (λ b v. Begins.index v) (λ b v. Begins.index v)
      (λ t m b d. token_fits close_bracket (λ z. Reads Expression r a m z t.0) _ (suc r) b (Begins.index (reads_begun d.reads)) d.reads
      (λ e c g. Fits.finds (got_primary (Reads.index g))))

  call_by_ok : (x : Bool) (w : List ℕ) (s : Span) (r : ℕ) (o : Span) (a : Tokens) → is_close_paren (lookahead a) ≡ x → r < n
      → Sound Primary (suc r) ((kind.Name w, s) ∷ (kind.Punct mark.OpenParen, o) ∷ a)
      (and_then (arguments_by self x r a) (λ gs m b. and_then (expected is_close_paren (suc r) b) (λ e q d. found (tree.call w (args gs) (over s e), true) q d)))
  call_by_ok true w s r o a e h =
      lookahead_is close_paren (λ z. Sound Primary (suc r) ((kind.Name w, s) ∷ (kind.Punct mark.OpenParen, o) ∷ z)
      (and_then (expected is_close_paren (suc r) z) (λ e q d. found (tree.call w (args []) (over s e), true) q d)))
      a e (λ i c. Fits.finds (got_primary Reads.call_bare))
  call_by_ok false w s r o a e h =
      part_fits (listed_fits (lists r) (argument self r) r (argument_ok r h) _ a) (λ b v. Begins.call v) (λ b v. Begins.call v)
      (λ gs m b d. token_fits close_paren (λ z. Arguments r a z gs) _ (suc r) b (Begins.call (arguments_begun d.is)) d.is
      (λ e c g. Fits.finds (got_primary (Reads.call g))))

  call_ok : (w : List ℕ) (s : Span) (r : ℕ) (o : Span) (a : Tokens) → r ≤ n
      → Sound Primary r ((kind.Name w, s) ∷ (kind.Punct mark.OpenParen, o) ∷ a) (call self w s r ((kind.Punct mark.OpenParen, o) ∷ a))
  call_ok w s zero o a h = Fits.sinks Begins.name (Begins.call (BeginsArguments.last (BeginsArgument.value Begins.none)))
  call_ok w s (suc r) o a h = call_by_ok (is_close_paren (lookahead a)) w s r o a refl (omega arith)

  named_by_ok : (l : Terminal) (w : List ℕ) (s : Span) (r : ℕ) (a : Tokens) → lookahead a ≡ l → r ≤ n → Sound Primary r ((kind.Name w, s) ∷ a) (named_by self l w s r a)
  named_by_ok terminal.OpenBracket w s r a e h =
      lookahead_is open_bracket (λ z. Sound Primary r ((kind.Name w, s) ∷ z) (index self w s r z)) a (ap is_open_bracket e) (λ o c. index_ok w s r o c h)
  named_by_ok terminal.OpenParen w s r a e h = lookahead_is open_paren (λ z. Sound Primary r ((kind.Name w, s) ∷ z) (call self w s r z)) a (ap is_open_paren e)
      (λ o c. call_ok w s r o c h)
  named_by_ok _ w s r a e h = Fits.finds (got_primary Reads.name)

  named_ok : (r : ℕ) (a : Tokens) → r ≤ n → Sound Primary r a (named self r a)
  named_ok r a h = name_opens (Begins Primary r) (Begins Primary (suc r)) (Got Primary r) _ r a Begins.none (λ w s c. named_by_ok (lookahead c) w s r c refl h)

  paren_ok : (r : ℕ) (s : Span) (a : Tokens) → r ≤ n → Sound Primary r ((kind.Punct mark.OpenParen, s) ∷ a) (paren self r ((kind.Punct mark.OpenParen, s) ∷ a))
  paren_ok zero s a h = Fits.sinks Begins.none (Begins.paren Begins.none)
  paren_ok (suc r) s a h =
      part_fits (H Expression r a (omega arith)) (λ b v. Begins.paren v) (λ b v. Begins.paren v)
      (λ t m b d. token_fits close_paren (λ z. Reads Expression r a m z t.0) _ (suc r) b (Begins.paren (reads_begun d.reads)) d.reads
      (λ e c g. Fits.finds (got_primary (Reads.paren g))))

  number_ok : (r : ℕ) (a : Tokens) → Sound Primary r a (number self r a)
  number_ok r a = constant_opens (Begins Primary r) (Begins Primary (suc r)) (Got Primary r) _ r a Begins.none (λ n w s c. Fits.finds (got_primary Reads.constant))

  primary_by_ok : (l : Terminal) (r : ℕ) (a : Tokens) → lookahead a ≡ l → r ≤ n → Sound Primary r a (primary_by self l r a)
  primary_by_ok terminal.Constant r a e h = number_ok r a
  primary_by_ok terminal.Name r a e h = named_ok r a h
  primary_by_ok terminal.OpenParen r a e h = lookahead_is open_paren (λ z. Sound Primary r z (paren self r z)) a (ap is_open_paren e) (λ s c. paren_ok r s c h)
  primary_by_ok _ r a e h = Fits.stops Begins.none

  primary_ok : (r : ℕ) (a : Tokens) → r ≤ n → Sound Primary r a (primary self r a)
  primary_ok r a h = primary_by_ok (lookahead a) r a refl h

  -- ---- operators on one operand

  bumped_by_ok : (x : Option Bool) (r : ℕ) (a : Tokens) (t : Read) (m : ℕ) (b : Tokens) → bump_at (lookahead b) ≡ x → Reads Primary r a m b t.0
      → Sound Postfix r a (bumped_by self x t m b)
  bumped_by_ok (Some up) r a t m b e d =
      lookahead_tells kind.Punct bump_at (λ p x. bump_operator p ≡ Some x) bump_is refl
      (λ z. Reads Primary r a m z t.0 → Sound Postfix r a (bumped_by self (Some up) t m z)) up b e
      (λ p s c q g. Fits.finds (got_postfix (Reads.bump_after q g))) d
  bumped_by_ok None r a t m b e d = Fits.finds (got_postfix (Reads.postfix d))

  postfix_ok : (r : ℕ) (a : Tokens) → r ≤ n → Sound Postfix r a (postfix self r a)
  postfix_ok r a h = part_fits (primary_ok r a h) (λ b v. Begins.postfix v) (λ b v. Begins.postfix v)
      (λ t m b d. bumped_by_ok (bump_at (lookahead b)) r a t m b refl d.reads)

  bump_ok : (up : Bool) (p : Punct) (r : ℕ) (s : Span) (a : Tokens) → bump_operator p ≡ Some up → r ≤ n
      → Sound Unary r ((kind.Punct p, s) ∷ a) (bump self up r ((kind.Punct p, s) ∷ a))
  bump_ok up p zero s a q h = Fits.sinks Begins.none (Begins.bump_before q Begins.none)
  bump_ok up p (suc r) s a q h =
      part_fits (H Unary r a (omega arith)) (λ b v. Begins.bump_before q v) (λ b v. Begins.bump_before q v)
      (λ t m b d. Fits.finds (got_unary (Reads.bump_before q d.reads)))

  prefix_ok : (f : UnOp) (p : Punct) (r : ℕ) (s : Span) (a : Tokens) → prefix_operator p ≡ Some f → r ≤ n
      → Sound Unary r ((kind.Punct p, s) ∷ a) (prefix self f r ((kind.Punct p, s) ∷ a))
  prefix_ok f p zero s a q h = Fits.sinks Begins.none (Begins.prefix q Begins.none)
  prefix_ok f p (suc r) s a q h = part_fits (H Cast r a (omega arith)) (λ b v. Begins.prefix q v) (λ b v. Begins.prefix q v)
      (λ t m b d. Fits.finds (got_unary (Reads.prefix q d.reads)))

  prefix_by_ok : (x : Option UnOp) (r : ℕ) (a : Tokens) → prefix_at (lookahead a) ≡ x → r ≤ n → Sound Unary r a (prefix_by self x r a)
  prefix_by_ok (Some f) r a e h =
      lookahead_tells kind.Punct prefix_at (λ p x. prefix_operator p ≡ Some x) prefix_is refl (λ z. Sound Unary r z (prefix self f r z)) f a e
      (λ p s c q. prefix_ok f p r s c q h)
  prefix_by_ok None r a e h = as_fits (postfix_ok r a h) (λ b v. Begins.unary v) (λ b v. Begins.unary v) (λ t m b d. got_unary (Reads.unary d.reads))

  unary_by_ok : (x : Option Bool) (r : ℕ) (a : Tokens) → bump_at (lookahead a) ≡ x → r ≤ n → Sound Unary r a (unary_by self x r a)
  unary_by_ok (Some up) r a e h =
      lookahead_tells kind.Punct bump_at (λ p x. bump_operator p ≡ Some x) bump_is refl (λ z. Sound Unary r z (bump self up r z)) up a e
      (λ p s c q. bump_ok up p r s c q h)
  unary_by_ok None r a e h = prefix_by_ok (prefix_at (lookahead a)) r a refl h

  unary_ok : (r : ℕ) (a : Tokens) → r ≤ n → Sound Unary r a (unary self r a)
  unary_ok r a h = unary_by_ok (bump_at (lookahead a)) r a refl h

  conversion_ok : (r : ℕ) (o : Span) (a : Tokens) → r ≤ n → Sound Cast r ((kind.Punct mark.OpenParen, o) ∷ a)
      (conversion self r ((kind.Punct mark.OpenParen, o) ∷ a))
  conversion_ok zero o a h = Fits.sinks Begins.none Begins.cast_open
  conversion_ok (suc r) o a h =
      type_opens (λ z. Begins Cast (suc r) ((kind.Punct mark.OpenParen, o) ∷ z)) (λ z. Begins Cast (suc (suc r)) ((kind.Punct mark.OpenParen, o) ∷ z))
      (λ z. Got Cast (suc r) ((kind.Punct mark.OpenParen, o) ∷ z)) _ r a Begins.cast_open
      (λ k ty s c q.
      token_opens close_paren (λ z. Begins Cast (suc r) ((kind.Punct mark.OpenParen, o) ∷ (kind.Word k, s) ∷ z))
      (λ z. Begins Cast (suc (suc r)) ((kind.Punct mark.OpenParen, o) ∷ (kind.Word k, s) ∷ z))
      (λ z. Got Cast (suc r) ((kind.Punct mark.OpenParen, o) ∷ (kind.Word k, s) ∷ z)) _ r c (Begins.cast_type q)
      (λ e d. part_fits (H Cast r d (omega arith)) (λ b v. Begins.cast_to q v) (λ b v. Begins.cast_to q v)
      (λ t m b g. Fits.finds (got_other (Reads.cast_to q g.reads)))))

  cast_by_ok : (x : Bool) (l : Terminal) (r : ℕ) (a : Tokens) → lookahead a ≡ l → casts_by l a ≡ x → r ≤ n → Sound Cast r a (cast_by self x r a)
  cast_by_ok false l r a e i h = as_fits (unary_ok r a h) (λ b v. Begins.cast v) (λ b v. Begins.cast v)
      (λ t m b d. record { reads = Reads.cast d.reads; whole = λ _. d.reads })
  cast_by_ok true terminal.OpenParen r a e i h = lookahead_is open_paren (λ z. Sound Cast r z (conversion self r z)) a (ap is_open_paren e) (λ o c. conversion_ok r o c h)
  cast_by_ok true _ r a e i h = absurd (cc (i))

  cast_ok : (r : ℕ) (a : Tokens) → r ≤ n → Sound Cast r a (cast self r a)
  cast_ok r a h = cast_by_ok (casts a) (lookahead a) r a refl refl h

  -- ---- operators between operands

  operation_ok : (k j r : ℕ) (a : Tokens) (t : Read) (p : Punct) (s : Span) (f : BinOp) (m : ℕ) (b : Tokens) → m ≤ n → binary_operator p ≡ Some f → rank f ≡ suc j
      → Reads (Binary (suc j)) r a m ((kind.Punct p, s) ∷ b) t.0
      → ((u : Read) (i : ℕ) (d : Tokens) → i < m → Got (Binary (suc j)) r a u i d → Sound (Binary (suc j)) r a (operators self k j u i d))
      → Sound (Binary (suc j)) r a (operated self j (operators self k j) (Some f) t m ((kind.Punct p, s) ∷ b))
  operation_ok k j r a t p s f zero b h q i d on = Fits.sinks (reads_begun d) (Begins.binary q i (reads_lift d) Begins.none)
  operation_ok k j r a t p s f (suc m) b h q i d on =
      part_fits (H (Binary j) m b (omega arith)) (λ c v. Begins.binary q i d v) (λ c v. Begins.binary q i (reads_lift d) v)
      (λ u x c g. on (joined f t.0 u.0, false) x c (let y = room g.reads in omega arith) (got_other (Reads.binary q i d g.reads)))

  operated_ok : (x : Option BinOp) (k j r : ℕ) (a : Tokens) (t : Read) (m : ℕ) (b : Tokens) → operator_at (suc j) (lookahead b) ≡ x → m ≤ n
      → Got (Binary (suc j)) r a t m b
      → ((u : Read) (i : ℕ) (d : Tokens) → i < m → Got (Binary (suc j)) r a u i d → Sound (Binary (suc j)) r a (operators self k j u i d))
      → Sound (Binary (suc j)) r a (operated self j (operators self k j) x t m b)
  operated_ok None k j r a t m b e h d on = Fits.finds d
  operated_ok (Some f) k j r a t m b e h d on =
      lookahead_tells kind.Punct (operator_at (suc j)) (λ p x. (binary_operator p ≡ Some x) × (rank x ≡ suc j))
      (λ w x i. let y = operator_is (suc j) w x i in (y.0, y.1, (y.2, y.3))) refl
      (λ z. Reads (Binary (suc j)) r a m z t.0 → Sound (Binary (suc j)) r a (operated self j (operators self k j) (Some f) t m z)) f b e
      (λ p s c q g. operation_ok k j r a t p s f m c h q.0 q.1 g on) d.reads

  operators_ok : (k j r : ℕ) (a : Tokens) (t : Read) (m : ℕ) (b : Tokens) → m < k → m ≤ n → Got (Binary (suc j)) r a t m b
      → Sound (Binary (suc j)) r a (operators self k j t m b)
  operators_ok zero j r a t m b h i d = absurd (omega arith)
  operators_ok (suc k) j r a t m b h i d = operated_ok (operator_at (suc j) (lookahead b)) k j r a t m b refl i d
      (λ u q c l g. operators_ok k j r a u q c (omega arith) (omega arith) g)

  binary_ok : (j r : ℕ) (a : Tokens) → r ≤ n → Sound (Binary j) r a (binary self (suc n) j r a)
  binary_ok zero r a h = as_fits (cast_ok r a h) (λ b v. Begins.operand v) (λ b v. Begins.operand v)
      (λ t m b d. record { reads = Reads.operand d.reads; whole = d.whole })
  binary_ok (suc j) r a h =
      part_fits (binary_ok j r a h) (λ b v. Begins.weaker v) (λ b v. Begins.weaker v)
      (λ t m b d. let q = room d.reads in operators_ok (suc n) j r a t m b (omega arith) (omega arith) (record { reads = Reads.weaker d.reads; whole = d.whole }))

  choice_ok : (r : ℕ) (a : Tokens) (t : Read) (m : ℕ) (s : Span) (b : Tokens) → m ≤ n → Reads (Binary weakest) r a m ((kind.Punct mark.Question, s) ∷ b) t.0
      → Sound Conditional r a (choose_by self true t m ((kind.Punct mark.Question, s) ∷ b))
  choice_ok r a t zero s b h d = Fits.sinks (Begins.conditional (reads_begun d)) (Begins.choose (reads_lift d) Begins.none)
  choice_ok r a t (suc m) s b h d =
      part_fits (H Expression m b (omega arith)) (λ c v. Begins.choose d v) (λ c v. Begins.choose (reads_lift d) v)
      (λ u q c g. let l = room g.reads in
      token_fits colon (λ z. Reads Expression m b q z u.0) _ q c (Begins.choose d (reads_begun g.reads)) g.reads
      (λ o x y. part_fits (H Conditional q x (omega arith)) (λ z v. Begins.choose_no d y v) (λ z v. Begins.choose_no (reads_lift d) (reads_lift y) v)
      (λ w i z k. Fits.finds (got_other (Reads.choose d y k.reads)))))

  choose_by_ok : (x : Bool) (r : ℕ) (a : Tokens) (t : Read) (m : ℕ) (b : Tokens) → is_question (lookahead b) ≡ x → m ≤ n → Got (Binary weakest) r a t m b
      → Sound Conditional r a (choose_by self x t m b)
  choose_by_ok false r a t m b e h d = Fits.finds (record { reads = Reads.conditional d.reads; whole = d.whole })
  choose_by_ok true r a t m b e h d =
      lookahead_is question (λ z. Reads (Binary weakest) r a m z t.0 → Sound Conditional r a (choose_by self true t m z)) b e
      (λ s c g. choice_ok r a t m s c h g) d.reads

  conditional_ok : (r : ℕ) (a : Tokens) → r ≤ n → Sound Conditional r a (conditional self (suc n) r a)
  conditional_ok r a h =
      part_fits (binary_ok weakest r a h) (λ b v. Begins.conditional v) (λ b v. Begins.conditional v)
      (λ t m b d. let q = room d.reads in choose_by_ok (is_question (lookahead b)) r a t m b refl (omega arith) d)

  assigned_ok : (f : Option BinOp) (p : Punct) (r : ℕ) (a : Tokens) (t : Read) (m : ℕ) (s : Span) (b : Tokens) → m ≤ n → assignment_operator p ≡ Some f
      → Reads Unary r a m ((kind.Punct p, s) ∷ b) t.0 → Begins Assignment r a ((kind.Punct p, s) ∷ b)
      → Sound Assignment r a (assign_by self (Some f) t m ((kind.Punct p, s) ∷ b))
  assigned_ok f p r a t zero s b h q d v = Fits.sinks v (Begins.assign q (reads_lift d) Begins.none)
  assigned_ok f p r a t (suc m) s b h q d v =
      part_fits (H Assignment m b (omega arith)) (λ c v. Begins.assign q d v) (λ c v. Begins.assign q (reads_lift d) v)
      (λ u i c g. Fits.finds (got_other (Reads.assign q d g.reads)))

  assign_by_ok : (x : Option (Option BinOp)) (r : ℕ) (a : Tokens) (t : Read) (m : ℕ) (b : Tokens) → assignment_at (lookahead b) ≡ x → m ≤ n → Got Conditional r a t m b
      → Reads Unary r a m b t.0
      → Sound Assignment r a (assign_by self x t m b)
  assign_by_ok None r a t m b e h d g = Fits.finds (record { reads = Reads.assignment d.reads; whole = d.whole })
  assign_by_ok (Some f) r a t m b e h d g =
      lookahead_tells kind.Punct assignment_at (λ p x. assignment_operator p ≡ Some x) assignment_is refl
      (λ z. Reads Unary r a m z t.0 → Begins Assignment r a z → Sound Assignment r a (assign_by self (Some f) t m z)) f b e
      (λ p s c q i v. assigned_ok f p r a t m s c h q i v) g (Begins.assignment (reads_begun d.reads))

  placed_by_ok : (x : Bool) (r : ℕ) (a : Tokens) (t : Read) (m : ℕ) (b : Tokens) → t.1 ≡ x → m ≤ n → Got Conditional r a t m b
      → Sound Assignment r a (placed_by self x t m b)
  placed_by_ok true r a t m b e h d = assign_by_ok (assignment_at (lookahead b)) r a t m b refl h d (d.whole e)
  placed_by_ok false r a t m b e h d = Fits.finds (record { reads = Reads.assignment d.reads; whole = d.whole })

  assignment_ok : (r : ℕ) (a : Tokens) → r ≤ n → Sound Assignment r a (assignment self (suc n) r a)
  assignment_ok r a h =
      part_fits (conditional_ok r a h) (λ b v. Begins.assignment v) (λ b v. Begins.assignment v)
      (λ t m b d. let q = room d.reads in placed_by_ok t.1 r a t m b refl (omega arith) d)

  follower_ok : (k r : ℕ) (a : Tokens) (t : Read) (m : ℕ) (s : Span) (b : Tokens) → m ≤ n → Reads Expression r a m ((kind.Punct mark.Comma, s) ∷ b) t.0
      → ((u : Read) (i : ℕ) (d : Tokens) → i < m → Got Expression r a u i d → Sound Expression r a (commas self k u i d))
      → Sound Expression r a (comma_by self true (commas self k) t m ((kind.Punct mark.Comma, s) ∷ b))
  follower_ok k r a t zero s b h d on = Fits.sinks (reads_begun d) (Begins.comma (reads_lift d) Begins.none)
  follower_ok k r a t (suc m) s b h d on =
      part_fits (H Assignment m b (omega arith)) (λ c v. Begins.comma d v) (λ c v. Begins.comma (reads_lift d) v)
      (λ u x c g. on (followed t.0 u.0, false) x c (let y = room g.reads in omega arith) (got_other (Reads.comma d g.reads)))

  comma_by_ok : (x : Bool) (k r : ℕ) (a : Tokens) (t : Read) (m : ℕ) (b : Tokens) → is_comma (lookahead b) ≡ x → m ≤ n → Got Expression r a t m b
      → ((u : Read) (i : ℕ) (d : Tokens) → i < m → Got Expression r a u i d → Sound Expression r a (commas self k u i d))
      → Sound Expression r a (comma_by self x (commas self k) t m b)
  comma_by_ok false k r a t m b e h d on = Fits.finds d
  comma_by_ok true k r a t m b e h d on =
      lookahead_is comma (λ z. Reads Expression r a m z t.0 → Sound Expression r a (comma_by self true (commas self k) t m z)) b e
      (λ s c g. follower_ok k r a t m s c h g on) d.reads

  commas_ok : (k r : ℕ) (a : Tokens) (t : Read) (m : ℕ) (b : Tokens) → m < k → m ≤ n → Got Expression r a t m b → Sound Expression r a (commas self k t m b)
  commas_ok zero r a t m b h i d = absurd (omega arith)
  commas_ok (suc k) r a t m b h i d = comma_by_ok (is_comma (lookahead b)) k r a t m b refl i d (λ u q c l g. commas_ok k r a u q c (omega arith) (omega arith) g)

  expression_ok : (r : ℕ) (a : Tokens) → r ≤ n → Sound Expression r a (expression self (suc n) r a)
  expression_ok r a h =
      part_fits (assignment_ok r a h) (λ b v. Begins.expression v) (λ b v. Begins.expression v)
      (λ t m b d. let q = room d.reads in commas_ok (suc n) r a t m b (omega arith) (omega arith) (record { reads = Reads.expression d.reads; whole = d.whole }))

  step_ok : (N : Nonterminal) (r : ℕ) (a : Tokens) → r < suc n → Sound N r a (step self (suc n) N r a)
  step_ok Expression r a h = expression_ok r a (omega arith)
  step_ok Assignment r a h = assignment_ok r a (omega arith)
  step_ok Conditional r a h = conditional_ok r a (omega arith)
  step_ok (Binary j) r a h = binary_ok j r a (omega arith)
  step_ok Cast r a h = cast_ok r a (omega arith)
  step_ok Unary r a h = unary_ok r a (omega arith)
  step_ok Postfix r a h = postfix_ok r a (omega arith)
  step_ok Primary r a h = primary_ok r a (omega arith)

-- with room for fewer openers than the number, what is read is an expression
pub run_ok : (n : ℕ) (N : Nonterminal) (r : ℕ) (a : Tokens) → r < n → Sound N r a (run n N r a)
unfolding run
run_ok zero N r a h = absurd (omega arith)
run_ok (suc n) N r a h = step_ok (run n) n (run_ok n) N r a h
