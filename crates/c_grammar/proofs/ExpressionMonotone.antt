-- With one more room the descent comes to the same, unless room was lacking.
use Rattle.std.proofs.Common.{◌≡◌, ℕ, zero, suc, Bool, true, false, List, [], ◌∷◌, Option, Some, None, refl, subst, sym, ap, length}
use Rattle.c_lex.specs.declared.token.TokenKind.{TokenKind}
use Rattle.c_lex.specs.declared.token.TokenKind.TheVariants as kind
use Rattle.c_tree.specs.declared.expr.BinOp.{BinOp}
use Rattle.c_tree.specs.declared.expr.BinOp.TheVariants as op
use Rattle.c_tree.specs.declared.expr.UnOp.{UnOp}
use Rattle.c_tree.specs.declared.place.Span.{Span}
use Rattle.c_tree.specs.declared.stmt.Ty.{Ty}
use Rattle.c_grammar.specs.declared.terminal.Terminal.{Terminal}
use Rattle.c_grammar.specs.declared.terminal.Terminal.TheVariants as terminal
use Rattle.c_grammar.specs.declared.nonterminal.Nonterminal.{Nonterminal}
use Rattle.c_grammar.specs.declared.nonterminal.Nonterminal.TheVariants.{Expression, Assignment, Conditional, Binary, Cast, Unary, Postfix, Primary}
use Rattle.c_grammar.specs.Grammar.{Tokens}
use Rattle.c_grammar.specs.Terminals.{lookahead, is_comma, is_close_paren, is_question, bump_at, prefix_at, type_at, assignment_at, operator_at, casts}
use Rattle.c_grammar.specs.Descent as descent
use Rattle.c_grammar.specs.Descent.{Reading, found, unexpected, too_deep, Reader, Read, and_then, taken, opened, expected, entered, run}

-- the second is the first with one more room, unless room was lacking
abbrev pub Same : {A : Type 0} → Reading A → Reading A → Type 0
Same (found x m b) o = o ≡ found x (suc m) b
Same (unexpected b) o = o ≡ unexpected b
Same (too_deep b) o = Unit {0}

-- the same, as a record, so that the readings are known from it
pub record Grows {A : Type 0} (o p : Reading A) : Type 0 where
  pub same : Same o p

pub grows_then : {A B : Type 0} {o p : Reading A} (f g : A → Reader B) → Grows o p → ((x : A) (m : ℕ) (b : Tokens) → Grows (f x m b) (g x (suc m) b))
    → Grows (and_then o f) (and_then p g)
grows_then {o = found x m b} {p} f g h k = subst (λ y. Grows (f x m b) (and_then y g)) (sym h.same) (k x m b)
grows_then {o = unexpected b} {p} f g h k = record { same = ap (λ y. and_then y g) h.same }
grows_then {o = too_deep b} f g h k = record { same = tt }

-- a part is found
pub finds : {A : Type 0} {x : A} {m : ℕ} {a : Tokens} → Grows (found x m a) (found x (suc m) a)
finds = record { same = refl }

pub refuses : {A : Type 0} {a : Tokens} → Grows {A = A} (unexpected a) (unexpected a)
refuses = record { same = refl }

-- the room is wanting
pub wants : {A : Type 0} {a : Tokens} {o : Reading A} → Grows (too_deep a) o
wants = record { same = tt }

-- ---- tokens

pub taken_grows : (r : ℕ) (a : Tokens) → Grows (taken r a) (taken (suc r) a)
taken_grows r [] = refuses
taken_grows r ((k, s) ∷ a) = finds

pub opened_grows : (r : ℕ) (a : Tokens) → Grows (opened r a) (opened (suc r) a)
opened_grows zero a = wants
opened_grows (suc r) a = taken_grows r a

pub expected_by_grows : (x : Bool) (r : ℕ) (a : Tokens) → Grows (descent.expected_by x r a) (descent.expected_by x (suc r) a)
expected_by_grows true r a = taken_grows r a
expected_by_grows false r a = refuses

pub expected_grows : (is : Terminal → Bool) (r : ℕ) (a : Tokens) → Grows (expected is r a) (expected is (suc r) a)
expected_grows is r a = expected_by_grows (is (lookahead a)) r a

pub entered_by_grows : (x : Bool) (r : ℕ) (a : Tokens) → Grows (descent.entered_by x r a) (descent.entered_by x (suc r) a)
entered_by_grows true r a = opened_grows r a
entered_by_grows false r a = refuses

pub entered_grows : (is : Terminal → Bool) (r : ℕ) (a : Tokens) → Grows (entered is r a) (entered is (suc r) a)
entered_grows is r a = entered_by_grows (is (lookahead a)) r a

pub name_of_grows : (k : TokenKind) (s : Span) (r : ℕ) (a : Tokens)
    → Grows (descent.name_of k s a r ((k, s) ∷ a)) (descent.name_of k s a (suc r) ((k, s) ∷ a))
name_of_grows (kind.Name w) s r a = finds
name_of_grows _ s r a = refuses

pub name_grows : (r : ℕ) (a : Tokens) → Grows (descent.name r a) (descent.name (suc r) a)
name_grows r [] = refuses
name_grows r ((k, s) ∷ a) = name_of_grows k s r a

pub constant_of_grows : (k : TokenKind) (s : Span) (r : ℕ) (a : Tokens)
    → Grows (descent.constant_of k s a r ((k, s) ∷ a)) (descent.constant_of k s a (suc r) ((k, s) ∷ a))
constant_of_grows (kind.Const n w) s r a = finds
constant_of_grows _ s r a = refuses

pub constant_grows : (r : ℕ) (a : Tokens) → Grows (descent.constant r a) (descent.constant (suc r) a)
constant_grows r [] = refuses
constant_grows r ((k, s) ∷ a) = constant_of_grows k s r a

pub text_of_grows : (k : TokenKind) (s : Span) (r : ℕ) (a : Tokens)
    → Grows (descent.text_of k s a r ((k, s) ∷ a)) (descent.text_of k s a (suc r) ((k, s) ∷ a))
text_of_grows (kind.Str w) s r a = finds
text_of_grows _ s r a = refuses

pub text_grows : (r : ℕ) (a : Tokens) → Grows (descent.text r a) (descent.text (suc r) a)
text_grows r [] = refuses
text_grows r ((k, s) ∷ a) = text_of_grows k s r a

pub type_by_grows : (x : Option Ty) (r : ℕ) (a : Tokens) → Grows (descent.type_by x r a) (descent.type_by x (suc r) a)
type_by_grows (Some ty) r a = search (grows_then, taken_grows, finds)
type_by_grows None r a = refuses

pub type_grows : (r : ℕ) (a : Tokens) → Grows (descent.type r a) (descent.type (suc r) a)
type_grows r a = type_by_grows (type_at (lookahead a)) r a

-- ---- lists

pub ahead_grows : {A : Type 0} (xs : List A) (o p : Reading (List A)) → Grows o p → Grows (descent.ahead xs o) (descent.ahead xs p)
ahead_grows xs o p h = search (grows_then, h, finds)

module _ {A : Type 0} (ends : Terminal → Bool) (part wider : Tokens → Reading A) (H : (a : Tokens) → Grows (part a) (wider a)) where
  pub after_comma_grows : (y : Bool) (on wide : ℕ → Tokens → Reading (List A)) → ((r : ℕ) (a : Tokens) → Grows (on r a) (wide (suc r) a))
      → (x : A) (r : ℕ) (b : Tokens)
      → Grows (descent.after_comma ends part y on x r b) (descent.after_comma ends wider y wide x (suc r) b)
  after_comma_grows true on wide h x r b = finds
  after_comma_grows false on wide h x r b = ahead_grows (x ∷ []) (on r b) (wide (suc r) b) (h r b)

  pub listed_by_grows : (y : Bool) (on wide : ℕ → Tokens → Reading (List A)) → ((r : ℕ) (a : Tokens) → Grows (on r a) (wide (suc r) a))
      → (x : A) (r : ℕ) (b : Tokens)
      → Grows (descent.listed_by ends part y on x r b) (descent.listed_by ends wider y wide x (suc r) b)
  listed_by_grows true on wide h x r b = search (grows_then, taken_grows, after_comma_grows, h)
  listed_by_grows false on wide h x r b = finds

  pub listed_grows : (n r : ℕ) (a : Tokens) → Grows (descent.listed ends part n r a) (descent.listed ends wider n (suc r) a)
  unfolding descent.listed
  listed_grows zero r a = refuses
  listed_grows (suc n) r a = let e = listed_grows n in search (grows_then, H, listed_by_grows, e)

-- ---- expressions

module _ (self more : Nonterminal → Reader Read) (H : (N : Nonterminal) (r : ℕ) (a : Tokens) → Grows (self N r a) (more N (suc r) a)) where
  pub value_grows : (r : ℕ) (a : Tokens) → Grows (descent.value self r a) (descent.value more (suc r) a)
  value_grows r a = search (grows_then, H, finds)

  pub format_grows : (r : ℕ) (a : Tokens) → Grows (descent.format self r a) (descent.format more (suc r) a)
  format_grows r a = search (grows_then, text_grows, finds)

  pub address_grows : (r : ℕ) (a : Tokens) → Grows (descent.address self r a) (descent.address more (suc r) a)
  address_grows r a = search (grows_then, opened_grows, H, finds)

  pub argument_by_grows : (l : Terminal) (r : ℕ) (a : Tokens) → Grows (descent.argument_by self l r a) (descent.argument_by more l (suc r) a)
  argument_by_grows terminal.Text r a = format_grows r a
  argument_by_grows (terminal.Binary op.BitAnd) r a = address_grows r a
  argument_by_grows _ r a = value_grows r a

  pub argument_grows : (r : ℕ) (a : Tokens) → Grows (descent.argument self r a) (descent.argument more (suc r) a)
  argument_grows r a = argument_by_grows (lookahead a) r a

  pub arguments_by_grows : (x : Bool) (r : ℕ) (a : Tokens) → Grows (descent.arguments_by self x r a) (descent.arguments_by more x (suc r) a)
  arguments_by_grows true r a = finds
  arguments_by_grows false r a = listed_grows (λ l. false) (descent.argument self r) (descent.argument more (suc r)) (argument_grows r) (suc (length a)) r a

  pub arguments_grows : (r : ℕ) (a : Tokens) → Grows (descent.arguments self r a) (descent.arguments more (suc r) a)
  arguments_grows r a = arguments_by_grows (is_close_paren (lookahead a)) r a

  pub index_grows : (w : List ℕ) (s : Span) (r : ℕ) (a : Tokens) → Grows (descent.index self w s r a) (descent.index more w s (suc r) a)
  index_grows w s r a = search (grows_then, opened_grows, H, expected_grows, finds)

  pub call_grows : (w : List ℕ) (s : Span) (r : ℕ) (a : Tokens) → Grows (descent.call self w s r a) (descent.call more w s (suc r) a)
  call_grows w s r a = search (grows_then, opened_grows, arguments_grows, expected_grows, finds)

  pub named_by_grows : (l : Terminal) (w : List ℕ) (s : Span) (r : ℕ) (a : Tokens)
      → Grows (descent.named_by self l w s r a) (descent.named_by more l w s (suc r) a)
  named_by_grows terminal.OpenBracket w s r a = index_grows w s r a
  named_by_grows terminal.OpenParen w s r a = call_grows w s r a
  named_by_grows _ w s r a = finds

  pub named_grows : (r : ℕ) (a : Tokens) → Grows (descent.named self r a) (descent.named more (suc r) a)
  named_grows r a = search (grows_then, name_grows, named_by_grows)

  pub paren_grows : (r : ℕ) (a : Tokens) → Grows (descent.paren self r a) (descent.paren more (suc r) a)
  paren_grows r a = search (grows_then, opened_grows, H, expected_grows, finds)

  pub number_grows : (r : ℕ) (a : Tokens) → Grows (descent.number self r a) (descent.number more (suc r) a)
  number_grows r a = search (grows_then, constant_grows, finds)

  pub primary_by_grows : (l : Terminal) (r : ℕ) (a : Tokens) → Grows (descent.primary_by self l r a) (descent.primary_by more l (suc r) a)
  primary_by_grows terminal.Constant r a = number_grows r a
  primary_by_grows terminal.Name r a = named_grows r a
  primary_by_grows terminal.OpenParen r a = paren_grows r a
  primary_by_grows _ r a = refuses

  pub primary_grows : (r : ℕ) (a : Tokens) → Grows (descent.primary self r a) (descent.primary more (suc r) a)
  primary_grows r a = primary_by_grows (lookahead a) r a

  pub bumped_by_grows : (x : Option Bool) (t : Read) (m : ℕ) (b : Tokens) → Grows (descent.bumped_by self x t m b) (descent.bumped_by more x t (suc m) b)
  bumped_by_grows (Some up) t m b = search (grows_then, taken_grows, finds)
  bumped_by_grows None t m b = finds

  pub bumped_grows : (t : Read) (m : ℕ) (b : Tokens) → Grows (descent.bumped self t m b) (descent.bumped more t (suc m) b)
  bumped_grows t m b = bumped_by_grows (bump_at (lookahead b)) t m b

  pub postfix_grows : (r : ℕ) (a : Tokens) → Grows (descent.postfix self r a) (descent.postfix more (suc r) a)
  postfix_grows r a = search (grows_then, primary_grows, bumped_grows)

  pub bump_grows : (up : Bool) (r : ℕ) (a : Tokens) → Grows (descent.bump self up r a) (descent.bump more up (suc r) a)
  bump_grows up r a = search (grows_then, opened_grows, H, finds)

  pub prefix_grows : (f : UnOp) (r : ℕ) (a : Tokens) → Grows (descent.prefix self f r a) (descent.prefix more f (suc r) a)
  prefix_grows f r a = search (grows_then, opened_grows, H, finds)

  pub prefix_by_grows : (x : Option UnOp) (r : ℕ) (a : Tokens) → Grows (descent.prefix_by self x r a) (descent.prefix_by more x (suc r) a)
  prefix_by_grows (Some f) r a = prefix_grows f r a
  prefix_by_grows None r a = postfix_grows r a

  pub unary_by_grows : (x : Option Bool) (r : ℕ) (a : Tokens) → Grows (descent.unary_by self x r a) (descent.unary_by more x (suc r) a)
  unary_by_grows (Some up) r a = bump_grows up r a
  unary_by_grows None r a = prefix_by_grows (prefix_at (lookahead a)) r a

  pub unary_grows : (r : ℕ) (a : Tokens) → Grows (descent.unary self r a) (descent.unary more (suc r) a)
  unary_grows r a = unary_by_grows (bump_at (lookahead a)) r a

  pub conversion_grows : (r : ℕ) (a : Tokens) → Grows (descent.conversion self r a) (descent.conversion more (suc r) a)
  conversion_grows r a = search (grows_then, opened_grows, type_grows, expected_grows, H, finds)

  pub cast_by_grows : (x : Bool) (r : ℕ) (a : Tokens) → Grows (descent.cast_by self x r a) (descent.cast_by more x (suc r) a)
  cast_by_grows true r a = conversion_grows r a
  cast_by_grows false r a = unary_grows r a

  pub cast_grows : (r : ℕ) (a : Tokens) → Grows (descent.cast self r a) (descent.cast more (suc r) a)
  cast_grows r a = cast_by_grows (casts a) r a

  pub operated_grows : (j : ℕ) (on wide : Read → Reader Read) → ((t : Read) (m : ℕ) (b : Tokens) → Grows (on t m b) (wide t (suc m) b))
      → (x : Option BinOp) (t : Read) (m : ℕ) (b : Tokens)
      → Grows (descent.operated self j on x t m b) (descent.operated more j wide x t (suc m) b)
  operated_grows j on wide h None t m b = finds
  operated_grows j on wide h (Some f) t m b = search (grows_then, opened_grows, H, h)

  pub operators_grows : (n j : ℕ) (t : Read) (m : ℕ) (b : Tokens) → Grows (descent.operators self n j t m b) (descent.operators more (suc n) j t (suc m) b)
  operators_grows zero j t m b = wants
  operators_grows (suc n) j t m b =
      operated_grows j (descent.operators self n j) (descent.operators more (suc n) j) (operators_grows n j) (operator_at (suc j) (lookahead b)) t m b

  pub binary_grows : (n j r : ℕ) (a : Tokens) → Grows (descent.binary self n j r a) (descent.binary more (suc n) j (suc r) a)
  binary_grows n zero r a = cast_grows r a
  binary_grows n (suc j) r a = let e = binary_grows n j r a in search (grows_then, e, operators_grows)

  pub choose_by_grows : (x : Bool) (t : Read) (m : ℕ) (b : Tokens) → Grows (descent.choose_by self x t m b) (descent.choose_by more x t (suc m) b)
  choose_by_grows true t m b = search (grows_then, opened_grows, H, expected_grows, finds)
  choose_by_grows false t m b = finds

  pub choose_grows : (t : Read) (m : ℕ) (b : Tokens) → Grows (descent.choose self t m b) (descent.choose more t (suc m) b)
  choose_grows t m b = choose_by_grows (is_question (lookahead b)) t m b

  pub conditional_grows : (n r : ℕ) (a : Tokens) → Grows (descent.conditional self n r a) (descent.conditional more (suc n) (suc r) a)
  conditional_grows n r a = search (grows_then, binary_grows, choose_grows)

  pub assign_by_grows : (x : Option (Option BinOp)) (t : Read) (m : ℕ) (b : Tokens)
      → Grows (descent.assign_by self x t m b) (descent.assign_by more x t (suc m) b)
  assign_by_grows (Some f) t m b = search (grows_then, opened_grows, H, finds)
  assign_by_grows None t m b = finds

  pub placed_by_grows : (x : Bool) (t : Read) (m : ℕ) (b : Tokens) → Grows (descent.placed_by self x t m b) (descent.placed_by more x t (suc m) b)
  placed_by_grows true t m b = assign_by_grows (assignment_at (lookahead b)) t m b
  placed_by_grows false t m b = finds

  pub placed_grows : (t : Read) (m : ℕ) (b : Tokens) → Grows (descent.placed self t m b) (descent.placed more t (suc m) b)
  placed_grows t m b = placed_by_grows t.1 t m b

  pub assignment_grows : (n r : ℕ) (a : Tokens) → Grows (descent.assignment self n r a) (descent.assignment more (suc n) (suc r) a)
  assignment_grows n r a = search (grows_then, conditional_grows, placed_grows)

  pub comma_by_grows : (x : Bool) (on wide : Read → Reader Read) → ((t : Read) (m : ℕ) (b : Tokens) → Grows (on t m b) (wide t (suc m) b))
      → (t : Read) (m : ℕ) (b : Tokens)
      → Grows (descent.comma_by self x on t m b) (descent.comma_by more x wide t (suc m) b)
  comma_by_grows true on wide h t m b = search (grows_then, opened_grows, H, h)
  comma_by_grows false on wide h t m b = finds

  pub commas_grows : (n : ℕ) (t : Read) (m : ℕ) (b : Tokens) → Grows (descent.commas self n t m b) (descent.commas more (suc n) t (suc m) b)
  commas_grows zero t m b = wants
  commas_grows (suc n) t m b = comma_by_grows (is_comma (lookahead b)) (descent.commas self n) (descent.commas more (suc n)) (commas_grows n) t m b

  pub expression_grows : (n r : ℕ) (a : Tokens) → Grows (descent.expression self n r a) (descent.expression more (suc n) (suc r) a)
  expression_grows n r a = search (grows_then, assignment_grows, commas_grows)

  pub step_grows : (n : ℕ) (N : Nonterminal) (r : ℕ) (a : Tokens) → Grows (descent.step self n N r a) (descent.step more (suc n) N (suc r) a)
  step_grows n Expression r a = expression_grows n r a
  step_grows n Assignment r a = assignment_grows n r a
  step_grows n Conditional r a = conditional_grows n r a
  step_grows n (Binary j) r a = binary_grows n j r a
  step_grows n Cast r a = cast_grows r a
  step_grows n Unary r a = unary_grows r a
  step_grows n Postfix r a = postfix_grows r a
  step_grows n Primary r a = primary_grows r a

pub run_grows : (n : ℕ) (N : Nonterminal) (r : ℕ) (a : Tokens) → Grows (run n N r a) (run (suc n) N (suc r) a)
unfolding run
run_grows zero N r a = wants
run_grows (suc n) N r a = step_grows (run n) (run (suc n)) (run_grows n) (suc n) N r a

pub same_run : (n : ℕ) (N : Nonterminal) (r : ℕ) (a : Tokens) → Same (run n N r a) (run (suc n) N (suc r) a)
same_run n N r a = (run_grows n N r a).same
