-- What the descent leaves of the tokens is no more than it began with.
use Rattle.std.proofs.Common.{ℕ, zero, suc, ◌≤◌, Bool, true, false, List, [], ◌∷◌, Option, Some, None, arith, length}
use Rattle.c_lex.specs.declared.token.TokenKind.{TokenKind}
use Rattle.c_lex.specs.declared.token.TokenKind.TheVariants as kind
use Rattle.c_tree.specs.declared.expr.BinOp.{BinOp}
use Rattle.c_tree.specs.declared.expr.BinOp.TheVariants as op
use Rattle.c_tree.specs.declared.expr.UnOp.{UnOp}
use Rattle.c_tree.specs.declared.place.Span.{Span}
use Rattle.c_tree.specs.declared.stmt.Ty.{Ty}
use Rattle.c_grammar.specs.declared.terminal.Terminal.{Terminal}
use Rattle.c_grammar.specs.declared.terminal.Terminal.TheVariants as terminal
use Rattle.c_grammar.specs.declared.nonterminal.Nonterminal.{Nonterminal}
use Rattle.c_grammar.specs.declared.nonterminal.Nonterminal.TheVariants.{Expression, Assignment, Conditional, Binary, Cast, Unary, Postfix, Primary}
use Rattle.c_grammar.specs.Operators.{weakest}
use Rattle.c_grammar.specs.Grammar.{Tokens, joined, followed}
use Rattle.c_grammar.specs.Terminals.{lookahead, is_comma, is_close_paren, is_close_bracket, is_question, is_colon, bump_at, prefix_at, type_at, assignment_at, operator_at, casts}
use Rattle.c_grammar.specs.Descent as descent
use Rattle.c_grammar.specs.Descent.{Reading, found, unexpected, too_deep, Reader, Read, and_then, taken, opened, expected, entered, run}

-- the tokens that are left
abbrev pub left : {A : Type 0} → Reading A → Tokens
left (found x m b) = b
left (unexpected b) = b
left (too_deep b) = b

-- what is left is no longer than these tokens
abbrev pub Far : {A : Type 0} → Tokens → Reading A → Type 0
Far a o = length (left o) ≤ length a

-- the same, as a record, so that the reading is known from it
pub record Within {A : Type 0} (a : Tokens) (o : Reading A) : Type 0 where
  pub far : Far a o

pub within_then : {A B : Type 0} {a : Tokens} {o : Reading A} {f : A → Reader B} → Within a o → ((x : A) (m : ℕ) (b : Tokens) → Within b (f x m b))
    → Within a (and_then o f)
within_then {o = found x m b} h k = record { far = let i = h.far in let j = (k x m b).far in omega arith }
within_then {o = unexpected b} h k = record { far = h.far }
within_then {o = too_deep b} h k = record { far = h.far }

-- nothing is taken
pub stays : {A : Type 0} {x : A} {m : ℕ} {a : Tokens} → Within a (found x m a)
stays = record { far = omega arith }

pub refuses : {A : Type 0} {a : Tokens} → Within {A = A} a (unexpected a)
refuses = record { far = omega arith }

pub stops : {A : Type 0} {a : Tokens} → Within {A = A} a (too_deep a)
stops = record { far = omega arith }

-- ---- tokens

pub taken_within : (r : ℕ) (a : Tokens) → Within a (taken r a)
taken_within r [] = refuses
taken_within r ((k, s) ∷ a) = record { far = omega arith }

pub opened_within : (r : ℕ) (a : Tokens) → Within a (opened r a)
opened_within zero a = stops
opened_within (suc r) a = taken_within r a

pub expected_by_within : (x : Bool) (r : ℕ) (a : Tokens) → Within a (descent.expected_by x r a)
expected_by_within true r a = taken_within r a
expected_by_within false r a = refuses

pub expected_within : (is : Terminal → Bool) (r : ℕ) (a : Tokens) → Within a (expected is r a)
expected_within is r a = expected_by_within (is (lookahead a)) r a

pub entered_by_within : (x : Bool) (r : ℕ) (a : Tokens) → Within a (descent.entered_by x r a)
entered_by_within true r a = opened_within r a
entered_by_within false r a = refuses

pub entered_within : (is : Terminal → Bool) (r : ℕ) (a : Tokens) → Within a (entered is r a)
entered_within is r a = entered_by_within (is (lookahead a)) r a

pub name_of_within : (k : TokenKind) (s : Span) (r : ℕ) (a : Tokens) → Within ((k, s) ∷ a) (descent.name_of k s a r ((k, s) ∷ a))
name_of_within (kind.Name w) s r a = record { far = omega arith }
name_of_within _ s r a = refuses

pub name_within : (r : ℕ) (a : Tokens) → Within a (descent.name r a)
name_within r [] = refuses
name_within r ((k, s) ∷ a) = name_of_within k s r a

pub constant_of_within : (k : TokenKind) (s : Span) (r : ℕ) (a : Tokens) → Within ((k, s) ∷ a) (descent.constant_of k s a r ((k, s) ∷ a))
constant_of_within (kind.Const n w) s r a = record { far = omega arith }
constant_of_within _ s r a = refuses

pub constant_within : (r : ℕ) (a : Tokens) → Within a (descent.constant r a)
constant_within r [] = refuses
constant_within r ((k, s) ∷ a) = constant_of_within k s r a

pub text_of_within : (k : TokenKind) (s : Span) (r : ℕ) (a : Tokens) → Within ((k, s) ∷ a) (descent.text_of k s a r ((k, s) ∷ a))
text_of_within (kind.Str w) s r a = record { far = omega arith }
text_of_within _ s r a = refuses

pub text_within : (r : ℕ) (a : Tokens) → Within a (descent.text r a)
text_within r [] = refuses
text_within r ((k, s) ∷ a) = text_of_within k s r a

pub type_by_within : (x : Option Ty) (r : ℕ) (a : Tokens) → Within a (descent.type_by x r a)
type_by_within (Some ty) r a = within_then (taken_within r a) (λ s m b. stays)
type_by_within None r a = refuses

pub type_within : (r : ℕ) (a : Tokens) → Within a (descent.type r a)
type_within r a = type_by_within (type_at (lookahead a)) r a

-- ---- lists

pub ahead_within : {A : Type 0} {a : Tokens} (xs : List A) (o : Reading (List A)) → Within a o → Within a (descent.ahead xs o)
ahead_within xs o h = within_then h (λ ys m b. stays)

module _ {A : Type 0} (ends : Terminal → Bool) (part : Tokens → Reading A) (H : (a : Tokens) → Within a (part a)) where
  pub after_comma_within : (y : Bool) (on : ℕ → Tokens → Reading (List A)) → ((r : ℕ) (a : Tokens) → Within a (on r a)) → (x : A) (r : ℕ) (b : Tokens)
      → Within b (descent.after_comma ends part y on x r b)
  after_comma_within true on h x r b = stays
  after_comma_within false on h x r b = ahead_within (x ∷ []) (on r b) (h r b)

  pub listed_by_within : (y : Bool) (on : ℕ → Tokens → Reading (List A)) → ((r : ℕ) (a : Tokens) → Within a (on r a)) → (x : A) (r : ℕ) (b : Tokens)
      → Within b (descent.listed_by ends part y on x r b)
  listed_by_within true on h x r b = within_then (taken_within r b) (λ s m c. after_comma_within (ends (lookahead c)) on h x m c)
  listed_by_within false on h x r b = stays

  pub listed_within : (n r : ℕ) (a : Tokens) → Within a (descent.listed ends part n r a)
  unfolding descent.listed
  listed_within zero r a = refuses
  listed_within (suc n) r a = within_then (H a) (λ x m b. listed_by_within (is_comma (lookahead b)) (descent.listed ends part n) (listed_within n) x m b)

-- ---- expressions

module _ (self : Nonterminal → Reader Read) (H : (N : Nonterminal) (r : ℕ) (a : Tokens) → Within a (self N r a)) where
  pub value_within : (r : ℕ) (a : Tokens) → Within a (descent.value self r a)
  value_within r a = within_then (H Assignment r a) (λ t m b. stays)

  pub format_within : (r : ℕ) (a : Tokens) → Within a (descent.format self r a)
  format_within r a = within_then (text_within r a) (λ w m b. stays)

  pub address_within : (r : ℕ) (a : Tokens) → Within a (descent.address self r a)
  address_within r a = within_then (opened_within r a) (λ s m b. within_then (H Unary m b) (λ t n c. stays))

  pub argument_by_within : (l : Terminal) (r : ℕ) (a : Tokens) → Within a (descent.argument_by self l r a)
  argument_by_within terminal.Text r a = format_within r a
  argument_by_within (terminal.Binary op.BitAnd) r a = address_within r a
  argument_by_within _ r a = value_within r a

  pub argument_within : (r : ℕ) (a : Tokens) → Within a (descent.argument self r a)
  argument_within r a = argument_by_within (lookahead a) r a

  pub arguments_by_within : (x : Bool) (r : ℕ) (a : Tokens) → Within a (descent.arguments_by self x r a)
  arguments_by_within true r a = stays
  arguments_by_within false r a = listed_within (λ l. false) (descent.argument self r) (argument_within r) (suc (length a)) r a

  pub arguments_within : (r : ℕ) (a : Tokens) → Within a (descent.arguments self r a)
  arguments_within r a = arguments_by_within (is_close_paren (lookahead a)) r a

  pub index_within : (w : List ℕ) (s : Span) (r : ℕ) (a : Tokens) → Within a (descent.index self w s r a)
  index_within w s r a =
      within_then (opened_within r a) (λ o m b. within_then (H Expression m b) (λ t n c. within_then (expected_within is_close_bracket r c) (λ e q d. stays)))

  pub call_within : (w : List ℕ) (s : Span) (r : ℕ) (a : Tokens) → Within a (descent.call self w s r a)
  call_within w s r a =
      within_then (opened_within r a)
      (λ o m b. within_then (arguments_within m b) (λ t n c. within_then (expected_within is_close_paren r c) (λ e q d. stays)))

  pub named_by_within : (l : Terminal) (w : List ℕ) (s : Span) (r : ℕ) (a : Tokens) → Within a (descent.named_by self l w s r a)
  named_by_within terminal.OpenBracket w s r a = index_within w s r a
  named_by_within terminal.OpenParen w s r a = call_within w s r a
  named_by_within _ w s r a = stays

  pub named_within : (r : ℕ) (a : Tokens) → Within a (descent.named self r a)
  named_within r a = within_then (name_within r a) (λ w m b. named_by_within (lookahead b) w.0 w.1 m b)

  pub paren_within : (r : ℕ) (a : Tokens) → Within a (descent.paren self r a)
  paren_within r a =
      within_then (opened_within r a) (λ o m b. within_then (H Expression m b) (λ t n c. within_then (expected_within is_close_paren r c) (λ e q d. stays)))

  pub number_within : (r : ℕ) (a : Tokens) → Within a (descent.number self r a)
  number_within r a = within_then (constant_within r a) (λ n m b. stays)

  pub primary_by_within : (l : Terminal) (r : ℕ) (a : Tokens) → Within a (descent.primary_by self l r a)
  primary_by_within terminal.Constant r a = number_within r a
  primary_by_within terminal.Name r a = named_within r a
  primary_by_within terminal.OpenParen r a = paren_within r a
  primary_by_within _ r a = refuses

  pub primary_within : (r : ℕ) (a : Tokens) → Within a (descent.primary self r a)
  primary_within r a = primary_by_within (lookahead a) r a

  pub bumped_by_within : (x : Option Bool) (t : Read) (m : ℕ) (b : Tokens) → Within b (descent.bumped_by self x t m b)
  bumped_by_within (Some up) t m b = within_then (taken_within m b) (λ s n c. stays)
  bumped_by_within None t m b = stays

  pub bumped_within : (t : Read) (m : ℕ) (b : Tokens) → Within b (descent.bumped self t m b)
  bumped_within t m b = bumped_by_within (bump_at (lookahead b)) t m b

  pub postfix_within : (r : ℕ) (a : Tokens) → Within a (descent.postfix self r a)
  postfix_within r a = within_then (primary_within r a) bumped_within

  pub bump_within : (up : Bool) (r : ℕ) (a : Tokens) → Within a (descent.bump self up r a)
  bump_within up r a = within_then (opened_within r a) (λ s m b. within_then (H Unary m b) (λ t n c. stays))

  pub prefix_within : (f : UnOp) (r : ℕ) (a : Tokens) → Within a (descent.prefix self f r a)
  prefix_within f r a = within_then (opened_within r a) (λ s m b. within_then (H Cast m b) (λ t n c. stays))

  pub prefix_by_within : (x : Option UnOp) (r : ℕ) (a : Tokens) → Within a (descent.prefix_by self x r a)
  prefix_by_within (Some f) r a = prefix_within f r a
  prefix_by_within None r a = postfix_within r a

  pub unary_by_within : (x : Option Bool) (r : ℕ) (a : Tokens) → Within a (descent.unary_by self x r a)
  unary_by_within (Some up) r a = bump_within up r a
  unary_by_within None r a = prefix_by_within (prefix_at (lookahead a)) r a

  pub unary_within : (r : ℕ) (a : Tokens) → Within a (descent.unary self r a)
  unary_within r a = unary_by_within (bump_at (lookahead a)) r a

  pub conversion_within : (r : ℕ) (a : Tokens) → Within a (descent.conversion self r a)
  conversion_within r a =
      within_then (opened_within r a) (λ o m b. within_then (type_within m b) (λ ty n c. within_then (expected_within is_close_paren n c) (λ e q d.
      within_then (H Cast q d) (λ t v x. stays))))

  pub cast_by_within : (x : Bool) (r : ℕ) (a : Tokens) → Within a (descent.cast_by self x r a)
  cast_by_within true r a = conversion_within r a
  cast_by_within false r a = unary_within r a

  pub cast_within : (r : ℕ) (a : Tokens) → Within a (descent.cast self r a)
  cast_within r a = cast_by_within (casts a) r a

  pub operated_within : (j : ℕ) (on : Read → Reader Read) → ((t : Read) (m : ℕ) (b : Tokens) → Within b (on t m b))
      → (x : Option BinOp) (t : Read) (m : ℕ) (b : Tokens)
      → Within b (descent.operated self j on x t m b)
  operated_within j on h None t m b = stays
  operated_within j on h (Some f) t m b = within_then (opened_within m b) (λ s n c. within_then (H (Binary j) n c) (λ u q d. h (joined f t.0 u.0, false) q d))

  pub operators_within : (n j : ℕ) (t : Read) (m : ℕ) (b : Tokens) → Within b (descent.operators self n j t m b)
  operators_within zero j t m b = stops
  operators_within (suc n) j t m b = operated_within j (descent.operators self n j) (operators_within n j) (operator_at (suc j) (lookahead b)) t m b

  pub binary_within : (n j r : ℕ) (a : Tokens) → Within a (descent.binary self n j r a)
  binary_within n zero r a = cast_within r a
  binary_within n (suc j) r a = within_then (binary_within n j r a) (operators_within n j)

  pub choose_by_within : (x : Bool) (t : Read) (m : ℕ) (b : Tokens) → Within b (descent.choose_by self x t m b)
  choose_by_within true t m b =
      within_then (opened_within m b) (λ s n c. within_then (H Expression n c) (λ u q d. within_then (expected_within is_colon q d) (λ o v x.
      within_then (H Conditional v x) (λ w y z. stays))))
  choose_by_within false t m b = stays

  pub choose_within : (t : Read) (m : ℕ) (b : Tokens) → Within b (descent.choose self t m b)
  choose_within t m b = choose_by_within (is_question (lookahead b)) t m b

  pub conditional_within : (n r : ℕ) (a : Tokens) → Within a (descent.conditional self n r a)
  conditional_within n r a = within_then (binary_within n weakest r a) choose_within

  pub assign_by_within : (x : Option (Option BinOp)) (t : Read) (m : ℕ) (b : Tokens) → Within b (descent.assign_by self x t m b)
  assign_by_within (Some f) t m b = within_then (opened_within m b) (λ s n c. within_then (H Assignment n c) (λ u q d. stays))
  assign_by_within None t m b = stays

  pub placed_by_within : (x : Bool) (t : Read) (m : ℕ) (b : Tokens) → Within b (descent.placed_by self x t m b)
  placed_by_within true t m b = assign_by_within (assignment_at (lookahead b)) t m b
  placed_by_within false t m b = stays

  pub placed_within : (t : Read) (m : ℕ) (b : Tokens) → Within b (descent.placed self t m b)
  placed_within t m b = placed_by_within t.1 t m b

  pub assignment_within : (n r : ℕ) (a : Tokens) → Within a (descent.assignment self n r a)
  assignment_within n r a = within_then (conditional_within n r a) placed_within

  pub comma_by_within : (x : Bool) (on : Read → Reader Read) → ((t : Read) (m : ℕ) (b : Tokens) → Within b (on t m b)) → (t : Read) (m : ℕ) (b : Tokens)
      → Within b (descent.comma_by self x on t m b)
  comma_by_within true on h t m b = within_then (opened_within m b) (λ s n c. within_then (H Assignment n c) (λ u q d. h (followed t.0 u.0, false) q d))
  comma_by_within false on h t m b = stays

  pub commas_within : (n : ℕ) (t : Read) (m : ℕ) (b : Tokens) → Within b (descent.commas self n t m b)
  commas_within zero t m b = stops
  commas_within (suc n) t m b = comma_by_within (is_comma (lookahead b)) (descent.commas self n) (commas_within n) t m b

  pub expression_within : (n r : ℕ) (a : Tokens) → Within a (descent.expression self n r a)
  expression_within n r a = within_then (assignment_within n r a) (commas_within n)

  pub step_within : (n : ℕ) (N : Nonterminal) (r : ℕ) (a : Tokens) → Within a (descent.step self n N r a)
  step_within n Expression r a = expression_within n r a
  step_within n Assignment r a = assignment_within n r a
  step_within n Conditional r a = conditional_within n r a
  step_within n (Binary j) r a = binary_within n j r a
  step_within n Cast r a = cast_within r a
  step_within n Unary r a = unary_within r a
  step_within n Postfix r a = postfix_within r a
  step_within n Primary r a = primary_within r a

pub run_within : (n : ℕ) (N : Nonterminal) (r : ℕ) (a : Tokens) → Within a (run n N r a)
unfolding run
run_within zero N r a = stops
run_within (suc n) N r a = step_within (run n) (run_within n) (suc n) N r a

pub run_far : (n : ℕ) (N : Nonterminal) (r : ℕ) (a : Tokens) → Far a (run n N r a)
run_far n N r a = (run_within n N r a).far
