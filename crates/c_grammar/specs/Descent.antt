-- Reading expressions by descent, with one token of look-ahead, and two where a conversion may
-- begin. The functions that read follow it step by step, and what it comes to is what the grammar
-- says.
use Rattle.std.specs.Prelude.{ℕ, ℤ, zero, suc, Bool, true, false, List, [], ◌∷◌, ◌++◌, length, Option, Some, None}
use Rattle.c_lex.specs.declared.token.TokenKind.{TokenKind}
use Rattle.c_lex.specs.declared.token.TokenKind.TheVariants as kind
use Rattle.c_tree.specs.declared.expr.BinOp.{BinOp}
use Rattle.c_tree.specs.declared.expr.BinOp.TheVariants as op
use Rattle.c_tree.specs.declared.expr.UnOp.{UnOp}
use Rattle.c_tree.specs.declared.place.Span.{Span}
use Rattle.c_tree.specs.declared.stmt.Slot.TheVariants.{Unset}
use Rattle.c_tree.specs.declared.stmt.Ty.{Ty}
use Rattle.c_tree.specs.Parts.{span_of}
use Rattle.c_tree.specs.Tree as tree
use Rattle.c_tree.specs.Tree.{Tree}
use Rattle.c_grammar.specs.declared.terminal.Terminal.{Terminal}
use Rattle.c_grammar.specs.declared.terminal.Terminal.TheVariants as terminal
use Rattle.c_grammar.specs.declared.nonterminal.Nonterminal.{Nonterminal}
use Rattle.c_grammar.specs.declared.nonterminal.Nonterminal.TheVariants.{Expression, Assignment, Conditional, Binary, Cast, Unary, Postfix, Primary}
use Rattle.c_grammar.specs.Operators.{weakest}
use Rattle.c_grammar.specs.Grammar as given
use Rattle.c_grammar.specs.Grammar.{Tokens, over, wrapped, prefixed, joined, chosen, assigned, followed, Given, args}
use Rattle.c_grammar.specs.Terminals.{lookahead, is_close_paren, is_close_bracket, is_comma, is_question, is_colon, type_at, prefix_at, bump_at, assignment_at, operator_at, casts}

-- What reading comes to: a part, with the room and the tokens after it; or the tokens from the
-- first on that is a fault, because it isn't expected or because it is nested too deep.
pub data Reading (A : Type 0) : Type 0 where
  found : A → ℕ → Tokens → Reading A
  unexpected : Tokens → Reading A
  too_deep : Tokens → Reading A

-- what reads a part, from a room and tokens on
abbrev pub Reader : Type 0 → Type 0
Reader A = ℕ → Tokens → Reading A

-- a part, and then what is read after it
abbrev pub and_then : {A B : Type 0} → Reading A → (A → Reader B) → Reading B
and_then (found x m b) f = f x m b
and_then (unexpected b) f = unexpected b
and_then (too_deep b) f = too_deep b

-- ---- tokens

-- any token
abbrev pub taken : Reader Span
taken r [] = unexpected []
taken r ((k, s) ∷ a) = found s r a

-- any token, as an opener
abbrev pub opened : Reader Span
opened zero a = too_deep a
opened (suc r) a = taken r a

-- a token that a test admits
abbrev pub expected_by : Bool → Reader Span
expected_by true r a = taken r a
expected_by false r a = unexpected a

-- a token that a test admits
abbrev pub expected : (Terminal → Bool) → Reader Span
expected is r a = expected_by (is (lookahead a)) r a

-- a token that a test admits, as an opener
abbrev pub entered_by : Bool → Reader Span
entered_by true r a = opened r a
entered_by false r a = unexpected a

-- a token that a test admits, as an opener
abbrev pub entered : (Terminal → Bool) → Reader Span
entered is r a = entered_by (is (lookahead a)) r a

-- a name, by the kind of the token
abbrev pub name_of : TokenKind → Span → Tokens → Reader (List ℕ × Span)
name_of (kind.Name w) s a r b = found (w, s) r a
name_of _ s a r b = unexpected b

-- a name, with its text
abbrev pub name : Reader (List ℕ × Span)
name r [] = unexpected []
name r ((k, s) ∷ a) = name_of k s a r ((k, s) ∷ a)

-- a constant, by the kind of the token
abbrev pub constant_of : TokenKind → Span → Tokens → Reader (ℤ × List ℕ × Span)
constant_of (kind.Const n w) s a r b = found (n, w, s) r a
constant_of _ s a r b = unexpected b

-- a constant, with its value and its text
abbrev pub constant : Reader (ℤ × List ℕ × Span)
constant r [] = unexpected []
constant r ((k, s) ∷ a) = constant_of k s a r ((k, s) ∷ a)

-- a string literal, by the kind of the token
abbrev pub text_of : TokenKind → Span → Tokens → Reader (List ℕ × Span)
text_of (kind.Str w) s a r b = found (w, s) r a
text_of _ s a r b = unexpected b

-- a string literal, with its characters
abbrev pub text : Reader (List ℕ × Span)
text r [] = unexpected []
text r ((k, s) ∷ a) = text_of k s a r ((k, s) ∷ a)

-- a type, by what the next token is
abbrev pub type_by : Option Ty → Reader Ty
type_by (Some ty) r a = and_then (taken r a) (λ s m b. found ty m b)
type_by None r a = unexpected a

-- a type
abbrev pub type : Reader Ty
type r a = type_by (type_at (lookahead a)) r a

-- ---- lists

-- what was read before, and then what is read
abbrev pub ahead : {A : Type 0} → List A → Reading (List A) → Reading (List A)
ahead xs o = and_then o (λ ys m b. found (xs ++ ys) m b)

-- Parts with commas between them, each with the same room before it. After a comma a list ends
-- where the test says so. The first number bounds how many parts there are.
module _ {A : Type 0} (ends : Terminal → Bool) (part : Tokens → Reading A) where
  -- after a comma, by whether the list ends there
  abbrev pub after_comma : Bool → (ℕ → Tokens → Reading (List A)) → A → ℕ → Tokens
      → Reading (List A)
  after_comma true on x r b = found (x ∷ []) r b
  after_comma false on x r b = ahead (x ∷ []) (on r b)

  -- after a part, by whether a comma comes next
  abbrev pub listed_by : Bool → (ℕ → Tokens → Reading (List A)) → A → ℕ → Tokens → Reading (List A)
  listed_by true on x r b =
      and_then (taken r b) (λ s m c. after_comma (ends (lookahead c)) on x m c)
  listed_by false on x r b = found (x ∷ []) r b

  -- at most so many parts
  unfoldable pub listed : ℕ → ℕ → Tokens → Reading (List A)
  listed zero r a = unexpected a
  listed (suc n) r a =
      and_then (part a) (λ x m b. listed_by (is_comma (lookahead b)) (listed n) x m b)

  -- as many parts as there are: each has a token at least, or is the last
  abbrev pub all_listed : ℕ → Tokens → Reading (List A)
  all_listed r a = listed (suc (length a)) r a

-- ---- expressions

-- an expression, and whether it is written as a unary expression, which an assignment operator may
-- stand after
abbrev pub Read : Type 0
Read = Tree × Bool

-- The readers of smaller parts, which stand after an opener.
module _ (self : Nonterminal → Reader Read) where
  -- a value of an argument
  abbrev pub value : Reader Given
  value r a = and_then (self Assignment r a) (λ t m b. found (given.by_value t.0) r b)

  -- a format of an argument
  abbrev pub format : Reader Given
  format r a = and_then (text r a) (λ w m b. found (given.by_format w.0 w.1) r b)

  -- an address of an argument
  abbrev pub address : Reader Given
  address r a =
      and_then (opened r a)
      (λ s m b. and_then (self Unary m b) (λ t n c. found (given.by_address t.0) r c))

  -- an argument, by the terminal of the next token
  abbrev pub argument_by : Terminal → Reader Given
  argument_by terminal.Text r a = format r a
  argument_by (terminal.Binary op.BitAnd) r a = address r a
  argument_by _ r a = value r a

  -- an argument
  abbrev pub argument : Reader Given
  argument r a = argument_by (lookahead a) r a

  -- the arguments of a call, by whether a `)` comes next
  abbrev pub arguments_by : Bool → Reader (List Given)
  arguments_by true r a = found [] r a
  arguments_by false r a = all_listed (λ l. false) (argument r) r a

  -- the arguments of a call, up to its `)`
  abbrev pub arguments : Reader (List Given)
  arguments r a = arguments_by (is_close_paren (lookahead a)) r a

  -- `[ expression ]` after a name; the room is what it was before the `[`
  abbrev pub index : List ℕ → Span → Reader Read
  index w s r a =
      and_then (opened r a) (λ o m b.
      and_then (self Expression m b)
      (λ t n c. and_then (expected is_close_bracket r c)
      (λ e q d. found (tree.index w Unset t.0 (over s e), true) q d)))

  -- `( arguments )` after a name
  abbrev pub call : List ℕ → Span → Reader Read
  call w s r a =
      and_then (opened r a) (λ o m b.
      and_then (arguments m b)
      (λ gs n c. and_then (expected is_close_paren r c)
      (λ e q d. found (tree.call w (args gs) (over s e), true) q d)))

  -- what stands after a name, by the terminal of the next token
  abbrev pub named_by : Terminal → List ℕ → Span → Reader Read
  named_by terminal.OpenBracket w s r a = index w s r a
  named_by terminal.OpenParen w s r a = call w s r a
  named_by _ w s r a = found (tree.name w Unset s, true) r a

  -- a name, an element or a call
  abbrev pub named : Reader Read
  named r a = and_then (name r a) (λ w m b. named_by (lookahead b) w.0 w.1 m b)

  -- `( expression )`
  abbrev pub paren : Reader Read
  paren r a =
      and_then (opened r a) (λ o m b.
      and_then (self Expression m b)
      (λ t n c. and_then (expected is_close_paren r c)
      (λ e q d. found (wrapped (over o e) t.0, true) q d)))

  -- a constant
  abbrev pub number : Reader Read
  number r a = and_then (constant r a) (λ n m b. found (tree.constant n.0 n.1 n.2, true) m b)

  -- a primary expression, by the terminal of the next token
  abbrev pub primary_by : Terminal → Reader Read
  primary_by terminal.Constant r a = number r a
  primary_by terminal.Name r a = named r a
  primary_by terminal.OpenParen r a = paren r a
  primary_by _ r a = unexpected a

  -- a primary expression
  abbrev pub primary : Reader Read
  primary r a = primary_by (lookahead a) r a

  -- what stands after a primary expression, by whether that is `++` or `--`
  abbrev pub bumped_by : Option Bool → Read → Reader Read
  bumped_by (Some up) t m b =
      and_then (taken m b)
      (λ s n c. found (tree.bump false up t.0 (over (span_of t.0) s), true) n c)
  bumped_by None t m b = found t m b

  -- `++` or `--` after a primary expression, where it comes next
  abbrev pub bumped : Read → Reader Read
  bumped t m b = bumped_by (bump_at (lookahead b)) t m b

  -- a postfix expression
  abbrev pub postfix : Reader Read
  postfix r a = and_then (primary r a) bumped

  -- `++` or `--` before a unary expression
  abbrev pub bump : Bool → Reader Read
  bump up r a =
      and_then (opened r a)
      (λ s m b. and_then (self Unary m b)
      (λ t n c. found (tree.bump true up t.0 (over s (span_of t.0)), true) n c))

  -- an operator before an operand
  abbrev pub prefix : UnOp → Reader Read
  prefix f r a =
      and_then (opened r a)
      (λ s m b. and_then (self Cast m b) (λ t n c. found (prefixed f s t.0, true) n c))

  -- a unary expression that doesn't begin with `++` or `--`, by its operator
  abbrev pub prefix_by : Option UnOp → Reader Read
  prefix_by (Some f) r a = prefix f r a
  prefix_by None r a = postfix r a

  -- a unary expression, by whether it begins with `++` or `--`
  abbrev pub unary_by : Option Bool → Reader Read
  unary_by (Some up) r a = bump up r a
  unary_by None r a = prefix_by (prefix_at (lookahead a)) r a

  -- a unary expression
  abbrev pub unary : Reader Read
  unary r a = unary_by (bump_at (lookahead a)) r a

  -- `( type ) operand`
  abbrev pub conversion : Reader Read
  conversion r a =
      and_then (opened r a) (λ o m b.
      and_then (type m b)
      (λ ty n c. and_then (expected is_close_paren n c)
      (λ e q d. and_then (self Cast q d)
      (λ t v x. found (tree.cast ty t.0 (over o (span_of t.0)), false) v x))))

  -- an operand, by whether a conversion comes next
  abbrev pub cast_by : Bool → Reader Read
  cast_by true r a = conversion r a
  cast_by false r a = unary r a

  -- an operand
  abbrev pub cast : Reader Read
  cast r a = cast_by (casts a) r a

  -- one more operator of the rank suc j and its operand, and then what goes on
  abbrev pub operated : ℕ → (Read → Reader Read) → Option BinOp → Read → Reader Read
  operated j on None t m b = found t m b
  operated j on (Some f) t m b =
      and_then (opened m b)
      (λ s n c. and_then (self (Binary j) n c) (λ u q d. on (joined f t.0 u.0, false) q d))

  -- the operators of the rank suc j that follow; the first number bounds how many there are
  abbrev pub operators : ℕ → ℕ → Read → Reader Read
  operators zero j t m b = too_deep b
  operators (suc n) j t m b = operated j (operators n j) (operator_at (suc j) (lookahead b)) t m b

  -- operands with operators of at most that rank between them
  abbrev pub binary : ℕ → ℕ → Reader Read
  binary n zero r a = cast r a
  binary n (suc j) r a = and_then (binary n j r a) (operators n j)

  -- after the test of a conditional expression, by whether a `?` comes next
  abbrev pub choose_by : Bool → Read → Reader Read
  choose_by true t m b =
      and_then (opened m b) (λ s n c.
      and_then (self Expression n c)
      (λ u q d. and_then (expected is_colon q d)
      (λ o v x. and_then (self Conditional v x) (λ w y z. found (chosen t.0 u.0 w.0, false) y z))))
  choose_by false t m b = found t m b

  -- after the test of a conditional expression
  abbrev pub choose : Read → Reader Read
  choose t m b = choose_by (is_question (lookahead b)) t m b

  -- a conditional expression; the number bounds the operators of one rank
  abbrev pub conditional : ℕ → Reader Read
  conditional n r a = and_then (binary n weakest r a) choose

  -- after a place, by whether an assignment operator comes next
  abbrev pub assign_by : Option (Option BinOp) → Read → Reader Read
  assign_by (Some f) t m b =
      and_then (opened m b)
      (λ s n c. and_then (self Assignment n c) (λ u q d. found (assigned f t.0 u.0, false) q d))
  assign_by None t m b = found t m b

  -- after a conditional expression, by whether it may be a place
  abbrev pub placed_by : Bool → Read → Reader Read
  placed_by true t m b = assign_by (assignment_at (lookahead b)) t m b
  placed_by false t m b = found t m b

  -- after a conditional expression
  abbrev pub placed : Read → Reader Read
  placed t m b = placed_by t.1 t m b

  -- an assignment expression
  abbrev pub assignment : ℕ → Reader Read
  assignment n r a = and_then (conditional n r a) placed

  -- one more comma and its operand, and then what goes on
  abbrev pub comma_by : Bool → (Read → Reader Read) → Read → Reader Read
  comma_by true on t m b =
      and_then (opened m b)
      (λ s n c. and_then (self Assignment n c) (λ u q d. on (followed t.0 u.0, false) q d))
  comma_by false on t m b = found t m b

  -- the commas that follow; the number bounds how many there are
  abbrev pub commas : ℕ → Read → Reader Read
  commas zero t m b = too_deep b
  commas (suc n) t m b = comma_by (is_comma (lookahead b)) (commas n) t m b

  -- an expression
  abbrev pub expression : ℕ → Reader Read
  expression n r a = and_then (assignment n r a) (commas n)

  -- a part
  abbrev pub step : ℕ → Nonterminal → Reader Read
  step n Expression = expression n
  step n Assignment = assignment n
  step n Conditional = conditional n
  step n (Binary j) = binary n j
  step n Cast = cast
  step n Unary = unary
  step n Postfix = postfix
  step n Primary = primary

-- a part, with room for fewer openers than the number
unfoldable pub run : ℕ → Nonterminal → Reader Read
run zero N r a = too_deep a
run (suc n) N r a = step (run n) (suc n) N r a
