-- What the descent reads as statements is derived; where it stops, what comes before begins one.
use Rattle.std.proofs.Common.{◌≡◌, ℕ, zero, suc, Bool, true, false, List, [], ◌∷◌, Option, refl, subst, sym, ap}
use Rattle.c_lex.specs.declared.token.TokenKind.{TokenKind}
use Rattle.c_lex.specs.declared.token.TokenKind.TheVariants as kind
use Rattle.c_lex.specs.declared.token.Keyword.TheVariants as key
use Rattle.c_lex.specs.declared.token.Punct.TheVariants as mark
use Rattle.c_tree.specs.declared.place.Span.{Span}
use Rattle.c_tree.specs.declared.stmt.Ty.{Ty}
use Rattle.c_tree.specs.Parts.{span_of_code}
use Rattle.c_tree.specs.Tree as tree
use Rattle.c_tree.specs.Tree.{Tree, Variable, First, Code, Body}
use Rattle.c_grammar.specs.declared.terminal.Terminal.{Terminal}
use Rattle.c_grammar.specs.declared.terminal.Terminal.TheVariants as terminal
use Rattle.c_grammar.specs.declared.nonterminal.Nonterminal.TheVariants.{Expression}
use Rattle.c_grammar.specs.Grammar.{Tokens, over, Begins}
use Rattle.c_grammar.specs.Terminals.{terminal_of, lookahead, is_else, is_close_brace, is_semicolon, is_open_brace}
use Rattle.c_grammar.specs.Programs.{Vars, Optional, Statement, Items, BeginsStatement, BeginsItems}
use Rattle.c_grammar.specs.Descent.{Reading, found, too_deep}
use Rattle.c_grammar.specs.ProgramDescent.{act, give, break, continue, empty, append, item_by, items_by, items_within, items, block, otherwise_by, branch, while_loop, do_loop, for_loop, statement_by, statement, does}
use Rattle.c_grammar.proofs.Terminals.{terminal_shows}
use Rattle.c_grammar.proofs.ExpressionBasics.{reads_begun}
use Rattle.c_grammar.proofs.ProgramBasics.{vars_lift, optional_begun, statement_lift, statement_begun, items_begun}
use Rattle.c_grammar.proofs.Fits.{Fits, Kept, part_fits, kept_fits, lookahead_is, token_fits, token_opens, else_word, while_word, open_brace, close_brace, semicolon}
use Rattle.c_grammar.proofs.DeclarationSound.{Valued, value_ok, vars_ok, Tested, BeginsTested, tested_lift, tested_ok, optional_ok, Clauses, BeginsClauses, clauses_lift, clauses_ok}

-- a statement, after which no `else` comes that would belong to it
pub record Stands (r : ℕ) (a : Tokens) (c : Code) (b : Tokens) : Type 0 where
  pub open_end : Bool
  pub derived : Statement open_end r a b c
  pub closed : open_end ≡ true → is_else (lookahead b) ≡ false

-- what is found is a statement, with the room after it that there was before; where it isn't, what comes before begins one
abbrev pub StatementSound : ℕ → Tokens → Reading Code → Type 0
StatementSound r a o = Fits (BeginsStatement r a) (BeginsStatement (suc r) a) (Kept r (Stands r a)) o

-- a statement that is not open
finds_closed : {r : ℕ} {a b : Tokens} {c : Code} → Statement false r a b c → StatementSound r a (found c r b)
finds_closed d = Fits.finds (record { same = refl; is = record { open_end = false; derived = d; closed = λ e. absurd (cc (e)) } })

-- the statement is not open where an `else` comes
closed_by : {r : ℕ} {a b : Tokens} {c : Code} (o : Bool) → Statement o r a b c → (o ≡ true → is_else (lookahead b) ≡ false) → is_else (lookahead b) ≡ true
    → Statement false r a b c
closed_by false d h e = d
closed_by true d h e = let x = h refl in absurd (cc (x, e))

-- the next token is of that kind, which its terminal tells
lookahead_shows : (l : Terminal) (K : TokenKind) → ((k : TokenKind) → terminal_of k ≡ l → k ≡ K) → (terminal.End ≡ l → ⊥) → (M : Tokens → Type 0) (a : Tokens) → lookahead a ≡ l
    → ((s : Span) (c : Tokens) → M ((K, s) ∷ c)) → M a
lookahead_shows l K only end M [] e g = absurd (end e)
lookahead_shows l K only end M ((k, s) ∷ a) e g = subst (λ z. M ((z, s) ∷ a)) (sym (only k e)) (g s a)

-- ---- statements without parts that are statements

act_ok : (r : ℕ) (a : Tokens) → StatementSound r a (act r a)
act_ok r a =
    kept_fits _ (value_ok Expression r a) (λ b v. BeginsStatement.act v) (λ b v. BeginsStatement.act v)
    (λ t b d. token_fits semicolon (Valued Expression r a t) _ r b (BeginsStatement.act (reads_begun d.reads)) d (λ e c g. finds_closed (Statement.act g.reads)))

empty_ok : (r : ℕ) (s : Span) (a : Tokens) → StatementSound r ((kind.Punct mark.Semicolon, s) ∷ a) (empty r ((kind.Punct mark.Semicolon, s) ∷ a))
empty_ok r s a = finds_closed Statement.empty

give_ok : (r : ℕ) (s : Span) (a : Tokens) → StatementSound r ((kind.Word key.Return, s) ∷ a) (give r ((kind.Word key.Return, s) ∷ a))
give_ok r s a =
    kept_fits _ (optional_ok is_semicolon r a) (λ b v. BeginsStatement.give v) (λ b v. BeginsStatement.give v)
    (λ t b d. token_fits semicolon (λ z. Optional r a z t) _ r b (BeginsStatement.give (optional_begun d)) d (λ e c g. finds_closed (Statement.give g)))

break_ok : (r : ℕ) (s : Span) (a : Tokens) → StatementSound r ((kind.Word key.Break, s) ∷ a) (break r ((kind.Word key.Break, s) ∷ a))
break_ok r s a =
    token_opens semicolon (λ z. BeginsStatement r ((kind.Word key.Break, s) ∷ z)) (λ z. BeginsStatement (suc r) ((kind.Word key.Break, s) ∷ z))
    (λ z. Kept r (Stands r ((kind.Word key.Break, s) ∷ z))) _ r a
    BeginsStatement.break (λ e c. finds_closed Statement.break)

continue_ok : (r : ℕ) (s : Span) (a : Tokens) → StatementSound r ((kind.Word key.Continue, s) ∷ a) (continue r ((kind.Word key.Continue, s) ∷ a))
continue_ok r s a =
    token_opens semicolon (λ z. BeginsStatement r ((kind.Word key.Continue, s) ∷ z)) (λ z. BeginsStatement (suc r) ((kind.Word key.Continue, s) ∷ z))
    (λ z. Kept r (Stands r ((kind.Word key.Continue, s) ∷ z))) _ r a BeginsStatement.continue (λ e c. finds_closed Statement.continue)

-- ---- what begins statements with parts

if_begins : {r : ℕ} {s : Span} {a b : Tokens} → BeginsTested r a b → BeginsStatement (suc r) ((kind.Word key.If, s) ∷ a) b
if_begins BeginsTested.none = BeginsStatement.if_word
if_begins (BeginsTested.test v) = BeginsStatement.if_test v
if_begins (BeginsTested.end (Tested.test d)) = BeginsStatement.if_then d (BeginsStatement.act Begins.none)

then_begins : {r : ℕ} {s : Span} {a b c : Tokens} {t : Tree} → Tested r a t b → BeginsStatement r b c → BeginsStatement (suc r) ((kind.Word key.If, s) ∷ a) c
then_begins (Tested.test d) v = BeginsStatement.if_then d v

else_begins : {r : ℕ} {s q : Span} {a b c d : Tokens} {t : Tree} {y : Code} → Tested r a t b → Statement false r b ((kind.Word key.Else, q) ∷ c) y
    → BeginsStatement r c d
    → BeginsStatement (suc r) ((kind.Word key.If, s) ∷ a) d
else_begins (Tested.test d) x v = BeginsStatement.if_else d x v

while_begins : {r : ℕ} {s : Span} {a b : Tokens} → BeginsTested r a b → BeginsStatement (suc r) ((kind.Word key.While, s) ∷ a) b
while_begins BeginsTested.none = BeginsStatement.while_word
while_begins (BeginsTested.test v) = BeginsStatement.while_test v
while_begins (BeginsTested.end (Tested.test d)) = BeginsStatement.while d (BeginsStatement.act Begins.none)

body_begins : {r : ℕ} {s : Span} {a b c : Tokens} {t : Tree} → Tested r a t b → BeginsStatement r b c → BeginsStatement (suc r) ((kind.Word key.While, s) ∷ a) c
body_begins (Tested.test d) v = BeginsStatement.while d v

do_begins : {o : Bool} {r : ℕ} {s w : Span} {a b c : Tokens} {y : Code} → Statement o r a ((kind.Word key.While, w) ∷ b) y → BeginsTested r b c
    → BeginsStatement (suc r) ((kind.Word key.Do, s) ∷ a) c
do_begins d BeginsTested.none = BeginsStatement.do_word d
do_begins d (BeginsTested.test v) = BeginsStatement.do_test d v
do_begins d (BeginsTested.end (Tested.test x)) = BeginsStatement.do_close d x

for_begins : {r : ℕ} {s : Span} {a b : Tokens} → BeginsClauses r a b → BeginsStatement (suc r) ((kind.Word key.For, s) ∷ a) b
for_begins BeginsClauses.none = BeginsStatement.for_word
for_begins (BeginsClauses.first v) = BeginsStatement.for_first v
for_begins (BeginsClauses.test d v) = BeginsStatement.for_test d v
for_begins (BeginsClauses.step d e v) = BeginsStatement.for_step d e v
for_begins (BeginsClauses.end (Clauses.parens d e f)) = BeginsStatement.for d e f (BeginsStatement.act Begins.none)

turn_begins : {r : ℕ} {s : Span} {a b c : Tokens} {i : First} {t u : Option Tree} → Clauses r a i t u b → BeginsStatement r b c
    → BeginsStatement (suc r) ((kind.Word key.For, s) ∷ a) c
turn_begins (Clauses.parens d e f) v = BeginsStatement.for d e f v

-- ---- statements with parts

if_then_is : {o : Bool} {r : ℕ} {s : Span} {a b c : Tokens} {t : Tree} {y : Code} → Tested r a t b → Statement o r b c y
    → Statement true (suc r) ((kind.Word key.If, s) ∷ a) c (tree.if_then t y (over s (span_of_code y)))
if_then_is (Tested.test d) x = Statement.if_then d x

if_else_is : {o : Bool} {r : ℕ} {s q : Span} {a b c d : Tokens} {t : Tree} {y z : Code} → Tested r a t b → Statement false r b ((kind.Word key.Else, q) ∷ c) y
    → Statement o r c d z
    → Statement o (suc r) ((kind.Word key.If, s) ∷ a) d (tree.if_else t y z (over s (span_of_code z)))
if_else_is (Tested.test d) x y = Statement.if_else d x y

while_is : {o : Bool} {r : ℕ} {s : Span} {a b c : Tokens} {t : Tree} {y : Code} → Tested r a t b → Statement o r b c y
    → Statement o (suc r) ((kind.Word key.While, s) ∷ a) c (tree.while t y (over s (span_of_code y)))
while_is (Tested.test d) x = Statement.while d x

do_while_is : {o : Bool} {r : ℕ} {s w q : Span} {a b c : Tokens} {t : Tree} {y : Code} → Statement o r a ((kind.Word key.While, w) ∷ b) y
    → Tested r b t ((kind.Punct mark.Semicolon, q) ∷ c)
    → Statement false (suc r) ((kind.Word key.Do, s) ∷ a) c (tree.do_while y t (over s q))
do_while_is d (Tested.test x) = Statement.do_while d x

for_is : {o : Bool} {r : ℕ} {s : Span} {a b c : Tokens} {i : First} {t u : Option Tree} {y : Code} → Clauses r a i t u b → Statement o r b c y
    → Statement o (suc r) ((kind.Word key.For, s) ∷ a) c (tree.for i t u y (over s (span_of_code y)))
for_is (Clauses.parens d e f) x = Statement.for d e f x

-- an item of a block, as a body
data Item : ℕ → Tokens → Body → Tokens → Type 0 where
  vars : {r : ℕ} {a b : Tokens} {ty : Ty} {vs : List Variable} → Vars r a b ty vs → Item r a (tree.vars ty vs tree.done) b
  code : {o : Bool} {r : ℕ} {a b : Tokens} {x : Code} → Statement o r a b x → Item r a (tree.next x tree.done) b

item_lift : {r : ℕ} {a b : Tokens} {x : Body} → Item r a x b → Item (suc r) a x b
item_lift (Item.vars d) = Item.vars (vars_lift d)
item_lift (Item.code d) = Item.code (statement_lift d)

item_begins : {r : ℕ} {a b c : Tokens} {x : Body} → Item r a x b → BeginsItems r b c → BeginsItems r a c
item_begins (Item.vars d) v = BeginsItems.more_vars d v
item_begins (Item.code d) v = BeginsItems.more_statement d v

item_before : {r : ℕ} {a b c : Tokens} {x y : Body} → Item r a x b → Items r b c y → Items r a c (append x y)
item_before (Item.vars d) e = Items.vars d e
item_before (Item.code d) e = Items.statement d e

module _ (self : Tokens → Reading Code) (r : ℕ) (H : (a : Tokens) → StatementSound r a (self a)) where
  item_by_ok : (l : Terminal) (a : Tokens) → Fits (BeginsItems r a) (BeginsItems (suc r) a) (Kept r (Item r a)) (item_by self l r a)
  item_by_ok (terminal.Type ty) a = part_fits (vars_ok r a) (λ b v. BeginsItems.vars v) (λ b v. BeginsItems.vars v)
      (λ x m b d. Fits.finds (record { same = d.same; is = Item.vars d.is }))
  item_by_ok _ a = part_fits (H a) (λ b v. BeginsItems.statement v) (λ b v. BeginsItems.statement v)
      (λ x m b d. Fits.finds (record { same = d.same; is = Item.code d.is.derived }))

  items_by_ok : (x : Bool) (on : ℕ → Tokens → Reading Body) (a : Tokens)
      → ((b : Tokens) → Fits (BeginsItems r b) (BeginsItems (suc r) b) (Kept r (λ y c. Items r b c y)) (on r b))
      → Fits (BeginsItems r a) (BeginsItems (suc r) a) (Kept r (λ y c. Items r a c y)) (items_by self x on r a)
  items_by_ok true on a h = Fits.finds (record { same = refl; is = Items.none })
  items_by_ok false on a h =
      kept_fits _ (item_by_ok (lookahead a) a) (λ b v. v) (λ b v. v)
      (λ x b d. part_fits (h b) (λ c v. item_begins d v) (λ c v. item_begins (item_lift d) v)
      (λ y m c k. Fits.finds (record { same = k.same; is = item_before d k.is })))

  items_within_ok : (n : ℕ) (a : Tokens) → Fits (BeginsItems r a) (BeginsItems (suc r) a) (Kept r (λ y c. Items r a c y)) (items_within self n r a)
  unfolding items_within
  items_within_ok zero a = Fits.stops (BeginsItems.statement (BeginsStatement.act Begins.none))
  items_within_ok (suc n) a = items_by_ok (is_close_brace (lookahead a)) (items_within self n) a (items_within_ok n)

  pub items_ok : (a : Tokens) → Fits (BeginsItems r a) (BeginsItems (suc r) a) (Kept r (λ y c. Items r a c y)) (items self r a)
  items_ok a = items_within_ok _ a

  block_ok : (s : Span) (a : Tokens) → StatementSound (suc r) ((kind.Punct mark.OpenBrace, s) ∷ a) (block self (suc r) ((kind.Punct mark.OpenBrace, s) ∷ a))
  block_ok s a =
      kept_fits _ (items_ok a) (λ b v. BeginsStatement.block v) (λ b v. BeginsStatement.block v)
      (λ body b d. token_fits close_brace (λ z. Items r a z body) _ (suc r) b (BeginsStatement.block (items_begun d)) d (λ e c g. finds_closed (Statement.block g)))

  otherwise_ok : (x : Bool) (s : Span) (a : Tokens) (t : Tree) (b : Tokens) (y : Code) (c : Tokens) → is_else (lookahead c) ≡ x → Tested r a t b → Stands r b y c
      → StatementSound (suc r) ((kind.Word key.If, s) ∷ a) (otherwise_by self (suc r) x s t y r c)
  otherwise_ok false s a t b y c e d k = Fits.finds (record { same = refl; is = record { open_end = true; derived = if_then_is d k.derived; closed = λ i. e } })
  otherwise_ok true s a t b y c e d k =
      lookahead_is else_word (λ z. Statement false r b z y → StatementSound (suc r) ((kind.Word key.If, s) ∷ a) (otherwise_by self (suc r) true s t y r z)) c e
      (λ q c x. kept_fits _ (H c) (λ z v. else_begins d x v) (λ z v. else_begins (tested_lift d) (statement_lift x) v)
      (λ z c k. Fits.finds (record { same = refl; is = record { open_end = k.open_end; derived = if_else_is d x k.derived; closed = k.closed } })))
      (closed_by k.open_end k.derived k.closed e)

  branch_ok : (s : Span) (a : Tokens) → StatementSound (suc r) ((kind.Word key.If, s) ∷ a) (branch self (suc r) ((kind.Word key.If, s) ∷ a))
  branch_ok s a =
      kept_fits _ (tested_ok r a) (λ b v. if_begins v) (λ b v. if_begins v)
      (λ t b d. kept_fits _ (H b) (λ c v. then_begins d v) (λ c v. then_begins (tested_lift d) v) (λ y c k. otherwise_ok (is_else (lookahead c)) s a t b y c refl d k))

  while_loop_ok : (s : Span) (a : Tokens) → StatementSound (suc r) ((kind.Word key.While, s) ∷ a) (while_loop self (suc r) ((kind.Word key.While, s) ∷ a))
  while_loop_ok s a =
      kept_fits _ (tested_ok r a) (λ b v. while_begins v) (λ b v. while_begins v)
      (λ t b d. kept_fits _ (H b) (λ c v. body_begins d v) (λ c v. body_begins (tested_lift d) v)
      (λ y c k. Fits.finds (record { same = refl; is = record { open_end = k.open_end; derived = while_is d k.derived; closed = k.closed } })))

  do_loop_ok : (s : Span) (a : Tokens) → StatementSound (suc r) ((kind.Word key.Do, s) ∷ a) (do_loop self (suc r) ((kind.Word key.Do, s) ∷ a))
  do_loop_ok s a =
      kept_fits _ (H a) (λ b v. BeginsStatement.do_body v) (λ b v. BeginsStatement.do_body v)
      (λ y b k. token_fits while_word (λ z. Statement k.open_end r a z y) _ r b (BeginsStatement.do_body (statement_begun k.derived)) k.derived
      (λ w c d. kept_fits _ (tested_ok r c) (λ z v. do_begins d v) (λ z v. do_begins (statement_lift d) v)
      (λ t x g. token_fits semicolon (Tested r c t) _ (suc r) x (do_begins d (BeginsTested.end g)) g (λ e z i. finds_closed (do_while_is d i)))))

  for_loop_ok : (s : Span) (a : Tokens) → StatementSound (suc r) ((kind.Word key.For, s) ∷ a) (for_loop self (suc r) ((kind.Word key.For, s) ∷ a))
  for_loop_ok s a =
      kept_fits _ (clauses_ok r a) (λ b v. for_begins v) (λ b v. for_begins v)
      (λ h b d. kept_fits _ (H b) (λ c v. turn_begins d v) (λ c v. turn_begins (clauses_lift d) v)
      (λ y c k. Fits.finds (record { same = refl; is = record { open_end = k.open_end; derived = for_is d k.derived; closed = k.closed } })))

-- ---- any statement

-- The statements that begin with an opener, where there is room for it and where there isn't.
record Opens (self : Tokens → Reading Code) (r : ℕ) : Type 0 where
  block_is : (s : Span) (a : Tokens) → StatementSound r ((kind.Punct mark.OpenBrace, s) ∷ a) (block self r ((kind.Punct mark.OpenBrace, s) ∷ a))
  branch_is : (s : Span) (a : Tokens) → StatementSound r ((kind.Word key.If, s) ∷ a) (branch self r ((kind.Word key.If, s) ∷ a))
  while_loop_is : (s : Span) (a : Tokens) → StatementSound r ((kind.Word key.While, s) ∷ a) (while_loop self r ((kind.Word key.While, s) ∷ a))
  do_loop_is : (s : Span) (a : Tokens) → StatementSound r ((kind.Word key.Do, s) ∷ a) (do_loop self r ((kind.Word key.Do, s) ∷ a))
  for_loop_is : (s : Span) (a : Tokens) → StatementSound r ((kind.Word key.For, s) ∷ a) (for_loop self r ((kind.Word key.For, s) ∷ a))

no_room : (self : Tokens → Reading Code) → Opens self zero
no_room self =
    record {
      block_is = λ s a. Fits.sinks (BeginsStatement.act Begins.none) (BeginsStatement.block (BeginsItems.statement (BeginsStatement.act Begins.none)));
      branch_is = λ s a. Fits.sinks (BeginsStatement.act Begins.none) BeginsStatement.if_word;
      while_loop_is = λ s a. Fits.sinks (BeginsStatement.act Begins.none) BeginsStatement.while_word;
      do_loop_is = λ s a. Fits.sinks (BeginsStatement.act Begins.none) (BeginsStatement.do_body (BeginsStatement.act Begins.none));
      for_loop_is = λ s a. Fits.sinks (BeginsStatement.act Begins.none) BeginsStatement.for_word;
    }

some_room : (self : Tokens → Reading Code) (r : ℕ) → ((a : Tokens) → StatementSound r a (self a)) → Opens self (suc r)
some_room self r H =
    record { block_is = block_ok self r H; branch_is = branch_ok self r H; while_loop_is = while_loop_ok self r H; do_loop_is = do_loop_ok self r H; for_loop_is = for_loop_ok self r H }

statement_by_ok : (self : Tokens → Reading Code) (r : ℕ) → Opens self r → (l : Terminal) (a : Tokens) → lookahead a ≡ l → StatementSound r a (statement_by self l r a)
statement_by_ok self r o terminal.Semicolon a e = lookahead_is semicolon (λ z. StatementSound r z (empty r z)) a (ap is_semicolon e) (λ s c. empty_ok r s c)
statement_by_ok self r o terminal.OpenBrace a e = lookahead_is open_brace (λ z. StatementSound r z (block self r z)) a (ap is_open_brace e) (λ s c. o.block_is s c)
statement_by_ok self r o terminal.If a e =
    lookahead_shows terminal.If (kind.Word key.If) (λ k i. terminal_shows k terminal.If i) (λ i. cc (i)) (λ z. StatementSound r z (branch self r z)) a e (λ s c. o.branch_is s c)
statement_by_ok self r o terminal.While a e =
    lookahead_shows terminal.While (kind.Word key.While) (λ k i. terminal_shows k terminal.While i) (λ i. cc (i)) (λ z. StatementSound r z (while_loop self r z)) a e
    (λ s c. o.while_loop_is s c)
statement_by_ok self r o terminal.Do a e =
    lookahead_shows terminal.Do (kind.Word key.Do) (λ k i. terminal_shows k terminal.Do i) (λ i. cc (i)) (λ z. StatementSound r z (do_loop self r z)) a e (λ s c. o.do_loop_is s c)
statement_by_ok self r o terminal.For a e =
    lookahead_shows terminal.For (kind.Word key.For) (λ k i. terminal_shows k terminal.For i) (λ i. cc (i)) (λ z. StatementSound r z (for_loop self r z)) a e (λ s c. o.for_loop_is s c)
statement_by_ok self r o terminal.Return a e =
    lookahead_shows terminal.Return (kind.Word key.Return) (λ k i. terminal_shows k terminal.Return i) (λ i. cc (i)) (λ z. StatementSound r z (give r z)) a e (λ s c. give_ok r s c)
statement_by_ok self r o terminal.Break a e =
    lookahead_shows terminal.Break (kind.Word key.Break) (λ k i. terminal_shows k terminal.Break i) (λ i. cc (i)) (λ z. StatementSound r z (break r z)) a e (λ s c. break_ok r s c)
statement_by_ok self r o terminal.Continue a e =
    lookahead_shows terminal.Continue (kind.Word key.Continue) (λ k i. terminal_shows k terminal.Continue i) (λ i. cc (i)) (λ z. StatementSound r z (continue r z)) a e
    (λ s c. continue_ok r s c)
statement_by_ok self r o _ a e = act_ok r a

statement_ok : (self : Tokens → Reading Code) (r : ℕ) → Opens self r → (a : Tokens) → StatementSound r a (statement self r a)
statement_ok self r o a = statement_by_ok self r o (lookahead a) a refl

-- with that room, what is read is a statement
pub does_ok : (r : ℕ) (a : Tokens) → StatementSound r a (does r a)
unfolding does
does_ok zero a = statement_ok (λ b. too_deep b) zero (no_room (λ b. too_deep b)) a
does_ok (suc r) a = statement_ok (does r) (suc r) (some_room (does r) r (does_ok r)) a
