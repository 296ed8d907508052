-- What the descent of declarations, statements and programs leaves of the tokens is no more than it began with.
use Rattle.std.proofs.Common.{ℕ, ℤ, zero, suc, Bool, true, false, List, [], ◌∷◌, Option, Some, None, length}
use Rattle.c_tree.specs.declared.place.Span.{Span}
use Rattle.c_tree.specs.declared.program.Param.{Param}
use Rattle.c_tree.specs.declared.stmt.Ty.{Ty}
use Rattle.c_tree.specs.Tree.{Tree, Code, Body, Outer}
use Rattle.c_grammar.specs.declared.terminal.Terminal.{Terminal}
use Rattle.c_grammar.specs.declared.terminal.Terminal.TheVariants as terminal
use Rattle.c_grammar.specs.declared.nonterminal.Nonterminal.{Nonterminal}
use Rattle.c_grammar.specs.declared.nonterminal.Nonterminal.TheVariants.{Expression, Assignment}
use Rattle.c_grammar.specs.Grammar.{Tokens}
use Rattle.c_grammar.specs.Terminals.{lookahead, is_constant, is_else, is_while, is_open_paren, is_close_paren, is_open_bracket, is_close_bracket, is_open_brace, is_close_brace, is_semicolon, is_assign, is_end, never, result_at}
use Rattle.c_grammar.specs.Descent.{Reading, too_deep}
use Rattle.c_grammar.specs.ProgramDescent as descent
use Rattle.c_grammar.proofs.ExpressionConsumption.{Far, Within, within_then, stays, refuses, stops, taken_within, opened_within, expected_within, entered_within, name_within, constant_within, type_within, ahead_within, listed_within, run_within}

pub value_within : (N : Nonterminal) (r : ℕ) (a : Tokens) → Within a (descent.value N r a)
value_within N r a = within_then (run_within (suc r) N r a) (λ t m b. stays)

-- ---- declarations

pub bound_by_within : (x : Bool) (r : ℕ) (a : Tokens) → Within a (descent.bound_by x r a)
bound_by_within true r a = within_then (constant_within r a) (λ n m b. stays)
bound_by_within false r a = stays

pub bracketed_within : (r : ℕ) (a : Tokens) → Within a (descent.bracketed r a)
bracketed_within r a =
    within_then (opened_within r a)
    (λ o m b. within_then (bound_by_within (is_constant (lookahead b)) m b) (λ n q c. within_then (expected_within is_close_bracket r c) (λ e v d. stays)))

pub elements_within : (r : ℕ) (a : Tokens) → Within a (descent.elements r a)
elements_within r a =
    within_then (entered_within is_open_brace r a) (λ o m b.
    within_then (listed_within is_close_brace (descent.value Assignment m) (value_within Assignment m) (suc (length b)) m b)
    (λ ts n c. within_then (expected_within is_close_brace r c) (λ e q d. stays)))

pub list_by_within : (x : Bool) (w : List ℕ × Span) (n : Option ℤ × Span) (r : ℕ) (a : Tokens) → Within a (descent.list_by x w n r a)
list_by_within true w n r a = within_then (taken_within r a) (λ o m b. within_then (elements_within m b) (λ ts q c. stays))
list_by_within false w n r a = stays

pub array_within : (w : List ℕ × Span) (r : ℕ) (a : Tokens) → Within a (descent.array w r a)
array_within w r a = within_then (bracketed_within r a) (λ n m b. list_by_within (is_assign (lookahead b)) w n m b)

pub scalar_by_within : (x : Bool) (w : List ℕ × Span) (r : ℕ) (a : Tokens) → Within a (descent.scalar_by x w r a)
scalar_by_within true w r a = within_then (taken_within r a) (λ o m b. within_then (value_within Assignment m b) (λ t q c. stays))
scalar_by_within false w r a = stays

pub declared_by_within : (x : Bool) (w : List ℕ × Span) (r : ℕ) (a : Tokens) → Within a (descent.declared_by x w r a)
declared_by_within true w r a = array_within w r a
declared_by_within false w r a = scalar_by_within (is_assign (lookahead a)) w r a

pub declarator_within : (r : ℕ) (a : Tokens) → Within a (descent.declarator r a)
declarator_within r a = within_then (name_within r a) (λ w m b. declared_by_within (is_open_bracket (lookahead b)) w m b)

pub declarators_within : (r : ℕ) (a : Tokens) → Within a (descent.declarators r a)
declarators_within r a = listed_within never (descent.declarator r) (declarator_within r) (suc (length a)) r a

pub vars_within : (r : ℕ) (a : Tokens) → Within a (descent.vars r a)
vars_within r a =
    within_then (type_within r a) (λ ty m b. within_then (declarators_within m b) (λ vs n c. within_then (expected_within is_semicolon n c) (λ e q d. stays)))

-- ---- parts of statements

pub tested_within : (r : ℕ) (a : Tokens) → Within a (descent.tested r a)
tested_within r a =
    within_then (entered_within is_open_paren r a)
    (λ o m b. within_then (value_within Expression m b) (λ t n c. within_then (expected_within is_close_paren r c) (λ e q d. stays)))

pub optional_by_within : (x : Bool) (r : ℕ) (a : Tokens) → Within a (descent.optional_by x r a)
optional_by_within true r a = stays
optional_by_within false r a = within_then (value_within Expression r a) (λ t m b. stays)

pub optional_within : (ends : Terminal → Bool) (r : ℕ) (a : Tokens) → Within a (descent.optional ends r a)
optional_within ends r a = optional_by_within (ends (lookahead a)) r a

pub first_act_within : (r : ℕ) (a : Tokens) → Within a (descent.first_act r a)
first_act_within r a = within_then (value_within Expression r a) (λ t m b. within_then (expected_within is_semicolon m b) (λ e n c. stays))

pub clause_by_within : (l : Terminal) (r : ℕ) (a : Tokens) → Within a (descent.clause_by l r a)
clause_by_within terminal.Semicolon r a = within_then (taken_within r a) (λ s m b. stays)
clause_by_within (terminal.Type ty) r a = within_then (vars_within r a) (λ v m b. stays)
clause_by_within _ r a = first_act_within r a

pub clause_within : (r : ℕ) (a : Tokens) → Within a (descent.clause r a)
clause_within r a = clause_by_within (lookahead a) r a

pub clauses_within : (r : ℕ) (a : Tokens) → Within a (descent.clauses r a)
clauses_within r a =
    within_then (entered_within is_open_paren r a) (λ o m b.
    within_then (clause_within m b) (λ i n c.
    within_then (optional_within is_semicolon n c) (λ t q d.
    within_then (expected_within is_semicolon q d)
    (λ e v x. within_then (optional_within is_close_paren v x) (λ u y z. within_then (expected_within is_close_paren r z) (λ f g h. stays))))))

pub act_within : (r : ℕ) (a : Tokens) → Within a (descent.act r a)
act_within r a = within_then (value_within Expression r a) (λ t m b. within_then (expected_within is_semicolon m b) (λ e n c. stays))

pub give_within : (r : ℕ) (a : Tokens) → Within a (descent.give r a)
give_within r a =
    within_then (taken_within r a)
    (λ s m b. within_then (optional_within is_semicolon m b) (λ t n c. within_then (expected_within is_semicolon n c) (λ e q d. stays)))

pub break_within : (r : ℕ) (a : Tokens) → Within a (descent.break r a)
break_within r a = within_then (taken_within r a) (λ s m b. within_then (expected_within is_semicolon m b) (λ e n c. stays))

pub continue_within : (r : ℕ) (a : Tokens) → Within a (descent.continue r a)
continue_within r a = within_then (taken_within r a) (λ s m b. within_then (expected_within is_semicolon m b) (λ e n c. stays))

pub empty_within : (r : ℕ) (a : Tokens) → Within a (descent.empty r a)
empty_within r a = within_then (taken_within r a) (λ s m b. stays)

-- ---- statements

pub before_within : {a : Tokens} (x : Body) (o : Reading Body) → Within a o → Within a (descent.before x o)
before_within x o h = within_then h (λ y m b. stays)

module _ (self : Tokens → Reading Code) (H : (a : Tokens) → Within a (self a)) where
  pub one_within : (a : Tokens) → Within a (descent.one self a)
  one_within a = within_then (H a) (λ c m b. stays)

  pub item_by_within : (l : Terminal) (r : ℕ) (a : Tokens) → Within a (descent.item_by self l r a)
  item_by_within (terminal.Type ty) r a = within_then (vars_within r a) (λ v m b. stays)
  item_by_within _ r a = one_within a

  pub item_within : (r : ℕ) (a : Tokens) → Within a (descent.item self r a)
  item_within r a = item_by_within (lookahead a) r a

  pub items_by_within : (x : Bool) (on : ℕ → Tokens → Reading Body) → ((r : ℕ) (a : Tokens) → Within a (on r a)) → (r : ℕ) (a : Tokens)
      → Within a (descent.items_by self x on r a)
  items_by_within true on h r a = stays
  items_by_within false on h r a = within_then (item_within r a) (λ x m b. before_within x (on r b) (h r b))

  pub some_items_within : (n r : ℕ) (a : Tokens) → Within a (descent.items_within self n r a)
  unfolding descent.items_within
  some_items_within zero r a = refuses
  some_items_within (suc n) r a = items_by_within (is_close_brace (lookahead a)) (descent.items_within self n) (some_items_within n) r a

  pub items_within : (r : ℕ) (a : Tokens) → Within a (descent.items self r a)
  items_within r a = some_items_within (suc (length a)) r a

  pub block_within : (r : ℕ) (a : Tokens) → Within a (descent.block self r a)
  block_within r a =
      within_then (opened_within r a) (λ s m b. within_then (items_within m b) (λ x n c. within_then (expected_within is_close_brace r c) (λ e q d. stays)))

  pub otherwise_by_within : (r : ℕ) (x : Bool) (s : Span) (t : Tree) (y : Code) (m : ℕ) (b : Tokens) → Within b (descent.otherwise_by self r x s t y m b)
  otherwise_by_within r true s t y m b = within_then (taken_within m b) (λ e n c. within_then (H c) (λ z q d. stays))
  otherwise_by_within r false s t y m b = stays

  pub branch_within : (r : ℕ) (a : Tokens) → Within a (descent.branch self r a)
  branch_within r a =
      within_then (opened_within r a)
      (λ s m b. within_then (tested_within m b) (λ t n c. within_then (H c) (λ y q d. otherwise_by_within r (is_else (lookahead d)) s t y q d)))

  pub while_loop_within : (r : ℕ) (a : Tokens) → Within a (descent.while_loop self r a)
  while_loop_within r a = within_then (opened_within r a) (λ s m b. within_then (tested_within m b) (λ t n c. within_then (H c) (λ y q d. stays)))

  pub do_loop_within : (r : ℕ) (a : Tokens) → Within a (descent.do_loop self r a)
  do_loop_within r a =
      within_then (opened_within r a) (λ s m b.
      within_then (H b) (λ y n c.
      within_then (expected_within is_while n c)
      (λ w q d. within_then (tested_within q d) (λ t v x. within_then (expected_within is_semicolon r x) (λ e i z. stays)))))

  pub for_loop_within : (r : ℕ) (a : Tokens) → Within a (descent.for_loop self r a)
  for_loop_within r a = within_then (opened_within r a) (λ s m b. within_then (clauses_within m b) (λ h n c. within_then (H c) (λ y q d. stays)))

  pub statement_by_within : (l : Terminal) (r : ℕ) (a : Tokens) → Within a (descent.statement_by self l r a)
  statement_by_within terminal.Semicolon r a = empty_within r a
  statement_by_within terminal.OpenBrace r a = block_within r a
  statement_by_within terminal.If r a = branch_within r a
  statement_by_within terminal.While r a = while_loop_within r a
  statement_by_within terminal.Do r a = do_loop_within r a
  statement_by_within terminal.For r a = for_loop_within r a
  statement_by_within terminal.Return r a = give_within r a
  statement_by_within terminal.Break r a = break_within r a
  statement_by_within terminal.Continue r a = continue_within r a
  statement_by_within _ r a = act_within r a

  pub statement_within : (r : ℕ) (a : Tokens) → Within a (descent.statement self r a)
  statement_within r a = statement_by_within (lookahead a) r a

pub does_within : (r : ℕ) (a : Tokens) → Within a (descent.does r a)
unfolding descent.does
does_within zero a = statement_within (λ b. too_deep b) (λ b. stops) zero a
does_within (suc r) a = statement_within (descent.does r) (does_within r) (suc r) a

-- ---- programs

pub parameter_by_within : (x : Bool) (ty : Ty) (w : List ℕ × Span) (r : ℕ) (a : Tokens) → Within a (descent.parameter_by x ty w r a)
parameter_by_within true ty w r a = within_then (bracketed_within r a) (λ n m b. stays)
parameter_by_within false ty w r a = stays

pub param_within : (r : ℕ) (a : Tokens) → Within a (descent.param r a)
param_within r a = within_then (type_within r a) (λ ty m b. within_then (name_within m b) (λ w n c. parameter_by_within (is_open_bracket (lookahead c)) ty w n c))

pub params_by_within : (l : Terminal) (r : ℕ) (a : Tokens) → Within a (descent.params_by l r a)
params_by_within terminal.CloseParen r a = stays
params_by_within terminal.Void r a = within_then (taken_within r a) (λ s m b. stays)
params_by_within _ r a = listed_within never (descent.param r) (param_within r) (suc (length a)) r a

pub params_within : (r : ℕ) (a : Tokens) → Within a (descent.params r a)
params_within r a = params_by_within (lookahead a) r a

pub signature_within : (r : ℕ) (a : Tokens) → Within a (descent.signature r a)
signature_within r a =
    within_then (entered_within is_open_paren r a)
    (λ o m b. within_then (params_within m b) (λ xs n c. within_then (expected_within is_close_paren r c) (λ e q d. stays)))

pub result_by_within : (x : Option (Option Ty)) (r : ℕ) (a : Tokens) → Within a (descent.result_by x r a)
result_by_within (Some ret) r a = within_then (taken_within r a) (λ s m b. stays)
result_by_within None r a = refuses

pub result_within : (r : ℕ) (a : Tokens) → Within a (descent.result r a)
result_within r a = result_by_within (result_at (lookahead a)) r a

pub body_within : (r : ℕ) (a : Tokens) → Within a (descent.body r a)
body_within r a =
    within_then (entered_within is_open_brace r a) (λ o m b.
    within_then (items_within (descent.does m) (does_within m) m b) (λ x n c. within_then (expected_within is_close_brace r c) (λ e q d. stays)))

pub ended_by_within : (x : Bool) (ret : Option Ty) (w : List ℕ × Span) (xs : List Param) (r : ℕ) (a : Tokens) → Within a (descent.ended_by x ret w xs r a)
ended_by_within true ret w xs r a = within_then (taken_within r a) (λ e m b. stays)
ended_by_within false ret w xs r a = within_then (body_within r a) (λ x m b. stays)

pub func_within : (r : ℕ) (a : Tokens) → Within a (descent.func r a)
func_within r a =
    within_then (result_within r a) (λ ret m b.
    within_then (name_within m b) (λ w n c. within_then (signature_within n c) (λ xs q d. ended_by_within (is_semicolon (lookahead d)) ret w xs q d)))

pub external_by_within : (x : Bool) (r : ℕ) (a : Tokens) → Within a (descent.external_by x r a)
external_by_within true r a = func_within r a
external_by_within false r a = within_then (vars_within r a) (λ v m b. stays)

pub external_within : (r : ℕ) (a : Tokens) → Within a (descent.external r a)
external_within r a = external_by_within (descent.is_func a) r a

pub externals_by_within : (y : Bool) (on : ℕ → Tokens → Reading (List Outer)) → ((r : ℕ) (a : Tokens) → Within a (on r a)) → (x : Outer) (r : ℕ) (b : Tokens)
    → Within b (descent.externals_by y on x r b)
externals_by_within true on h x r b = stays
externals_by_within false on h x r b = ahead_within (x ∷ []) (on r b) (h r b)

pub externals_within : (n r : ℕ) (a : Tokens) → Within a (descent.externals n r a)
unfolding descent.externals
externals_within zero r a = refuses
externals_within (suc n) r a =
    within_then (external_within r a) (λ x m b. externals_by_within (is_end (lookahead b)) (descent.externals n) (externals_within n) x m b)

pub program_within : (r : ℕ) (a : Tokens) → Within a (descent.program r a)
program_within r a = externals_within (suc (length a)) r a

pub program_far : (r : ℕ) (a : Tokens) → Far a (descent.program r a)
program_far r a = (program_within r a).far
