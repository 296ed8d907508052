-- With one more room the descent of declarations, statements and programs comes to the same, unless room was lacking.
use Rattle.std.proofs.Common.{ℕ, ℤ, zero, suc, Bool, true, false, List, [], ◌∷◌, Option, Some, None, length}
use Rattle.c_tree.specs.declared.place.Span.{Span}
use Rattle.c_tree.specs.declared.program.Param.{Param}
use Rattle.c_tree.specs.declared.stmt.Ty.{Ty}
use Rattle.c_tree.specs.Tree.{Tree, Code, Body, Outer}
use Rattle.c_grammar.specs.declared.terminal.Terminal.{Terminal}
use Rattle.c_grammar.specs.declared.terminal.Terminal.TheVariants as terminal
use Rattle.c_grammar.specs.declared.nonterminal.Nonterminal.{Nonterminal}
use Rattle.c_grammar.specs.Grammar.{Tokens}
use Rattle.c_grammar.specs.Terminals.{lookahead, is_close_brace, is_assign, never, result_at}
use Rattle.c_grammar.specs.Descent.{Reading, too_deep}
use Rattle.c_grammar.specs.ProgramDescent as descent
use Rattle.c_grammar.proofs.ExpressionMonotone.{Same, Grows, grows_then, finds, refuses, wants, taken_grows, opened_grows, expected_grows, entered_grows, name_grows, constant_grows, type_grows, ahead_grows, listed_grows, run_grows}

pub value_grows : (N : Nonterminal) (r : ℕ) (a : Tokens) → Grows (descent.value N r a) (descent.value N (suc r) a)
value_grows N r a = search (grows_then, run_grows, finds)

-- ---- declarations

pub bound_by_grows : (x : Bool) (r : ℕ) (a : Tokens) → Grows (descent.bound_by x r a) (descent.bound_by x (suc r) a)
bound_by_grows true r a = search (grows_then, constant_grows, finds)
bound_by_grows false r a = finds

pub bracketed_grows : (r : ℕ) (a : Tokens) → Grows (descent.bracketed r a) (descent.bracketed (suc r) a)
bracketed_grows r a = search (grows_then, opened_grows, bound_by_grows, expected_grows, finds)

pub elements_grows : (r : ℕ) (a : Tokens) → Grows (descent.elements r a) (descent.elements (suc r) a)
elements_grows r a = search (grows_then, entered_grows, listed_grows, value_grows, expected_grows, finds)

pub list_by_grows : (x : Bool) (w : List ℕ × Span) (n : Option ℤ × Span) (r : ℕ) (a : Tokens)
    → Grows (descent.list_by x w n r a) (descent.list_by x w n (suc r) a)
list_by_grows true w n r a = search (grows_then, taken_grows, elements_grows, finds)
list_by_grows false w n r a = finds

pub array_grows : (w : List ℕ × Span) (r : ℕ) (a : Tokens) → Grows (descent.array w r a) (descent.array w (suc r) a)
array_grows w r a = search (grows_then, bracketed_grows, list_by_grows)

pub scalar_by_grows : (x : Bool) (w : List ℕ × Span) (r : ℕ) (a : Tokens) → Grows (descent.scalar_by x w r a) (descent.scalar_by x w (suc r) a)
scalar_by_grows true w r a = search (grows_then, taken_grows, value_grows, finds)
scalar_by_grows false w r a = finds

pub declared_by_grows : (x : Bool) (w : List ℕ × Span) (r : ℕ) (a : Tokens) → Grows (descent.declared_by x w r a) (descent.declared_by x w (suc r) a)
declared_by_grows true w r a = array_grows w r a
declared_by_grows false w r a = scalar_by_grows (is_assign (lookahead a)) w r a

pub declarator_grows : (r : ℕ) (a : Tokens) → Grows (descent.declarator r a) (descent.declarator (suc r) a)
declarator_grows r a = search (grows_then, name_grows, declared_by_grows)

pub declarators_grows : (r : ℕ) (a : Tokens) → Grows (descent.declarators r a) (descent.declarators (suc r) a)
declarators_grows r a = listed_grows never (descent.declarator r) (descent.declarator (suc r)) (declarator_grows r) (suc (length a)) r a

pub vars_grows : (r : ℕ) (a : Tokens) → Grows (descent.vars r a) (descent.vars (suc r) a)
vars_grows r a = search (grows_then, type_grows, declarators_grows, expected_grows, finds)

-- ---- parts of statements

pub tested_grows : (r : ℕ) (a : Tokens) → Grows (descent.tested r a) (descent.tested (suc r) a)
tested_grows r a = search (grows_then, entered_grows, value_grows, expected_grows, finds)

pub optional_by_grows : (x : Bool) (r : ℕ) (a : Tokens) → Grows (descent.optional_by x r a) (descent.optional_by x (suc r) a)
optional_by_grows true r a = finds
optional_by_grows false r a = search (grows_then, value_grows, finds)

pub optional_grows : (ends : Terminal → Bool) (r : ℕ) (a : Tokens) → Grows (descent.optional ends r a) (descent.optional ends (suc r) a)
optional_grows ends r a = optional_by_grows (ends (lookahead a)) r a

pub first_act_grows : (r : ℕ) (a : Tokens) → Grows (descent.first_act r a) (descent.first_act (suc r) a)
first_act_grows r a = search (grows_then, value_grows, expected_grows, finds)

pub clause_by_grows : (l : Terminal) (r : ℕ) (a : Tokens) → Grows (descent.clause_by l r a) (descent.clause_by l (suc r) a)
clause_by_grows terminal.Semicolon r a = search (grows_then, taken_grows, finds)
clause_by_grows (terminal.Type ty) r a = search (grows_then, vars_grows, finds)
clause_by_grows _ r a = first_act_grows r a

pub clause_grows : (r : ℕ) (a : Tokens) → Grows (descent.clause r a) (descent.clause (suc r) a)
clause_grows r a = clause_by_grows (lookahead a) r a

pub clauses_grows : (r : ℕ) (a : Tokens) → Grows (descent.clauses r a) (descent.clauses (suc r) a)
clauses_grows r a = search (grows_then, entered_grows, clause_grows, optional_grows, expected_grows, finds) depth 10

pub act_grows : (r : ℕ) (a : Tokens) → Grows (descent.act r a) (descent.act (suc r) a)
act_grows r a = search (grows_then, value_grows, expected_grows, finds)

pub give_grows : (r : ℕ) (a : Tokens) → Grows (descent.give r a) (descent.give (suc r) a)
give_grows r a = search (grows_then, taken_grows, optional_grows, expected_grows, finds)

pub break_grows : (r : ℕ) (a : Tokens) → Grows (descent.break r a) (descent.break (suc r) a)
break_grows r a = search (grows_then, taken_grows, expected_grows, finds)

pub continue_grows : (r : ℕ) (a : Tokens) → Grows (descent.continue r a) (descent.continue (suc r) a)
continue_grows r a = search (grows_then, taken_grows, expected_grows, finds)

pub empty_grows : (r : ℕ) (a : Tokens) → Grows (descent.empty r a) (descent.empty (suc r) a)
empty_grows r a = search (grows_then, taken_grows, finds)

-- ---- statements

pub before_grows : (x : Body) (o p : Reading Body) → Grows o p → Grows (descent.before x o) (descent.before x p)
before_grows x o p h = search (grows_then, h, finds)

module _ (self more : Tokens → Reading Code) (H : (a : Tokens) → Grows (self a) (more a)) where
  pub one_grows : (a : Tokens) → Grows (descent.one self a) (descent.one more a)
  one_grows a = search (grows_then, H, finds)

  pub item_by_grows : (l : Terminal) (r : ℕ) (a : Tokens) → Grows (descent.item_by self l r a) (descent.item_by more l (suc r) a)
  item_by_grows (terminal.Type ty) r a = search (grows_then, vars_grows, finds)
  item_by_grows _ r a = one_grows a

  pub item_grows : (r : ℕ) (a : Tokens) → Grows (descent.item self r a) (descent.item more (suc r) a)
  item_grows r a = item_by_grows (lookahead a) r a

  pub items_by_grows : (x : Bool) (on wide : ℕ → Tokens → Reading Body) → ((r : ℕ) (a : Tokens) → Grows (on r a) (wide (suc r) a)) → (r : ℕ) (a : Tokens)
      → Grows (descent.items_by self x on r a) (descent.items_by more x wide (suc r) a)
  items_by_grows true on wide h r a = finds
  items_by_grows false on wide h r a = search (grows_then, item_grows, before_grows, h)

  pub some_items_grows : (n r : ℕ) (a : Tokens) → Grows (descent.items_within self n r a) (descent.items_within more n (suc r) a)
  unfolding descent.items_within
  some_items_grows zero r a = refuses
  some_items_grows (suc n) r a =
      items_by_grows (is_close_brace (lookahead a)) (descent.items_within self n) (descent.items_within more n) (some_items_grows n) r a

  pub items_grows : (r : ℕ) (a : Tokens) → Grows (descent.items self r a) (descent.items more (suc r) a)
  items_grows r a = some_items_grows (suc (length a)) r a

  pub block_grows : (r : ℕ) (a : Tokens) → Grows (descent.block self r a) (descent.block more (suc r) a)
  block_grows r a = search (grows_then, opened_grows, items_grows, expected_grows, finds)

  pub otherwise_by_grows : (r : ℕ) (x : Bool) (s : Span) (t : Tree) (y : Code) (m : ℕ) (b : Tokens)
      → Grows (descent.otherwise_by self r x s t y m b) (descent.otherwise_by more (suc r) x s t y (suc m) b)
  otherwise_by_grows r true s t y m b = search (grows_then, taken_grows, H, finds)
  otherwise_by_grows r false s t y m b = finds

  pub branch_grows : (r : ℕ) (a : Tokens) → Grows (descent.branch self r a) (descent.branch more (suc r) a)
  branch_grows r a = search (grows_then, opened_grows, tested_grows, H, otherwise_by_grows)

  pub while_loop_grows : (r : ℕ) (a : Tokens) → Grows (descent.while_loop self r a) (descent.while_loop more (suc r) a)
  while_loop_grows r a = search (grows_then, opened_grows, tested_grows, H, finds)

  pub do_loop_grows : (r : ℕ) (a : Tokens) → Grows (descent.do_loop self r a) (descent.do_loop more (suc r) a)
  do_loop_grows r a = search (grows_then, opened_grows, H, expected_grows, tested_grows, finds) depth 10

  pub for_loop_grows : (r : ℕ) (a : Tokens) → Grows (descent.for_loop self r a) (descent.for_loop more (suc r) a)
  for_loop_grows r a = search (grows_then, opened_grows, clauses_grows, H, finds)

  pub statement_by_grows : (l : Terminal) (r : ℕ) (a : Tokens) → Grows (descent.statement_by self l r a) (descent.statement_by more l (suc r) a)
  statement_by_grows terminal.Semicolon r a = empty_grows r a
  statement_by_grows terminal.OpenBrace r a = block_grows r a
  statement_by_grows terminal.If r a = branch_grows r a
  statement_by_grows terminal.While r a = while_loop_grows r a
  statement_by_grows terminal.Do r a = do_loop_grows r a
  statement_by_grows terminal.For r a = for_loop_grows r a
  statement_by_grows terminal.Return r a = give_grows r a
  statement_by_grows terminal.Break r a = break_grows r a
  statement_by_grows terminal.Continue r a = continue_grows r a
  statement_by_grows _ r a = act_grows r a

  pub statement_grows : (r : ℕ) (a : Tokens) → Grows (descent.statement self r a) (descent.statement more (suc r) a)
  statement_grows r a = statement_by_grows (lookahead a) r a

pub does_grows : (r : ℕ) (a : Tokens) → Grows (descent.does r a) (descent.does (suc r) a)
unfolding descent.does
does_grows zero a = statement_grows (λ b. too_deep b) (descent.does zero) (λ b. wants) zero a
does_grows (suc r) a = statement_grows (descent.does r) (descent.does (suc r)) (does_grows r) (suc r) a

-- ---- programs

pub parameter_by_grows : (x : Bool) (ty : Ty) (w : List ℕ × Span) (r : ℕ) (a : Tokens)
    → Grows (descent.parameter_by x ty w r a) (descent.parameter_by x ty w (suc r) a)
parameter_by_grows true ty w r a = search (grows_then, bracketed_grows, finds)
parameter_by_grows false ty w r a = finds

pub param_grows : (r : ℕ) (a : Tokens) → Grows (descent.param r a) (descent.param (suc r) a)
param_grows r a = search (grows_then, type_grows, name_grows, parameter_by_grows)

pub params_by_grows : (l : Terminal) (r : ℕ) (a : Tokens) → Grows (descent.params_by l r a) (descent.params_by l (suc r) a)
params_by_grows terminal.CloseParen r a = finds
params_by_grows terminal.Void r a = search (grows_then, taken_grows, finds)
params_by_grows _ r a = listed_grows never (descent.param r) (descent.param (suc r)) (param_grows r) (suc (length a)) r a

pub params_grows : (r : ℕ) (a : Tokens) → Grows (descent.params r a) (descent.params (suc r) a)
params_grows r a = params_by_grows (lookahead a) r a

pub signature_grows : (r : ℕ) (a : Tokens) → Grows (descent.signature r a) (descent.signature (suc r) a)
signature_grows r a = search (grows_then, entered_grows, params_grows, expected_grows, finds)

pub result_by_grows : (x : Option (Option Ty)) (r : ℕ) (a : Tokens) → Grows (descent.result_by x r a) (descent.result_by x (suc r) a)
result_by_grows (Some ret) r a = search (grows_then, taken_grows, finds)
result_by_grows None r a = refuses

pub result_grows : (r : ℕ) (a : Tokens) → Grows (descent.result r a) (descent.result (suc r) a)
result_grows r a = result_by_grows (result_at (lookahead a)) r a

pub body_grows : (r : ℕ) (a : Tokens) → Grows (descent.body r a) (descent.body (suc r) a)
body_grows r a = search (grows_then, entered_grows, items_grows, does_grows, expected_grows, finds)

pub ended_by_grows : (x : Bool) (ret : Option Ty) (w : List ℕ × Span) (xs : List Param) (r : ℕ) (a : Tokens)
    → Grows (descent.ended_by x ret w xs r a) (descent.ended_by x ret w xs (suc r) a)
ended_by_grows true ret w xs r a = search (grows_then, taken_grows, finds)
ended_by_grows false ret w xs r a = search (grows_then, body_grows, finds)

pub func_grows : (r : ℕ) (a : Tokens) → Grows (descent.func r a) (descent.func (suc r) a)
func_grows r a = search (grows_then, result_grows, name_grows, signature_grows, ended_by_grows)

pub external_by_grows : (x : Bool) (r : ℕ) (a : Tokens) → Grows (descent.external_by x r a) (descent.external_by x (suc r) a)
external_by_grows true r a = func_grows r a
external_by_grows false r a = search (grows_then, vars_grows, finds)

pub external_grows : (r : ℕ) (a : Tokens) → Grows (descent.external r a) (descent.external (suc r) a)
external_grows r a = external_by_grows (descent.is_func a) r a

pub externals_by_grows : (y : Bool) (on wide : ℕ → Tokens → Reading (List Outer)) → ((r : ℕ) (a : Tokens) → Grows (on r a) (wide (suc r) a))
    → (x : Outer) (r : ℕ) (b : Tokens)
    → Grows (descent.externals_by y on x r b) (descent.externals_by y wide x (suc r) b)
externals_by_grows true on wide h x r b = finds
externals_by_grows false on wide h x r b = ahead_grows (x ∷ []) (on r b) (wide (suc r) b) (h r b)

pub externals_grows : (n r : ℕ) (a : Tokens) → Grows (descent.externals n r a) (descent.externals n (suc r) a)
unfolding descent.externals
externals_grows zero r a = refuses
externals_grows (suc n) r a = let e = externals_grows n in search (grows_then, external_grows, externals_by_grows, e)

pub program_grows : (r : ℕ) (a : Tokens) → Grows (descent.program r a) (descent.program (suc r) a)
program_grows r a = externals_grows (suc (length a)) r a

pub same_program : (r : ℕ) (a : Tokens) → Same (descent.program r a) (descent.program (suc r) a)
same_program r a = (program_grows r a).same
