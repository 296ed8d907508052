-- Reading declarations, statements and programs by descent, with one token of look-ahead, and three
-- where a function may begin.
use Rattle.std.specs.Prelude.{ℕ, ℤ, zero, suc, Bool, true, false, List, [], ◌∷◌, length, Option, Some, None}
use Rattle.c_tree.specs.declared.place.Span.{Span}
use Rattle.c_tree.specs.declared.program.Param.{Param}
use Rattle.c_tree.specs.declared.stmt.Ty.{Ty}
use Rattle.c_tree.specs.declared.stmt.Shape.TheVariants.{Scalar, Array}
use Rattle.c_tree.specs.Parts.{span_of, span_of_code}
use Rattle.c_tree.specs.Tree as tree
use Rattle.c_tree.specs.Tree.{Tree, Variable, First, Code, Body, Outer}
use Rattle.c_grammar.specs.declared.terminal.Terminal.{Terminal}
use Rattle.c_grammar.specs.declared.terminal.Terminal.TheVariants as terminal
use Rattle.c_grammar.specs.declared.nonterminal.Nonterminal.{Nonterminal}
use Rattle.c_grammar.specs.declared.nonterminal.Nonterminal.TheVariants.{Expression, Assignment}
use Rattle.c_grammar.specs.Grammar.{Tokens, over}
use Rattle.c_grammar.specs.Programs.{variable, parameter, function}
use Rattle.c_grammar.specs.Terminals.{lookahead, rest, is_constant, is_else, is_while, is_open_paren, is_close_paren, is_open_bracket, is_close_bracket, is_open_brace, is_close_brace, is_semicolon, is_assign, is_end, never, result_at}
use Rattle.c_grammar.specs.Descent.{Reading, found, unexpected, too_deep, Reader, and_then, taken, opened, expected, entered, name, constant, type, ahead, all_listed, run}

-- an expression of that kind; the room is what it was before
abbrev pub value : Nonterminal → Reader Tree
value N r a = and_then (run (suc r) N r a) (λ t m b. found t.0 r b)

-- ---- declarations

-- the length of an array, by whether a constant comes next
abbrev pub bound_by : Bool → Reader (Option ℤ)
bound_by true r a = and_then (constant r a) (λ n m b. found (Some n.0) m b)
bound_by false r a = found None r a

-- `[`, a length or none, and `]`, with the text of the `]`
abbrev pub bracketed : Reader (Option ℤ × Span)
bracketed r a =
    and_then (opened r a)
    (λ o m b. and_then (bound_by (is_constant (lookahead b)) m b)
    (λ n q c. and_then (expected is_close_bracket r c) (λ e v d. found (n, e) v d)))

-- `{`, the elements of an initialiser list, and `}`
abbrev pub elements : Reader (List Tree)
elements r a =
    and_then (entered is_open_brace r a) (λ o m b.
    and_then (all_listed is_close_brace (value Assignment m) m b)
    (λ ts n c. and_then (expected is_close_brace r c) (λ e q d. found ts q d)))

-- after an array's brackets, by whether `=` comes next
abbrev pub list_by : Bool → List ℕ × Span → Option ℤ × Span → Reader Variable
list_by true w n r a =
    and_then (taken r a)
    (λ o m b. and_then (elements m b)
    (λ ts q c. found (variable w.0 (over w.1 n.1) (Array n.0) (tree.list_start ts)) q c))
list_by false w n r a = found (variable w.0 (over w.1 n.1) (Array n.0) tree.bare_start) r a

-- after an array's name
abbrev pub array : List ℕ × Span → Reader Variable
array w r a = and_then (bracketed r a) (λ n m b. list_by (is_assign (lookahead b)) w n m b)

-- after a scalar's name, by whether `=` comes next
abbrev pub scalar_by : Bool → List ℕ × Span → Reader Variable
scalar_by true w r a =
    and_then (taken r a)
    (λ o m b. and_then (value Assignment m b)
    (λ t q c. found (variable w.0 w.1 Scalar (tree.one_start t)) q c))
scalar_by false w r a = found (variable w.0 w.1 Scalar tree.bare_start) r a

-- after a variable's name, by whether `[` comes next
abbrev pub declared_by : Bool → List ℕ × Span → Reader Variable
declared_by true w r a = array w r a
declared_by false w r a = scalar_by (is_assign (lookahead a)) w r a

-- a declared variable
abbrev pub declarator : Reader Variable
declarator r a = and_then (name r a) (λ w m b. declared_by (is_open_bracket (lookahead b)) w m b)

-- declared variables, with commas between them
abbrev pub declarators : Reader (List Variable)
declarators r a = all_listed never (declarator r) r a

-- a declaration of variables
abbrev pub vars : Reader (Ty × List Variable)
vars r a =
    and_then (type r a)
    (λ ty m b. and_then (declarators m b)
    (λ vs n c. and_then (expected is_semicolon n c) (λ e q d. found (ty, vs) q d)))

-- ---- parts of statements

-- `( expression )`
abbrev pub tested : Reader Tree
tested r a =
    and_then (entered is_open_paren r a)
    (λ o m b. and_then (value Expression m b)
    (λ t n c. and_then (expected is_close_paren r c) (λ e q d. found t q d)))

-- an expression that may be absent, by whether it is
abbrev pub optional_by : Bool → Reader (Option Tree)
optional_by true r a = found None r a
optional_by false r a = and_then (value Expression r a) (λ t m b. found (Some t) m b)

-- an expression that is absent where the token comes that would stand after it
abbrev pub optional : (Terminal → Bool) → Reader (Option Tree)
optional ends r a = optional_by (ends (lookahead a)) r a

-- `expression ;` as the first clause of a `for`
abbrev pub first_act : Reader First
first_act r a =
    and_then (value Expression r a)
    (λ t m b. and_then (expected is_semicolon m b) (λ e n c. found (tree.first_act t) n c))

-- the first clause of a `for`, by the terminal of the next token
abbrev pub clause_by : Terminal → Reader First
clause_by terminal.Semicolon r a = and_then (taken r a) (λ s m b. found tree.no_first m b)
clause_by (terminal.Type ty) r a =
    and_then (vars r a) (λ v m b. found (tree.first_vars v.0 v.1) m b)
clause_by _ r a = first_act r a

-- the first clause of a `for`, with its `;`
abbrev pub clause : Reader First
clause r a = clause_by (lookahead a) r a

-- the clauses of a `for`, in their parentheses
abbrev pub clauses : Reader (First × Option Tree × Option Tree)
clauses r a =
    and_then (entered is_open_paren r a) (λ o m b.
    and_then (clause m b) (λ i n c.
    and_then (optional is_semicolon n c) (λ t q d.
    and_then (expected is_semicolon q d)
    (λ e v x. and_then (optional is_close_paren v x)
    (λ u y z. and_then (expected is_close_paren r z) (λ f g h. found (i, t, u) g h))))))

-- `expression ;`
abbrev pub act : Reader Code
act r a =
    and_then (value Expression r a)
    (λ t m b. and_then (expected is_semicolon m b)
    (λ e n c. found (tree.act t (over (span_of t) e)) n c))

-- `return`, an expression or none, and `;`
abbrev pub give : Reader Code
give r a =
    and_then (taken r a)
    (λ s m b. and_then (optional is_semicolon m b)
    (λ t n c. and_then (expected is_semicolon n c) (λ e q d. found (tree.give t (over s e)) q d)))

-- `break ;`
abbrev pub break : Reader Code
break r a =
    and_then (taken r a)
    (λ s m b. and_then (expected is_semicolon m b) (λ e n c. found (tree.break (over s e)) n c))

-- `continue ;`
abbrev pub continue : Reader Code
continue r a =
    and_then (taken r a)
    (λ s m b. and_then (expected is_semicolon m b) (λ e n c. found (tree.continue (over s e)) n c))

-- `;`
abbrev pub empty : Reader Code
empty r a = and_then (taken r a) (λ s m b. found (tree.empty s) m b)

-- ---- statements

-- one body, and then the other
abbrev pub append : Body → Body → Body
append tree.done y = y
append (tree.next c x) y = tree.next c (append x y)
append (tree.vars ty vs x) y = tree.vars ty vs (append x y)

-- what was read before, and then what is read
abbrev pub before : Body → Reading Body → Reading Body
before x o = and_then o (λ y m b. found (append x y) m b)

-- The reader of statements that have one room less.
module _ (self : Tokens → Reading Code) where
  -- a statement as an item of a block
  abbrev pub one : Tokens → Reading Body
  one a = and_then (self a) (λ c m b. found (tree.next c tree.done) m b)

  -- an item of a block, by the terminal of the next token
  abbrev pub item_by : Terminal → Reader Body
  item_by (terminal.Type ty) r a =
      and_then (vars r a) (λ v m b. found (tree.vars v.0 v.1 tree.done) m b)
  item_by _ r a = one a

  -- an item of a block
  abbrev pub item : Reader Body
  item r a = item_by (lookahead a) r a

  -- an item more, by whether the block ends
  abbrev pub items_by : Bool → (ℕ → Tokens → Reading Body) → Reader Body
  items_by true on r a = found tree.done r a
  items_by false on r a = and_then (item r a) (λ x m b. before x (on r b))

  -- at most so many items, up to a `}`
  unfoldable pub items_within : ℕ → Reader Body
  items_within zero r a = unexpected a
  items_within (suc n) r a = items_by (is_close_brace (lookahead a)) (items_within n) r a

  -- the items of a block, up to its `}`: each has a token at least
  abbrev pub items : Reader Body
  items r a = items_within (suc (length a)) r a

  -- `{ items }`
  abbrev pub block : Reader Code
  block r a =
      and_then (opened r a)
      (λ s m b. and_then (items m b)
      (λ body n c. and_then (expected is_close_brace r c)
      (λ e q d. found (tree.block body (over s e)) q d)))

  -- after the first arm of an `if`, by whether an `else` comes next; the outer room comes first
  abbrev pub otherwise_by : ℕ → Bool → Span → Tree → Code → Reader Code
  otherwise_by r true s t y m b =
      and_then (taken m b)
      (λ e n c. and_then (self c) (λ z q d. found (tree.if_else t y z (over s (span_of_code z))) r d))
  otherwise_by r false s t y m b = found (tree.if_then t y (over s (span_of_code y))) r b

  -- an `if`, with the `else` that comes next after its first arm
  abbrev pub branch : Reader Code
  branch r a =
      and_then (opened r a)
      (λ s m b. and_then (tested m b)
      (λ t n c. and_then (self c) (λ y q d. otherwise_by r (is_else (lookahead d)) s t y q d)))

  -- a `while`
  abbrev pub while_loop : Reader Code
  while_loop r a =
      and_then (opened r a)
      (λ s m b. and_then (tested m b)
      (λ t n c. and_then (self c) (λ y q d. found (tree.while t y (over s (span_of_code y))) r d)))

  -- a `do`
  abbrev pub do_loop : Reader Code
  do_loop r a =
      and_then (opened r a) (λ s m b.
      and_then (self b) (λ y n c.
      and_then (expected is_while n c)
      (λ w q d. and_then (tested q d)
      (λ t v x. and_then (expected is_semicolon r x)
      (λ e i z. found (tree.do_while y t (over s e)) i z)))))

  -- a `for`
  abbrev pub for_loop : Reader Code
  for_loop r a =
      and_then (opened r a)
      (λ s m b. and_then (clauses m b)
      (λ h n c. and_then (self c)
      (λ y q d. found (tree.for h.0 h.1 h.2 y (over s (span_of_code y))) r d)))

  -- a statement, by the terminal of the next token
  abbrev pub statement_by : Terminal → Reader Code
  statement_by terminal.Semicolon r a = empty r a
  statement_by terminal.OpenBrace r a = block r a
  statement_by terminal.If r a = branch r a
  statement_by terminal.While r a = while_loop r a
  statement_by terminal.Do r a = do_loop r a
  statement_by terminal.For r a = for_loop r a
  statement_by terminal.Return r a = give r a
  statement_by terminal.Break r a = break r a
  statement_by terminal.Continue r a = continue r a
  statement_by _ r a = act r a

  -- a statement
  abbrev pub statement : Reader Code
  statement r a = statement_by (lookahead a) r a

-- a statement, with that room before it
unfoldable pub does : ℕ → Tokens → Reading Code
does zero a = statement (λ b. too_deep b) zero a
does (suc r) a = statement (does r) (suc r) a

-- a statement with one room less
abbrev pub under : ℕ → Tokens → Reading Code
under zero a = too_deep a
under (suc r) a = does r a

-- ---- programs

-- after a parameter's name, by whether `[` comes next
abbrev pub parameter_by : Bool → Ty → List ℕ × Span → Reader Param
parameter_by true ty w r a =
    and_then (bracketed r a) (λ n m b. found (parameter w.0 (over w.1 n.1) ty true) m b)
parameter_by false ty w r a = found (parameter w.0 w.1 ty false) r a

-- a parameter
abbrev pub param : Reader Param
param r a =
    and_then (type r a)
    (λ ty m b. and_then (name m b) (λ w n c. parameter_by (is_open_bracket (lookahead c)) ty w n c))

-- parameters or none, by the terminal of the next token
abbrev pub params_by : Terminal → Reader (List Param)
params_by terminal.CloseParen r a = found [] r a
params_by terminal.Void r a = and_then (taken r a) (λ s m b. found [] m b)
params_by _ r a = all_listed never (param r) r a

-- parameters or none
abbrev pub params : Reader (List Param)
params r a = params_by (lookahead a) r a

-- `(`, parameters or none, and `)`
abbrev pub signature : Reader (List Param)
signature r a =
    and_then (entered is_open_paren r a)
    (λ o m b. and_then (params m b)
    (λ xs n c. and_then (expected is_close_paren r c) (λ e q d. found xs q d)))

-- what a function gives, by what the next token is
abbrev pub result_by : Option (Option Ty) → Reader (Option Ty)
result_by (Some ret) r a = and_then (taken r a) (λ s m b. found ret m b)
result_by None r a = unexpected a

-- what a function gives
abbrev pub result : Reader (Option Ty)
result r a = result_by (result_at (lookahead a)) r a

-- `{`, the items of a function's body, and `}`, with the text of the `}`
abbrev pub body : Reader (Body × Span)
body r a =
    and_then (entered is_open_brace r a)
    (λ o m b. and_then (items (does m) m b)
    (λ x n c. and_then (expected is_close_brace r c) (λ e q d. found (x, e) q d)))

-- after a function's signature, by whether `;` comes next
abbrev pub ended_by : Bool → Option Ty → List ℕ × Span → List Param → Reader Outer
ended_by true ret w xs r a =
    and_then (taken r a) (λ e m b. found (function w.0 (over w.1 e) ret xs None) m b)
ended_by false ret w xs r a =
    and_then (body r a) (λ x m b. found (function w.0 (over w.1 x.1) ret xs (Some x.0)) m b)

-- a prototype or a definition
abbrev pub func : Reader Outer
func r a =
    and_then (result r a)
    (λ ret m b. and_then (name m b)
    (λ w n c. and_then (signature n c)
    (λ xs q d. ended_by (is_semicolon (lookahead d)) ret w xs q d)))

-- whether what comes next can only be a function, by the terminal of the next token
abbrev pub is_func_by : Terminal → Tokens → Bool
is_func_by terminal.Void a = true
is_func_by (terminal.Type ty) a = is_open_paren (lookahead (rest (rest a)))
is_func_by _ a = false

-- whether what comes next can only be a function
abbrev pub is_func : Tokens → Bool
is_func a = is_func_by (lookahead a) a

-- what stands at file scope, by whether it can only be a function
abbrev pub external_by : Bool → Reader Outer
external_by true r a = func r a
external_by false r a = and_then (vars r a) (λ v m b. found (tree.outer_vars v.0 v.1) m b)

-- what stands at file scope
abbrev pub external : Reader Outer
external r a = external_by (is_func a) r a

-- after what stands at file scope, by whether the tokens end
abbrev pub externals_by : Bool → (ℕ → Tokens → Reading (List Outer)) → Outer → Reader (List Outer)
externals_by true on x r b = found (x ∷ []) r b
externals_by false on x r b = ahead (x ∷ []) (on r b)

-- at most so many declarations, prototypes and definitions
unfoldable pub externals : ℕ → Reader (List Outer)
externals zero r a = unexpected a
externals (suc n) r a =
    and_then (external r a) (λ x m b. externals_by (is_end (lookahead b)) (externals n) x m b)

-- a whole program: each of its parts has a token at least
abbrev pub program : Reader (List Outer)
program r a = externals (suc (length a)) r a
