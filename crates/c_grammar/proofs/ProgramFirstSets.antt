-- What declarations, statements and programs begin with, and what the tests on the next token say of that.
use Rattle.std.proofs.Common.{◌≡◌, ℕ, ℤ, ◌<◌, Bool, true, false, List, [], ◌∷◌, Option, Some, refl, ap, ◌∙◌, arith}
use Rattle.c_lex.specs.declared.token.TokenKind.TheVariants as kind
use Rattle.c_tree.specs.declared.place.Span.{Span}
use Rattle.c_tree.specs.declared.program.Param.{Param}
use Rattle.c_tree.specs.declared.stmt.Ty.{Ty}
use Rattle.c_tree.specs.Tree.{Tree, Variable, Code, Body, Outer}
use Rattle.c_grammar.specs.declared.terminal.Terminal.{Terminal}
use Rattle.c_grammar.specs.declared.terminal.Terminal.TheVariants as terminal
use Rattle.c_grammar.specs.Grammar.{Tokens}
use Rattle.c_grammar.specs.Programs.{Length, Elements, Declarator, Declarators, Vars, Statement, Items, Parameter, Parameters, External, Derives}
use Rattle.c_grammar.specs.Terminals.{lookahead, rest, keyword_terminal, is_open_paren, is_close_paren, is_open_bracket, is_close_brace, is_else, is_assign, is_end, result_at}
use Rattle.c_grammar.specs.Descent.{Reading, found}
use Rattle.c_grammar.specs.ProgramDescent.{clause_by, first_act, item_by, one, statement_by, act, params_by, is_func_by, is_func}
use Rattle.c_grammar.proofs.Terminals.{terminal_type, terminal_result}
use Rattle.c_grammar.proofs.ExpressionFirstSets.{starting, starts}
use Rattle.c_grammar.proofs.ExpressionComplete.{loose, loose_at}

-- ---- what comes next where nothing looser than an assignment goes on

pub no_bracket : (l : Terminal) → 13 < loose l → is_open_bracket l ≡ false
no_bracket terminal.OpenBracket h = absurd (omega arith)
no_bracket _ h = refl

pub no_paren : (l : Terminal) → 13 < loose l → is_open_paren l ≡ false
no_paren terminal.OpenParen h = absurd (omega arith)
no_paren _ h = refl

pub no_assign : (l : Terminal) → 13 < loose l → is_assign l ≡ false
no_assign (terminal.Assign f) h = absurd (omega arith)
no_assign _ h = refl

pub brace_loose : (l : Terminal) → is_close_brace l ≡ true → loose l ≡ 15
brace_loose terminal.CloseBrace e = refl
brace_loose _ e = absurd (cc (e))

-- ---- declarations

pub length_opens : {r : ℕ} {a b : Tokens} {n : Option ℤ} {e : Span} → Length r a b n e → is_open_bracket (lookahead a) ≡ true
length_opens Length.bare = refl
length_opens Length.constant = refl

length_no_paren : {r : ℕ} {a b : Tokens} {n : Option ℤ} {e : Span} → Length r a b n e → is_open_paren (lookahead a) ≡ false
length_no_paren Length.bare = refl
length_no_paren Length.constant = refl

pub elements_start : {r : ℕ} {a b : Tokens} {ts : List Tree} → Elements r a b ts → starting (lookahead a) ≡ true
elements_start (Elements.last d) = starts d
elements_start (Elements.last_comma d) = starts d
elements_start (Elements.more d e) = starts d

declarator_no_paren : {r : ℕ} {a b : Tokens} {v : Variable} → Declarator r a b v → 13 < loose_at b → is_open_paren (lookahead (rest a)) ≡ false
declarator_no_paren (Declarator.scalar {a = a}) h = no_paren (lookahead a) h
declarator_no_paren (Declarator.scalar_start d) h = refl
declarator_no_paren (Declarator.array d) h = length_no_paren d
declarator_no_paren (Declarator.array_list d e) h = length_no_paren d

declarators_no_paren : {r : ℕ} {a b : Tokens} {vs : List Variable} → Declarators r a b vs → 13 < loose_at b → is_open_paren (lookahead (rest a)) ≡ false
declarators_no_paren (Declarators.last d) h = declarator_no_paren d h
declarators_no_paren (Declarators.more d e) h = declarator_no_paren d (omega arith)

pub vars_start : {r : ℕ} {a b : Tokens} {ty : Ty} {vs : List Variable} → Vars r a b ty vs → lookahead a ≡ terminal.Type ty
vars_start (Vars.vars {k = k} {ty = ty} e d) = terminal_type k ty e

-- a declaration of variables isn't taken for a function
pub vars_no_func : {r : ℕ} {a b : Tokens} {ty : Ty} {vs : List Variable} → Vars r a b ty vs → is_func a ≡ false
vars_no_func (Vars.vars {a = a} {k = k} {s = s} {ty = ty} e d) =
    ap (λ l. is_func_by l ((kind.Word k, s) ∷ a)) (terminal_type k ty e) ∙ declarators_no_paren d (omega arith)

-- ---- statements

-- whether a token can begin a statement
abbrev pub acting : Terminal → Bool
acting terminal.Semicolon = true
acting terminal.OpenBrace = true
acting terminal.If = true
acting terminal.While = true
acting terminal.Do = true
acting terminal.For = true
acting terminal.Return = true
acting terminal.Break = true
acting terminal.Continue = true
acting l = starting l

starting_acts : (l : Terminal) → starting l ≡ true → acting l ≡ true
starting_acts terminal.Semicolon e = refl
starting_acts terminal.OpenBrace e = refl
starting_acts terminal.If e = refl
starting_acts terminal.While e = refl
starting_acts terminal.Do e = refl
starting_acts terminal.For e = refl
starting_acts terminal.Return e = refl
starting_acts terminal.Break e = refl
starting_acts terminal.Continue e = refl
starting_acts _ e = e

-- what each statement begins with
pub statement_starts : {o : Bool} {r : ℕ} {a b : Tokens} {x : Code} → Statement o r a b x → acting (lookahead a) ≡ true
statement_starts Statement.empty = refl
statement_starts (Statement.act {a = a} d) = starting_acts (lookahead a) (starts d)
statement_starts (Statement.block d) = refl
statement_starts (Statement.if_then d e) = refl
statement_starts (Statement.if_else d e f) = refl
statement_starts (Statement.while d e) = refl
statement_starts (Statement.do_while d e) = refl
statement_starts (Statement.for d e f g) = refl
statement_starts (Statement.give d) = refl
statement_starts Statement.break = refl
statement_starts Statement.continue = refl

pub acting_no_else : (l : Terminal) → acting l ≡ true → is_else l ≡ false
acting_no_else terminal.Else e = absurd (cc (e))
acting_no_else _ e = refl

pub acting_no_brace : (l : Terminal) → acting l ≡ true → is_close_brace l ≡ false
acting_no_brace terminal.CloseBrace e = absurd (cc (e))
acting_no_brace _ e = refl

pub brace_no_else : (l : Terminal) → is_close_brace l ≡ true → is_else l ≡ false
brace_no_else terminal.Else e = absurd (cc (e))
brace_no_else _ e = refl

-- no item of a block begins with an `else`
pub items_no_else : {r : ℕ} {a b : Tokens} {body : Body} → Items r a b body → is_close_brace (lookahead b) ≡ true → is_else (lookahead a) ≡ false
items_no_else (Items.none {a = a}) h = brace_no_else (lookahead a) h
items_no_else (Items.vars d e) h = ap is_else (vars_start d)
items_no_else (Items.statement {a = a} d e) h = acting_no_else (lookahead a) (statement_starts d)

-- an item of a block that begins as a statement does is one
pub acting_one : (self : Tokens → Reading Code) (l : Terminal) (r : ℕ) (a : Tokens) → acting l ≡ true → item_by self l r a ≡ one self a
acting_one self (terminal.Type ty) r a e = absurd (cc (e))
acting_one self _ r a e = refl

-- a statement that begins as an expression does is one
pub starting_act : (self : Tokens → Reading Code) (l : Terminal) (r : ℕ) (a : Tokens) → starting l ≡ true → statement_by self l r a ≡ act r a
starting_act self terminal.Semicolon r a e = absurd (cc (e))
starting_act self terminal.OpenBrace r a e = absurd (cc (e))
starting_act self terminal.If r a e = absurd (cc (e))
starting_act self terminal.While r a e = absurd (cc (e))
starting_act self terminal.Do r a e = absurd (cc (e))
starting_act self terminal.For r a e = absurd (cc (e))
starting_act self terminal.Return r a e = absurd (cc (e))
starting_act self terminal.Break r a e = absurd (cc (e))
starting_act self terminal.Continue r a e = absurd (cc (e))
starting_act self _ r a e = refl

-- a first clause of a `for` that begins as an expression does is one
pub starting_first : (l : Terminal) (r : ℕ) (a : Tokens) → starting l ≡ true → clause_by l r a ≡ first_act r a
starting_first terminal.Semicolon r a e = absurd (cc (e))
starting_first (terminal.Type ty) r a e = absurd (cc (e))
starting_first _ r a e = refl

-- ---- programs

parameter_start : {r : ℕ} {a b : Tokens} {x : Param} → Parameter r a b x → (ty : Ty) × (lookahead a ≡ terminal.Type ty)
parameter_start (Parameter.scalar {k = k} {ty = ty} e) = (ty, terminal_type k ty e)
parameter_start (Parameter.array {k = k} {ty = ty} e d) = (ty, terminal_type k ty e)

pub parameters_start : {r : ℕ} {a b : Tokens} {xs : List Param} → Parameters r a b xs → (ty : Ty) × (lookahead a ≡ terminal.Type ty)
parameters_start (Parameters.last d) = parameter_start d
parameters_start (Parameters.more d e) = parameter_start d

-- where a `)` comes next there are no parameters
pub close_params : (l : Terminal) (r : ℕ) (a : Tokens) → is_close_paren l ≡ true → params_by l r a ≡ found [] r a
close_params terminal.CloseParen r a e = refl
close_params _ r a e = absurd (cc (e))

-- what begins as a function does is taken for one
pub result_func : (l : Terminal) (ret : Option Ty) (a : Tokens) → result_at l ≡ Some ret → is_open_paren (lookahead (rest (rest a))) ≡ true → is_func_by l a ≡ true
result_func terminal.Void ret a e h = refl
result_func (terminal.Type ty) ret a e h = h
result_func _ ret a e h = absurd (cc (e))

result_no_end : (l : Terminal) (ret : Option Ty) → result_at l ≡ Some ret → is_end l ≡ false
result_no_end terminal.End ret e = absurd (cc (e))
result_no_end _ ret e = refl

pub external_no_end : {r : ℕ} {a b : Tokens} {x : Outer} → External r a b x → is_end (lookahead a) ≡ false
external_no_end (External.vars d) = ap is_end (vars_start d)
external_no_end (External.prototype {k = k} {ret = ret} e d) = result_no_end (keyword_terminal k) ret (terminal_result k ret e)
external_no_end (External.definition {k = k} {ret = ret} e d f) = result_no_end (keyword_terminal k) ret (terminal_result k ret e)

pub derives_no_end : {r : ℕ} {a : Tokens} {p : List Outer} → Derives r a p → is_end (lookahead a) ≡ false
derives_no_end (Derives.last d) = external_no_end d
derives_no_end (Derives.more d e) = external_no_end d
