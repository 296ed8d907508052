-- Each opener of a program is a token of a kind that the table of openers names.
use Rattle.std.proofs.Common.{◌≡◌, ℕ, ℤ, Bool, true, List, [], ◌∷◌, ◌++◌, Option, Some, refl, ap, All}
use Rattle.std.proofs.lemmas.List.Elements.{All-nil, All-cons}
use Rattle.c_tree.specs.declared.expr.UnOp.{UnOp}
use Rattle.c_tree.specs.declared.place.Span.{Span}
use Rattle.c_tree.specs.declared.program.Param.{Param}
use Rattle.c_tree.specs.declared.stmt.Ty.{Ty}
use Rattle.c_tree.specs.Tree.{Tree, Variable, First, Code, Body, Outer}
use Rattle.c_grammar.specs.declared.terminal.Terminal.{Terminal}
use Rattle.c_grammar.specs.declared.terminal.Terminal.TheVariants as terminal
use Rattle.c_grammar.specs.declared.nonterminal.Nonterminal.{Nonterminal}
use Rattle.c_grammar.specs.Grammar.{Tokens, Given, Reads, Argument, Arguments}
use Rattle.c_grammar.specs.Programs.{Length, Elements, Declarator, Declarators, Vars, Clause, Optional, Statement, Items, Parameter, Parameters, Signature, External, Derives}
use Rattle.c_grammar.specs.Terminals.{lookahead, punct_terminal, prefix_at}
use Rattle.c_grammar.specs.Nesting.{Opener, is_opener, ending, openers, argument_openers, arguments_openers, length_openers, elements_openers, declarator_openers, declarators_openers, vars_openers, clause_openers, optional_openers, optional_ending, statement_openers, items_openers, parameter_openers, parameters_openers, signature_openers, external_openers, program_openers}
use Rattle.c_grammar.proofs.Terminals.{terminal_binary, terminal_bump, terminal_assignment, terminal_prefix}

-- each of these openers is a token of such a kind
data Opens : List Opener → Type 0 where
  none : Opens []
  also : {o : Opener} {k : List Opener} → is_opener (lookahead o.0) ≡ true → Opens k → Opens (o ∷ k)

opens_join : {k l : List Opener} → Opens k → Opens l → Opens (k ++ l)
opens_join Opens.none y = y
opens_join (Opens.also e x) y = Opens.also e (opens_join x y)

opens_all : {k : List Opener} → Opens k → All (λ o. is_opener (lookahead o.0) ≡ true) k
opens_all Opens.none = All-nil (λ o. is_opener (lookahead o.0) ≡ true)
opens_all (Opens.also {o = o} {k = k} e x) = All-cons (λ o. is_opener (lookahead o.0) ≡ true) o k e (opens_all x)

prefix_opens : (l : Terminal) (f : UnOp) → prefix_at l ≡ Some f → is_opener l ≡ true
prefix_opens (terminal.Prefix g) f e = refl
prefix_opens (terminal.Binary g) f e = refl
prefix_opens _ f e = absurd (cc (e))

-- ---- expressions

mutual
  reads_open : {N : Nonterminal} {r m : ℕ} {a b : Tokens} {t : Tree} (d : Reads N r a m b t) (end : Tokens) → Opens (openers d end)
  reads_open Reads.constant end = Opens.none
  reads_open Reads.name end = Opens.none
  reads_open (Reads.index d) end = Opens.also refl (reads_open d (ending d))
  reads_open Reads.call_bare end = Opens.also refl Opens.none
  reads_open (Reads.call d) end = Opens.also refl (arguments_open d)
  reads_open (Reads.paren d) end = Opens.also refl (reads_open d (ending d))
  reads_open (Reads.postfix d) end = reads_open d end
  reads_open (Reads.bump_after e d) end = reads_open d end
  reads_open (Reads.unary d) end = reads_open d end
  reads_open (Reads.bump_before {p = p} {up = up} e d) end = Opens.also (ap is_opener (terminal_bump p up e)) (reads_open d end)
  reads_open (Reads.prefix {p = p} {f = f} e d) end = Opens.also (prefix_opens (punct_terminal p) f (terminal_prefix p f e)) (reads_open d end)
  reads_open (Reads.cast d) end = reads_open d end
  reads_open (Reads.cast_to e d) end = Opens.also refl (reads_open d end)
  reads_open (Reads.operand d) end = reads_open d end
  reads_open (Reads.weaker d) end = reads_open d end
  reads_open (Reads.binary {p = p} {f = f} e h d1 d2) end = opens_join (reads_open d1 end) (Opens.also (ap is_opener (terminal_binary p f e)) (reads_open d2 end))
  reads_open (Reads.conditional d) end = reads_open d end
  reads_open (Reads.choose d1 d2 d3) end = opens_join (opens_join (reads_open d1 end) (Opens.also refl (reads_open d2 end))) (reads_open d3 end)
  reads_open (Reads.assignment d) end = reads_open d end
  reads_open (Reads.assign {p = p} {f = f} e d1 d2) end = opens_join (reads_open d1 end) (Opens.also (ap is_opener (terminal_assignment p f e)) (reads_open d2 end))
  reads_open (Reads.expression d) end = reads_open d end
  reads_open (Reads.comma d1 d2) end = opens_join (reads_open d1 end) (Opens.also refl (reads_open d2 end))

  argument_open : {r : ℕ} {a b : Tokens} {g : Given} (d : Argument r a b g) → Opens (argument_openers d)
  argument_open {b = b} (Argument.value d) = reads_open d b
  argument_open Argument.format = Opens.none
  argument_open {b = b} (Argument.address d) = Opens.also refl (reads_open d b)

  arguments_open : {r : ℕ} {a b : Tokens} {gs : List Given} (d : Arguments r a b gs) → Opens (arguments_openers d)
  arguments_open (Arguments.last d) = argument_open d
  arguments_open (Arguments.more d e) = opens_join (argument_open d) (arguments_open e)

-- ---- declarations

length_open : {r : ℕ} {a b : Tokens} {n : Option ℤ} {e : Span} (d : Length r a b n e) → Opens (length_openers d)
length_open Length.bare = Opens.also refl Opens.none
length_open Length.constant = Opens.also refl Opens.none

elements_open : {r : ℕ} {a b : Tokens} {ts : List Tree} (d : Elements r a b ts) → Opens (elements_openers d)
elements_open (Elements.last d) = reads_open d (ending d)
elements_open (Elements.last_comma d) = reads_open d (ending d)
elements_open (Elements.more d e) = opens_join (reads_open d (ending d)) (elements_open e)

declarator_open : {r : ℕ} {a b : Tokens} {v : Variable} (d : Declarator r a b v) → Opens (declarator_openers d)
declarator_open Declarator.scalar = Opens.none
declarator_open (Declarator.scalar_start d) = reads_open d (ending d)
declarator_open (Declarator.array d) = length_open d
declarator_open (Declarator.array_list d e) = opens_join (length_open d) (Opens.also refl (elements_open e))

declarators_open : {r : ℕ} {a b : Tokens} {vs : List Variable} (d : Declarators r a b vs) → Opens (declarators_openers d)
declarators_open (Declarators.last d) = declarator_open d
declarators_open (Declarators.more d e) = opens_join (declarator_open d) (declarators_open e)

vars_open : {r : ℕ} {a b : Tokens} {ty : Ty} {vs : List Variable} (d : Vars r a b ty vs) → Opens (vars_openers d)
vars_open (Vars.vars h d) = declarators_open d

-- ---- statements

clause_open : {r : ℕ} {a b : Tokens} {i : First} (d : Clause r a b i) → Opens (clause_openers d)
clause_open Clause.empty = Opens.none
clause_open (Clause.act d) = reads_open d (ending d)
clause_open (Clause.vars d) = vars_open d

optional_open : {r : ℕ} {a b : Tokens} {t : Option Tree} (d : Optional r a b t) (end : Tokens) → Opens (optional_openers d end)
optional_open Optional.absent end = Opens.none
optional_open (Optional.present d) end = reads_open d end

mutual
  statement_open : {o : Bool} {r : ℕ} {a b : Tokens} {x : Code} (d : Statement o r a b x) → Opens (statement_openers d)
  statement_open Statement.empty = Opens.none
  statement_open {b = b} (Statement.act d) = reads_open d b
  statement_open (Statement.block d) = Opens.also refl (items_open d)
  statement_open (Statement.if_then d e) = Opens.also refl (Opens.also refl (opens_join (reads_open d (ending d)) (statement_open e)))
  statement_open (Statement.if_else d e f) =
      Opens.also refl (Opens.also refl (opens_join (opens_join (reads_open d (ending d)) (statement_open e)) (statement_open f)))
  statement_open (Statement.while d e) = Opens.also refl (Opens.also refl (opens_join (reads_open d (ending d)) (statement_open e)))
  statement_open (Statement.do_while d e) = Opens.also refl (opens_join (statement_open d) (Opens.also refl (reads_open e (ending e))))
  statement_open (Statement.for d e f g) =
      Opens.also refl
      (Opens.also refl
      (opens_join (opens_join (opens_join (clause_open d) (optional_open e (optional_ending e))) (optional_open f (optional_ending f))) (statement_open g)))
  statement_open {b = b} (Statement.give d) = optional_open d b
  statement_open Statement.break = Opens.none
  statement_open Statement.continue = Opens.none

  items_open : {r : ℕ} {a b : Tokens} {body : Body} (d : Items r a b body) → Opens (items_openers d)
  items_open Items.none = Opens.none
  items_open (Items.vars d e) = opens_join (vars_open d) (items_open e)
  items_open (Items.statement d e) = opens_join (statement_open d) (items_open e)

-- ---- programs

parameter_open : {r : ℕ} {a b : Tokens} {x : Param} (d : Parameter r a b x) → Opens (parameter_openers d)
parameter_open (Parameter.scalar h) = Opens.none
parameter_open (Parameter.array h d) = length_open d

parameters_open : {r : ℕ} {a b : Tokens} {xs : List Param} (d : Parameters r a b xs) → Opens (parameters_openers d)
parameters_open (Parameters.last d) = parameter_open d
parameters_open (Parameters.more d e) = opens_join (parameter_open d) (parameters_open e)

signature_open : {r : ℕ} {a b : Tokens} {xs : List Param} (d : Signature r a b xs) → Opens (signature_openers d)
signature_open Signature.empty = Opens.none
signature_open Signature.void = Opens.none
signature_open (Signature.parameters d) = parameters_open d

external_open : {r : ℕ} {a b : Tokens} {x : Outer} (d : External r a b x) → Opens (external_openers d)
external_open (External.vars d) = vars_open d
external_open (External.prototype h d) = Opens.also refl (signature_open d)
external_open (External.definition h d e) = Opens.also refl (opens_join (signature_open d) (Opens.also refl (items_open e)))

program_open : {r : ℕ} {a : Tokens} {p : List Outer} (d : Derives r a p) → Opens (program_openers d)
program_open (Derives.last d) = external_open d
program_open (Derives.more d e) = opens_join (external_open d) (program_open e)

-- each opener is a token of a kind that the table names
pub openers_open : (r : ℕ) (a : Tokens) (p : List Outer) (d : Derives r a p) → All (λ o. is_opener (lookahead o.0) ≡ true) (program_openers d)
openers_open r a p d = opens_all (program_open d)
