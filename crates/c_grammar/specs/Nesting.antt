-- The nesting of a program, by the table of its openers and of where each is closed. It speaks of
-- no room.
--
--   opener                                                  open until
--   `(` `[` `{`                                             its closing bracket
--   a prefix operator, the `&` of an argument among them,   the end of the innermost bracketed part,
--   the `(` of a cast, a binary operator, an assignment     argument, initialiser, element of an
--   operator, `?`, the comma operator                       initialiser list, clause of a `for`, or
--                                                           statement that it stands in
--   `if`, `do`, `for`, a `while` that begins a statement    the end of its whole statement
--
-- The `=` before an initialiser, a comma that separates, `++` and `--` after a place, and the
-- `while` after the body of a `do` are none.
use Rattle.std.specs.Prelude.{ℕ, suc, Bool, true, false, ◌&&◌, List, [], ◌∷◌, ◌++◌, length, nat_lt, nat_le, if◌then◌else◌, ℤ, Option}
use Rattle.c_tree.specs.declared.place.Span.{Span}
use Rattle.c_tree.specs.declared.program.Param.{Param}
use Rattle.c_tree.specs.declared.stmt.Ty.{Ty}
use Rattle.c_tree.specs.Tree.{Tree, Variable, First, Code, Body, Outer}
use Rattle.c_grammar.specs.declared.terminal.Terminal.{Terminal}
use Rattle.c_grammar.specs.declared.terminal.Terminal.TheVariants as terminal
use Rattle.c_grammar.specs.declared.nonterminal.Nonterminal.{Nonterminal}
use Rattle.c_grammar.specs.Terminals.{rest}
use Rattle.c_grammar.specs.Grammar.{Tokens, Given, Reads, Argument, Arguments}
use Rattle.c_grammar.specs.Programs.{Length, Elements, Declarator, Declarators, Vars, Clause, Optional, Statement, Items, Parameter, Parameters, Signature, External, Derives}

-- An opener: the tokens from it on, and the tokens from where it is closed on.
abbrev pub Opener : Type 0
Opener = Tokens × Tokens

infix 6 ◌until◌
-- an opener, and where it is closed
abbrev pub ◌until◌ : Tokens → Tokens → Opener
a until b = (a, b)

-- whether an opener stands at the first of these tokens or before it, and is still open there
abbrev pub is_open : Opener → Tokens → Bool
is_open (a, b) c = nat_le (length c) (length a) && nat_lt (length b) (length c)

-- the nesting at the first of these tokens: how many openers stand there or before, and are still
-- open
abbrev pub nesting : List Opener → Tokens → ℕ
nesting [] c = 0
nesting (o ∷ k) c = if is_open o c then suc (nesting k c) else nesting k c

-- whether a token is of a kind that the table names
abbrev pub is_opener : Terminal → Bool
is_opener terminal.OpenParen = true
is_opener terminal.OpenBracket = true
is_opener terminal.OpenBrace = true
is_opener (terminal.Bump up) = true
is_opener (terminal.Prefix f) = true
is_opener (terminal.Binary f) = true
is_opener (terminal.Assign f) = true
is_opener terminal.Question = true
is_opener terminal.Comma = true
is_opener terminal.If = true
is_opener terminal.Do = true
is_opener terminal.For = true
is_opener terminal.While = true
is_opener _ = false

-- the tokens after an expression
abbrev pub ending : {N : Nonterminal} {r m : ℕ} {a b : Tokens} {t : Tree} → Reads N r a m b t
    → Tokens
ending {b = b} d = b

-- the tokens after arguments
abbrev pub arguments_ending : {r : ℕ} {a b : Tokens} {gs : List Given} → Arguments r a b gs → Tokens
arguments_ending {b = b} d = b

abbrev mutual
  -- the openers of an expression. It stands in a bracketed part, argument, initialiser, clause or
  -- statement with this end.
  pub openers : {N : Nonterminal} {r m : ℕ} {a b : Tokens} {t : Tree} → Reads N r a m b t → Tokens
      → List Opener
  openers Reads.constant end = []
  openers Reads.name end = []
  openers {a = a} (Reads.index d) end = (rest a until ending d) ∷ openers d (ending d)
  openers {a = a} Reads.call_bare end = (rest a until rest (rest a)) ∷ []
  openers {a = a} (Reads.call d) end = (rest a until arguments_ending d) ∷ arguments_openers d
  openers {a = a} (Reads.paren d) end = (a until ending d) ∷ openers d (ending d)
  openers (Reads.postfix d) end = openers d end
  openers (Reads.bump_after e d) end = openers d end
  openers (Reads.unary d) end = openers d end
  openers {a = a} (Reads.bump_before e d) end = (a until end) ∷ openers d end
  openers {a = a} (Reads.prefix e d) end = (a until end) ∷ openers d end
  openers (Reads.cast d) end = openers d end
  openers {a = a} (Reads.cast_to e d) end = (a until end) ∷ openers d end
  openers (Reads.operand d) end = openers d end
  openers (Reads.weaker d) end = openers d end
  openers (Reads.binary e h d1 d2) end = openers d1 end ++ (ending d1 until end) ∷ openers d2 end
  openers (Reads.conditional d) end = openers d end
  openers (Reads.choose d1 d2 d3) end =
      openers d1 end ++ (ending d1 until end) ∷ openers d2 end ++ openers d3 end
  openers (Reads.assignment d) end = openers d end
  openers (Reads.assign e d1 d2) end = openers d1 end ++ (ending d1 until end) ∷ openers d2 end
  openers (Reads.expression d) end = openers d end
  openers (Reads.comma d1 d2) end = openers d1 end ++ (ending d1 until end) ∷ openers d2 end

  -- the openers of an argument
  pub argument_openers : {r : ℕ} {a b : Tokens} {g : Given} → Argument r a b g → List Opener
  argument_openers {b = b} (Argument.value d) = openers d b
  argument_openers Argument.format = []
  argument_openers {a = a} {b = b} (Argument.address d) = (a until b) ∷ openers d b

  -- the openers of arguments
  pub arguments_openers : {r : ℕ} {a b : Tokens} {gs : List Given} → Arguments r a b gs
      → List Opener
  arguments_openers (Arguments.last d) = argument_openers d
  arguments_openers (Arguments.more d e) = argument_openers d ++ arguments_openers e

-- ---- declarations

-- the openers of the brackets after an array's name
abbrev pub length_openers : {r : ℕ} {a b : Tokens} {n : Option ℤ} {e : Span} → Length r a b n e
    → List Opener
length_openers {a = a} Length.bare = (a until rest a) ∷ []
length_openers {a = a} Length.constant = (a until rest (rest a)) ∷ []

-- the openers of the elements of an initialiser list
abbrev pub elements_openers : {r : ℕ} {a b : Tokens} {ts : List Tree} → Elements r a b ts
    → List Opener
elements_openers (Elements.last d) = openers d (ending d)
elements_openers (Elements.last_comma d) = openers d (ending d)
elements_openers (Elements.more d e) = openers d (ending d) ++ elements_openers e

-- the tokens after the elements of an initialiser list
abbrev pub elements_ending : {r : ℕ} {a b : Tokens} {ts : List Tree} → Elements r a b ts → Tokens
elements_ending {b = b} d = b

-- the tokens after the brackets after an array's name
abbrev pub length_ending : {r : ℕ} {a b : Tokens} {n : Option ℤ} {e : Span} → Length r a b n e
    → Tokens
length_ending {b = b} d = b

-- the openers of a declared variable
abbrev pub declarator_openers : {r : ℕ} {a b : Tokens} {v : Variable} → Declarator r a b v
    → List Opener
declarator_openers Declarator.scalar = []
declarator_openers (Declarator.scalar_start d) = openers d (ending d)
declarator_openers (Declarator.array d) = length_openers d
declarator_openers (Declarator.array_list d e) =
    length_openers d ++ (rest (length_ending d) until elements_ending e) ∷ elements_openers e

-- the openers of declared variables
abbrev pub declarators_openers : {r : ℕ} {a b : Tokens} {vs : List Variable} → Declarators r a b vs
    → List Opener
declarators_openers (Declarators.last d) = declarator_openers d
declarators_openers (Declarators.more d e) = declarator_openers d ++ declarators_openers e

-- the openers of a declaration of variables
abbrev pub vars_openers : {r : ℕ} {a b : Tokens} {ty : Ty} {vs : List Variable} → Vars r a b ty vs
    → List Opener
vars_openers (Vars.vars h d) = declarators_openers d

-- ---- statements

-- the openers of the first clause of a `for`, which ends before its `;`
abbrev pub clause_openers : {r : ℕ} {a b : Tokens} {i : First} → Clause r a b i → List Opener
clause_openers Clause.empty = []
clause_openers (Clause.act d) = openers d (ending d)
clause_openers (Clause.vars d) = vars_openers d

-- the openers of an expression that may be absent, in a clause or statement with this end
abbrev pub optional_openers : {r : ℕ} {a b : Tokens} {t : Option Tree} → Optional r a b t → Tokens
    → List Opener
optional_openers Optional.absent end = []
optional_openers (Optional.present d) end = openers d end

-- the tokens after an expression that may be absent
abbrev pub optional_ending : {r : ℕ} {a b : Tokens} {t : Option Tree} → Optional r a b t → Tokens
optional_ending {b = b} d = b

-- the tokens after a statement
abbrev pub statement_ending : {o : Bool} {r : ℕ} {a b : Tokens} {x : Code} → Statement o r a b x
    → Tokens
statement_ending {b = b} d = b

-- the tokens after items
abbrev pub items_ending : {r : ℕ} {a b : Tokens} {body : Body} → Items r a b body → Tokens
items_ending {b = b} d = b

abbrev mutual
  -- the openers of a statement
  pub statement_openers : {o : Bool} {r : ℕ} {a b : Tokens} {x : Code} → Statement o r a b x
      → List Opener
  statement_openers Statement.empty = []
  statement_openers {b = b} (Statement.act d) = openers d b
  statement_openers {a = a} (Statement.block d) = (a until items_ending d) ∷ items_openers d
  statement_openers {a = a} {b = b} (Statement.if_then d e) =
      (a until b) ∷ (rest a until ending d) ∷ openers d (ending d) ++ statement_openers e
  statement_openers {a = a} {b = b} (Statement.if_else d e f) =
      (a until b) ∷ (rest a until ending d) ∷ openers d (ending d) ++ statement_openers e
      ++ statement_openers f
  statement_openers {a = a} {b = b} (Statement.while d e) =
      (a until b) ∷ (rest a until ending d) ∷ openers d (ending d) ++ statement_openers e
  statement_openers {a = a} {b = b} (Statement.do_while d e) =
      (a until b) ∷ statement_openers d ++ (rest (statement_ending d) until ending e)
      ∷ openers e (ending e)
  statement_openers {a = a} {b = b} (Statement.for d e f g) =
      (a until b) ∷ (rest a until optional_ending f) ∷ clause_openers d
      ++ optional_openers e (optional_ending e) ++ optional_openers f (optional_ending f)
      ++ statement_openers g
  statement_openers {b = b} (Statement.give d) = optional_openers d b
  statement_openers Statement.break = []
  statement_openers Statement.continue = []

  -- the openers of the items of a block
  pub items_openers : {r : ℕ} {a b : Tokens} {body : Body} → Items r a b body → List Opener
  items_openers Items.none = []
  items_openers (Items.vars d e) = vars_openers d ++ items_openers e
  items_openers (Items.statement d e) = statement_openers d ++ items_openers e

-- ---- programs

-- the openers of a parameter
abbrev pub parameter_openers : {r : ℕ} {a b : Tokens} {x : Param} → Parameter r a b x → List Opener
parameter_openers (Parameter.scalar h) = []
parameter_openers (Parameter.array h d) = length_openers d

-- the openers of parameters
abbrev pub parameters_openers : {r : ℕ} {a b : Tokens} {xs : List Param} → Parameters r a b xs
    → List Opener
parameters_openers (Parameters.last d) = parameter_openers d
parameters_openers (Parameters.more d e) = parameter_openers d ++ parameters_openers e

-- the openers of a signature
abbrev pub signature_openers : {r : ℕ} {a b : Tokens} {xs : List Param} → Signature r a b xs
    → List Opener
signature_openers Signature.empty = []
signature_openers Signature.void = []
signature_openers (Signature.parameters d) = parameters_openers d

-- the tokens after a signature
abbrev pub signature_ending : {r : ℕ} {a b : Tokens} {xs : List Param} → Signature r a b xs → Tokens
signature_ending {b = b} d = b

-- the openers of what stands at file scope
abbrev pub external_openers : {r : ℕ} {a b : Tokens} {x : Outer} → External r a b x → List Opener
external_openers (External.vars d) = vars_openers d
external_openers {a = a} (External.prototype h d) =
    (rest (rest a) until signature_ending d) ∷ signature_openers d
external_openers {a = a} (External.definition h d e) =
    (rest (rest a) until signature_ending d) ∷ signature_openers d
    ++ (rest (signature_ending d) until items_ending e) ∷ items_openers e

-- the openers of a program
abbrev pub program_openers : {r : ℕ} {a : Tokens} {p : List Outer} → Derives r a p → List Opener
program_openers (Derives.last d) = external_openers d
program_openers (Derives.more d e) = external_openers d ++ program_openers e
