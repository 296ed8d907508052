-- The room after each opener of a part, in the order of the openers, as the grammar has it.
use Rattle.std.specs.Prelude.{ℕ, ℤ, suc, Bool, List, [], ◌∷◌, ◌++◌, Option}
use Rattle.c_tree.specs.declared.place.Span.{Span}
use Rattle.c_tree.specs.declared.program.Param.{Param}
use Rattle.c_tree.specs.declared.stmt.Ty.{Ty}
use Rattle.c_tree.specs.Tree.{Tree, Variable, First, Code, Body, Outer}
use Rattle.c_grammar.specs.declared.nonterminal.Nonterminal.{Nonterminal}
use Rattle.c_grammar.specs.Grammar.{Tokens, Given, Reads, Argument, Arguments}
use Rattle.c_grammar.specs.Programs.{Length, Elements, Declarator, Declarators, Vars, Clause, Optional, Statement, Items, Parameter, Parameters, Signature, External, Derives}
use Rattle.c_grammar.specs.Nesting.{Opener}

-- Along P k q: the openers k and the rooms q stand in pairs, and P holds of each pair.
pub data Along (P : Opener → ℕ → Type 0) : List Opener → List ℕ → Type 0 where
  none : Along P [] []
  also : {o : Opener} {n : ℕ} {k : List Opener} {q : List ℕ} → P o n → Along P k q
      → Along P (o ∷ k) (n ∷ q)

abbrev mutual
  -- the rooms after the openers of an expression
  pub rooms : {N : Nonterminal} {r m : ℕ} {a b : Tokens} {t : Tree} → Reads N r a m b t → List ℕ
  rooms Reads.constant = []
  rooms Reads.name = []
  rooms (Reads.index {r = r} d) = r ∷ rooms d
  rooms (Reads.call_bare {r = r}) = r ∷ []
  rooms (Reads.call {r = r} d) = r ∷ arguments_rooms d
  rooms (Reads.paren {r = r} d) = r ∷ rooms d
  rooms (Reads.postfix d) = rooms d
  rooms (Reads.bump_after e d) = rooms d
  rooms (Reads.unary d) = rooms d
  rooms (Reads.bump_before {r = r} e d) = r ∷ rooms d
  rooms (Reads.prefix {r = r} e d) = r ∷ rooms d
  rooms (Reads.cast d) = rooms d
  rooms (Reads.cast_to {r = r} e d) = r ∷ rooms d
  rooms (Reads.operand d) = rooms d
  rooms (Reads.weaker d) = rooms d
  rooms (Reads.binary {m = m} e h d1 d2) = rooms d1 ++ m ∷ rooms d2
  rooms (Reads.conditional d) = rooms d
  rooms (Reads.choose {m = m} d1 d2 d3) = rooms d1 ++ m ∷ rooms d2 ++ rooms d3
  rooms (Reads.assignment d) = rooms d
  rooms (Reads.assign {m = m} e d1 d2) = rooms d1 ++ m ∷ rooms d2
  rooms (Reads.expression d) = rooms d
  rooms (Reads.comma {m = m} d1 d2) = rooms d1 ++ m ∷ rooms d2

  -- the rooms after the openers of an argument
  pub argument_rooms : {r : ℕ} {a b : Tokens} {g : Given} → Argument r a b g → List ℕ
  argument_rooms (Argument.value d) = rooms d
  argument_rooms Argument.format = []
  argument_rooms (Argument.address {r = r} d) = r ∷ rooms d

  -- the rooms after the openers of arguments
  pub arguments_rooms : {r : ℕ} {a b : Tokens} {gs : List Given} → Arguments r a b gs → List ℕ
  arguments_rooms (Arguments.last d) = argument_rooms d
  arguments_rooms (Arguments.more d e) = argument_rooms d ++ arguments_rooms e

-- the rooms after the openers of the brackets after an array's name
abbrev pub length_rooms : {r : ℕ} {a b : Tokens} {n : Option ℤ} {e : Span} → Length r a b n e
    → List ℕ
length_rooms (Length.bare {r = r}) = r ∷ []
length_rooms (Length.constant {r = r}) = r ∷ []

-- the rooms after the openers of the elements of an initialiser list
abbrev pub elements_rooms : {r : ℕ} {a b : Tokens} {ts : List Tree} → Elements r a b ts → List ℕ
elements_rooms (Elements.last d) = rooms d
elements_rooms (Elements.last_comma d) = rooms d
elements_rooms (Elements.more d e) = rooms d ++ elements_rooms e

-- the rooms after the openers of a declared variable
abbrev pub declarator_rooms : {r : ℕ} {a b : Tokens} {v : Variable} → Declarator r a b v → List ℕ
declarator_rooms Declarator.scalar = []
declarator_rooms (Declarator.scalar_start d) = rooms d
declarator_rooms (Declarator.array d) = length_rooms d
declarator_rooms (Declarator.array_list {r = r} d e) = length_rooms d ++ r ∷ elements_rooms e

-- the rooms after the openers of declared variables
abbrev pub declarators_rooms : {r : ℕ} {a b : Tokens} {vs : List Variable} → Declarators r a b vs
    → List ℕ
declarators_rooms (Declarators.last d) = declarator_rooms d
declarators_rooms (Declarators.more d e) = declarator_rooms d ++ declarators_rooms e

-- the rooms after the openers of a declaration of variables
abbrev pub vars_rooms : {r : ℕ} {a b : Tokens} {ty : Ty} {vs : List Variable} → Vars r a b ty vs
    → List ℕ
vars_rooms (Vars.vars h d) = declarators_rooms d

-- the rooms after the openers of the first clause of a `for`
abbrev pub clause_rooms : {r : ℕ} {a b : Tokens} {i : First} → Clause r a b i → List ℕ
clause_rooms Clause.empty = []
clause_rooms (Clause.act d) = rooms d
clause_rooms (Clause.vars d) = vars_rooms d

-- the rooms after the openers of an expression that may be absent
abbrev pub optional_rooms : {r : ℕ} {a b : Tokens} {t : Option Tree} → Optional r a b t → List ℕ
optional_rooms Optional.absent = []
optional_rooms (Optional.present d) = rooms d

abbrev mutual
  -- the rooms after the openers of a statement: after `if`, `while`, `do` and `for` one more than
  -- after the `(` after it
  pub statement_rooms : {o : Bool} {r : ℕ} {a b : Tokens} {x : Code} → Statement o r a b x → List ℕ
  statement_rooms Statement.empty = []
  statement_rooms (Statement.act d) = rooms d
  statement_rooms (Statement.block {r = r} d) = r ∷ items_rooms d
  statement_rooms (Statement.if_then {r = r} d e) = suc r ∷ r ∷ rooms d ++ statement_rooms e
  statement_rooms (Statement.if_else {r = r} d e f) =
      suc r ∷ r ∷ rooms d ++ statement_rooms e ++ statement_rooms f
  statement_rooms (Statement.while {r = r} d e) = suc r ∷ r ∷ rooms d ++ statement_rooms e
  statement_rooms (Statement.do_while {r = r} d e) = suc r ∷ statement_rooms d ++ r ∷ rooms e
  statement_rooms (Statement.for {r = r} d e f g) =
      suc r ∷ r ∷ clause_rooms d ++ optional_rooms e ++ optional_rooms f ++ statement_rooms g
  statement_rooms (Statement.give d) = optional_rooms d
  statement_rooms Statement.break = []
  statement_rooms Statement.continue = []

  -- the rooms after the openers of the items of a block
  pub items_rooms : {r : ℕ} {a b : Tokens} {body : Body} → Items r a b body → List ℕ
  items_rooms Items.none = []
  items_rooms (Items.vars d e) = vars_rooms d ++ items_rooms e
  items_rooms (Items.statement d e) = statement_rooms d ++ items_rooms e

-- the rooms after the openers of a parameter
abbrev pub parameter_rooms : {r : ℕ} {a b : Tokens} {x : Param} → Parameter r a b x → List ℕ
parameter_rooms (Parameter.scalar h) = []
parameter_rooms (Parameter.array h d) = length_rooms d

-- the rooms after the openers of parameters
abbrev pub parameters_rooms : {r : ℕ} {a b : Tokens} {xs : List Param} → Parameters r a b xs
    → List ℕ
parameters_rooms (Parameters.last d) = parameter_rooms d
parameters_rooms (Parameters.more d e) = parameter_rooms d ++ parameters_rooms e

-- the rooms after the openers of a signature
abbrev pub signature_rooms : {r : ℕ} {a b : Tokens} {xs : List Param} → Signature r a b xs → List ℕ
signature_rooms Signature.empty = []
signature_rooms Signature.void = []
signature_rooms (Signature.parameters d) = parameters_rooms d

-- the rooms after the openers of what stands at file scope
abbrev pub external_rooms : {r : ℕ} {a b : Tokens} {x : Outer} → External r a b x → List ℕ
external_rooms (External.vars d) = vars_rooms d
external_rooms (External.prototype {r = r} h d) = r ∷ signature_rooms d
external_rooms (External.definition {r = r} h d e) = r ∷ signature_rooms d ++ r ∷ items_rooms e

-- the rooms after the openers of a program
abbrev pub program_rooms : {r : ℕ} {a : Tokens} {p : List Outer} → Derives r a p → List ℕ
program_rooms (Derives.last d) = external_rooms d
program_rooms (Derives.more d e) = external_rooms d ++ program_rooms e
