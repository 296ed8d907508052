-- The room after each opener of what begins a part, in the order of the openers, as the grammar has
-- it.
use Rattle.std.specs.Prelude.{ℕ, suc, List, [], ◌∷◌, ◌++◌}
use Rattle.c_grammar.specs.declared.nonterminal.Nonterminal.{Nonterminal}
use Rattle.c_grammar.specs.Grammar.{Tokens, Begins, BeginsArgument, BeginsArguments}
use Rattle.c_grammar.specs.Programs.{BeginsLength, BeginsElements, BeginsDeclarator, BeginsDeclarators, BeginsVars, BeginsClause, BeginsStatement, BeginsItems, BeginsParameter, BeginsParameters, BeginsSignature, BeginsExternal, Viable}
use Rattle.c_grammar.specs.Rooms.{rooms, argument_rooms, arguments_rooms, length_rooms, elements_rooms, declarator_rooms, vars_rooms, clause_rooms, optional_rooms, statement_rooms, parameter_rooms, signature_rooms, external_rooms}

abbrev mutual
  -- the rooms after the openers of what begins an expression
  pub begun_rooms : {N : Nonterminal} {r : ℕ} {a b : Tokens} → Begins N r a b → List ℕ
  begun_rooms Begins.none = []
  begun_rooms Begins.constant = []
  begun_rooms Begins.name = []
  begun_rooms (Begins.index {r = r} d) = r ∷ begun_rooms d
  begun_rooms (Begins.index_end {r = r} d) = r ∷ rooms d
  begun_rooms (Begins.call_bare {r = r}) = r ∷ []
  begun_rooms (Begins.call {r = r} d) = r ∷ begun_arguments_rooms d
  begun_rooms (Begins.call_end {r = r} d) = r ∷ arguments_rooms d
  begun_rooms (Begins.paren {r = r} d) = r ∷ begun_rooms d
  begun_rooms (Begins.paren_end {r = r} d) = r ∷ rooms d
  begun_rooms (Begins.postfix d) = begun_rooms d
  begun_rooms (Begins.bump_after e d) = rooms d
  begun_rooms (Begins.unary d) = begun_rooms d
  begun_rooms (Begins.bump_before {r = r} e d) = r ∷ begun_rooms d
  begun_rooms (Begins.prefix {r = r} e d) = r ∷ begun_rooms d
  begun_rooms (Begins.cast d) = begun_rooms d
  begun_rooms (Begins.cast_open {r = r}) = r ∷ []
  begun_rooms (Begins.cast_type {r = r} e) = r ∷ []
  begun_rooms (Begins.cast_to {r = r} e d) = r ∷ begun_rooms d
  begun_rooms (Begins.operand d) = begun_rooms d
  begun_rooms (Begins.weaker d) = begun_rooms d
  begun_rooms (Begins.binary {m = m} e h d1 d2) = rooms d1 ++ m ∷ begun_rooms d2
  begun_rooms (Begins.conditional d) = begun_rooms d
  begun_rooms (Begins.choose {m = m} d1 d2) = rooms d1 ++ m ∷ begun_rooms d2
  begun_rooms (Begins.choose_no {m = m} d1 d2 d3) = rooms d1 ++ m ∷ rooms d2 ++ begun_rooms d3
  begun_rooms (Begins.assignment d) = begun_rooms d
  begun_rooms (Begins.assign {m = m} e d1 d2) = rooms d1 ++ m ∷ begun_rooms d2
  begun_rooms (Begins.expression d) = begun_rooms d
  begun_rooms (Begins.comma {m = m} d1 d2) = rooms d1 ++ m ∷ begun_rooms d2

  -- the rooms after the openers of what begins an argument
  pub begun_argument_rooms : {r : ℕ} {a b : Tokens} → BeginsArgument r a b → List ℕ
  begun_argument_rooms (BeginsArgument.value d) = begun_rooms d
  begun_argument_rooms BeginsArgument.format = []
  begun_argument_rooms (BeginsArgument.address {r = r} d) = r ∷ begun_rooms d

  -- the rooms after the openers of what begins arguments
  pub begun_arguments_rooms : {r : ℕ} {a b : Tokens} → BeginsArguments r a b → List ℕ
  begun_arguments_rooms (BeginsArguments.last d) = begun_argument_rooms d
  begun_arguments_rooms (BeginsArguments.more d e) = argument_rooms d ++ begun_arguments_rooms e

-- the rooms after the openers of what begins the brackets after an array's name
abbrev pub begun_length_rooms : {r : ℕ} {a b : Tokens} → BeginsLength r a b → List ℕ
begun_length_rooms BeginsLength.none = []
begun_length_rooms (BeginsLength.bracket {r = r}) = r ∷ []
begun_length_rooms (BeginsLength.constant {r = r}) = r ∷ []
begun_length_rooms (BeginsLength.end d) = length_rooms d

-- the rooms after the openers of what begins the elements of an initialiser list
abbrev pub begun_elements_rooms : {r : ℕ} {a b : Tokens} → BeginsElements r a b → List ℕ
begun_elements_rooms (BeginsElements.last d) = begun_rooms d
begun_elements_rooms (BeginsElements.more d e) = rooms d ++ begun_elements_rooms e

-- the rooms after the openers of what begins a declared variable
abbrev pub begun_declarator_rooms : {r : ℕ} {a b : Tokens} → BeginsDeclarator r a b → List ℕ
begun_declarator_rooms BeginsDeclarator.none = []
begun_declarator_rooms (BeginsDeclarator.scalar_start d) = begun_rooms d
begun_declarator_rooms (BeginsDeclarator.array d) = begun_length_rooms d
begun_declarator_rooms (BeginsDeclarator.array_start d) = length_rooms d
begun_declarator_rooms (BeginsDeclarator.array_list {r = r} d e) =
    length_rooms d ++ r ∷ begun_elements_rooms e
begun_declarator_rooms (BeginsDeclarator.array_end {r = r} d e) =
    length_rooms d ++ r ∷ elements_rooms e

-- the rooms after the openers of what begins declared variables
abbrev pub begun_declarators_rooms : {r : ℕ} {a b : Tokens} → BeginsDeclarators r a b → List ℕ
begun_declarators_rooms (BeginsDeclarators.last d) = begun_declarator_rooms d
begun_declarators_rooms (BeginsDeclarators.more d e) =
    declarator_rooms d ++ begun_declarators_rooms e

-- the rooms after the openers of what begins a declaration of variables
abbrev pub begun_vars_rooms : {r : ℕ} {a b : Tokens} → BeginsVars r a b → List ℕ
begun_vars_rooms BeginsVars.none = []
begun_vars_rooms (BeginsVars.vars h d) = begun_declarators_rooms d
begun_vars_rooms (BeginsVars.end d) = vars_rooms d

-- the rooms after the openers of what begins the first clause of a `for`
abbrev pub begun_clause_rooms : {r : ℕ} {a b : Tokens} → BeginsClause r a b → List ℕ
begun_clause_rooms (BeginsClause.act d) = begun_rooms d
begun_clause_rooms (BeginsClause.vars d) = begun_vars_rooms d
begun_clause_rooms (BeginsClause.end d) = clause_rooms d

abbrev mutual
  -- the rooms after the openers of what begins a statement
  pub begun_statement_rooms : {r : ℕ} {a b : Tokens} → BeginsStatement r a b → List ℕ
  begun_statement_rooms (BeginsStatement.act d) = begun_rooms d
  begun_statement_rooms (BeginsStatement.block {r = r} d) = r ∷ begun_items_rooms d
  begun_statement_rooms (BeginsStatement.if_word {r = r}) = r ∷ []
  begun_statement_rooms (BeginsStatement.if_test {r = r} d) = suc r ∷ r ∷ begun_rooms d
  begun_statement_rooms (BeginsStatement.if_then {r = r} d e) =
      suc r ∷ r ∷ rooms d ++ begun_statement_rooms e
  begun_statement_rooms (BeginsStatement.if_else {r = r} d e f) =
      suc r ∷ r ∷ rooms d ++ statement_rooms e ++ begun_statement_rooms f
  begun_statement_rooms (BeginsStatement.while_word {r = r}) = r ∷ []
  begun_statement_rooms (BeginsStatement.while_test {r = r} d) = suc r ∷ r ∷ begun_rooms d
  begun_statement_rooms (BeginsStatement.while {r = r} d e) =
      suc r ∷ r ∷ rooms d ++ begun_statement_rooms e
  begun_statement_rooms (BeginsStatement.do_body {r = r} d) = r ∷ begun_statement_rooms d
  begun_statement_rooms (BeginsStatement.do_word {r = r} d) = r ∷ statement_rooms d
  begun_statement_rooms (BeginsStatement.do_test {r = r} d e) =
      suc r ∷ statement_rooms d ++ r ∷ begun_rooms e
  begun_statement_rooms (BeginsStatement.do_close {r = r} d e) =
      suc r ∷ statement_rooms d ++ r ∷ rooms e
  begun_statement_rooms (BeginsStatement.for_word {r = r}) = r ∷ []
  begun_statement_rooms (BeginsStatement.for_first {r = r} d) = suc r ∷ r ∷ begun_clause_rooms d
  begun_statement_rooms (BeginsStatement.for_test {r = r} d e) =
      suc r ∷ r ∷ clause_rooms d ++ begun_rooms e
  begun_statement_rooms (BeginsStatement.for_step {r = r} d e f) =
      suc r ∷ r ∷ clause_rooms d ++ optional_rooms e ++ begun_rooms f
  begun_statement_rooms (BeginsStatement.for {r = r} d e f g) =
      suc r ∷ r ∷ clause_rooms d ++ optional_rooms e ++ optional_rooms f ++ begun_statement_rooms g
  begun_statement_rooms (BeginsStatement.give d) = begun_rooms d
  begun_statement_rooms BeginsStatement.break = []
  begun_statement_rooms BeginsStatement.continue = []
  begun_statement_rooms (BeginsStatement.end d) = statement_rooms d

  -- the rooms after the openers of what begins the items of a block
  pub begun_items_rooms : {r : ℕ} {a b : Tokens} → BeginsItems r a b → List ℕ
  begun_items_rooms (BeginsItems.vars d) = begun_vars_rooms d
  begun_items_rooms (BeginsItems.statement d) = begun_statement_rooms d
  begun_items_rooms (BeginsItems.more_vars d e) = vars_rooms d ++ begun_items_rooms e
  begun_items_rooms (BeginsItems.more_statement d e) = statement_rooms d ++ begun_items_rooms e

-- the rooms after the openers of what begins a parameter
abbrev pub begun_parameter_rooms : {r : ℕ} {a b : Tokens} → BeginsParameter r a b → List ℕ
begun_parameter_rooms BeginsParameter.none = []
begun_parameter_rooms (BeginsParameter.type h) = []
begun_parameter_rooms (BeginsParameter.array h d) = begun_length_rooms d

-- the rooms after the openers of what begins parameters
abbrev pub begun_parameters_rooms : {r : ℕ} {a b : Tokens} → BeginsParameters r a b → List ℕ
begun_parameters_rooms (BeginsParameters.last d) = begun_parameter_rooms d
begun_parameters_rooms (BeginsParameters.more d e) = parameter_rooms d ++ begun_parameters_rooms e

-- the rooms after the openers of what begins a signature
abbrev pub begun_signature_rooms : {r : ℕ} {a b : Tokens} → BeginsSignature r a b → List ℕ
begun_signature_rooms BeginsSignature.void = []
begun_signature_rooms (BeginsSignature.parameters d) = begun_parameters_rooms d

-- the rooms after the openers of what begins what stands at file scope
abbrev pub begun_external_rooms : {r : ℕ} {a b : Tokens} → BeginsExternal r a b → List ℕ
begun_external_rooms BeginsExternal.none = []
begun_external_rooms (BeginsExternal.vars d) = begun_vars_rooms d
begun_external_rooms (BeginsExternal.result h) = []
begun_external_rooms (BeginsExternal.name h) = []
begun_external_rooms (BeginsExternal.signature {r = r} h d) = r ∷ begun_signature_rooms d
begun_external_rooms (BeginsExternal.close {r = r} h d) = r ∷ signature_rooms d
begun_external_rooms (BeginsExternal.body {r = r} h d e) =
    r ∷ signature_rooms d ++ r ∷ begun_items_rooms e
begun_external_rooms (BeginsExternal.end d) = external_rooms d

-- the rooms after the openers of what begins a program
abbrev pub viable_rooms : {r : ℕ} {a b : Tokens} → Viable r a b → List ℕ
viable_rooms (Viable.external d) = begun_external_rooms d
viable_rooms (Viable.more d e) = external_rooms d ++ viable_rooms e
