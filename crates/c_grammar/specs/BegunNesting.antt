-- The nesting of what begins a program, by the same table. An opener that isn't closed there is
-- open to the end.
use Rattle.std.specs.Prelude.{◌≡◌, ℕ, suc, ◌<◌, ◌≤◌, List, [], ◌∷◌, ◌++◌, length}
use Rattle.c_lex.specs.declared.token.TokenKind.{TokenKind}
use Rattle.c_tree.specs.declared.place.Span.{Span}
use Rattle.c_grammar.specs.declared.nonterminal.Nonterminal.{Nonterminal}
use Rattle.c_grammar.specs.Terminals.{rest}
use Rattle.c_grammar.specs.Grammar.{Tokens, Begins, BeginsArgument, BeginsArguments}
use Rattle.c_grammar.specs.Programs.{BeginsLength, BeginsElements, BeginsDeclarator, BeginsDeclarators, BeginsVars, BeginsClause, BeginsStatement, BeginsItems, BeginsParameter, BeginsParameters, BeginsSignature, BeginsExternal, Viable}
use Rattle.c_grammar.specs.Nesting.{nesting, Opener, ◌until◌, ending, arguments_ending, openers, argument_openers, arguments_openers, length_openers, elements_openers, length_ending, elements_ending, declarator_openers, vars_openers, clause_openers, optional_openers, optional_ending, statement_openers, statement_ending, parameter_openers, signature_openers, signature_ending, external_openers}

abbrev mutual
  -- the openers of what begins an expression
  pub begun_openers : {N : Nonterminal} {r : ℕ} {a b : Tokens} → Begins N r a b → List Opener
  begun_openers Begins.none = []
  begun_openers Begins.constant = []
  begun_openers Begins.name = []
  begun_openers {a = a} (Begins.index d) = (rest a until []) ∷ begun_openers d
  begun_openers {a = a} (Begins.index_end d) = (rest a until ending d) ∷ openers d (ending d)
  begun_openers {a = a} Begins.call_bare = (rest a until rest (rest a)) ∷ []
  begun_openers {a = a} (Begins.call d) = (rest a until []) ∷ begun_arguments_openers d
  begun_openers {a = a} (Begins.call_end d) =
      (rest a until arguments_ending d) ∷ arguments_openers d
  begun_openers {a = a} (Begins.paren d) = (a until []) ∷ begun_openers d
  begun_openers {a = a} (Begins.paren_end d) = (a until ending d) ∷ openers d (ending d)
  begun_openers (Begins.postfix d) = begun_openers d
  begun_openers (Begins.bump_after e d) = openers d []
  begun_openers (Begins.unary d) = begun_openers d
  begun_openers {a = a} (Begins.bump_before e d) = (a until []) ∷ begun_openers d
  begun_openers {a = a} (Begins.prefix e d) = (a until []) ∷ begun_openers d
  begun_openers (Begins.cast d) = begun_openers d
  begun_openers {a = a} Begins.cast_open = (a until []) ∷ []
  begun_openers {a = a} (Begins.cast_type e) = (a until []) ∷ []
  begun_openers {a = a} (Begins.cast_to e d) = (a until []) ∷ begun_openers d
  begun_openers (Begins.operand d) = begun_openers d
  begun_openers (Begins.weaker d) = begun_openers d
  begun_openers (Begins.binary e h d1 d2) = openers d1 [] ++ (ending d1 until []) ∷ begun_openers d2
  begun_openers (Begins.conditional d) = begun_openers d
  begun_openers (Begins.choose d1 d2) = openers d1 [] ++ (ending d1 until []) ∷ begun_openers d2
  begun_openers (Begins.choose_no d1 d2 d3) =
      openers d1 [] ++ (ending d1 until []) ∷ openers d2 [] ++ begun_openers d3
  begun_openers (Begins.assignment d) = begun_openers d
  begun_openers (Begins.assign e d1 d2) = openers d1 [] ++ (ending d1 until []) ∷ begun_openers d2
  begun_openers (Begins.expression d) = begun_openers d
  begun_openers (Begins.comma d1 d2) = openers d1 [] ++ (ending d1 until []) ∷ begun_openers d2

  -- the openers of what begins an argument
  pub begun_argument_openers : {r : ℕ} {a b : Tokens} → BeginsArgument r a b → List Opener
  begun_argument_openers (BeginsArgument.value d) = begun_openers d
  begun_argument_openers BeginsArgument.format = []
  begun_argument_openers {a = a} (BeginsArgument.address d) = (a until []) ∷ begun_openers d

  -- the openers of what begins arguments
  pub begun_arguments_openers : {r : ℕ} {a b : Tokens} → BeginsArguments r a b → List Opener
  begun_arguments_openers (BeginsArguments.last d) = begun_argument_openers d
  begun_arguments_openers (BeginsArguments.more d e) =
      argument_openers d ++ begun_arguments_openers e

-- the openers of what begins the brackets after an array's name
abbrev pub begun_length_openers : {r : ℕ} {a b : Tokens} → BeginsLength r a b → List Opener
begun_length_openers BeginsLength.none = []
begun_length_openers {a = a} BeginsLength.bracket = (a until []) ∷ []
begun_length_openers {a = a} BeginsLength.constant = (a until []) ∷ []
begun_length_openers (BeginsLength.end d) = length_openers d

-- the openers of what begins the elements of an initialiser list
abbrev pub begun_elements_openers : {r : ℕ} {a b : Tokens} → BeginsElements r a b → List Opener
begun_elements_openers (BeginsElements.last d) = begun_openers d
begun_elements_openers (BeginsElements.more d e) = openers d (ending d) ++ begun_elements_openers e

-- the openers of what begins a declared variable
abbrev pub begun_declarator_openers : {r : ℕ} {a b : Tokens} → BeginsDeclarator r a b → List Opener
begun_declarator_openers BeginsDeclarator.none = []
begun_declarator_openers (BeginsDeclarator.scalar_start d) = begun_openers d
begun_declarator_openers (BeginsDeclarator.array d) = begun_length_openers d
begun_declarator_openers (BeginsDeclarator.array_start d) = length_openers d
begun_declarator_openers (BeginsDeclarator.array_list d e) =
    length_openers d ++ (rest (length_ending d) until []) ∷ begun_elements_openers e
begun_declarator_openers (BeginsDeclarator.array_end d e) =
    length_openers d ++ (rest (length_ending d) until elements_ending e) ∷ elements_openers e

-- the openers of what begins declared variables
abbrev pub begun_declarators_openers : {r : ℕ} {a b : Tokens} → BeginsDeclarators r a b
    → List Opener
begun_declarators_openers (BeginsDeclarators.last d) = begun_declarator_openers d
begun_declarators_openers (BeginsDeclarators.more d e) =
    declarator_openers d ++ begun_declarators_openers e

-- the openers of what begins a declaration of variables
abbrev pub begun_vars_openers : {r : ℕ} {a b : Tokens} → BeginsVars r a b → List Opener
begun_vars_openers BeginsVars.none = []
begun_vars_openers (BeginsVars.vars h d) = begun_declarators_openers d
begun_vars_openers (BeginsVars.end d) = vars_openers d

-- the openers of what begins the first clause of a `for`
abbrev pub begun_clause_openers : {r : ℕ} {a b : Tokens} → BeginsClause r a b → List Opener
begun_clause_openers (BeginsClause.act d) = begun_openers d
begun_clause_openers (BeginsClause.vars d) = begun_vars_openers d
begun_clause_openers (BeginsClause.end d) = clause_openers d

abbrev mutual
  -- the openers of what begins a statement
  pub begun_statement_openers : {r : ℕ} {a b : Tokens} → BeginsStatement r a b → List Opener
  begun_statement_openers (BeginsStatement.act d) = begun_openers d
  begun_statement_openers {a = a} (BeginsStatement.block d) = (a until []) ∷ begun_items_openers d
  begun_statement_openers {a = a} BeginsStatement.if_word = (a until []) ∷ []
  begun_statement_openers {a = a} (BeginsStatement.if_test d) =
      (a until []) ∷ (rest a until []) ∷ begun_openers d
  begun_statement_openers {a = a} (BeginsStatement.if_then d e) =
      (a until []) ∷ (rest a until ending d) ∷ openers d (ending d) ++ begun_statement_openers e
  begun_statement_openers {a = a} (BeginsStatement.if_else d e f) =
      (a until []) ∷ (rest a until ending d) ∷ openers d (ending d) ++ statement_openers e
      ++ begun_statement_openers f
  begun_statement_openers {a = a} BeginsStatement.while_word = (a until []) ∷ []
  begun_statement_openers {a = a} (BeginsStatement.while_test d) =
      (a until []) ∷ (rest a until []) ∷ begun_openers d
  begun_statement_openers {a = a} (BeginsStatement.while d e) =
      (a until []) ∷ (rest a until ending d) ∷ openers d (ending d) ++ begun_statement_openers e
  begun_statement_openers {a = a} (BeginsStatement.do_body d) =
      (a until []) ∷ begun_statement_openers d
  begun_statement_openers {a = a} (BeginsStatement.do_word d) = (a until []) ∷ statement_openers d
  begun_statement_openers {a = a} (BeginsStatement.do_test d e) =
      (a until []) ∷ statement_openers d ++ (rest (statement_ending d) until []) ∷ begun_openers e
  begun_statement_openers {a = a} (BeginsStatement.do_close d e) =
      (a until []) ∷ statement_openers d ++ (rest (statement_ending d) until ending e)
      ∷ openers e (ending e)
  begun_statement_openers {a = a} BeginsStatement.for_word = (a until []) ∷ []
  begun_statement_openers {a = a} (BeginsStatement.for_first d) =
      (a until []) ∷ (rest a until []) ∷ begun_clause_openers d
  begun_statement_openers {a = a} (BeginsStatement.for_test d e) =
      (a until []) ∷ (rest a until []) ∷ clause_openers d ++ begun_openers e
  begun_statement_openers {a = a} (BeginsStatement.for_step d e f) =
      (a until []) ∷ (rest a until []) ∷ clause_openers d ++ optional_openers e (optional_ending e)
      ++ begun_openers f
  begun_statement_openers {a = a} (BeginsStatement.for d e f g) =
      (a until []) ∷ (rest a until optional_ending f) ∷ clause_openers d
      ++ optional_openers e (optional_ending e) ++ optional_openers f (optional_ending f)
      ++ begun_statement_openers g
  begun_statement_openers (BeginsStatement.give d) = begun_openers d
  begun_statement_openers BeginsStatement.break = []
  begun_statement_openers BeginsStatement.continue = []
  begun_statement_openers (BeginsStatement.end d) = statement_openers d

  -- the openers of what begins the items of a block
  pub begun_items_openers : {r : ℕ} {a b : Tokens} → BeginsItems r a b → List Opener
  begun_items_openers (BeginsItems.vars d) = begun_vars_openers d
  begun_items_openers (BeginsItems.statement d) = begun_statement_openers d
  begun_items_openers (BeginsItems.more_vars d e) = vars_openers d ++ begun_items_openers e
  begun_items_openers (BeginsItems.more_statement d e) =
      statement_openers d ++ begun_items_openers e

-- the openers of what begins a parameter
abbrev pub begun_parameter_openers : {r : ℕ} {a b : Tokens} → BeginsParameter r a b → List Opener
begun_parameter_openers BeginsParameter.none = []
begun_parameter_openers (BeginsParameter.type h) = []
begun_parameter_openers (BeginsParameter.array h d) = begun_length_openers d

-- the openers of what begins parameters
abbrev pub begun_parameters_openers : {r : ℕ} {a b : Tokens} → BeginsParameters r a b → List Opener
begun_parameters_openers (BeginsParameters.last d) = begun_parameter_openers d
begun_parameters_openers (BeginsParameters.more d e) =
    parameter_openers d ++ begun_parameters_openers e

-- the openers of what begins a signature
abbrev pub begun_signature_openers : {r : ℕ} {a b : Tokens} → BeginsSignature r a b → List Opener
begun_signature_openers BeginsSignature.void = []
begun_signature_openers (BeginsSignature.parameters d) = begun_parameters_openers d

-- the openers of what begins what stands at file scope
abbrev pub begun_external_openers : {r : ℕ} {a b : Tokens} → BeginsExternal r a b → List Opener
begun_external_openers BeginsExternal.none = []
begun_external_openers (BeginsExternal.vars d) = begun_vars_openers d
begun_external_openers (BeginsExternal.result h) = []
begun_external_openers (BeginsExternal.name h) = []
begun_external_openers {a = a} (BeginsExternal.signature h d) =
    (rest (rest a) until []) ∷ begun_signature_openers d
begun_external_openers {a = a} (BeginsExternal.close h d) =
    (rest (rest a) until signature_ending d) ∷ signature_openers d
begun_external_openers {a = a} (BeginsExternal.body h d e) =
    (rest (rest a) until signature_ending d) ∷ signature_openers d
    ++ (rest (signature_ending d) until []) ∷ begun_items_openers e
begun_external_openers (BeginsExternal.end d) = external_openers d

-- the openers of what begins a program
abbrev pub viable_openers : {r : ℕ} {a b : Tokens} → Viable r a b → List Opener
viable_openers (Viable.external d) = begun_external_openers d
viable_openers (Viable.more d e) = external_openers d ++ viable_openers e

-- ---- where the nesting passes a number

-- The token x, after which the tokens c stand, is the first at which the nesting passes r: the
-- tokens before it, with it, begin a program, the nesting at it is one more than r, and nowhere
-- before it is it more than r.
pub record PassesAt (r : ℕ) (a : Tokens) (x : TokenKind × Span) (c : Tokens) : Type 0 where
  pub earlier : Tokens
  pub splits : a ≡ earlier ++ x ∷ c
  pub room : ℕ
  pub begins : Viable room a c
  pub deeper : nesting (viable_openers begins) (x ∷ c) ≡ suc r
  pub within : (e : Tokens) → length (x ∷ c) < length e → nesting (viable_openers begins) e ≤ r

-- The first of the tokens b is that token.
abbrev pub Passes : ℕ → Tokens → Tokens → Type 0
Passes r a [] = ⊥
Passes r a (x ∷ c) = PassesAt r a x c
