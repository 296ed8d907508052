-- Laws of declarations, statements and programs by themselves.
use Rattle.std.proofs.Common.{ℕ, ℤ, suc, ◌≤◌, ◌<◌, Bool, List, [], Option, arith, length}
use Rattle.c_tree.specs.declared.place.Span.{Span}
use Rattle.c_tree.specs.declared.program.Param.{Param}
use Rattle.c_tree.specs.declared.stmt.Ty.{Ty}
use Rattle.c_tree.specs.Tree.{Tree, Variable, First, Code, Body, Outer}
use Rattle.c_grammar.specs.declared.nonterminal.Nonterminal.TheVariants.{Expression}
use Rattle.c_grammar.specs.Grammar.{Tokens, Begins}
use Rattle.c_grammar.specs.Programs.{Length, Elements, Declarator, Declarators, Vars, Clause, Optional, Statement, Items, Parameter, Parameters, Signature, External, Derives, BeginsLength, BeginsElements, BeginsDeclarator, BeginsDeclarators, BeginsVars, BeginsClause, BeginsStatement, BeginsItems, BeginsParameter, BeginsParameters, BeginsSignature, BeginsExternal, Viable}
use Rattle.c_grammar.proofs.ExpressionBasics.{reads_lift, begins_lift, reads_begun, reads_shorter}

-- ---- with more room the same is derived

pub length_lift : {r : ℕ} {a b : Tokens} {n : Option ℤ} {e : Span} → Length r a b n e → Length (suc r) a b n e
length_lift Length.bare = Length.bare
length_lift Length.constant = Length.constant

pub elements_lift : {r : ℕ} {a b : Tokens} {ts : List Tree} → Elements r a b ts → Elements (suc r) a b ts
elements_lift (Elements.last d) = Elements.last (reads_lift d)
elements_lift (Elements.last_comma d) = Elements.last_comma (reads_lift d)
elements_lift (Elements.more d e) = Elements.more (reads_lift d) (elements_lift e)

pub declarator_lift : {r : ℕ} {a b : Tokens} {v : Variable} → Declarator r a b v → Declarator (suc r) a b v
declarator_lift Declarator.scalar = Declarator.scalar
declarator_lift (Declarator.scalar_start d) = Declarator.scalar_start (reads_lift d)
declarator_lift (Declarator.array d) = Declarator.array (length_lift d)
declarator_lift (Declarator.array_list d e) = Declarator.array_list (length_lift d) (elements_lift e)

pub declarators_lift : {r : ℕ} {a b : Tokens} {vs : List Variable} → Declarators r a b vs → Declarators (suc r) a b vs
declarators_lift (Declarators.last d) = Declarators.last (declarator_lift d)
declarators_lift (Declarators.more d e) = Declarators.more (declarator_lift d) (declarators_lift e)

pub vars_lift : {r : ℕ} {a b : Tokens} {ty : Ty} {vs : List Variable} → Vars r a b ty vs → Vars (suc r) a b ty vs
vars_lift (Vars.vars h d) = Vars.vars h (declarators_lift d)

pub clause_lift : {r : ℕ} {a b : Tokens} {i : First} → Clause r a b i → Clause (suc r) a b i
clause_lift Clause.empty = Clause.empty
clause_lift (Clause.act d) = Clause.act (reads_lift d)
clause_lift (Clause.vars d) = Clause.vars (vars_lift d)

pub optional_lift : {r : ℕ} {a b : Tokens} {t : Option Tree} → Optional r a b t → Optional (suc r) a b t
optional_lift Optional.absent = Optional.absent
optional_lift (Optional.present d) = Optional.present (reads_lift d)

mutual
  pub statement_lift : {o : Bool} {r : ℕ} {a b : Tokens} {x : Code} → Statement o r a b x → Statement o (suc r) a b x
  statement_lift Statement.empty = Statement.empty
  statement_lift (Statement.act d) = Statement.act (reads_lift d)
  statement_lift (Statement.block d) = Statement.block (items_lift d)
  statement_lift (Statement.if_then d e) = Statement.if_then (reads_lift d) (statement_lift e)
  statement_lift (Statement.if_else d e f) = Statement.if_else (reads_lift d) (statement_lift e) (statement_lift f)
  statement_lift (Statement.while d e) = Statement.while (reads_lift d) (statement_lift e)
  statement_lift (Statement.do_while d e) = Statement.do_while (statement_lift d) (reads_lift e)
  statement_lift (Statement.for d e f g) = Statement.for (clause_lift d) (optional_lift e) (optional_lift f) (statement_lift g)
  statement_lift (Statement.give d) = Statement.give (optional_lift d)
  statement_lift Statement.break = Statement.break
  statement_lift Statement.continue = Statement.continue

  pub items_lift : {r : ℕ} {a b : Tokens} {body : Body} → Items r a b body → Items (suc r) a b body
  items_lift Items.none = Items.none
  items_lift (Items.vars d e) = Items.vars (vars_lift d) (items_lift e)
  items_lift (Items.statement d e) = Items.statement (statement_lift d) (items_lift e)

pub parameter_lift : {r : ℕ} {a b : Tokens} {x : Param} → Parameter r a b x → Parameter (suc r) a b x
parameter_lift (Parameter.scalar h) = Parameter.scalar h
parameter_lift (Parameter.array h d) = Parameter.array h (length_lift d)

pub parameters_lift : {r : ℕ} {a b : Tokens} {xs : List Param} → Parameters r a b xs → Parameters (suc r) a b xs
parameters_lift (Parameters.last d) = Parameters.last (parameter_lift d)
parameters_lift (Parameters.more d e) = Parameters.more (parameter_lift d) (parameters_lift e)

pub signature_lift : {r : ℕ} {a b : Tokens} {xs : List Param} → Signature r a b xs → Signature (suc r) a b xs
signature_lift Signature.empty = Signature.empty
signature_lift Signature.void = Signature.void
signature_lift (Signature.parameters d) = Signature.parameters (parameters_lift d)

pub external_lift : {r : ℕ} {a b : Tokens} {x : Outer} → External r a b x → External (suc r) a b x
external_lift (External.vars d) = External.vars (vars_lift d)
external_lift (External.prototype h d) = External.prototype h (signature_lift d)
external_lift (External.definition h d e) = External.definition h (signature_lift d) (items_lift e)

pub derives_lift : {r : ℕ} {a : Tokens} {p : List Outer} → Derives r a p → Derives (suc r) a p
derives_lift (Derives.last d) = Derives.last (external_lift d)
derives_lift (Derives.more d e) = Derives.more (external_lift d) (derives_lift e)

-- ---- what is derived begins the part

pub length_begun : {r : ℕ} {a b : Tokens} {n : Option ℤ} {e : Span} → Length r a b n e → BeginsLength r a b
length_begun d = BeginsLength.end d

pub elements_begun : {r : ℕ} {a b : Tokens} {ts : List Tree} → Elements r a b ts → BeginsElements r a b
elements_begun (Elements.last d) = BeginsElements.last (reads_begun d)
elements_begun (Elements.last_comma d) = BeginsElements.more d (BeginsElements.last Begins.none)
elements_begun (Elements.more d e) = BeginsElements.more d (elements_begun e)

pub declarator_begun : {r : ℕ} {a b : Tokens} {v : Variable} → Declarator r a b v → BeginsDeclarator r a b
declarator_begun Declarator.scalar = BeginsDeclarator.array BeginsLength.none
declarator_begun (Declarator.scalar_start d) = BeginsDeclarator.scalar_start (reads_begun d)
declarator_begun (Declarator.array d) = BeginsDeclarator.array (BeginsLength.end d)
declarator_begun (Declarator.array_list d e) = BeginsDeclarator.array_end d e

pub declarators_begun : {r : ℕ} {a b : Tokens} {vs : List Variable} → Declarators r a b vs → BeginsDeclarators r a b
declarators_begun (Declarators.last d) = BeginsDeclarators.last (declarator_begun d)
declarators_begun (Declarators.more d e) = BeginsDeclarators.more d (declarators_begun e)

pub vars_begun : {r : ℕ} {a b : Tokens} {ty : Ty} {vs : List Variable} → Vars r a b ty vs → BeginsVars r a b
vars_begun d = BeginsVars.end d

pub clause_begun : {r : ℕ} {a b : Tokens} {i : First} → Clause r a b i → BeginsClause r a b
clause_begun d = BeginsClause.end d

pub optional_begun : {r : ℕ} {a b : Tokens} {t : Option Tree} → Optional r a b t → Begins Expression r a b
optional_begun Optional.absent = Begins.none
optional_begun (Optional.present d) = reads_begun d

pub statement_begun : {o : Bool} {r : ℕ} {a b : Tokens} {x : Code} → Statement o r a b x → BeginsStatement r a b
statement_begun d = BeginsStatement.end d

pub items_begun : {r : ℕ} {a b : Tokens} {body : Body} → Items r a b body → BeginsItems r a b
items_begun Items.none = BeginsItems.vars BeginsVars.none
items_begun (Items.vars d e) = BeginsItems.more_vars d (items_begun e)
items_begun (Items.statement d e) = BeginsItems.more_statement d (items_begun e)

pub parameter_begun : {r : ℕ} {a b : Tokens} {x : Param} → Parameter r a b x → BeginsParameter r a b
parameter_begun (Parameter.scalar h) = BeginsParameter.array h BeginsLength.none
parameter_begun (Parameter.array h d) = BeginsParameter.array h (BeginsLength.end d)

pub parameters_begun : {r : ℕ} {a b : Tokens} {xs : List Param} → Parameters r a b xs → BeginsParameters r a b
parameters_begun (Parameters.last d) = BeginsParameters.last (parameter_begun d)
parameters_begun (Parameters.more d e) = BeginsParameters.more d (parameters_begun e)

pub signature_begun : {r : ℕ} {a b : Tokens} {xs : List Param} → Signature r a b xs → BeginsSignature r a b
signature_begun Signature.empty = BeginsSignature.parameters (BeginsParameters.last BeginsParameter.none)
signature_begun Signature.void = BeginsSignature.void
signature_begun (Signature.parameters d) = BeginsSignature.parameters (parameters_begun d)

pub external_begun : {r : ℕ} {a b : Tokens} {x : Outer} → External r a b x → BeginsExternal r a b
external_begun d = BeginsExternal.end d

pub derives_begun : {r : ℕ} {a : Tokens} {p : List Outer} → Derives r a p → Viable r a []
derives_begun (Derives.last d) = Viable.external (BeginsExternal.end d)
derives_begun (Derives.more d e) = Viable.more d (derives_begun e)

-- ---- with more room the same begins a part

pub begins_length_lift : {r : ℕ} {a b : Tokens} → BeginsLength r a b → BeginsLength (suc r) a b
begins_length_lift BeginsLength.none = BeginsLength.none
begins_length_lift BeginsLength.bracket = BeginsLength.bracket
begins_length_lift BeginsLength.constant = BeginsLength.constant
begins_length_lift (BeginsLength.end d) = BeginsLength.end (length_lift d)

pub begins_elements_lift : {r : ℕ} {a b : Tokens} → BeginsElements r a b → BeginsElements (suc r) a b
begins_elements_lift (BeginsElements.last d) = BeginsElements.last (begins_lift d)
begins_elements_lift (BeginsElements.more d e) = BeginsElements.more (reads_lift d) (begins_elements_lift e)

pub begins_declarator_lift : {r : ℕ} {a b : Tokens} → BeginsDeclarator r a b → BeginsDeclarator (suc r) a b
begins_declarator_lift BeginsDeclarator.none = BeginsDeclarator.none
begins_declarator_lift (BeginsDeclarator.scalar_start d) = BeginsDeclarator.scalar_start (begins_lift d)
begins_declarator_lift (BeginsDeclarator.array d) = BeginsDeclarator.array (begins_length_lift d)
begins_declarator_lift (BeginsDeclarator.array_start d) = BeginsDeclarator.array_start (length_lift d)
begins_declarator_lift (BeginsDeclarator.array_list d e) = BeginsDeclarator.array_list (length_lift d) (begins_elements_lift e)
begins_declarator_lift (BeginsDeclarator.array_end d e) = BeginsDeclarator.array_end (length_lift d) (elements_lift e)

pub begins_declarators_lift : {r : ℕ} {a b : Tokens} → BeginsDeclarators r a b → BeginsDeclarators (suc r) a b
begins_declarators_lift (BeginsDeclarators.last d) = BeginsDeclarators.last (begins_declarator_lift d)
begins_declarators_lift (BeginsDeclarators.more d e) = BeginsDeclarators.more (declarator_lift d) (begins_declarators_lift e)

pub begins_vars_lift : {r : ℕ} {a b : Tokens} → BeginsVars r a b → BeginsVars (suc r) a b
begins_vars_lift BeginsVars.none = BeginsVars.none
begins_vars_lift (BeginsVars.vars h d) = BeginsVars.vars h (begins_declarators_lift d)
begins_vars_lift (BeginsVars.end d) = BeginsVars.end (vars_lift d)

pub begins_clause_lift : {r : ℕ} {a b : Tokens} → BeginsClause r a b → BeginsClause (suc r) a b
begins_clause_lift (BeginsClause.act d) = BeginsClause.act (begins_lift d)
begins_clause_lift (BeginsClause.vars d) = BeginsClause.vars (begins_vars_lift d)
begins_clause_lift (BeginsClause.end d) = BeginsClause.end (clause_lift d)

mutual
  pub begins_statement_lift : {r : ℕ} {a b : Tokens} → BeginsStatement r a b → BeginsStatement (suc r) a b
  begins_statement_lift (BeginsStatement.act d) = BeginsStatement.act (begins_lift d)
  begins_statement_lift (BeginsStatement.block d) = BeginsStatement.block (begins_items_lift d)
  begins_statement_lift BeginsStatement.if_word = BeginsStatement.if_word
  begins_statement_lift (BeginsStatement.if_test d) = BeginsStatement.if_test (begins_lift d)
  begins_statement_lift (BeginsStatement.if_then d e) = BeginsStatement.if_then (reads_lift d) (begins_statement_lift e)
  begins_statement_lift (BeginsStatement.if_else d e f) = BeginsStatement.if_else (reads_lift d) (statement_lift e) (begins_statement_lift f)
  begins_statement_lift BeginsStatement.while_word = BeginsStatement.while_word
  begins_statement_lift (BeginsStatement.while_test d) = BeginsStatement.while_test (begins_lift d)
  begins_statement_lift (BeginsStatement.while d e) = BeginsStatement.while (reads_lift d) (begins_statement_lift e)
  begins_statement_lift (BeginsStatement.do_body d) = BeginsStatement.do_body (begins_statement_lift d)
  begins_statement_lift (BeginsStatement.do_word d) = BeginsStatement.do_word (statement_lift d)
  begins_statement_lift (BeginsStatement.do_test d e) = BeginsStatement.do_test (statement_lift d) (begins_lift e)
  begins_statement_lift (BeginsStatement.do_close d e) = BeginsStatement.do_close (statement_lift d) (reads_lift e)
  begins_statement_lift BeginsStatement.for_word = BeginsStatement.for_word
  begins_statement_lift (BeginsStatement.for_first d) = BeginsStatement.for_first (begins_clause_lift d)
  begins_statement_lift (BeginsStatement.for_test d e) = BeginsStatement.for_test (clause_lift d) (begins_lift e)
  begins_statement_lift (BeginsStatement.for_step d e f) = BeginsStatement.for_step (clause_lift d) (optional_lift e) (begins_lift f)
  begins_statement_lift (BeginsStatement.for d e f g) = BeginsStatement.for (clause_lift d) (optional_lift e) (optional_lift f) (begins_statement_lift g)
  begins_statement_lift (BeginsStatement.give d) = BeginsStatement.give (begins_lift d)
  begins_statement_lift BeginsStatement.break = BeginsStatement.break
  begins_statement_lift BeginsStatement.continue = BeginsStatement.continue
  begins_statement_lift (BeginsStatement.end d) = BeginsStatement.end (statement_lift d)

  pub begins_items_lift : {r : ℕ} {a b : Tokens} → BeginsItems r a b → BeginsItems (suc r) a b
  begins_items_lift (BeginsItems.vars d) = BeginsItems.vars (begins_vars_lift d)
  begins_items_lift (BeginsItems.statement d) = BeginsItems.statement (begins_statement_lift d)
  begins_items_lift (BeginsItems.more_vars d e) = BeginsItems.more_vars (vars_lift d) (begins_items_lift e)
  begins_items_lift (BeginsItems.more_statement d e) = BeginsItems.more_statement (statement_lift d) (begins_items_lift e)

pub begins_parameter_lift : {r : ℕ} {a b : Tokens} → BeginsParameter r a b → BeginsParameter (suc r) a b
begins_parameter_lift BeginsParameter.none = BeginsParameter.none
begins_parameter_lift (BeginsParameter.type h) = BeginsParameter.type h
begins_parameter_lift (BeginsParameter.array h d) = BeginsParameter.array h (begins_length_lift d)

pub begins_parameters_lift : {r : ℕ} {a b : Tokens} → BeginsParameters r a b → BeginsParameters (suc r) a b
begins_parameters_lift (BeginsParameters.last d) = BeginsParameters.last (begins_parameter_lift d)
begins_parameters_lift (BeginsParameters.more d e) = BeginsParameters.more (parameter_lift d) (begins_parameters_lift e)

pub begins_signature_lift : {r : ℕ} {a b : Tokens} → BeginsSignature r a b → BeginsSignature (suc r) a b
begins_signature_lift BeginsSignature.void = BeginsSignature.void
begins_signature_lift (BeginsSignature.parameters d) = BeginsSignature.parameters (begins_parameters_lift d)

pub begins_external_lift : {r : ℕ} {a b : Tokens} → BeginsExternal r a b → BeginsExternal (suc r) a b
begins_external_lift BeginsExternal.none = BeginsExternal.none
begins_external_lift (BeginsExternal.vars d) = BeginsExternal.vars (begins_vars_lift d)
begins_external_lift (BeginsExternal.result h) = BeginsExternal.result h
begins_external_lift (BeginsExternal.name h) = BeginsExternal.name h
begins_external_lift (BeginsExternal.signature h d) = BeginsExternal.signature h (begins_signature_lift d)
begins_external_lift (BeginsExternal.close h d) = BeginsExternal.close h (signature_lift d)
begins_external_lift (BeginsExternal.body h d e) = BeginsExternal.body h (signature_lift d) (begins_items_lift e)
begins_external_lift (BeginsExternal.end d) = BeginsExternal.end (external_lift d)

pub viable_lift : {r : ℕ} {a b : Tokens} → Viable r a b → Viable (suc r) a b
viable_lift (Viable.external d) = Viable.external (begins_external_lift d)
viable_lift (Viable.more d e) = Viable.more (external_lift d) (viable_lift e)

-- ---- how many tokens a part has

pub length_shorter : {r : ℕ} {a b : Tokens} {n : Option ℤ} {e : Span} → Length r a b n e → length b < length a
length_shorter Length.bare = omega arith
length_shorter Length.constant = omega arith

pub elements_shorter : {r : ℕ} {a b : Tokens} {ts : List Tree} → Elements r a b ts → length b < length a
elements_shorter (Elements.last d) = let w = reads_shorter d in omega arith
elements_shorter (Elements.last_comma d) = let w = reads_shorter d in omega arith
elements_shorter (Elements.more d e) = let w = reads_shorter d in let x = elements_shorter e in omega arith

pub declarator_shorter : {r : ℕ} {a b : Tokens} {v : Variable} → Declarator r a b v → length b < length a
declarator_shorter Declarator.scalar = omega arith
declarator_shorter (Declarator.scalar_start d) = let w = reads_shorter d in omega arith
declarator_shorter (Declarator.array d) = let w = length_shorter d in omega arith
declarator_shorter (Declarator.array_list d e) = let w = length_shorter d in let x = elements_shorter e in omega arith

pub declarators_shorter : {r : ℕ} {a b : Tokens} {vs : List Variable} → Declarators r a b vs → length b < length a
declarators_shorter (Declarators.last d) = let w = declarator_shorter d in omega arith
declarators_shorter (Declarators.more d e) = let w = declarator_shorter d in let x = declarators_shorter e in omega arith

pub vars_shorter : {r : ℕ} {a b : Tokens} {ty : Ty} {vs : List Variable} → Vars r a b ty vs → length b < length a
vars_shorter (Vars.vars h d) = let w = declarators_shorter d in omega arith

pub clause_shorter : {r : ℕ} {a b : Tokens} {i : First} → Clause r a b i → length b < length a
clause_shorter Clause.empty = omega arith
clause_shorter (Clause.act d) = let w = reads_shorter d in omega arith
clause_shorter (Clause.vars d) = let w = vars_shorter d in omega arith

pub optional_shorter : {r : ℕ} {a b : Tokens} {t : Option Tree} → Optional r a b t → length b ≤ length a
optional_shorter Optional.absent = omega arith
optional_shorter (Optional.present d) = let w = reads_shorter d in omega arith

mutual
  pub statement_shorter : {o : Bool} {r : ℕ} {a b : Tokens} {x : Code} → Statement o r a b x → length b < length a
  statement_shorter Statement.empty = omega arith
  statement_shorter (Statement.act d) = let w = reads_shorter d in omega arith
  statement_shorter (Statement.block d) = let w = items_shorter d in omega arith
  statement_shorter (Statement.if_then d e) = let w = reads_shorter d in let x = statement_shorter e in omega arith
  statement_shorter (Statement.if_else d e f) = let w = reads_shorter d in let x = statement_shorter e in let y = statement_shorter f in omega arith
  statement_shorter (Statement.while d e) = let w = reads_shorter d in let x = statement_shorter e in omega arith
  statement_shorter (Statement.do_while d e) = let w = statement_shorter d in let x = reads_shorter e in omega arith
  statement_shorter (Statement.for d e f g) = let w = clause_shorter d in let x = optional_shorter e in let y = optional_shorter f in
      let z = statement_shorter g in omega arith
  statement_shorter (Statement.give d) = let w = optional_shorter d in omega arith
  statement_shorter Statement.break = omega arith
  statement_shorter Statement.continue = omega arith

  pub items_shorter : {r : ℕ} {a b : Tokens} {body : Body} → Items r a b body → length b ≤ length a
  items_shorter Items.none = omega arith
  items_shorter (Items.vars d e) = let w = vars_shorter d in let x = items_shorter e in omega arith
  items_shorter (Items.statement d e) = let w = statement_shorter d in let x = items_shorter e in omega arith

pub parameter_shorter : {r : ℕ} {a b : Tokens} {x : Param} → Parameter r a b x → length b < length a
parameter_shorter (Parameter.scalar h) = omega arith
parameter_shorter (Parameter.array h d) = let w = length_shorter d in omega arith

pub parameters_shorter : {r : ℕ} {a b : Tokens} {xs : List Param} → Parameters r a b xs → length b < length a
parameters_shorter (Parameters.last d) = let w = parameter_shorter d in omega arith
parameters_shorter (Parameters.more d e) = let w = parameter_shorter d in let x = parameters_shorter e in omega arith

pub signature_shorter : {r : ℕ} {a b : Tokens} {xs : List Param} → Signature r a b xs → length b ≤ length a
signature_shorter Signature.empty = omega arith
signature_shorter Signature.void = omega arith
signature_shorter (Signature.parameters d) = let w = parameters_shorter d in omega arith

pub external_shorter : {r : ℕ} {a b : Tokens} {x : Outer} → External r a b x → length b < length a
external_shorter (External.vars d) = let w = vars_shorter d in omega arith
external_shorter (External.prototype h d) = let w = signature_shorter d in omega arith
external_shorter (External.definition h d e) = let w = signature_shorter d in let x = items_shorter e in omega arith
