-- What begins a program is closed under prefixes: where more tokens begin one, fewer do.
use Rattle.std.proofs.Common.{◌≡◌, ℕ, ℤ, Bool, List, [], Option, subst}
use Rattle.c_tree.specs.declared.place.Span.{Span}
use Rattle.c_tree.specs.declared.program.Param.{Param}
use Rattle.c_tree.specs.declared.stmt.Ty.{Ty}
use Rattle.c_tree.specs.Tree.{Tree, Variable, First, Code, Body, Outer}
use Rattle.c_grammar.specs.declared.nonterminal.Nonterminal.TheVariants.{Expression}
use Rattle.c_grammar.specs.Grammar.{Tokens, Begins}
use Rattle.c_grammar.specs.Programs.{Length, Elements, Declarator, Declarators, Vars, Clause, Optional, Statement, Items, Parameter, Parameters, Signature, External, Derives, BeginsLength, BeginsElements, BeginsDeclarator, BeginsDeclarators, BeginsVars, BeginsClause, BeginsStatement, BeginsItems, BeginsParameter, BeginsParameters, BeginsSignature, BeginsExternal, Viable}
use Rattle.c_grammar.proofs.ExpressionPrefixes.{Tail, all, later, join, next, equal, seam, seam_at, first, by_side, begins_at, tail_reads, tail_begins, reads_prefix, begins_prefix}

-- ---- what is derived ends at a tail

pub tail_length : {r : ℕ} {a b : Tokens} {n : Option ℤ} {e : Span} → Length r a b n e → Tail a b
tail_length Length.bare = later (later all)
tail_length Length.constant = later (later (later all))

pub tail_elements : {r : ℕ} {a b : Tokens} {ts : List Tree} → Elements r a b ts → Tail a b
tail_elements (Elements.last d) = tail_reads d
tail_elements (Elements.last_comma d) = next (tail_reads d)
tail_elements (Elements.more d e) = join (next (tail_reads d)) (tail_elements e)

pub tail_declarator : {r : ℕ} {a b : Tokens} {v : Variable} → Declarator r a b v → Tail a b
tail_declarator Declarator.scalar = later all
tail_declarator (Declarator.scalar_start d) = later (later (tail_reads d))
tail_declarator (Declarator.array d) = later (tail_length d)
tail_declarator (Declarator.array_list d e) = later (join (next (next (tail_length d))) (next (tail_elements e)))

pub tail_declarators : {r : ℕ} {a b : Tokens} {vs : List Variable} → Declarators r a b vs → Tail a b
tail_declarators (Declarators.last d) = tail_declarator d
tail_declarators (Declarators.more d e) = join (next (tail_declarator d)) (tail_declarators e)

pub tail_vars : {r : ℕ} {a b : Tokens} {ty : Ty} {vs : List Variable} → Vars r a b ty vs → Tail a b
tail_vars (Vars.vars h d) = later (next (tail_declarators d))

pub tail_clause : {r : ℕ} {a b : Tokens} {i : First} → Clause r a b i → Tail a b
tail_clause Clause.empty = later all
tail_clause (Clause.act d) = next (tail_reads d)
tail_clause (Clause.vars d) = tail_vars d

pub tail_optional : {r : ℕ} {a b : Tokens} {t : Option Tree} → Optional r a b t → Tail a b
tail_optional Optional.absent = all
tail_optional (Optional.present d) = tail_reads d

mutual
  pub tail_statement : {o : Bool} {r : ℕ} {a b : Tokens} {x : Code} → Statement o r a b x → Tail a b
  tail_statement Statement.empty = later all
  tail_statement (Statement.act d) = next (tail_reads d)
  tail_statement (Statement.block d) = later (next (tail_items d))
  tail_statement (Statement.if_then d e) = later (later (join (next (tail_reads d)) (tail_statement e)))
  tail_statement (Statement.if_else d e f) = later (later (join (next (tail_reads d)) (join (next (tail_statement e)) (tail_statement f))))
  tail_statement (Statement.while d e) = later (later (join (next (tail_reads d)) (tail_statement e)))
  tail_statement (Statement.do_while d e) = later (join (next (next (tail_statement d))) (next (next (tail_reads e))))
  tail_statement (Statement.for d e f g) = later (later (join (tail_clause d) (join (next (tail_optional e))
      (join (next (tail_optional f)) (tail_statement g)))))
  tail_statement (Statement.give d) = later (next (tail_optional d))
  tail_statement Statement.break = later (later all)
  tail_statement Statement.continue = later (later all)

  pub tail_items : {r : ℕ} {a b : Tokens} {body : Body} → Items r a b body → Tail a b
  tail_items Items.none = all
  tail_items (Items.vars d e) = join (tail_vars d) (tail_items e)
  tail_items (Items.statement d e) = join (tail_statement d) (tail_items e)

pub tail_parameter : {r : ℕ} {a b : Tokens} {x : Param} → Parameter r a b x → Tail a b
tail_parameter (Parameter.scalar h) = later (later all)
tail_parameter (Parameter.array h d) = later (later (tail_length d))

pub tail_parameters : {r : ℕ} {a b : Tokens} {xs : List Param} → Parameters r a b xs → Tail a b
tail_parameters (Parameters.last d) = tail_parameter d
tail_parameters (Parameters.more d e) = join (next (tail_parameter d)) (tail_parameters e)

pub tail_signature : {r : ℕ} {a b : Tokens} {xs : List Param} → Signature r a b xs → Tail a b
tail_signature Signature.empty = all
tail_signature Signature.void = later all
tail_signature (Signature.parameters d) = tail_parameters d

pub tail_external : {r : ℕ} {a b : Tokens} {x : Outer} → External r a b x → Tail a b
tail_external (External.vars d) = tail_vars d
tail_external (External.prototype h d) = later (later (later (next (next (tail_signature d)))))
tail_external (External.definition h d e) = later (later (later (join (next (next (tail_signature d))) (next (tail_items e)))))

pub tail_derives : {r : ℕ} {a : Tokens} {p : List Outer} → Derives r a p → Tail a []
tail_derives (Derives.last d) = tail_external d
tail_derives (Derives.more d e) = join (tail_external d) (tail_derives e)

pub tail_begins_length : {r : ℕ} {a b : Tokens} → BeginsLength r a b → Tail a b
tail_begins_length BeginsLength.none = all
tail_begins_length BeginsLength.bracket = later all
tail_begins_length BeginsLength.constant = later (later all)
tail_begins_length (BeginsLength.end d) = tail_length d

pub tail_begins_elements : {r : ℕ} {a b : Tokens} → BeginsElements r a b → Tail a b
tail_begins_elements (BeginsElements.last d) = tail_begins d
tail_begins_elements (BeginsElements.more d e) = join (next (tail_reads d)) (tail_begins_elements e)

pub tail_begins_declarator : {r : ℕ} {a b : Tokens} → BeginsDeclarator r a b → Tail a b
tail_begins_declarator BeginsDeclarator.none = all
tail_begins_declarator (BeginsDeclarator.scalar_start d) = later (later (tail_begins d))
tail_begins_declarator (BeginsDeclarator.array d) = later (tail_begins_length d)
tail_begins_declarator (BeginsDeclarator.array_start d) = later (next (tail_length d))
tail_begins_declarator (BeginsDeclarator.array_list d e) = later (join (next (next (tail_length d))) (tail_begins_elements e))
tail_begins_declarator (BeginsDeclarator.array_end d e) = later (join (next (next (tail_length d))) (next (tail_elements e)))

pub tail_begins_declarators : {r : ℕ} {a b : Tokens} → BeginsDeclarators r a b → Tail a b
tail_begins_declarators (BeginsDeclarators.last d) = tail_begins_declarator d
tail_begins_declarators (BeginsDeclarators.more d e) = join (next (tail_declarator d)) (tail_begins_declarators e)

pub tail_begins_vars : {r : ℕ} {a b : Tokens} → BeginsVars r a b → Tail a b
tail_begins_vars BeginsVars.none = all
tail_begins_vars (BeginsVars.vars h d) = later (tail_begins_declarators d)
tail_begins_vars (BeginsVars.end d) = tail_vars d

pub tail_begins_clause : {r : ℕ} {a b : Tokens} → BeginsClause r a b → Tail a b
tail_begins_clause (BeginsClause.act d) = tail_begins d
tail_begins_clause (BeginsClause.vars d) = tail_begins_vars d
tail_begins_clause (BeginsClause.end d) = tail_clause d

mutual
  pub tail_begins_statement : {r : ℕ} {a b : Tokens} → BeginsStatement r a b → Tail a b
  tail_begins_statement (BeginsStatement.act d) = tail_begins d
  tail_begins_statement (BeginsStatement.block d) = later (tail_begins_items d)
  tail_begins_statement BeginsStatement.if_word = later all
  tail_begins_statement (BeginsStatement.if_test d) = later (later (tail_begins d))
  tail_begins_statement (BeginsStatement.if_then d e) = later (later (join (next (tail_reads d)) (tail_begins_statement e)))
  tail_begins_statement (BeginsStatement.if_else d e f) = later (later (join (next (tail_reads d)) (join (next (tail_statement e)) (tail_begins_statement f))))
  tail_begins_statement BeginsStatement.while_word = later all
  tail_begins_statement (BeginsStatement.while_test d) = later (later (tail_begins d))
  tail_begins_statement (BeginsStatement.while d e) = later (later (join (next (tail_reads d)) (tail_begins_statement e)))
  tail_begins_statement (BeginsStatement.do_body d) = later (tail_begins_statement d)
  tail_begins_statement (BeginsStatement.do_word d) = later (next (tail_statement d))
  tail_begins_statement (BeginsStatement.do_test d e) = later (join (next (next (tail_statement d))) (tail_begins e))
  tail_begins_statement (BeginsStatement.do_close d e) = later (join (next (next (tail_statement d))) (next (tail_reads e)))
  tail_begins_statement BeginsStatement.for_word = later all
  tail_begins_statement (BeginsStatement.for_first d) = later (later (tail_begins_clause d))
  tail_begins_statement (BeginsStatement.for_test d e) = later (later (join (tail_clause d) (tail_begins e)))
  tail_begins_statement (BeginsStatement.for_step d e f) = later (later (join (tail_clause d) (join (next (tail_optional e)) (tail_begins f))))
  tail_begins_statement (BeginsStatement.for d e f g) = later (later (join (tail_clause d)
      (join (next (tail_optional e)) (join (next (tail_optional f)) (tail_begins_statement g)))))
  tail_begins_statement (BeginsStatement.give d) = later (tail_begins d)
  tail_begins_statement BeginsStatement.break = later all
  tail_begins_statement BeginsStatement.continue = later all
  tail_begins_statement (BeginsStatement.end d) = tail_statement d

  pub tail_begins_items : {r : ℕ} {a b : Tokens} → BeginsItems r a b → Tail a b
  tail_begins_items (BeginsItems.vars d) = tail_begins_vars d
  tail_begins_items (BeginsItems.statement d) = tail_begins_statement d
  tail_begins_items (BeginsItems.more_vars d e) = join (tail_vars d) (tail_begins_items e)
  tail_begins_items (BeginsItems.more_statement d e) = join (tail_statement d) (tail_begins_items e)

pub tail_begins_parameter : {r : ℕ} {a b : Tokens} → BeginsParameter r a b → Tail a b
tail_begins_parameter BeginsParameter.none = all
tail_begins_parameter (BeginsParameter.type h) = later all
tail_begins_parameter (BeginsParameter.array h d) = later (later (tail_begins_length d))

pub tail_begins_parameters : {r : ℕ} {a b : Tokens} → BeginsParameters r a b → Tail a b
tail_begins_parameters (BeginsParameters.last d) = tail_begins_parameter d
tail_begins_parameters (BeginsParameters.more d e) = join (next (tail_parameter d)) (tail_begins_parameters e)

pub tail_begins_signature : {r : ℕ} {a b : Tokens} → BeginsSignature r a b → Tail a b
tail_begins_signature BeginsSignature.void = later all
tail_begins_signature (BeginsSignature.parameters d) = tail_begins_parameters d

pub tail_begins_external : {r : ℕ} {a b : Tokens} → BeginsExternal r a b → Tail a b
tail_begins_external BeginsExternal.none = all
tail_begins_external (BeginsExternal.vars d) = tail_begins_vars d
tail_begins_external (BeginsExternal.result h) = later all
tail_begins_external (BeginsExternal.name h) = later (later all)
tail_begins_external (BeginsExternal.signature h d) = later (later (later (tail_begins_signature d)))
tail_begins_external (BeginsExternal.close h d) = later (later (later (next (tail_signature d))))
tail_begins_external (BeginsExternal.body h d e) = later (later (later (join (next (next (tail_signature d))) (tail_begins_items e))))
tail_begins_external (BeginsExternal.end d) = tail_external d

pub tail_viable : {r : ℕ} {a b : Tokens} → Viable r a b → Tail a b
tail_viable (Viable.external d) = tail_begins_external d
tail_viable (Viable.more d e) = join (tail_external d) (tail_viable e)

-- ---- what begins a part down to a place begins it down to the same place

pub begins_length_at : {r : ℕ} {a b c : Tokens} → b ≡ c → BeginsLength r a b → BeginsLength r a c
begins_length_at {r} {a} {b} {c} e d = subst (BeginsLength r a) e d

pub begins_elements_at : {r : ℕ} {a b c : Tokens} → b ≡ c → BeginsElements r a b → BeginsElements r a c
begins_elements_at {r} {a} {b} {c} e d = subst (BeginsElements r a) e d

pub begins_declarator_at : {r : ℕ} {a b c : Tokens} → b ≡ c → BeginsDeclarator r a b → BeginsDeclarator r a c
begins_declarator_at {r} {a} {b} {c} e d = subst (BeginsDeclarator r a) e d

pub begins_vars_at : {r : ℕ} {a b c : Tokens} → b ≡ c → BeginsVars r a b → BeginsVars r a c
begins_vars_at {r} {a} {b} {c} e d = subst (BeginsVars r a) e d

pub begins_clause_at : {r : ℕ} {a b c : Tokens} → b ≡ c → BeginsClause r a b → BeginsClause r a c
begins_clause_at {r} {a} {b} {c} e d = subst (BeginsClause r a) e d

pub begins_statement_at : {r : ℕ} {a b c : Tokens} → b ≡ c → BeginsStatement r a b → BeginsStatement r a c
begins_statement_at {r} {a} {b} {c} e d = subst (BeginsStatement r a) e d

pub begins_items_at : {r : ℕ} {a b c : Tokens} → b ≡ c → BeginsItems r a b → BeginsItems r a c
begins_items_at {r} {a} {b} {c} e d = subst (BeginsItems r a) e d

pub begins_parameter_at : {r : ℕ} {a b c : Tokens} → b ≡ c → BeginsParameter r a b → BeginsParameter r a c
begins_parameter_at {r} {a} {b} {c} e d = subst (BeginsParameter r a) e d

pub begins_signature_at : {r : ℕ} {a b c : Tokens} → b ≡ c → BeginsSignature r a b → BeginsSignature r a c
begins_signature_at {r} {a} {b} {c} e d = subst (BeginsSignature r a) e d

pub begins_external_at : {r : ℕ} {a b c : Tokens} → b ≡ c → BeginsExternal r a b → BeginsExternal r a c
begins_external_at {r} {a} {b} {c} e d = subst (BeginsExternal r a) e d

-- ---- prefixes

pub length_prefix : {r : ℕ} {a b c : Tokens} {n : Option ℤ} {e : Span} → Length r a b n e → Tail a c → Tail c b → BeginsLength r a c
length_prefix Length.bare all y = BeginsLength.none
length_prefix Length.bare (later all) y = BeginsLength.bracket
length_prefix Length.bare (later (later x)) y = begins_length_at (equal x y) (BeginsLength.end Length.bare)
length_prefix Length.constant all y = BeginsLength.none
length_prefix Length.constant (later all) y = BeginsLength.bracket
length_prefix Length.constant (later (later all)) y = BeginsLength.constant
length_prefix Length.constant (later (later (later x))) y = begins_length_at (equal x y) (BeginsLength.end Length.constant)

pub elements_prefix : {r : ℕ} {a b c : Tokens} {ts : List Tree} → Elements r a b ts → Tail a c → Tail c b → BeginsElements r a c
elements_prefix (Elements.last d) x y = BeginsElements.last (reads_prefix d x y)
elements_prefix (Elements.last_comma d) x y = by_side (seam x (tail_reads d)) (λ w1. BeginsElements.last (reads_prefix d x w1))
    (λ z1. begins_elements_at (equal z1 y) (BeginsElements.more d (BeginsElements.last Begins.none)))
elements_prefix (Elements.more d e) x y = by_side (seam x (tail_reads d)) (λ w1. BeginsElements.last (reads_prefix d x w1))
    (λ z1. BeginsElements.more d (elements_prefix e z1 y))

pub declarator_prefix : {r : ℕ} {a b c : Tokens} {v : Variable} → Declarator r a b v → Tail a c → Tail c b → BeginsDeclarator r a c
declarator_prefix Declarator.scalar all y = BeginsDeclarator.none
declarator_prefix Declarator.scalar (later x) y = begins_declarator_at (equal x y) (BeginsDeclarator.array BeginsLength.none)
declarator_prefix (Declarator.scalar_start d) all y = BeginsDeclarator.none
declarator_prefix (Declarator.scalar_start d) (later all) y = BeginsDeclarator.array BeginsLength.none
declarator_prefix (Declarator.scalar_start d) (later (later x)) y = BeginsDeclarator.scalar_start (reads_prefix d x y)
declarator_prefix (Declarator.array d) all y = BeginsDeclarator.none
declarator_prefix (Declarator.array d) (later x) y = BeginsDeclarator.array (length_prefix d x y)
declarator_prefix (Declarator.array_list d e) all y = BeginsDeclarator.none
declarator_prefix (Declarator.array_list d e) (later x) y = by_side (seam x (tail_length d)) (λ w1. BeginsDeclarator.array (length_prefix d x w1))
    (λ z1. by_side (first z1) (λ q. begins_declarator_at q (BeginsDeclarator.array_start d))
    (λ z2. by_side (seam z2 (tail_elements e)) (λ w3. BeginsDeclarator.array_list d (elements_prefix e z2 w3))
    (λ z3. begins_declarator_at (equal z3 y) (BeginsDeclarator.array_end d e))))

pub declarators_prefix : {r : ℕ} {a b c : Tokens} {vs : List Variable} → Declarators r a b vs → Tail a c → Tail c b → BeginsDeclarators r a c
declarators_prefix (Declarators.last d) x y = BeginsDeclarators.last (declarator_prefix d x y)
declarators_prefix (Declarators.more d e) x y = by_side (seam x (tail_declarator d)) (λ w1. BeginsDeclarators.last (declarator_prefix d x w1))
    (λ z1. BeginsDeclarators.more d (declarators_prefix e z1 y))

pub vars_prefix : {r : ℕ} {a b c : Tokens} {ty : Ty} {vs : List Variable} → Vars r a b ty vs → Tail a c → Tail c b → BeginsVars r a c
vars_prefix (Vars.vars h d) all y = BeginsVars.none
vars_prefix (Vars.vars h d) (later x) y = by_side (seam x (tail_declarators d)) (λ w1. BeginsVars.vars h (declarators_prefix d x w1))
    (λ z1. begins_vars_at (equal z1 y) (BeginsVars.end (Vars.vars h d)))

pub clause_prefix : {r : ℕ} {a b c : Tokens} {i : First} → Clause r a b i → Tail a c → Tail c b → BeginsClause r a c
clause_prefix Clause.empty all y = BeginsClause.act Begins.none
clause_prefix Clause.empty (later x) y = begins_clause_at (equal x y) (BeginsClause.end Clause.empty)
clause_prefix (Clause.act d) x y = by_side (seam x (tail_reads d)) (λ w1. BeginsClause.act (reads_prefix d x w1))
    (λ z1. begins_clause_at (equal z1 y) (BeginsClause.end (Clause.act d)))
clause_prefix (Clause.vars d) x y = BeginsClause.vars (vars_prefix d x y)

pub optional_prefix : {r : ℕ} {a b c : Tokens} {t : Option Tree} → Optional r a b t → Tail a c → Tail c b → Begins Expression r a c
optional_prefix Optional.absent x y = begins_at (equal x y) Begins.none
optional_prefix (Optional.present d) x y = reads_prefix d x y

mutual
  pub statement_prefix : {o : Bool} {r : ℕ} {a b c : Tokens} {x : Code} → Statement o r a b x → Tail a c → Tail c b → BeginsStatement r a c
  statement_prefix Statement.empty all y = BeginsStatement.act Begins.none
  statement_prefix Statement.empty (later x) y = begins_statement_at (equal x y) (BeginsStatement.end Statement.empty)
  statement_prefix (Statement.act d) x y = by_side (seam x (tail_reads d)) (λ w1. BeginsStatement.act (reads_prefix d x w1))
      (λ z1. begins_statement_at (equal z1 y) (BeginsStatement.end (Statement.act d)))
  statement_prefix (Statement.block d) all y = BeginsStatement.act Begins.none
  statement_prefix (Statement.block d) (later x) y = by_side (seam x (tail_items d)) (λ w1. BeginsStatement.block (items_prefix d x w1))
      (λ z1. begins_statement_at (equal z1 y) (BeginsStatement.end (Statement.block d)))
  statement_prefix (Statement.if_then d e) all y = BeginsStatement.act Begins.none
  statement_prefix (Statement.if_then d e) (later all) y = BeginsStatement.if_word
  statement_prefix (Statement.if_then d e) (later (later x)) y = by_side (seam x (tail_reads d)) (λ w1. BeginsStatement.if_test (reads_prefix d x w1))
      (λ z1. BeginsStatement.if_then d (statement_prefix e z1 y))
  statement_prefix (Statement.if_else d e f) all y = BeginsStatement.act Begins.none
  statement_prefix (Statement.if_else d e f) (later all) y = BeginsStatement.if_word
  statement_prefix (Statement.if_else d e f) (later (later x)) y = by_side (seam x (tail_reads d)) (λ w1. BeginsStatement.if_test (reads_prefix d x w1))
      (λ z1. by_side (seam z1 (tail_statement e)) (λ w2. BeginsStatement.if_then d (statement_prefix e z1 w2))
      (λ z2. BeginsStatement.if_else d e (statement_prefix f z2 y)))
  statement_prefix (Statement.while d e) all y = BeginsStatement.act Begins.none
  statement_prefix (Statement.while d e) (later all) y = BeginsStatement.while_word
  statement_prefix (Statement.while d e) (later (later x)) y = by_side (seam x (tail_reads d)) (λ w1. BeginsStatement.while_test (reads_prefix d x w1))
      (λ z1. BeginsStatement.while d (statement_prefix e z1 y))
  statement_prefix (Statement.do_while d e) all y = BeginsStatement.act Begins.none
  statement_prefix (Statement.do_while d e) (later x) y = by_side (seam x (tail_statement d)) (λ w1. BeginsStatement.do_body (statement_prefix d x w1))
      (λ z1. by_side (first z1) (λ q. begins_statement_at q (BeginsStatement.do_word d))
      (λ z2. by_side (seam z2 (tail_reads e)) (λ w3. BeginsStatement.do_test d (reads_prefix e z2 w3))
      (λ z3. by_side (first z3) (λ q. begins_statement_at q (BeginsStatement.do_close d e))
      (λ z4. begins_statement_at (equal z4 y) (BeginsStatement.end (Statement.do_while d e))))))
  statement_prefix (Statement.for d e f g) all y = BeginsStatement.act Begins.none
  statement_prefix (Statement.for d e f g) (later all) y = BeginsStatement.for_word
  statement_prefix (Statement.for d e f g) (later (later x)) y = by_side (seam_at x (tail_clause d)) (λ w1. BeginsStatement.for_first (clause_prefix d x w1))
      (λ z1. by_side (seam z1 (tail_optional e)) (λ w2. BeginsStatement.for_test d (optional_prefix e z1 w2))
      (λ z2. by_side (seam z2 (tail_optional f)) (λ w3. BeginsStatement.for_step d e (optional_prefix f z2 w3))
      (λ z3. BeginsStatement.for d e f (statement_prefix g z3 y))))
  statement_prefix (Statement.give d) all y = BeginsStatement.act Begins.none
  statement_prefix (Statement.give d) (later x) y = by_side (seam x (tail_optional d)) (λ w1. BeginsStatement.give (optional_prefix d x w1))
      (λ z1. begins_statement_at (equal z1 y) (BeginsStatement.end (Statement.give d)))
  statement_prefix Statement.break all y = BeginsStatement.act Begins.none
  statement_prefix Statement.break (later all) y = BeginsStatement.break
  statement_prefix Statement.break (later (later x)) y = begins_statement_at (equal x y) (BeginsStatement.end Statement.break)
  statement_prefix Statement.continue all y = BeginsStatement.act Begins.none
  statement_prefix Statement.continue (later all) y = BeginsStatement.continue
  statement_prefix Statement.continue (later (later x)) y = begins_statement_at (equal x y) (BeginsStatement.end Statement.continue)

  pub items_prefix : {r : ℕ} {a b c : Tokens} {body : Body} → Items r a b body → Tail a c → Tail c b → BeginsItems r a c
  items_prefix Items.none x y = begins_items_at (equal x y) (BeginsItems.vars BeginsVars.none)
  items_prefix (Items.vars d e) x y = by_side (seam_at x (tail_vars d)) (λ w1. BeginsItems.vars (vars_prefix d x w1))
      (λ z1. BeginsItems.more_vars d (items_prefix e z1 y))
  items_prefix (Items.statement d e) x y = by_side (seam_at x (tail_statement d)) (λ w1. BeginsItems.statement (statement_prefix d x w1))
      (λ z1. BeginsItems.more_statement d (items_prefix e z1 y))

pub parameter_prefix : {r : ℕ} {a b c : Tokens} {x : Param} → Parameter r a b x → Tail a c → Tail c b → BeginsParameter r a c
parameter_prefix (Parameter.scalar h) all y = BeginsParameter.none
parameter_prefix (Parameter.scalar h) (later all) y = BeginsParameter.type h
parameter_prefix (Parameter.scalar h) (later (later x)) y = begins_parameter_at (equal x y) (BeginsParameter.array h BeginsLength.none)
parameter_prefix (Parameter.array h d) all y = BeginsParameter.none
parameter_prefix (Parameter.array h d) (later all) y = BeginsParameter.type h
parameter_prefix (Parameter.array h d) (later (later x)) y = BeginsParameter.array h (length_prefix d x y)

pub parameters_prefix : {r : ℕ} {a b c : Tokens} {xs : List Param} → Parameters r a b xs → Tail a c → Tail c b → BeginsParameters r a c
parameters_prefix (Parameters.last d) x y = BeginsParameters.last (parameter_prefix d x y)
parameters_prefix (Parameters.more d e) x y = by_side (seam x (tail_parameter d)) (λ w1. BeginsParameters.last (parameter_prefix d x w1))
    (λ z1. BeginsParameters.more d (parameters_prefix e z1 y))

pub signature_prefix : {r : ℕ} {a b c : Tokens} {xs : List Param} → Signature r a b xs → Tail a c → Tail c b → BeginsSignature r a c
signature_prefix Signature.empty x y = begins_signature_at (equal x y) (BeginsSignature.parameters (BeginsParameters.last BeginsParameter.none))
signature_prefix Signature.void all y = BeginsSignature.parameters (BeginsParameters.last BeginsParameter.none)
signature_prefix Signature.void (later x) y = begins_signature_at (equal x y) BeginsSignature.void
signature_prefix (Signature.parameters d) x y = BeginsSignature.parameters (parameters_prefix d x y)

pub external_prefix : {r : ℕ} {a b c : Tokens} {x : Outer} → External r a b x → Tail a c → Tail c b → BeginsExternal r a c
external_prefix (External.vars d) x y = BeginsExternal.vars (vars_prefix d x y)
external_prefix (External.prototype h d) all y = BeginsExternal.none
external_prefix (External.prototype h d) (later all) y = BeginsExternal.result h
external_prefix (External.prototype h d) (later (later all)) y = BeginsExternal.name h
external_prefix (External.prototype h d) (later (later (later x))) y = by_side (seam x (tail_signature d))
    (λ w1. BeginsExternal.signature h (signature_prefix d x w1)) (λ z1. by_side (first z1) (λ q. begins_external_at q (BeginsExternal.close h d))
    (λ z2. begins_external_at (equal z2 y) (BeginsExternal.end (External.prototype h d))))
external_prefix (External.definition h d e) all y = BeginsExternal.none
external_prefix (External.definition h d e) (later all) y = BeginsExternal.result h
external_prefix (External.definition h d e) (later (later all)) y = BeginsExternal.name h
external_prefix (External.definition h d e) (later (later (later x))) y = by_side (seam x (tail_signature d))
    (λ w1. BeginsExternal.signature h (signature_prefix d x w1)) (λ z1. by_side (first z1) (λ q. begins_external_at q (BeginsExternal.close h d))
    (λ z2. by_side (seam z2 (tail_items e)) (λ w3. BeginsExternal.body h d (items_prefix e z2 w3))
    (λ z3. begins_external_at (equal z3 y) (BeginsExternal.end (External.definition h d e)))))

pub derives_prefix : {r : ℕ} {a c : Tokens} {p : List Outer} → Derives r a p → Tail a c → Tail c [] → Viable r a c
derives_prefix (Derives.last d) x y = Viable.external (external_prefix d x y)
derives_prefix (Derives.more d e) x y = by_side (seam_at x (tail_external d)) (λ w1. Viable.external (external_prefix d x w1))
    (λ z1. Viable.more d (derives_prefix e z1 y))

pub begins_length_prefix : {r : ℕ} {a b c : Tokens} → BeginsLength r a b → Tail a c → Tail c b → BeginsLength r a c
begins_length_prefix BeginsLength.none x y = begins_length_at (equal x y) BeginsLength.none
begins_length_prefix BeginsLength.bracket all y = BeginsLength.none
begins_length_prefix BeginsLength.bracket (later x) y = begins_length_at (equal x y) BeginsLength.bracket
begins_length_prefix BeginsLength.constant all y = BeginsLength.none
begins_length_prefix BeginsLength.constant (later all) y = BeginsLength.bracket
begins_length_prefix BeginsLength.constant (later (later x)) y = begins_length_at (equal x y) BeginsLength.constant
begins_length_prefix (BeginsLength.end d) x y = length_prefix d x y

pub begins_elements_prefix : {r : ℕ} {a b c : Tokens} → BeginsElements r a b → Tail a c → Tail c b → BeginsElements r a c
begins_elements_prefix (BeginsElements.last d) x y = BeginsElements.last (begins_prefix d x y)
begins_elements_prefix (BeginsElements.more d e) x y = by_side (seam x (tail_reads d)) (λ w1. BeginsElements.last (reads_prefix d x w1))
    (λ z1. BeginsElements.more d (begins_elements_prefix e z1 y))

pub begins_declarator_prefix : {r : ℕ} {a b c : Tokens} → BeginsDeclarator r a b → Tail a c → Tail c b → BeginsDeclarator r a c
begins_declarator_prefix BeginsDeclarator.none x y = begins_declarator_at (equal x y) BeginsDeclarator.none
begins_declarator_prefix (BeginsDeclarator.scalar_start d) all y = BeginsDeclarator.none
begins_declarator_prefix (BeginsDeclarator.scalar_start d) (later all) y = BeginsDeclarator.array BeginsLength.none
begins_declarator_prefix (BeginsDeclarator.scalar_start d) (later (later x)) y = BeginsDeclarator.scalar_start (begins_prefix d x y)
begins_declarator_prefix (BeginsDeclarator.array d) all y = BeginsDeclarator.none
begins_declarator_prefix (BeginsDeclarator.array d) (later x) y = BeginsDeclarator.array (begins_length_prefix d x y)
begins_declarator_prefix (BeginsDeclarator.array_start d) all y = BeginsDeclarator.none
begins_declarator_prefix (BeginsDeclarator.array_start d) (later x) y = by_side (seam x (tail_length d)) (λ w1. BeginsDeclarator.array (length_prefix d x w1))
    (λ z1. begins_declarator_at (equal z1 y) (BeginsDeclarator.array_start d))
begins_declarator_prefix (BeginsDeclarator.array_list d e) all y = BeginsDeclarator.none
begins_declarator_prefix (BeginsDeclarator.array_list d e) (later x) y = by_side (seam x (tail_length d)) (λ w1. BeginsDeclarator.array (length_prefix d x w1))
    (λ z1. by_side (first z1) (λ q. begins_declarator_at q (BeginsDeclarator.array_start d))
    (λ z2. BeginsDeclarator.array_list d (begins_elements_prefix e z2 y)))
begins_declarator_prefix (BeginsDeclarator.array_end d e) all y = BeginsDeclarator.none
begins_declarator_prefix (BeginsDeclarator.array_end d e) (later x) y = by_side (seam x (tail_length d)) (λ w1. BeginsDeclarator.array (length_prefix d x w1))
    (λ z1. by_side (first z1) (λ q. begins_declarator_at q (BeginsDeclarator.array_start d))
    (λ z2. by_side (seam z2 (tail_elements e)) (λ w3. BeginsDeclarator.array_list d (elements_prefix e z2 w3))
    (λ z3. begins_declarator_at (equal z3 y) (BeginsDeclarator.array_end d e))))

pub begins_declarators_prefix : {r : ℕ} {a b c : Tokens} → BeginsDeclarators r a b → Tail a c → Tail c b → BeginsDeclarators r a c
begins_declarators_prefix (BeginsDeclarators.last d) x y = BeginsDeclarators.last (begins_declarator_prefix d x y)
begins_declarators_prefix (BeginsDeclarators.more d e) x y = by_side (seam x (tail_declarator d)) (λ w1. BeginsDeclarators.last (declarator_prefix d x w1))
    (λ z1. BeginsDeclarators.more d (begins_declarators_prefix e z1 y))

pub begins_vars_prefix : {r : ℕ} {a b c : Tokens} → BeginsVars r a b → Tail a c → Tail c b → BeginsVars r a c
begins_vars_prefix BeginsVars.none x y = begins_vars_at (equal x y) BeginsVars.none
begins_vars_prefix (BeginsVars.vars h d) all y = BeginsVars.none
begins_vars_prefix (BeginsVars.vars h d) (later x) y = BeginsVars.vars h (begins_declarators_prefix d x y)
begins_vars_prefix (BeginsVars.end d) x y = vars_prefix d x y

pub begins_clause_prefix : {r : ℕ} {a b c : Tokens} → BeginsClause r a b → Tail a c → Tail c b → BeginsClause r a c
begins_clause_prefix (BeginsClause.act d) x y = BeginsClause.act (begins_prefix d x y)
begins_clause_prefix (BeginsClause.vars d) x y = BeginsClause.vars (begins_vars_prefix d x y)
begins_clause_prefix (BeginsClause.end d) x y = clause_prefix d x y

mutual
  pub begins_statement_prefix : {r : ℕ} {a b c : Tokens} → BeginsStatement r a b → Tail a c → Tail c b → BeginsStatement r a c
  begins_statement_prefix (BeginsStatement.act d) x y = BeginsStatement.act (begins_prefix d x y)
  begins_statement_prefix (BeginsStatement.block d) all y = BeginsStatement.act Begins.none
  begins_statement_prefix (BeginsStatement.block d) (later x) y = BeginsStatement.block (begins_items_prefix d x y)
  begins_statement_prefix BeginsStatement.if_word all y = BeginsStatement.act Begins.none
  begins_statement_prefix BeginsStatement.if_word (later x) y = begins_statement_at (equal x y) BeginsStatement.if_word
  begins_statement_prefix (BeginsStatement.if_test d) all y = BeginsStatement.act Begins.none
  begins_statement_prefix (BeginsStatement.if_test d) (later all) y = BeginsStatement.if_word
  begins_statement_prefix (BeginsStatement.if_test d) (later (later x)) y = BeginsStatement.if_test (begins_prefix d x y)
  begins_statement_prefix (BeginsStatement.if_then d e) all y = BeginsStatement.act Begins.none
  begins_statement_prefix (BeginsStatement.if_then d e) (later all) y = BeginsStatement.if_word
  begins_statement_prefix (BeginsStatement.if_then d e) (later (later x)) y = by_side (seam x (tail_reads d))
      (λ w1. BeginsStatement.if_test (reads_prefix d x w1)) (λ z1. BeginsStatement.if_then d (begins_statement_prefix e z1 y))
  begins_statement_prefix (BeginsStatement.if_else d e f) all y = BeginsStatement.act Begins.none
  begins_statement_prefix (BeginsStatement.if_else d e f) (later all) y = BeginsStatement.if_word
  begins_statement_prefix (BeginsStatement.if_else d e f) (later (later x)) y = by_side (seam x (tail_reads d))
      (λ w1. BeginsStatement.if_test (reads_prefix d x w1)) (λ z1. by_side (seam z1 (tail_statement e))
      (λ w2. BeginsStatement.if_then d (statement_prefix e z1 w2)) (λ z2. BeginsStatement.if_else d e (begins_statement_prefix f z2 y)))
  begins_statement_prefix BeginsStatement.while_word all y = BeginsStatement.act Begins.none
  begins_statement_prefix BeginsStatement.while_word (later x) y = begins_statement_at (equal x y) BeginsStatement.while_word
  begins_statement_prefix (BeginsStatement.while_test d) all y = BeginsStatement.act Begins.none
  begins_statement_prefix (BeginsStatement.while_test d) (later all) y = BeginsStatement.while_word
  begins_statement_prefix (BeginsStatement.while_test d) (later (later x)) y = BeginsStatement.while_test (begins_prefix d x y)
  begins_statement_prefix (BeginsStatement.while d e) all y = BeginsStatement.act Begins.none
  begins_statement_prefix (BeginsStatement.while d e) (later all) y = BeginsStatement.while_word
  begins_statement_prefix (BeginsStatement.while d e) (later (later x)) y = by_side (seam x (tail_reads d))
      (λ w1. BeginsStatement.while_test (reads_prefix d x w1)) (λ z1. BeginsStatement.while d (begins_statement_prefix e z1 y))
  begins_statement_prefix (BeginsStatement.do_body d) all y = BeginsStatement.act Begins.none
  begins_statement_prefix (BeginsStatement.do_body d) (later x) y = BeginsStatement.do_body (begins_statement_prefix d x y)
  begins_statement_prefix (BeginsStatement.do_word d) all y = BeginsStatement.act Begins.none
  begins_statement_prefix (BeginsStatement.do_word d) (later x) y = by_side (seam x (tail_statement d)) (λ w1. BeginsStatement.do_body (statement_prefix d x w1))
      (λ z1. begins_statement_at (equal z1 y) (BeginsStatement.do_word d))
  begins_statement_prefix (BeginsStatement.do_test d e) all y = BeginsStatement.act Begins.none
  begins_statement_prefix (BeginsStatement.do_test d e) (later x) y = by_side (seam x (tail_statement d))
      (λ w1. BeginsStatement.do_body (statement_prefix d x w1)) (λ z1. by_side (first z1) (λ q. begins_statement_at q (BeginsStatement.do_word d))
      (λ z2. BeginsStatement.do_test d (begins_prefix e z2 y)))
  begins_statement_prefix (BeginsStatement.do_close d e) all y = BeginsStatement.act Begins.none
  begins_statement_prefix (BeginsStatement.do_close d e) (later x) y = by_side (seam x (tail_statement d))
      (λ w1. BeginsStatement.do_body (statement_prefix d x w1)) (λ z1. by_side (first z1) (λ q. begins_statement_at q (BeginsStatement.do_word d))
      (λ z2. by_side (seam z2 (tail_reads e)) (λ w3. BeginsStatement.do_test d (reads_prefix e z2 w3))
      (λ z3. begins_statement_at (equal z3 y) (BeginsStatement.do_close d e))))
  begins_statement_prefix BeginsStatement.for_word all y = BeginsStatement.act Begins.none
  begins_statement_prefix BeginsStatement.for_word (later x) y = begins_statement_at (equal x y) BeginsStatement.for_word
  begins_statement_prefix (BeginsStatement.for_first d) all y = BeginsStatement.act Begins.none
  begins_statement_prefix (BeginsStatement.for_first d) (later all) y = BeginsStatement.for_word
  begins_statement_prefix (BeginsStatement.for_first d) (later (later x)) y = BeginsStatement.for_first (begins_clause_prefix d x y)
  begins_statement_prefix (BeginsStatement.for_test d e) all y = BeginsStatement.act Begins.none
  begins_statement_prefix (BeginsStatement.for_test d e) (later all) y = BeginsStatement.for_word
  begins_statement_prefix (BeginsStatement.for_test d e) (later (later x)) y = by_side (seam_at x (tail_clause d))
      (λ w1. BeginsStatement.for_first (clause_prefix d x w1)) (λ z1. BeginsStatement.for_test d (begins_prefix e z1 y))
  begins_statement_prefix (BeginsStatement.for_step d e f) all y = BeginsStatement.act Begins.none
  begins_statement_prefix (BeginsStatement.for_step d e f) (later all) y = BeginsStatement.for_word
  begins_statement_prefix (BeginsStatement.for_step d e f) (later (later x)) y = by_side (seam_at x (tail_clause d))
      (λ w1. BeginsStatement.for_first (clause_prefix d x w1)) (λ z1. by_side (seam z1 (tail_optional e))
      (λ w2. BeginsStatement.for_test d (optional_prefix e z1 w2)) (λ z2. BeginsStatement.for_step d e (begins_prefix f z2 y)))
  begins_statement_prefix (BeginsStatement.for d e f g) all y = BeginsStatement.act Begins.none
  begins_statement_prefix (BeginsStatement.for d e f g) (later all) y = BeginsStatement.for_word
  begins_statement_prefix (BeginsStatement.for d e f g) (later (later x)) y = by_side (seam_at x (tail_clause d))
      (λ w1. BeginsStatement.for_first (clause_prefix d x w1)) (λ z1. by_side (seam z1 (tail_optional e))
      (λ w2. BeginsStatement.for_test d (optional_prefix e z1 w2)) (λ z2. by_side (seam z2 (tail_optional f))
      (λ w3. BeginsStatement.for_step d e (optional_prefix f z2 w3)) (λ z3. BeginsStatement.for d e f (begins_statement_prefix g z3 y))))
  begins_statement_prefix (BeginsStatement.give d) all y = BeginsStatement.act Begins.none
  begins_statement_prefix (BeginsStatement.give d) (later x) y = BeginsStatement.give (begins_prefix d x y)
  begins_statement_prefix BeginsStatement.break all y = BeginsStatement.act Begins.none
  begins_statement_prefix BeginsStatement.break (later x) y = begins_statement_at (equal x y) BeginsStatement.break
  begins_statement_prefix BeginsStatement.continue all y = BeginsStatement.act Begins.none
  begins_statement_prefix BeginsStatement.continue (later x) y = begins_statement_at (equal x y) BeginsStatement.continue
  begins_statement_prefix (BeginsStatement.end d) x y = statement_prefix d x y

  pub begins_items_prefix : {r : ℕ} {a b c : Tokens} → BeginsItems r a b → Tail a c → Tail c b → BeginsItems r a c
  begins_items_prefix (BeginsItems.vars d) x y = BeginsItems.vars (begins_vars_prefix d x y)
  begins_items_prefix (BeginsItems.statement d) x y = BeginsItems.statement (begins_statement_prefix d x y)
  begins_items_prefix (BeginsItems.more_vars d e) x y = by_side (seam_at x (tail_vars d)) (λ w1. BeginsItems.vars (vars_prefix d x w1))
      (λ z1. BeginsItems.more_vars d (begins_items_prefix e z1 y))
  begins_items_prefix (BeginsItems.more_statement d e) x y = by_side (seam_at x (tail_statement d)) (λ w1. BeginsItems.statement (statement_prefix d x w1))
      (λ z1. BeginsItems.more_statement d (begins_items_prefix e z1 y))

pub begins_parameter_prefix : {r : ℕ} {a b c : Tokens} → BeginsParameter r a b → Tail a c → Tail c b → BeginsParameter r a c
begins_parameter_prefix BeginsParameter.none x y = begins_parameter_at (equal x y) BeginsParameter.none
begins_parameter_prefix (BeginsParameter.type h) all y = BeginsParameter.none
begins_parameter_prefix (BeginsParameter.type h) (later x) y = begins_parameter_at (equal x y) (BeginsParameter.type h)
begins_parameter_prefix (BeginsParameter.array h d) all y = BeginsParameter.none
begins_parameter_prefix (BeginsParameter.array h d) (later all) y = BeginsParameter.type h
begins_parameter_prefix (BeginsParameter.array h d) (later (later x)) y = BeginsParameter.array h (begins_length_prefix d x y)

pub begins_parameters_prefix : {r : ℕ} {a b c : Tokens} → BeginsParameters r a b → Tail a c → Tail c b → BeginsParameters r a c
begins_parameters_prefix (BeginsParameters.last d) x y = BeginsParameters.last (begins_parameter_prefix d x y)
begins_parameters_prefix (BeginsParameters.more d e) x y = by_side (seam x (tail_parameter d)) (λ w1. BeginsParameters.last (parameter_prefix d x w1))
    (λ z1. BeginsParameters.more d (begins_parameters_prefix e z1 y))

pub begins_signature_prefix : {r : ℕ} {a b c : Tokens} → BeginsSignature r a b → Tail a c → Tail c b → BeginsSignature r a c
begins_signature_prefix BeginsSignature.void all y = BeginsSignature.parameters (BeginsParameters.last BeginsParameter.none)
begins_signature_prefix BeginsSignature.void (later x) y = begins_signature_at (equal x y) BeginsSignature.void
begins_signature_prefix (BeginsSignature.parameters d) x y = BeginsSignature.parameters (begins_parameters_prefix d x y)

pub begins_external_prefix : {r : ℕ} {a b c : Tokens} → BeginsExternal r a b → Tail a c → Tail c b → BeginsExternal r a c
begins_external_prefix BeginsExternal.none x y = begins_external_at (equal x y) BeginsExternal.none
begins_external_prefix (BeginsExternal.vars d) x y = BeginsExternal.vars (begins_vars_prefix d x y)
begins_external_prefix (BeginsExternal.result h) all y = BeginsExternal.none
begins_external_prefix (BeginsExternal.result h) (later x) y = begins_external_at (equal x y) (BeginsExternal.result h)
begins_external_prefix (BeginsExternal.name h) all y = BeginsExternal.none
begins_external_prefix (BeginsExternal.name h) (later all) y = BeginsExternal.result h
begins_external_prefix (BeginsExternal.name h) (later (later x)) y = begins_external_at (equal x y) (BeginsExternal.name h)
begins_external_prefix (BeginsExternal.signature h d) all y = BeginsExternal.none
begins_external_prefix (BeginsExternal.signature h d) (later all) y = BeginsExternal.result h
begins_external_prefix (BeginsExternal.signature h d) (later (later all)) y = BeginsExternal.name h
begins_external_prefix (BeginsExternal.signature h d) (later (later (later x))) y = BeginsExternal.signature h (begins_signature_prefix d x y)
begins_external_prefix (BeginsExternal.close h d) all y = BeginsExternal.none
begins_external_prefix (BeginsExternal.close h d) (later all) y = BeginsExternal.result h
begins_external_prefix (BeginsExternal.close h d) (later (later all)) y = BeginsExternal.name h
begins_external_prefix (BeginsExternal.close h d) (later (later (later x))) y = by_side (seam x (tail_signature d))
    (λ w1. BeginsExternal.signature h (signature_prefix d x w1)) (λ z1. begins_external_at (equal z1 y) (BeginsExternal.close h d))
begins_external_prefix (BeginsExternal.body h d e) all y = BeginsExternal.none
begins_external_prefix (BeginsExternal.body h d e) (later all) y = BeginsExternal.result h
begins_external_prefix (BeginsExternal.body h d e) (later (later all)) y = BeginsExternal.name h
begins_external_prefix (BeginsExternal.body h d e) (later (later (later x))) y = by_side (seam x (tail_signature d))
    (λ w1. BeginsExternal.signature h (signature_prefix d x w1)) (λ z1. by_side (first z1) (λ q. begins_external_at q (BeginsExternal.close h d))
    (λ z2. BeginsExternal.body h d (begins_items_prefix e z2 y)))
begins_external_prefix (BeginsExternal.end d) x y = external_prefix d x y

pub viable_prefix : {r : ℕ} {a b c : Tokens} → Viable r a b → Tail a c → Tail c b → Viable r a c
viable_prefix (Viable.external d) x y = Viable.external (begins_external_prefix d x y)
viable_prefix (Viable.more d e) x y = by_side (seam_at x (tail_external d)) (λ w1. Viable.external (external_prefix d x w1))
    (λ z1. Viable.more d (viable_prefix e z1 y))
