-- The room of what begins a program is its nesting.
use Rattle.std.proofs.Common.{◌≡◌, ℕ, ◌≤◌, ◌+◌, arith, length}
use Rattle.c_grammar.specs.Terminals.{rest}
use Rattle.c_grammar.specs.Grammar.{Tokens}
use Rattle.c_grammar.specs.Programs.{BeginsLength, BeginsElements, BeginsDeclarator, BeginsDeclarators, BeginsVars, BeginsClause, BeginsStatement, BeginsItems, BeginsParameter, BeginsParameters, BeginsSignature, BeginsExternal, Viable}
use Rattle.c_grammar.specs.Nesting.{nesting, ending, length_ending, elements_ending, optional_ending, statement_ending, signature_ending}
use Rattle.c_grammar.specs.BegunNesting.{begun_length_openers, begun_elements_openers, begun_declarator_openers, begun_declarators_openers, begun_vars_openers, begun_clause_openers, begun_statement_openers, begun_items_openers, begun_parameter_openers, begun_parameters_openers, begun_signature_openers, begun_external_openers, viable_openers}
use Rattle.c_grammar.specs.Rooms.{Along}
use Rattle.c_grammar.specs.BegunRooms.{begun_length_rooms, begun_elements_rooms, begun_declarator_rooms, begun_declarators_rooms, begun_vars_rooms, begun_clause_rooms, begun_statement_rooms, begun_items_rooms, begun_parameter_rooms, begun_parameters_rooms, begun_signature_rooms, begun_external_rooms, viable_rooms}
use Rattle.c_grammar.proofs.ProgramBasics.{optional_shorter}
use Rattle.c_grammar.proofs.Nested.{nests_join, nests_open, nests_shut, along_map}
use Rattle.c_grammar.proofs.ExpressionNesting.{reads_within, reads_bracketed}
use Rattle.c_grammar.proofs.ProgramNesting.{length_fit, elements_fit, declarator_fit, vars_fit, clause_fit, optional_fit, statement_fit, parameter_fit, signature_fit, external_fit}
use Rattle.c_grammar.proofs.BegunNesting.{Begun, begun_whole, begun_none, begun_join, begun_open, begun_one, begun_wide, begun_fit}

-- ---- declarations

pub begun_length_fit : {r : ℕ} {a b : Tokens} (d : BeginsLength r a b) → Begun r (length a) (length b) (begun_length_openers d) (begun_length_rooms d)
begun_length_fit {r = r} {a = a} {b = b} BeginsLength.none = begun_none r (length a) (length b) (omega arith)
begun_length_fit {a = a} {b = b} (BeginsLength.bracket {r = r}) = begun_one r (length b) a (omega arith)
begun_length_fit {a = a} {b = b} (BeginsLength.constant {r = r}) = begun_one r (length b) a (omega arith)
begun_length_fit (BeginsLength.end d) = begun_whole (length_fit d 0 (omega arith))

pub begun_elements_fit : {r : ℕ} {a b : Tokens} (d : BeginsElements r a b) → Begun r (length a) (length b) (begun_elements_openers d) (begun_elements_rooms d)
begun_elements_fit (BeginsElements.last d) = begun_fit d
begun_elements_fit (BeginsElements.more d e) = begun_join (reads_within d (ending d) (omega arith) (length (ending d)) 0 (omega arith) (omega arith)) (begun_elements_fit e) (omega arith)

pub begun_declarator_fit : {r : ℕ} {a b : Tokens} (d : BeginsDeclarator r a b) → Begun r (length a) (length b) (begun_declarator_openers d) (begun_declarator_rooms d)
begun_declarator_fit {r = r} {a = a} {b = b} BeginsDeclarator.none = begun_none r (length a) (length b) (omega arith)
begun_declarator_fit (BeginsDeclarator.scalar_start d) = begun_wide (begun_fit d) (omega arith) (omega arith)
begun_declarator_fit (BeginsDeclarator.array d) = begun_wide (begun_length_fit d) (omega arith) (omega arith)
begun_declarator_fit (BeginsDeclarator.array_start d) = begun_wide (begun_whole (length_fit d 0 (omega arith))) (omega arith) (omega arith)
begun_declarator_fit (BeginsDeclarator.array_list d e) =
    begun_wide (begun_join (length_fit d 0 (omega arith)) (begun_open (rest (length_ending d)) (begun_elements_fit e) (omega arith)) (omega arith)) (omega arith) (omega arith)
begun_declarator_fit {b = b} (BeginsDeclarator.array_end d e) =
    let o = rest (length_ending d) in
    let c = elements_ending e in
    let f = nests_shut {h = length o} {p = length b} {d = 0} (nests_open o c (elements_fit e (length c) (omega arith)) (omega arith)) (omega arith) (omega arith) (omega arith) in
    begun_wide (begun_join (length_fit d 0 (omega arith)) (begun_whole f) (omega arith)) (omega arith) (omega arith)

pub begun_declarators_fit : {r : ℕ} {a b : Tokens} (d : BeginsDeclarators r a b) → Begun r (length a) (length b) (begun_declarators_openers d) (begun_declarators_rooms d)
begun_declarators_fit (BeginsDeclarators.last d) = begun_declarator_fit d
begun_declarators_fit (BeginsDeclarators.more d e) = begun_join (declarator_fit d 0 (omega arith)) (begun_declarators_fit e) (omega arith)

pub begun_vars_fit : {r : ℕ} {a b : Tokens} (d : BeginsVars r a b) → Begun r (length a) (length b) (begun_vars_openers d) (begun_vars_rooms d)
begun_vars_fit {r = r} {a = a} {b = b} BeginsVars.none = begun_none r (length a) (length b) (omega arith)
begun_vars_fit (BeginsVars.vars h d) = begun_wide (begun_declarators_fit d) (omega arith) (omega arith)
begun_vars_fit (BeginsVars.end d) = begun_whole (vars_fit d 0 (omega arith))

-- ---- statements

pub begun_clause_fit : {r : ℕ} {a b : Tokens} (d : BeginsClause r a b) → Begun r (length a) (length b) (begun_clause_openers d) (begun_clause_rooms d)
begun_clause_fit (BeginsClause.act d) = begun_fit d
begun_clause_fit (BeginsClause.vars d) = begun_vars_fit d
begun_clause_fit (BeginsClause.end d) = begun_whole (clause_fit d 0 (omega arith))

mutual
  pub begun_statement_fit : {r : ℕ} {a b : Tokens} (d : BeginsStatement r a b) → Begun r (length a) (length b) (begun_statement_openers d) (begun_statement_rooms d)
  begun_statement_fit (BeginsStatement.act d) = begun_fit d
  begun_statement_fit {a = a} (BeginsStatement.block d) = begun_open a (begun_items_fit d) (omega arith)
  begun_statement_fit {a = a} {b = b} (BeginsStatement.if_word {r = r}) = begun_one r (length b) a (omega arith)
  begun_statement_fit {a = a} (BeginsStatement.if_test d) = begun_open a (begun_open (rest a) (begun_fit d) (omega arith)) (omega arith)
  begun_statement_fit {a = a} (BeginsStatement.if_then d e) =
      let p = reads_bracketed (rest a) d (omega arith) (length (rest (ending d))) 0 (omega arith) (omega arith) in
      begun_open a (begun_join p (begun_statement_fit e) (omega arith)) (omega arith)
  begun_statement_fit {a = a} (BeginsStatement.if_else d e f) =
      let p = reads_bracketed (rest a) d (omega arith) (length (rest (ending d))) 0 (omega arith) (omega arith) in
      begun_open a (begun_join (nests_join p (statement_fit e 0 (omega arith)) (omega arith)) (begun_statement_fit f) (omega arith)) (omega arith)
  begun_statement_fit {a = a} {b = b} (BeginsStatement.while_word {r = r}) = begun_one r (length b) a (omega arith)
  begun_statement_fit {a = a} (BeginsStatement.while_test d) = begun_open a (begun_open (rest a) (begun_fit d) (omega arith)) (omega arith)
  begun_statement_fit {a = a} (BeginsStatement.while d e) =
      let p = reads_bracketed (rest a) d (omega arith) (length (rest (ending d))) 0 (omega arith) (omega arith) in
      begun_open a (begun_join p (begun_statement_fit e) (omega arith)) (omega arith)
  begun_statement_fit {a = a} (BeginsStatement.do_body d) = begun_open a (begun_statement_fit d) (omega arith)
  begun_statement_fit {a = a} (BeginsStatement.do_word d) = begun_wide (begun_open a (begun_whole (statement_fit d 0 (omega arith))) (omega arith)) (omega arith) (omega arith)
  begun_statement_fit {a = a} (BeginsStatement.do_test d e) =
      begun_open a (begun_join (statement_fit d 0 (omega arith)) (begun_open (rest (statement_ending d)) (begun_fit e) (omega arith)) (omega arith)) (omega arith)
  begun_statement_fit {a = a} {b = b} (BeginsStatement.do_close d e) =
      let p = reads_bracketed (rest (statement_ending d)) e (omega arith) (length b) 0 (omega arith) (omega arith) in
      begun_open a (begun_whole (nests_join (statement_fit d 0 (omega arith)) p (omega arith))) (omega arith)
  begun_statement_fit {a = a} {b = b} (BeginsStatement.for_word {r = r}) = begun_one r (length b) a (omega arith)
  begun_statement_fit {a = a} (BeginsStatement.for_first d) = begun_open a (begun_open (rest a) (begun_clause_fit d) (omega arith)) (omega arith)
  begun_statement_fit {a = a} (BeginsStatement.for_test d e) =
      begun_open a (begun_open (rest a) (begun_join (clause_fit d 0 (omega arith)) (begun_fit e) (omega arith)) (omega arith)) (omega arith)
  begun_statement_fit {a = a} (BeginsStatement.for_step d e f) =
      let k = optional_fit e (optional_ending e) (omega arith) (length (optional_ending e)) 0 (omega arith) (omega arith) in
      begun_open a (begun_open (rest a) (begun_join (nests_join (clause_fit d 0 (omega arith)) k (omega arith)) (begun_fit f) (omega arith)) (omega arith)) (omega arith)
  begun_statement_fit {a = a} (BeginsStatement.for d e f g) =
      let x = optional_shorter e in
      let y = optional_shorter f in
      let c = optional_ending f in
      let k = optional_fit e (optional_ending e) (omega arith) (length (optional_ending e)) (length c) (omega arith) (omega arith) in
      let l = optional_fit f c (omega arith) (length c) (length c) (omega arith) (omega arith) in
      let i = nests_open (rest a) c (nests_join (nests_join (clause_fit d (length c) (omega arith)) k (omega arith)) l (omega arith)) (omega arith) in
      let p = nests_shut {h = length (rest a)} {p = length (rest c)} {d = 0} i (omega arith) (omega arith) (omega arith) in
      begun_open a (begun_join p (begun_statement_fit g) (omega arith)) (omega arith)
  begun_statement_fit (BeginsStatement.give d) = begun_wide (begun_fit d) (omega arith) (omega arith)
  begun_statement_fit {r = r} {a = a} {b = b} BeginsStatement.break = begun_none r (length a) (length b) (omega arith)
  begun_statement_fit {r = r} {a = a} {b = b} BeginsStatement.continue = begun_none r (length a) (length b) (omega arith)
  begun_statement_fit (BeginsStatement.end d) = begun_whole (statement_fit d 0 (omega arith))

  pub begun_items_fit : {r : ℕ} {a b : Tokens} (d : BeginsItems r a b) → Begun r (length a) (length b) (begun_items_openers d) (begun_items_rooms d)
  begun_items_fit (BeginsItems.vars d) = begun_vars_fit d
  begun_items_fit (BeginsItems.statement d) = begun_statement_fit d
  begun_items_fit (BeginsItems.more_vars d e) = begun_join (vars_fit d 0 (omega arith)) (begun_items_fit e) (omega arith)
  begun_items_fit (BeginsItems.more_statement d e) = begun_join (statement_fit d 0 (omega arith)) (begun_items_fit e) (omega arith)

-- ---- programs

pub begun_parameter_fit : {r : ℕ} {a b : Tokens} (d : BeginsParameter r a b) → Begun r (length a) (length b) (begun_parameter_openers d) (begun_parameter_rooms d)
begun_parameter_fit {r = r} {a = a} {b = b} BeginsParameter.none = begun_none r (length a) (length b) (omega arith)
begun_parameter_fit {r = r} {a = a} {b = b} (BeginsParameter.type h) = begun_none r (length a) (length b) (omega arith)
begun_parameter_fit (BeginsParameter.array h d) = begun_wide (begun_length_fit d) (omega arith) (omega arith)

pub begun_parameters_fit : {r : ℕ} {a b : Tokens} (d : BeginsParameters r a b) → Begun r (length a) (length b) (begun_parameters_openers d) (begun_parameters_rooms d)
begun_parameters_fit (BeginsParameters.last d) = begun_parameter_fit d
begun_parameters_fit (BeginsParameters.more d e) = begun_join (parameter_fit d 0 (omega arith)) (begun_parameters_fit e) (omega arith)

pub begun_signature_fit : {r : ℕ} {a b : Tokens} (d : BeginsSignature r a b) → Begun r (length a) (length b) (begun_signature_openers d) (begun_signature_rooms d)
begun_signature_fit {r = r} {a = a} {b = b} BeginsSignature.void = begun_none r (length a) (length b) (omega arith)
begun_signature_fit (BeginsSignature.parameters d) = begun_parameters_fit d

pub begun_external_fit : {r : ℕ} {a b : Tokens} (d : BeginsExternal r a b) → Begun r (length a) (length b) (begun_external_openers d) (begun_external_rooms d)
begun_external_fit {r = r} {a = a} {b = b} BeginsExternal.none = begun_none r (length a) (length b) (omega arith)
begun_external_fit (BeginsExternal.vars d) = begun_vars_fit d
begun_external_fit {r = r} {a = a} {b = b} (BeginsExternal.result h) = begun_none r (length a) (length b) (omega arith)
begun_external_fit {r = r} {a = a} {b = b} (BeginsExternal.name h) = begun_none r (length a) (length b) (omega arith)
begun_external_fit {a = a} (BeginsExternal.signature h d) = begun_wide (begun_open (rest (rest a)) (begun_signature_fit d) (omega arith)) (omega arith) (omega arith)
begun_external_fit {a = a} (BeginsExternal.close h d) = let c = signature_ending d in
    begun_whole (nests_shut (nests_open (rest (rest a)) c (signature_fit d (length c) (omega arith)) (omega arith)) (omega arith) (omega arith) (omega arith))
begun_external_fit {a = a} (BeginsExternal.body h d e) =
    let c = signature_ending d in
    let p = nests_shut {h = length a} {p = length (rest c)} {d = 0} (nests_open (rest (rest a)) c (signature_fit d (length c) (omega arith)) (omega arith)) (omega arith) (omega arith) (omega arith) in
    begun_join p (begun_open (rest c) (begun_items_fit e) (omega arith)) (omega arith)
begun_external_fit (BeginsExternal.end d) = begun_whole (external_fit d 0 (omega arith))

pub viable_fit : {r : ℕ} {a b : Tokens} (d : Viable r a b) → Begun r (length a) (length b) (viable_openers d) (viable_rooms d)
viable_fit (Viable.external d) = begun_external_fit d
viable_fit (Viable.more d e) = begun_join (external_fit d 0 (omega arith)) (viable_fit e) (omega arith)

-- ---- the laws

-- the room used at an opener is the nesting there
pub viable_room_used : (r : ℕ) (a b : Tokens) (d : Viable r a b) → Along (λ o n. n + nesting (viable_openers d) o.0 ≡ r) (viable_openers d) (viable_rooms d)
viable_room_used r a b d = let g = viable_fit d in let f = g.fits in along_map (λ o n (x, y, z). omega arith) f.along

-- no nesting passes the room
pub viable_nesting_within : (r : ℕ) (a b : Tokens) (d : Viable r a b) (c : Tokens) → nesting (viable_openers d) c ≤ r
viable_nesting_within r a b d c = let g = viable_fit d in let f = g.fits in f.bounded c
