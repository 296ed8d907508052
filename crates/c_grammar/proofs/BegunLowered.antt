-- What begins a program, and has room to spare after its openers, begins one with less room: so it begins one with any room that its
-- nesting doesn't pass.
use Rattle.std.proofs.Common.{◌≡◌, ℕ, zero, suc, ◌≤◌, ◌<◌, ◌+◌, ◌-◌, List, [], ◌∷◌, ◌++◌, ◌⊎◌, inl, inr, arith, subst, refl, All, Any}
use Rattle.std.proofs.lemmas.List.Elements.{All-nil, All-cons}
use Rattle.c_grammar.specs.declared.nonterminal.Nonterminal.{Nonterminal}
use Rattle.c_grammar.specs.Grammar.{Tokens, Begins, BeginsArgument, BeginsArguments}
use Rattle.c_grammar.specs.Programs.{BeginsLength, BeginsElements, BeginsDeclarator, BeginsDeclarators, BeginsVars, BeginsClause, BeginsStatement, BeginsItems, BeginsParameter, BeginsParameters, BeginsSignature, BeginsExternal, Viable}
use Rattle.c_grammar.specs.Nesting.{Opener, nesting}
use Rattle.c_grammar.specs.BegunNesting.{viable_openers}
use Rattle.c_grammar.specs.Rooms.{rooms, argument_rooms, length_rooms, declarator_rooms, vars_rooms, clause_rooms, optional_rooms, statement_rooms, parameter_rooms, signature_rooms, external_rooms}
use Rattle.c_grammar.specs.BegunRooms.{begun_rooms, begun_argument_rooms, begun_arguments_rooms, begun_length_rooms, begun_elements_rooms, begun_declarator_rooms, begun_declarators_rooms, begun_vars_rooms, begun_clause_rooms, begun_statement_rooms, begun_items_rooms, begun_parameter_rooms, begun_parameters_rooms, begun_signature_rooms, begun_external_rooms, viable_rooms}
use Rattle.c_grammar.proofs.ProgramBasics.{viable_lift}
use Rattle.c_grammar.proofs.Nested.{larger}
use Rattle.c_grammar.proofs.ExpressionLowered.{Spare, first, others, left, right, leaving, suc_less, reads_lower, argument_lower, arguments_lower}
use Rattle.c_grammar.proofs.ProgramLowered.{length_in, length_lower, elements_lower, declarator_lower, vars_lower, clause_lower, optional_lower, statement_in, two_less, statement_lower, parameter_lower, signature_lower, external_lower, spared}
use Rattle.c_grammar.proofs.ViableNesting.{viable_room_used}

-- ---- expressions

mutual
  pub begun_lower : {N : Nonterminal} {r : ℕ} {a b : Tokens} (x : ℕ) (d : Begins N r a b) → Spare x (begun_rooms d) → Begins N (r - x) a b
  begun_lower x Begins.none h = Begins.none
  begun_lower x Begins.constant h = Begins.constant
  begun_lower x Begins.name h = Begins.name
  begun_lower x (Begins.index {r = r} d) h = rw (suc_less x r (first h)) (Begins.index (begun_lower x d (others h)))
  begun_lower x (Begins.index_end {r = r} d) h = rw (suc_less x r (first h)) (Begins.index_end (reads_lower x d (others h)))
  begun_lower x (Begins.call_bare {r = r}) h = rw (suc_less x r (first h)) Begins.call_bare
  begun_lower x (Begins.call {r = r} d) h = rw (suc_less x r (first h)) (Begins.call (begun_arguments_lower x d (others h)))
  begun_lower x (Begins.call_end {r = r} d) h = rw (suc_less x r (first h)) (Begins.call_end (arguments_lower x d (others h)))
  begun_lower x (Begins.paren {r = r} d) h = rw (suc_less x r (first h)) (Begins.paren (begun_lower x d (others h)))
  begun_lower x (Begins.paren_end {r = r} d) h = rw (suc_less x r (first h)) (Begins.paren_end (reads_lower x d (others h)))
  begun_lower x (Begins.postfix d) h = Begins.postfix (begun_lower x d h)
  begun_lower x (Begins.bump_after e d) h = Begins.bump_after e (reads_lower x d h)
  begun_lower x (Begins.unary d) h = Begins.unary (begun_lower x d h)
  begun_lower x (Begins.bump_before {r = r} e d) h = rw (suc_less x r (first h)) (Begins.bump_before e (begun_lower x d (others h)))
  begun_lower x (Begins.prefix {r = r} e d) h = rw (suc_less x r (first h)) (Begins.prefix e (begun_lower x d (others h)))
  begun_lower x (Begins.cast d) h = Begins.cast (begun_lower x d h)
  begun_lower x (Begins.cast_open {r = r}) h = rw (suc_less x r (first h)) Begins.cast_open
  begun_lower x (Begins.cast_type {r = r} e) h = rw (suc_less x r (first h)) (Begins.cast_type e)
  begun_lower x (Begins.cast_to {r = r} e d) h = rw (suc_less x r (first h)) (Begins.cast_to e (begun_lower x d (others h)))
  begun_lower x (Begins.operand d) h = Begins.operand (begun_lower x d h)
  begun_lower x (Begins.weaker d) h = Begins.weaker (begun_lower x d h)
  begun_lower x (Begins.binary {m = m} e i d1 d2) h =
      let k = right (rooms d1) h in
      Begins.binary e i (leaving (suc (m - x)) (suc_less x m (first k)) (reads_lower x d1 (left (rooms d1) _ h))) (begun_lower x d2 (others k))
  begun_lower x (Begins.conditional d) h = Begins.conditional (begun_lower x d h)
  begun_lower x (Begins.choose {m = m} d1 d2) h =
      let k = right (rooms d1) h in
      Begins.choose (leaving (suc (m - x)) (suc_less x m (first k)) (reads_lower x d1 (left (rooms d1) _ h))) (begun_lower x d2 (others k))
  begun_lower x (Begins.choose_no {m = m} d1 d2 d3) h =
      let l = left (rooms d1 ++ m ∷ rooms d2) _ h in
      let k = right (rooms d1) l in
      Begins.choose_no (leaving (suc (m - x)) (suc_less x m (first k)) (reads_lower x d1 (left (rooms d1) _ l))) (reads_lower x d2 (others k))
      (begun_lower x d3 (right (rooms d1 ++ m ∷ rooms d2) h))
  begun_lower x (Begins.assignment d) h = Begins.assignment (begun_lower x d h)
  begun_lower x (Begins.assign {m = m} e d1 d2) h =
      let k = right (rooms d1) h in
      Begins.assign e (leaving (suc (m - x)) (suc_less x m (first k)) (reads_lower x d1 (left (rooms d1) _ h))) (begun_lower x d2 (others k))
  begun_lower x (Begins.expression d) h = Begins.expression (begun_lower x d h)
  begun_lower x (Begins.comma {m = m} d1 d2) h =
      let k = right (rooms d1) h in
      Begins.comma (leaving (suc (m - x)) (suc_less x m (first k)) (reads_lower x d1 (left (rooms d1) _ h))) (begun_lower x d2 (others k))

  pub begun_argument_lower : {r : ℕ} {a b : Tokens} (x : ℕ) (d : BeginsArgument r a b) → Spare x (begun_argument_rooms d) → BeginsArgument (r - x) a b
  begun_argument_lower x (BeginsArgument.value d) h = BeginsArgument.value (begun_lower x d h)
  begun_argument_lower x BeginsArgument.format h = BeginsArgument.format
  begun_argument_lower x (BeginsArgument.address {r = r} d) h = rw (suc_less x r (first h)) (BeginsArgument.address (begun_lower x d (others h)))

  pub begun_arguments_lower : {r : ℕ} {a b : Tokens} (x : ℕ) (d : BeginsArguments r a b) → Spare x (begun_arguments_rooms d) → BeginsArguments (r - x) a b
  begun_arguments_lower x (BeginsArguments.last d) h = BeginsArguments.last (begun_argument_lower x d h)
  begun_arguments_lower x (BeginsArguments.more d e) h =
      BeginsArguments.more (argument_lower x d (left (argument_rooms d) _ h)) (begun_arguments_lower x e (right (argument_rooms d) h))

-- ---- declarations

pub begun_length_lower : {r : ℕ} {a b : Tokens} (x : ℕ) (d : BeginsLength r a b) → Spare x (begun_length_rooms d) → BeginsLength (r - x) a b
begun_length_lower x BeginsLength.none h = BeginsLength.none
begun_length_lower x (BeginsLength.bracket {r = r}) h = rw (suc_less x r (first h)) BeginsLength.bracket
begun_length_lower x (BeginsLength.constant {r = r}) h = rw (suc_less x r (first h)) BeginsLength.constant
begun_length_lower x (BeginsLength.end d) h = BeginsLength.end (length_lower x d h)

pub begun_elements_lower : {r : ℕ} {a b : Tokens} (x : ℕ) (d : BeginsElements r a b) → Spare x (begun_elements_rooms d) → BeginsElements (r - x) a b
begun_elements_lower x (BeginsElements.last d) h = BeginsElements.last (begun_lower x d h)
begun_elements_lower x (BeginsElements.more d e) h = BeginsElements.more (reads_lower x d (left (rooms d) _ h)) (begun_elements_lower x e (right (rooms d) h))

pub begun_declarator_lower : {r : ℕ} {a b : Tokens} (x : ℕ) (d : BeginsDeclarator r a b) → Spare x (begun_declarator_rooms d) → BeginsDeclarator (r - x) a b
begun_declarator_lower x BeginsDeclarator.none h = BeginsDeclarator.none
begun_declarator_lower x (BeginsDeclarator.scalar_start d) h = BeginsDeclarator.scalar_start (begun_lower x d h)
begun_declarator_lower x (BeginsDeclarator.array d) h = BeginsDeclarator.array (begun_length_lower x d h)
begun_declarator_lower x (BeginsDeclarator.array_start d) h = BeginsDeclarator.array_start (length_lower x d h)
begun_declarator_lower x (BeginsDeclarator.array_list {r = r} d e) h =
    let k = right (length_rooms d) h in
    let q = suc_less x r (first k) in
    rw q (BeginsDeclarator.array_list (length_in (suc (r - x)) q (length_lower x d (left (length_rooms d) _ h))) (begun_elements_lower x e (others k)))
begun_declarator_lower x (BeginsDeclarator.array_end {r = r} d e) h =
    let k = right (length_rooms d) h in
    let q = suc_less x r (first k) in
    rw q (BeginsDeclarator.array_end (length_in (suc (r - x)) q (length_lower x d (left (length_rooms d) _ h))) (elements_lower x e (others k)))

pub begun_declarators_lower : {r : ℕ} {a b : Tokens} (x : ℕ) (d : BeginsDeclarators r a b) → Spare x (begun_declarators_rooms d) → BeginsDeclarators (r - x) a b
begun_declarators_lower x (BeginsDeclarators.last d) h = BeginsDeclarators.last (begun_declarator_lower x d h)
begun_declarators_lower x (BeginsDeclarators.more d e) h =
    BeginsDeclarators.more (declarator_lower x d (left (declarator_rooms d) _ h)) (begun_declarators_lower x e (right (declarator_rooms d) h))

pub begun_vars_lower : {r : ℕ} {a b : Tokens} (x : ℕ) (d : BeginsVars r a b) → Spare x (begun_vars_rooms d) → BeginsVars (r - x) a b
begun_vars_lower x BeginsVars.none h = BeginsVars.none
begun_vars_lower x (BeginsVars.vars i d) h = BeginsVars.vars i (begun_declarators_lower x d h)
begun_vars_lower x (BeginsVars.end d) h = BeginsVars.end (vars_lower x d h)

-- ---- statements

pub begun_clause_lower : {r : ℕ} {a b : Tokens} (x : ℕ) (d : BeginsClause r a b) → Spare x (begun_clause_rooms d) → BeginsClause (r - x) a b
begun_clause_lower x (BeginsClause.act d) h = BeginsClause.act (begun_lower x d h)
begun_clause_lower x (BeginsClause.vars d) h = BeginsClause.vars (begun_vars_lower x d h)
begun_clause_lower x (BeginsClause.end d) h = BeginsClause.end (clause_lower x d h)

-- the room of what begins a statement, said otherwise
begun_in : {r : ℕ} {a b : Tokens} (s : ℕ) → r ≡ s → BeginsStatement r a b → BeginsStatement s a b
begun_in {r} {a} {b} s i d = subst (λ k. BeginsStatement k a b) i d

mutual
  pub begun_statement_lower : {r : ℕ} {a b : Tokens} (x : ℕ) (d : BeginsStatement r a b) → Spare x (begun_statement_rooms d) → BeginsStatement (r - x) a b
  begun_statement_lower x (BeginsStatement.act d) h = BeginsStatement.act (begun_lower x d h)
  begun_statement_lower x (BeginsStatement.block {r = r} d) h = rw (suc_less x r (first h)) (BeginsStatement.block (begun_items_lower x d (others h)))
  begun_statement_lower x (BeginsStatement.if_word {r = r}) h = rw (suc_less x r (first h)) BeginsStatement.if_word
  begun_statement_lower x (BeginsStatement.if_test {r = r} d) h =
      let k = others h in
      rw (two_less x r (first k)) (BeginsStatement.if_test (begun_lower x d (others k)))
  begun_statement_lower x (BeginsStatement.if_then {r = r} d e) h =
      let k = others (others h) in
      let i = first (others h) in
      rw (two_less x r i) (BeginsStatement.if_then (reads_lower x d (left (rooms d) _ k)) (begun_in (suc (r - x)) (suc_less x r i) (begun_statement_lower x e (right (rooms d) k))))
  begun_statement_lower x (BeginsStatement.if_else {r = r} d e f) h =
      let k = others (others h) in
      let l = left (rooms d ++ statement_rooms e) _ k in
      let i = first (others h) in
      rw (two_less x r i)
      (BeginsStatement.if_else (reads_lower x d (left (rooms d) _ l)) (statement_in (suc (r - x)) (suc_less x r i) (statement_lower x e (right (rooms d) l)))
      (begun_in (suc (r - x)) (suc_less x r i) (begun_statement_lower x f (right (rooms d ++ statement_rooms e) k))))
  begun_statement_lower x (BeginsStatement.while_word {r = r}) h = rw (suc_less x r (first h)) BeginsStatement.while_word
  begun_statement_lower x (BeginsStatement.while_test {r = r} d) h =
      let k = others h in
      rw (two_less x r (first k)) (BeginsStatement.while_test (begun_lower x d (others k)))
  begun_statement_lower x (BeginsStatement.while {r = r} d e) h =
      let k = others (others h) in
      let i = first (others h) in
      rw (two_less x r i) (BeginsStatement.while (reads_lower x d (left (rooms d) _ k)) (begun_in (suc (r - x)) (suc_less x r i) (begun_statement_lower x e (right (rooms d) k))))
  begun_statement_lower x (BeginsStatement.do_body {r = r} d) h = rw (suc_less x r (first h)) (BeginsStatement.do_body (begun_statement_lower x d (others h)))
  begun_statement_lower x (BeginsStatement.do_word {r = r} d) h = rw (suc_less x r (first h)) (BeginsStatement.do_word (statement_lower x d (others h)))
  begun_statement_lower x (BeginsStatement.do_test {r = r} d e) h =
      let k = others h in
      let l = right (statement_rooms d) k in
      let i = first l in
      rw (two_less x r i) (BeginsStatement.do_test (statement_in (suc (r - x)) (suc_less x r i) (statement_lower x d (left (statement_rooms d) _ k))) (begun_lower x e (others l)))
  begun_statement_lower x (BeginsStatement.do_close {r = r} d e) h =
      let k = others h in
      let l = right (statement_rooms d) k in
      let i = first l in
      rw (two_less x r i) (BeginsStatement.do_close (statement_in (suc (r - x)) (suc_less x r i) (statement_lower x d (left (statement_rooms d) _ k))) (reads_lower x e (others l)))
  begun_statement_lower x (BeginsStatement.for_word {r = r}) h = rw (suc_less x r (first h)) BeginsStatement.for_word
  begun_statement_lower x (BeginsStatement.for_first {r = r} d) h =
      let k = others h in
      rw (two_less x r (first k)) (BeginsStatement.for_first (begun_clause_lower x d (others k)))
  begun_statement_lower x (BeginsStatement.for_test {r = r} d e) h =
      let k = others (others h) in
      rw (two_less x r (first (others h))) (BeginsStatement.for_test (clause_lower x d (left (clause_rooms d) _ k)) (begun_lower x e (right (clause_rooms d) k)))
  begun_statement_lower x (BeginsStatement.for_step {r = r} d e f) h =
      let k = others (others h) in
      let l = left (clause_rooms d ++ optional_rooms e) _ k in
      rw (two_less x r (first (others h)))
      (BeginsStatement.for_step (clause_lower x d (left (clause_rooms d) _ l)) (optional_lower x e (right (clause_rooms d) l))
      (begun_lower x f (right (clause_rooms d ++ optional_rooms e) k)))
  begun_statement_lower x (BeginsStatement.for {r = r} d e f g) h =
      let k = others (others h) in
      let l = left (clause_rooms d ++ optional_rooms e ++ optional_rooms f) _ k in
      let m = left (clause_rooms d ++ optional_rooms e) _ l in
      let i = first (others h) in
      rw (two_less x r i)
      (BeginsStatement.for (clause_lower x d (left (clause_rooms d) _ m)) (optional_lower x e (right (clause_rooms d) m)) (optional_lower x f (right (clause_rooms d ++ optional_rooms e) l))
      (begun_in (suc (r - x)) (suc_less x r i) (begun_statement_lower x g (right (clause_rooms d ++ optional_rooms e ++ optional_rooms f) k))))
  begun_statement_lower x (BeginsStatement.give d) h = BeginsStatement.give (begun_lower x d h)
  begun_statement_lower x BeginsStatement.break h = BeginsStatement.break
  begun_statement_lower x BeginsStatement.continue h = BeginsStatement.continue
  begun_statement_lower x (BeginsStatement.end d) h = BeginsStatement.end (statement_lower x d h)

  pub begun_items_lower : {r : ℕ} {a b : Tokens} (x : ℕ) (d : BeginsItems r a b) → Spare x (begun_items_rooms d) → BeginsItems (r - x) a b
  begun_items_lower x (BeginsItems.vars d) h = BeginsItems.vars (begun_vars_lower x d h)
  begun_items_lower x (BeginsItems.statement d) h = BeginsItems.statement (begun_statement_lower x d h)
  begun_items_lower x (BeginsItems.more_vars d e) h = BeginsItems.more_vars (vars_lower x d (left (vars_rooms d) _ h)) (begun_items_lower x e (right (vars_rooms d) h))
  begun_items_lower x (BeginsItems.more_statement d e) h =
      BeginsItems.more_statement (statement_lower x d (left (statement_rooms d) _ h)) (begun_items_lower x e (right (statement_rooms d) h))

-- ---- programs

pub begun_parameter_lower : {r : ℕ} {a b : Tokens} (x : ℕ) (d : BeginsParameter r a b) → Spare x (begun_parameter_rooms d) → BeginsParameter (r - x) a b
begun_parameter_lower x BeginsParameter.none h = BeginsParameter.none
begun_parameter_lower x (BeginsParameter.type i) h = BeginsParameter.type i
begun_parameter_lower x (BeginsParameter.array i d) h = BeginsParameter.array i (begun_length_lower x d h)

pub begun_parameters_lower : {r : ℕ} {a b : Tokens} (x : ℕ) (d : BeginsParameters r a b) → Spare x (begun_parameters_rooms d) → BeginsParameters (r - x) a b
begun_parameters_lower x (BeginsParameters.last d) h = BeginsParameters.last (begun_parameter_lower x d h)
begun_parameters_lower x (BeginsParameters.more d e) h =
    BeginsParameters.more (parameter_lower x d (left (parameter_rooms d) _ h)) (begun_parameters_lower x e (right (parameter_rooms d) h))

pub begun_signature_lower : {r : ℕ} {a b : Tokens} (x : ℕ) (d : BeginsSignature r a b) → Spare x (begun_signature_rooms d) → BeginsSignature (r - x) a b
begun_signature_lower x BeginsSignature.void h = BeginsSignature.void
begun_signature_lower x (BeginsSignature.parameters d) h = BeginsSignature.parameters (begun_parameters_lower x d h)

pub begun_external_lower : {r : ℕ} {a b : Tokens} (x : ℕ) (d : BeginsExternal r a b) → Spare x (begun_external_rooms d) → BeginsExternal (r - x) a b
begun_external_lower x BeginsExternal.none h = BeginsExternal.none
begun_external_lower x (BeginsExternal.vars d) h = BeginsExternal.vars (begun_vars_lower x d h)
begun_external_lower x (BeginsExternal.result i) h = BeginsExternal.result i
begun_external_lower x (BeginsExternal.name i) h = BeginsExternal.name i
begun_external_lower x (BeginsExternal.signature {r = r} i d) h = rw (suc_less x r (first h)) (BeginsExternal.signature i (begun_signature_lower x d (others h)))
begun_external_lower x (BeginsExternal.close {r = r} i d) h = rw (suc_less x r (first h)) (BeginsExternal.close i (signature_lower x d (others h)))
begun_external_lower x (BeginsExternal.body {r = r} i d e) h =
    let k = others h in
    rw (suc_less x r (first h)) (BeginsExternal.body i (signature_lower x d (left (signature_rooms d) _ k)) (begun_items_lower x e (others (right (signature_rooms d) k))))
begun_external_lower x (BeginsExternal.end d) h = BeginsExternal.end (external_lower x d h)

pub viable_lower : {r : ℕ} {a b : Tokens} (x : ℕ) (d : Viable r a b) → Spare x (viable_rooms d) → Viable (r - x) a b
viable_lower x (Viable.external d) h = Viable.external (begun_external_lower x d h)
viable_lower x (Viable.more d e) h = Viable.more (external_lower x d (left (external_rooms d) _ h)) (viable_lower x e (right (external_rooms d) h))

-- ---- the law

-- with more room the same begins a program
pub viable_raise : {r : ℕ} {a b : Tokens} (x : ℕ) → Viable r a b → Viable (x + r) a b
viable_raise {r = r} zero d = let e : 0 + r ≡ r = omega arith in rw e d
viable_raise {r = r} (suc x) d = let e : suc x + r ≡ suc (x + r) = omega arith in rw e (viable_lift (viable_raise x d))

-- what begins a program, and has openers that nest nowhere deeper than a room, begins one with that room
pub viable_nesting_suffices : (r s : ℕ) (a b : Tokens) (d : Viable s a b) → All (λ o. nesting (viable_openers d) o.0 ≤ r) (viable_openers d) → Viable r a b
viable_nesting_suffices r s a b d h = elim (larger s r) [
  | inl x ↦ let e : (r - s) + s ≡ r = omega arith in subst (λ k. Viable k a b) e (viable_raise (r - s) d)
  | inr x ↦ let e : s - (s - r) ≡ r = omega arith in subst (λ k. Viable k a b) e (viable_lower (s - r) d (spared (viable_openers d) r (viable_room_used s a b d) h))
]

-- at each of these openers the nesting is at most r, or at one of them it is more
deep_or : (l : List Opener) (r : ℕ) (k : List Opener) → All (λ o. nesting l o.0 ≤ r) k ⊎ Any (λ o. r < nesting l o.0) k
deep_or l r [] = inl (All-nil (λ o. nesting l o.0 ≤ r))
deep_or l r (o ∷ k) = elim (larger (nesting l o.0) r) [
  | inl x ↦ elim (deep_or l r k) [ inl y ↦ inl (All-cons (λ o. nesting l o.0 ≤ r) o k x y) | inr y ↦ inr (suc y.0, y.1, omega (arith, y.2), y.3, y.4) ]
  | inr x ↦ inr (0, o, omega arith, refl, x)
]

-- what begins a program, but none with this room, has an opener that nests deeper
pub viable_deep : (r s : ℕ) (a b : Tokens) (d : Viable s a b) → (Viable r a b → ⊥) → Any (λ o. r < nesting (viable_openers d) o.0) (viable_openers d)
viable_deep r s a b d h = elim (deep_or (viable_openers d) r (viable_openers d)) [ inl x ↦ absurd (h (viable_nesting_suffices r s a b d x)) | inr x ↦ x ]
