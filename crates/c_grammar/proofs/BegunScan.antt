-- The scanner finds the nesting of what begins a program.
use Rattle.std.proofs.Common.{◌≡◌, ℕ, suc, ◌<◌, ◌+◌, ◌-◌, true, List, [], ◌∷◌, refl, ap, ◌∙◌, arith, length}
use Rattle.c_tree.specs.declared.stmt.Ty.{Ty}
use Rattle.c_grammar.specs.declared.terminal.Terminal.TheVariants as terminal
use Rattle.c_grammar.specs.declared.nonterminal.Nonterminal.{Nonterminal as Kind}
use Rattle.c_grammar.specs.Grammar.{Tokens, Begins, BeginsArgument, BeginsArguments}
use Rattle.c_grammar.specs.Terminals.{lookahead, rest}
use Rattle.c_grammar.specs.Nesting.{ending, arguments_ending, elements_ending, optional_ending, signature_ending}
use Rattle.c_grammar.specs.BegunNesting.{begun_openers, begun_argument_openers, begun_arguments_openers, begun_length_openers, begun_elements_openers, begun_declarator_openers, begun_declarators_openers, begun_vars_openers, begun_clause_openers, begun_statement_openers, begun_items_openers, begun_parameter_openers, begun_parameters_openers, begun_signature_openers, begun_external_openers, viable_openers}
use Rattle.c_grammar.specs.Programs.{BeginsLength, BeginsElements, BeginsDeclarator, BeginsDeclarators, BeginsVars, BeginsClause, BeginsStatement, BeginsItems, BeginsParameter, BeginsParameters, BeginsSignature, BeginsExternal, Viable}
use Rattle.c_grammar.proofs.ExpressionBasics.{room}
use Rattle.c_grammar.proofs.ProgramBasics.{optional_shorter}
use Rattle.c_grammar.proofs.Terminals.{terminal_binary, terminal_bump, terminal_assignment, terminal_prefix, terminal_type}
use Rattle.c_grammar.proofs.ExpressionFirstSets.{starting, prefix_starts, starts, starting_no_else}
use Rattle.c_grammar.proofs.Scanner.{Frame, group, call, list, start, pick, test, again, first, second, third, act, branch, body, turn, block, State, fresh, operand, operated, casting, declared, head, of_test, of_clauses, at_operand, step}
use Rattle.c_grammar.proofs.ScannedParts.{nothing, before, opened, after, close, finish, join, Start, whole, none, start_before, start_open, start_join, start_enter}
use Rattle.c_grammar.proofs.ExpressionScan.{Free, prefix_opens, argument_part, arguments_part}
use Rattle.c_grammar.proofs.ProgramScan.{reads_from, length_part, elements_part, declarator_part, vars_part, clause_part, optional_part, Opens, fresh_operand, test_part, statement_part, parameter_part, signature_part, result_opens, external_part}

-- ---- expressions

-- the first token of what begins an expression
begun_starts : {N : Kind} {r : ℕ} {a b : Tokens} → Begins N r a b → length b < length a → starting (lookahead a) ≡ true
begun_starts Begins.none h = absurd (omega arith)
begun_starts Begins.constant h = refl
begun_starts Begins.name h = refl
begun_starts (Begins.index d) h = refl
begun_starts (Begins.index_end d) h = refl
begun_starts Begins.call_bare h = refl
begun_starts (Begins.call d) h = refl
begun_starts (Begins.call_end d) h = refl
begun_starts (Begins.paren d) h = refl
begun_starts (Begins.paren_end d) h = refl
begun_starts (Begins.postfix d) h = begun_starts d h
begun_starts (Begins.bump_after e d) h = starts d
begun_starts (Begins.unary d) h = begun_starts d h
begun_starts (Begins.bump_before {p = p} {up = up} e d) h = ap starting (terminal_bump p up e)
begun_starts (Begins.prefix {p = p} {f = f} e d) h = prefix_starts _ f (terminal_prefix p f e)
begun_starts (Begins.cast d) h = begun_starts d h
begun_starts Begins.cast_open h = refl
begun_starts (Begins.cast_type e) h = refl
begun_starts (Begins.cast_to e d) h = refl
begun_starts (Begins.operand d) h = begun_starts d h
begun_starts (Begins.weaker d) h = begun_starts d h
begun_starts (Begins.binary e i d1 d2) h = starts d1
begun_starts (Begins.conditional d) h = begun_starts d h
begun_starts (Begins.choose d1 d2) h = starts d1
begun_starts (Begins.choose_no d1 d2 d3) h = starts d1
begun_starts (Begins.assignment d) h = begun_starts d h
begun_starts (Begins.assign e d1 d2) h = starts d1
begun_starts (Begins.expression d) h = begun_starts d h
begun_starts (Begins.comma d1 d2) h = starts d1

mutual
  begun_part : {N : Kind} {r : ℕ} {a b : Tokens} (d : Begins N r a b) (n : ℕ) (k : List Frame) → Free N k
      → Start r n (operand n k) a b (begun_openers d)
  begun_part {r = r} {a = a} Begins.none n k f = none r n (operand n k) a
  begun_part {r = r} {b = b} Begins.constant n k f = start_before refl refl (none r n (operated n k) b)
  begun_part {r = r} {b = b} Begins.name n k f = start_before refl refl (none r n (operated n k) b)
  begun_part (Begins.index d) n k f = start_before refl refl (start_open refl refl (begun_part d (suc n) (group n ∷ k) (λ j. refl)))
  begun_part (Begins.index_end d) n k f =
      whole (before refl refl (close (opened refl refl (ending d) (reads_from d (ending d) (omega arith) (suc n) (group n ∷ k) (λ j. refl))) refl refl (omega arith)))
  begun_part {a = a} (Begins.call_bare {r = r}) n k f =
      let c = rest (rest a) in
      whole (before refl refl (close (opened refl refl c (nothing r (length c) (suc n) (operand (suc n) (call n ∷ k)) c (omega arith))) refl refl (omega arith)))
  begun_part (Begins.call d) n k f = start_before refl refl (start_open refl refl (begun_arguments_part d n k))
  begun_part (Begins.call_end d) n k f =
      let p = arguments_part d n k (length (arguments_ending d)) (omega arith) in
      whole (before refl refl (close (opened refl refl (arguments_ending d) p.part) refl refl (omega arith)))
  begun_part (Begins.paren d) n k f = start_open refl refl (begun_part d (suc n) (group n ∷ k) (λ j. refl))
  begun_part (Begins.paren_end d) n k f =
      whole (close (opened refl refl (ending d) (reads_from d (ending d) (omega arith) (suc n) (group n ∷ k) (λ j. refl))) refl refl (omega arith))
  begun_part (Begins.postfix d) n k f = begun_part d n k tt
  begun_part {r = r} (Begins.bump_after {m = m} {p = p} {up = up} e d) n k f =
      let y = room d in
      whole (after (reads_from d [] (omega arith) n k tt) (ap (step (operated (n + r - m) k)) (terminal_bump p up e)) (omega arith) (omega arith))
  begun_part (Begins.unary d) n k f = begun_part d n k tt
  begun_part (Begins.bump_before {p = p} {up = up} e d) n k f =
      start_open (ap (step (operand n k)) (terminal_bump p up e)) refl (begun_part d (suc n) k tt)
  begun_part (Begins.prefix {p = p} {f = g} e d) n k f =
      start_open (prefix_opens _ g n k (terminal_prefix p g e)) refl (begun_part d (suc n) k tt)
  begun_part (Begins.cast d) n k f = begun_part d n k tt
  begun_part {b = b} (Begins.cast_open {r = r}) n k f = start_open refl refl (none r (suc n) (operand (suc n) (group n ∷ k)) b)
  begun_part {b = b} (Begins.cast_type {r = r} {k = w} {ty = ty} e) n k f =
      start_open refl refl (start_before (ap (step (operand (suc n) (group n ∷ k))) (terminal_type w ty e)) refl (none r (suc n) (casting (suc n) k) b))
  begun_part (Begins.cast_to {k = w} {ty = ty} e d) n k f =
      start_open refl refl (start_before (ap (step (operand (suc n) (group n ∷ k))) (terminal_type w ty e)) refl (start_before refl refl (begun_part d (suc n) k tt)))
  begun_part (Begins.operand d) n k f = begun_part d n k tt
  begun_part (Begins.weaker d) n k f = begun_part d n k tt
  begun_part {r = r} (Begins.binary {m = m} {p = p} {f = g} e i d1 d2) n k f =
      let y = room d1 in
      let j = n + r - suc m in
      start_join (reads_from d1 [] (omega arith) n k tt) (start_open (ap (step (operated j k)) (terminal_binary p g e)) refl (begun_part d2 (suc j) k tt)) (omega arith)
  begun_part (Begins.conditional d) n k f = begun_part d n k tt
  begun_part {r = r} (Begins.choose {m = m} d1 d2) n k f =
      let y = room d1 in
      let j = n + r - suc m in
      start_join (reads_from d1 [] (omega arith) n k tt) (start_open refl refl (begun_part d2 (suc j) (pick ∷ k) (λ w. refl))) (omega arith)
  begun_part {r = r} (Begins.choose_no {m = m} {n = o} d1 d2 d3) n k f =
      let y = room d1 in
      let z = room d2 in
      let j = n + r - suc m in
      let l = suc j + m - o in
      let p = after (opened {n = j} refl refl [] (reads_from d2 [] (omega arith) (suc j) (pick ∷ k) (λ w. refl))) refl (omega arith) (omega arith) in
      start_join (join (reads_from d1 [] (omega arith) n k tt) p (omega arith)) (begun_part d3 l k tt) (omega arith)
  begun_part (Begins.assignment d) n k f = begun_part d n k tt
  begun_part {r = r} (Begins.assign {m = m} {p = p} {f = g} e d1 d2) n k f =
      let y = room d1 in
      let j = n + r - suc m in
      start_join (reads_from d1 [] (omega arith) n k tt) (start_open (ap (step (operated j k)) (terminal_assignment p g e)) refl (begun_part d2 (suc j) k tt)) (omega arith)
  begun_part (Begins.expression d) n k f = begun_part d n k tt
  begun_part {r = r} (Begins.comma {m = m} d1 d2) n k f =
      let y = room d1 in
      let j = n + r - suc m in
      start_join (reads_from d1 [] (omega arith) n k f) (start_open (f j) refl (begun_part d2 (suc j) k tt)) (omega arith)

  begun_argument_part : {r : ℕ} {a b : Tokens} (d : BeginsArgument r a b) (n : ℕ) (k : List Frame)
      → Start r n (operand n k) a b (begun_argument_openers d)
  begun_argument_part (BeginsArgument.value d) n k = begun_part d n k tt
  begun_argument_part {r = r} {b = b} BeginsArgument.format n k = start_before refl refl (none r n (operated n k) b)
  begun_argument_part (BeginsArgument.address d) n k = start_open refl refl (begun_part d (suc n) k tt)

  begun_arguments_part : {r : ℕ} {a b : Tokens} (d : BeginsArguments r a b) (n : ℕ) (k : List Frame)
      → Start r (suc n) (operand (suc n) (call n ∷ k)) a b (begun_arguments_openers d)
  begun_arguments_part (BeginsArguments.last d) n k = begun_argument_part d (suc n) (call n ∷ k)
  begun_arguments_part (BeginsArguments.more d e) n k =
      let p = argument_part d (suc n) (call n ∷ k) 0 (omega arith) in
      start_join (after p.part refl refl (omega arith)) (begun_arguments_part e n k) refl

-- ---- declarations

begun_length_part : {r : ℕ} {a b : Tokens} (d : BeginsLength r a b) (n : ℕ) (k : List Frame)
    → Start r n (declared n k) a b (begun_length_openers d)
begun_length_part {r = r} {a = a} BeginsLength.none n k = none r n (declared n k) a
begun_length_part {b = b} (BeginsLength.bracket {r = r}) n k = start_open refl refl (none r (suc n) (declared (suc n) (group n ∷ k)) b)
begun_length_part {b = b} (BeginsLength.constant {r = r}) n k =
    start_open refl refl (start_before refl refl (none r (suc n) (declared (suc n) (group n ∷ k)) b))
begun_length_part (BeginsLength.end d) n k = whole (length_part d n k 0 (omega arith))

begun_elements_part : {r : ℕ} {a b : Tokens} (d : BeginsElements r a b) (n : ℕ) (k : List Frame)
    → Start r (suc n) (operand (suc n) (list n ∷ k)) a b (begun_elements_openers d)
begun_elements_part (BeginsElements.last d) n k = begun_part d (suc n) (list n ∷ k) tt
begun_elements_part (BeginsElements.more d e) n k =
    start_join (after (finish (reads_from d (ending d) (omega arith) (suc n) (list n ∷ k) tt) (omega arith)) refl refl (omega arith)) (begun_elements_part e n k) refl

begun_declarator_part : {r : ℕ} {a b : Tokens} (d : BeginsDeclarator r a b) (n : ℕ) (k : List Frame)
    → Start r n (declared n k) a b (begun_declarator_openers d)
begun_declarator_part {r = r} {a = a} BeginsDeclarator.none n k = none r n (declared n k) a
begun_declarator_part (BeginsDeclarator.scalar_start d) n k =
    start_before refl refl (start_before refl refl (begun_part d n (start n ∷ k) tt))
begun_declarator_part (BeginsDeclarator.array d) n k = start_before refl refl (begun_length_part d n k)
begun_declarator_part (BeginsDeclarator.array_start d) n k =
    whole (before refl refl (after (length_part d n k 0 (omega arith)) refl refl (omega arith)))
begun_declarator_part (BeginsDeclarator.array_list d e) n k =
    start_before refl refl (start_join (length_part d n k 0 (omega arith)) (start_before refl refl (start_open refl refl (begun_elements_part e n (start n ∷ k)))) refl)
begun_declarator_part (BeginsDeclarator.array_end d e) n k =
    let c = elements_ending e in
    let q = elements_part e n (start n ∷ k) (length c) (omega arith) in
    whole (before refl refl (join (length_part d n k 0 (omega arith)) (before refl refl (close (opened refl refl c q.part) q.closes refl (omega arith))) refl))

begun_declarators_part : {r : ℕ} {a b : Tokens} (d : BeginsDeclarators r a b) (n : ℕ) (k : List Frame)
    → Start r n (declared n k) a b (begun_declarators_openers d)
begun_declarators_part (BeginsDeclarators.last d) n k = begun_declarator_part d n k
begun_declarators_part (BeginsDeclarators.more d e) n k =
    let p = declarator_part d n k 0 (omega arith) in
    start_join (after p.part p.comma refl (omega arith)) (begun_declarators_part e n k) refl

begun_vars_part : {r : ℕ} {a b : Tokens} (d : BeginsVars r a b) (σ : State) (n : ℕ) (k : List Frame)
    → ((t : Ty) → step σ (terminal.Type t) ≡ declared n k) → Start r n σ a b (begun_vars_openers d)
begun_vars_part {r = r} {a = a} BeginsVars.none σ n k o = none r n σ a
begun_vars_part (BeginsVars.vars {k = w} {ty = ty} i d) σ n k o =
    start_before (ap (step σ) (terminal_type w ty i) ∙ o ty) refl (begun_declarators_part d n k)
begun_vars_part (BeginsVars.end d) σ n k o = whole (vars_part d σ n k o 0 (omega arith))

-- ---- statements

begun_clause_part : {r : ℕ} {a b : Tokens} (d : BeginsClause r a b) (n : ℕ) (k : List Frame)
    → Start r (suc n) (operand (suc n) (first n ∷ k)) a b (begun_clause_openers d)
begun_clause_part (BeginsClause.act d) n k = begun_part d (suc n) (first n ∷ k) (λ j. refl)
begun_clause_part (BeginsClause.vars d) n k = begun_vars_part d (operand (suc n) (first n ∷ k)) (suc n) (first n ∷ k) (λ t. refl)
begun_clause_part (BeginsClause.end d) n k = whole (clause_part d n k 0 (omega arith))

mutual
  begun_statement_part : {r : ℕ} {a b : Tokens} (d : BeginsStatement r a b) (σ : State) (n : ℕ) (k : List Frame)
      → Opens σ n k → Start r n σ a b (begun_statement_openers d)
  begun_statement_part {a = a} {b = b} (BeginsStatement.act d) σ n k g = start_enter σ (begun_part d n (act ∷ k) (λ j. refl)) same
    where
      same : length b < length a → step σ (lookahead a) ≡ at_operand (lookahead a) n (act ∷ k)
      same h = let s = begun_starts d h in g (lookahead a) (starting_no_else (lookahead a) s) ∙ fresh_operand (lookahead a) n k s
  begun_statement_part (BeginsStatement.block d) σ n k g =
      start_open (g terminal.OpenBrace refl) refl (begun_items_part d (fresh (suc n) (block n ∷ k)) n k (λ l i. refl))
  begun_statement_part {b = b} (BeginsStatement.if_word {r = r}) σ n k g =
      start_open (g terminal.If refl) refl (none r (suc n) (head of_test (suc n) (branch n ∷ k)) b)
  begun_statement_part (BeginsStatement.if_test d) σ n k g =
      start_open (g terminal.If refl) refl (start_open refl refl (begun_part d (suc (suc n)) (test (suc n) ∷ branch n ∷ k) (λ j. refl)))
  begun_statement_part (BeginsStatement.if_then d e) σ n k g =
      start_open (g terminal.If refl) refl
      (start_join (test_part refl refl d 0 (omega arith)) (begun_statement_part e (fresh (suc n) (branch n ∷ k)) (suc n) (branch n ∷ k) (λ l i. refl)) refl)
  begun_statement_part (BeginsStatement.if_else d e f) σ n k g =
      let p = statement_part e (fresh (suc n) (branch n ∷ k)) (suc n) (branch n ∷ k) (λ l i. refl) 0 (omega arith) in
      let s = after p.part (p.goes_on terminal.Else (λ j. absurd (cc (j)))) refl (omega arith) in
      start_open (g terminal.If refl) refl
      (start_join (join (test_part refl refl d 0 (omega arith)) s refl) (begun_statement_part f (fresh (suc n) (body n ∷ k)) (suc n) (body n ∷ k) (λ l i. refl)) refl)
  begun_statement_part {b = b} (BeginsStatement.while_word {r = r}) σ n k g =
      start_open (g terminal.While refl) refl (none r (suc n) (head of_test (suc n) (body n ∷ k)) b)
  begun_statement_part (BeginsStatement.while_test d) σ n k g =
      start_open (g terminal.While refl) refl (start_open refl refl (begun_part d (suc (suc n)) (test (suc n) ∷ body n ∷ k) (λ j. refl)))
  begun_statement_part (BeginsStatement.while d e) σ n k g =
      start_open (g terminal.While refl) refl
      (start_join (test_part refl refl d 0 (omega arith)) (begun_statement_part e (fresh (suc n) (body n ∷ k)) (suc n) (body n ∷ k) (λ l i. refl)) refl)
  begun_statement_part (BeginsStatement.do_body d) σ n k g =
      start_open (g terminal.Do refl) refl (begun_statement_part d (fresh (suc n) (turn n ∷ k)) (suc n) (turn n ∷ k) (λ l i. refl))
  begun_statement_part (BeginsStatement.do_word d) σ n k g =
      let p = statement_part d (fresh (suc n) (turn n ∷ k)) (suc n) (turn n ∷ k) (λ l i. refl) 0 (omega arith) in
      start_open (g terminal.Do refl) refl (whole (after p.part (p.goes_on terminal.While (λ j. refl)) refl (omega arith)))
  begun_statement_part (BeginsStatement.do_test d e) σ n k g =
      let p = statement_part d (fresh (suc n) (turn n ∷ k)) (suc n) (turn n ∷ k) (λ l i. refl) 0 (omega arith) in
      let t = begun_part e (suc (suc n)) (again (suc n) ∷ k) (λ j. refl) in
      start_open (g terminal.Do refl) refl (start_join p.part (start_before (p.goes_on terminal.While (λ j. refl)) refl (start_open refl refl t)) refl)
  begun_statement_part (BeginsStatement.do_close d e) σ n k g =
      let p = statement_part d (fresh (suc n) (turn n ∷ k)) (suc n) (turn n ∷ k) (λ l i. refl) 0 (omega arith) in
      let t = reads_from e (ending e) (omega arith) (suc (suc n)) (again (suc n) ∷ k) (λ j. refl) in
      let q = before (p.goes_on terminal.While (λ j. refl)) refl (close (opened refl refl (ending e) t) refl refl (omega arith)) in
      start_open (g terminal.Do refl) refl (whole (join p.part q refl))
  begun_statement_part {b = b} (BeginsStatement.for_word {r = r}) σ n k g =
      start_open (g terminal.For refl) refl (none r (suc n) (head of_clauses (suc n) (body n ∷ k)) b)
  begun_statement_part (BeginsStatement.for_first d) σ n k g =
      start_open (g terminal.For refl) refl (start_open refl refl (begun_clause_part d (suc n) (body n ∷ k)))
  begun_statement_part (BeginsStatement.for_test d e) σ n k g =
      let i = clause_part d (suc n) (body n ∷ k) 0 (omega arith) in
      start_open (g terminal.For refl) refl (start_open refl refl (start_join i (begun_part e (suc (suc n)) (second (suc n) ∷ body n ∷ k) (λ j. refl)) refl))
  begun_statement_part (BeginsStatement.for_step d e f) σ n k g =
      let i = clause_part d (suc n) (body n ∷ k) 0 (omega arith) in
      let p = optional_part e (optional_ending e) (omega arith) (suc (suc n)) (second (suc n) ∷ body n ∷ k) (λ j. refl) in
      let q = begun_part f (suc (suc n)) (third (suc n) ∷ body n ∷ k) (λ j. refl) in
      start_open (g terminal.For refl) refl (start_open refl refl (start_join (join i (close p.part p.semicolon refl (omega arith)) refl) q refl))
  begun_statement_part (BeginsStatement.for d e f v) σ n k g =
      let x = optional_shorter e in
      let y = optional_shorter f in
      let c = optional_ending f in
      let i = clause_part d (suc n) (body n ∷ k) (length c) (omega arith) in
      let p = optional_part e (optional_ending e) (omega arith) (suc (suc n)) (second (suc n) ∷ body n ∷ k) (λ j. refl) in
      let t = optional_part f c (omega arith) (suc (suc n)) (third (suc n) ∷ body n ∷ k) (λ j. refl) in
      let s = close (opened refl refl c (join (join i (close p.part p.semicolon refl (omega arith)) refl) t.part refl)) t.paren refl (omega arith) in
      start_open (g terminal.For refl) refl (start_join s (begun_statement_part v (fresh (suc n) (body n ∷ k)) (suc n) (body n ∷ k) (λ l j. refl)) refl)
  begun_statement_part (BeginsStatement.give d) σ n k g = start_before (g terminal.Return refl) refl (begun_part d n (act ∷ k) (λ j. refl))
  begun_statement_part {r = r} {b = b} BeginsStatement.break σ n k g =
      start_before (g terminal.Break refl) refl (none r n (operated n (act ∷ k)) b)
  begun_statement_part {r = r} {b = b} BeginsStatement.continue σ n k g =
      start_before (g terminal.Continue refl) refl (none r n (operated n (act ∷ k)) b)
  begun_statement_part (BeginsStatement.end d) σ n k g = let p = statement_part d σ n k g 0 (omega arith) in whole p.part

  begun_items_part : {r : ℕ} {a b : Tokens} (d : BeginsItems r a b) (σ : State) (n : ℕ) (k : List Frame)
      → Opens σ (suc n) (block n ∷ k) → Start r (suc n) σ a b (begun_items_openers d)
  begun_items_part (BeginsItems.vars d) σ n k g = begun_vars_part d σ (suc n) (block n ∷ k) (λ t. g (terminal.Type t) refl)
  begun_items_part (BeginsItems.statement d) σ n k g = begun_statement_part d σ (suc n) (block n ∷ k) g
  begun_items_part (BeginsItems.more_vars d e) σ n k g =
      let p = vars_part d σ (suc n) (block n ∷ k) (λ t. g (terminal.Type t) refl) 0 (omega arith) in
      start_join p (begun_items_part e (fresh (suc n) (block n ∷ k)) n k (λ l i. refl)) refl
  begun_items_part (BeginsItems.more_statement d e) σ n k g =
      let p = statement_part d σ (suc n) (block n ∷ k) g 0 (omega arith) in
      start_join p.part (begun_items_part e p.final n k (λ l i. p.goes_on l (λ j. i))) refl

-- ---- programs

begun_parameter_part : {r : ℕ} {a b : Tokens} (d : BeginsParameter r a b) (n : ℕ) (k : List Frame)
    → Start r n (declared n k) a b (begun_parameter_openers d)
begun_parameter_part {r = r} {a = a} BeginsParameter.none n k = none r n (declared n k) a
begun_parameter_part {r = r} {b = b} (BeginsParameter.type {k = w} {ty = ty} i) n k =
    start_before (ap (step (declared n k)) (terminal_type w ty i)) refl (none r n (declared n k) b)
begun_parameter_part (BeginsParameter.array {k = w} {ty = ty} i d) n k =
    start_before (ap (step (declared n k)) (terminal_type w ty i)) refl (start_before refl refl (begun_length_part d n k))

begun_parameters_part : {r : ℕ} {a b : Tokens} (d : BeginsParameters r a b) (n : ℕ) (k : List Frame)
    → Start r n (declared n k) a b (begun_parameters_openers d)
begun_parameters_part (BeginsParameters.last d) n k = begun_parameter_part d n k
begun_parameters_part (BeginsParameters.more d e) n k =
    start_join (after (parameter_part d n k 0 (omega arith)) refl refl (omega arith)) (begun_parameters_part e n k) refl

begun_signature_part : {r : ℕ} {a b : Tokens} (d : BeginsSignature r a b) (n : ℕ) (k : List Frame)
    → Start r n (declared n k) a b (begun_signature_openers d)
begun_signature_part {r = r} {b = b} BeginsSignature.void n k = start_before refl refl (none r n (declared n k) b)
begun_signature_part (BeginsSignature.parameters d) n k = begun_parameters_part d n k

begun_external_part : {r : ℕ} {a b : Tokens} (d : BeginsExternal r a b) (σ : State) → Opens σ 0 []
    → Start r 0 σ a b (begun_external_openers d)
begun_external_part {r = r} {a = a} BeginsExternal.none σ g = none r 0 σ a
begun_external_part (BeginsExternal.vars d) σ g = begun_vars_part d σ 0 [] (λ t. g (terminal.Type t) refl)
begun_external_part {r = r} {b = b} (BeginsExternal.result {k = w} {ret = ret} i) σ g =
    start_before (result_opens w ret σ g i) refl (none r 0 (declared 0 []) b)
begun_external_part {r = r} {b = b} (BeginsExternal.name {k = w} {ret = ret} i) σ g =
    start_before (result_opens w ret σ g i) refl (start_before refl refl (none r 0 (declared 0 []) b))
begun_external_part (BeginsExternal.signature {k = w} {ret = ret} i d) σ g =
    start_before (result_opens w ret σ g i) refl (start_before refl refl (start_open refl refl (begun_signature_part d 1 (group 0 ∷ []))))
begun_external_part (BeginsExternal.close {k = w} {ret = ret} i d) σ g =
    let c = signature_ending d in
    let p = close (opened refl refl c (signature_part d 1 (group 0 ∷ []) (length c) (omega arith))) refl refl (omega arith) in
    whole (before (result_opens w ret σ g i) refl (before refl refl p))
begun_external_part (BeginsExternal.body {k = w} {ret = ret} i d e) σ g =
    let c = signature_ending d in
    let p = close (opened refl refl c (signature_part d 1 (group 0 ∷ []) (length c) (omega arith))) refl refl (omega arith) in
    start_join (before (result_opens w ret σ g i) refl (before refl refl p)) (start_open refl refl (begun_items_part e (fresh 1 (block 0 ∷ [])) 0 [] (λ l j. refl))) refl
begun_external_part (BeginsExternal.end d) σ g = let p = external_part d σ g 0 (omega arith) in whole p.part

pub viable_part : {r : ℕ} {a b : Tokens} (d : Viable r a b) (σ : State) → Opens σ 0 []
    → Start r 0 σ a b (viable_openers d)
viable_part (Viable.external d) σ g = begun_external_part d σ g
viable_part (Viable.more d e) σ g = let p = external_part d σ g 0 (omega arith) in start_join p.part (viable_part e p.final p.opens) refl
