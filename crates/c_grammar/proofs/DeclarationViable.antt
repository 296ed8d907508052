-- What begins a declaration is passed by the descent.
use Rattle.std.proofs.Common.{◌≡◌, ◌⊎◌, inl, inr, ℕ, ℤ, zero, suc, ◌≤◌, ◌<◌, Bool, true, false, List, [], ◌∷◌, Option, refl, subst, sym, arith, length}
use Rattle.c_lex.specs.declared.token.TokenKind.TheVariants as kind
use Rattle.c_lex.specs.declared.token.Punct.TheVariants as mark
use Rattle.c_tree.specs.declared.place.Span.{Span}
use Rattle.c_tree.specs.declared.stmt.Ty.{Ty}
use Rattle.c_tree.specs.Tree.{Tree, Variable}
use Rattle.c_grammar.specs.declared.terminal.Terminal.{Terminal}
use Rattle.c_grammar.specs.declared.terminal.Terminal.TheVariants as terminal
use Rattle.c_grammar.specs.declared.nonterminal.Nonterminal.{Nonterminal}
use Rattle.c_grammar.specs.declared.nonterminal.Nonterminal.TheVariants.{Expression, Assignment}
use Rattle.c_grammar.specs.Grammar.{Tokens, Begins}
use Rattle.c_grammar.specs.Programs.{Length, Elements, BeginsLength, BeginsElements, BeginsDeclarator, BeginsDeclarators, BeginsVars, BeginsClause}
use Rattle.c_grammar.specs.Terminals.{lookahead, is_constant, is_open_bracket, is_close_bracket, is_close_brace, is_semicolon, is_assign, never}
use Rattle.c_grammar.specs.Descent.{Reading, found, and_then, expected, listed, after_comma, run}
use Rattle.c_grammar.specs.ProgramDescent as descent
use Rattle.c_grammar.proofs.Terminals.{terminal_type}
use Rattle.c_grammar.proofs.ExpressionBasics.{reads_shorter}
use Rattle.c_grammar.proofs.ProgramBasics.{declarator_shorter}
use Rattle.c_grammar.proofs.ExpressionFirstSets.{starting, starts}
use Rattle.c_grammar.proofs.ProgramFirstSets.{length_opens, vars_start, starting_first}
use Rattle.c_grammar.proofs.ProgramComplete.{complete_value, complete_length, complete_elements, complete_declarator, complete_vars, complete_clause}
use Rattle.c_grammar.proofs.ExpressionConsumption.{Within, within_then, stays, expected_within, ahead_within}
use Rattle.c_grammar.proofs.ProgramConsumption.{value_within, bound_by_within, bracketed_within, elements_within, list_by_within, scalar_by_within, declarator_within, vars_within, clause_within}
use Rattle.c_grammar.proofs.ExpressionViable.{within_more, no_part, refused, goes_on, list_passes, list_goes_on, passes}

-- what is read is passed
pub arrives : {A : Type 0} {o : Reading A} {x : A} {m : ℕ} {b : Tokens} → o ≡ found x m b → Within b o
arrives {b = b} e = subst (Within b) (sym e) stays

-- an expression at a token that begins none is nothing yet
pub begins_stops : {N : Nonterminal} {r : ℕ} {a b : Tokens} → Begins N r a b → starting (lookahead a) ≡ false → length a ≤ length b
begins_stops {N} {r} {a} {b} d e = refused (run (suc r) N r a) (no_part r N r a e) (passes r d (omega arith))

pub pass_value : {N : Nonterminal} {r : ℕ} {a b : Tokens} → Begins N r a b → Within b (descent.value N r a)
pass_value {r = r} d = within_then (passes r d (omega arith)) (λ t m c. stays)

-- an expression that may be absent
pub pass_optional : {r : ℕ} {a b : Tokens} (ends : Terminal → Bool) → ((l : Terminal) → starting l ≡ true → ends l ≡ false) → Begins Expression r a b
    → Within b (descent.optional ends r a)
pass_optional {r} {a} {b} ends g d = optional (ends (lookahead a)) (starting (lookahead a)) refl refl
  where
    optional : (x y : Bool) → ends (lookahead a) ≡ x → starting (lookahead a) ≡ y → Within b (descent.optional_by x r a)
    optional false y e h = within_then (pass_value d) (λ t m c. stays)
    optional true false e h = within_more (begins_stops d h) stays
    optional true true e h = absurd (let z = g (lookahead a) h in cc (z, e))

-- ---- declarations

-- brackets at another token are nothing yet
pub length_stops : {r : ℕ} {a b : Tokens} → BeginsLength r a b → is_open_bracket (lookahead a) ≡ false → length a ≤ length b
length_stops BeginsLength.none e = omega arith
length_stops BeginsLength.bracket e = absurd (cc (e))
length_stops BeginsLength.constant e = absurd (cc (e))
length_stops (BeginsLength.end d) e = absurd (let z = length_opens d in cc (z, e))

pub pass_length : {r : ℕ} {a b : Tokens} → BeginsLength r a b → Within b (descent.bracketed r a)
pass_length (BeginsLength.none {r} {a}) = bracketed_within r a
pass_length (BeginsLength.bracket {r} {a}) =
    within_then (bound_by_within (is_constant (lookahead a)) r a) (λ n q c. within_then (expected_within is_close_bracket (suc r) c) (λ e v d. stays))
pass_length (BeginsLength.constant {r} {a}) = within_then (expected_within is_close_bracket (suc r) a) (λ e v d. stays)
pass_length (BeginsLength.end d) = arrives (complete_length d)

elements_stop : {r : ℕ} {a b : Tokens} → BeginsElements r a b → starting (lookahead a) ≡ false → length a ≤ length b
elements_stop (BeginsElements.last d) e = begins_stops d e
elements_stop (BeginsElements.more d f) e = absurd (let z = starts d in cc (z, e))

brace_no_start : (l : Terminal) → is_close_brace l ≡ true → starting l ≡ false
brace_no_start terminal.CloseBrace e = refl
brace_no_start _ e = absurd (cc (e))

after_element : (q r : ℕ) (b c : Tokens) (t : Tree) (y : Bool) → is_close_brace (lookahead b) ≡ y → BeginsElements r b c
    → Within c (listed is_close_brace (descent.value Assignment r) q r b)
    → Within c (after_comma is_close_brace (descent.value Assignment r) y (listed is_close_brace (descent.value Assignment r) q) t r b)
after_element q r b c t true e d f = within_more (elements_stop d (brace_no_start (lookahead b) e)) stays
after_element q r b c t false e d f = ahead_within (t ∷ []) (listed is_close_brace (descent.value Assignment r) q r b) f

pub pass_elements : {r : ℕ} {a b : Tokens} (q : ℕ) → BeginsElements r a b → length a < q → Within b (listed is_close_brace (descent.value Assignment r) q r a)
unfolding listed
pass_elements zero d h = absurd (omega arith)
pass_elements (suc q) (BeginsElements.last {r} {a} {b} d) h =
    list_passes is_close_brace (descent.value Assignment r) (value_within Assignment r) q r a b (pass_value d)
pass_elements (suc q) (BeginsElements.more {r} {m} {a} {b} {c} {t} {s} d f) h =
    let w = reads_shorter d in
    let y : descent.value Assignment r a ≡ found t r ((kind.Punct mark.Comma, s) ∷ b) = complete_value d (omega arith) in
    rw y (after_element q r b c t (is_close_brace (lookahead b)) refl f (pass_elements q f (omega arith)))

-- after the `{` of an initialiser list
listed_elements : {r : ℕ} {a b : Tokens} (o : Span) → BeginsElements r a b → Within b (descent.elements (suc r) ((kind.Punct mark.OpenBrace, o) ∷ a))
listed_elements {r} {a} {b} o d =
    within_then (pass_elements (suc (length a)) d (omega arith)) (λ ts n c. within_then (expected_within is_close_brace (suc r) c) (λ e q x. stays))

listed_end : {r : ℕ} {a b : Tokens} {ts : List Tree} {q : Span} (o : Span) → Elements r a ((kind.Punct mark.CloseBrace, q) ∷ b) ts
    → Within b (descent.elements (suc r) ((kind.Punct mark.OpenBrace, o) ∷ a))
listed_end {r} {a} {b} {ts} {q} o d =
    goes_on b (listed is_close_brace (descent.value Assignment r) (suc (length a)) r a)
    (λ ts n c. and_then (expected is_close_brace (suc r) c) (λ e q d. found ts q d)) ts r ((kind.Punct mark.CloseBrace, q) ∷ b)
    (complete_elements (suc (length a)) d (omega arith) refl) stays

-- after the `=` of an array
array_goes_on : {r : ℕ} {a b c : Tokens} {n : Option ℤ} {e o : Span} (w : List ℕ) (s : Span) → Length r a ((kind.Punct mark.Assign, o) ∷ b) n e
    → Within c (descent.elements r b) → Within c (descent.declarator r ((kind.Name w, s) ∷ a))
array_goes_on {r} {a} {b} {c} {n} {e} {o} w s d f =
    subst (λ x. Within c (descent.declared_by x (w, s) r a)) (sym (length_opens d))
    (goes_on c (descent.bracketed r a) (λ n m b. descent.list_by (is_assign (lookahead b)) (w, s) n m b) (n, e) r ((kind.Punct mark.Assign, o) ∷ b)
    (complete_length d) (within_then f (λ ts q d. stays)))

bracket_passes : (w : List ℕ) (s : Span) (r : ℕ) (a b : Tokens) (x : Bool) → is_open_bracket (lookahead a) ≡ x → BeginsLength r a b
    → Within b (descent.declared_by x (w, s) r a)
bracket_passes w s r a b true e d = within_then (pass_length d) (λ n m c. list_by_within (is_assign (lookahead c)) (w, s) n m c)
bracket_passes w s r a b false e d = within_more (length_stops d e) (scalar_by_within (is_assign (lookahead a)) (w, s) r a)

pub pass_declarator : {r : ℕ} {a b : Tokens} → BeginsDeclarator r a b → Within b (descent.declarator r a)
pass_declarator (BeginsDeclarator.none {r} {a}) = declarator_within r a
pass_declarator (BeginsDeclarator.scalar_start d) = within_then (pass_value d) (λ t q c. stays)
pass_declarator (BeginsDeclarator.array {r} {a} {b} {w} {s} d) = bracket_passes w s r a b (is_open_bracket (lookahead a)) refl d
pass_declarator (BeginsDeclarator.array_start {r} {a} {b} {w} {s} d) = array_goes_on w s d (elements_within r b)
pass_declarator (BeginsDeclarator.array_list {w = w} {s = s} {p = p} d f) = array_goes_on w s d (listed_elements p f)
pass_declarator (BeginsDeclarator.array_end {w = w} {s = s} {p = p} d f) = array_goes_on w s d (listed_end p f)

pub pass_declarators : {r : ℕ} {a b : Tokens} (q : ℕ) → BeginsDeclarators r a b → length a < q → Within b (listed never (descent.declarator r) q r a)
pass_declarators zero d h = absurd (omega arith)
pass_declarators (suc q) (BeginsDeclarators.last {r} {a} {b} d) h = list_passes never (descent.declarator r) (declarator_within r) q r a b (pass_declarator d)
pass_declarators (suc q) (BeginsDeclarators.more {r} {a} {b} {c} {v} {s} d f) h =
    let w = declarator_shorter d in
    list_goes_on never (descent.declarator r) q r a b c v s (complete_declarator d (omega arith)) refl (pass_declarators q f (omega arith))

-- after the type of a declaration
pub declared : {r : ℕ} {a b : Tokens} (ty : Ty) → BeginsDeclarators r a b
    → Within {A = Ty × List Variable} b (and_then (descent.declarators r a) (λ vs n c. and_then (expected is_semicolon n c) (λ e q d. found (ty, vs) q d)))
declared {r} {a} {b} ty d =
    within_then (pass_declarators (suc (length a)) d (omega arith)) (λ vs n c. within_then (expected_within is_semicolon n c) (λ e q d. stays))

pub pass_vars : {r : ℕ} {a b : Tokens} → BeginsVars r a b → Within b (descent.vars r a)
pass_vars (BeginsVars.none {r} {a}) = vars_within r a
pass_vars (BeginsVars.vars {r} {a} {b} {k} {s} {ty} h d) = rw (terminal_type k ty h) (declared ty d)
pass_vars (BeginsVars.end d) = arrives (complete_vars d)

-- a declaration of variables begins with a type, or nothing of it is there yet
pub vars_or : {r : ℕ} {a b : Tokens} → BeginsVars r a b → (a ≡ b) ⊎ ((ty : Ty) × (lookahead a ≡ terminal.Type ty))
vars_or BeginsVars.none = inl refl
vars_or (BeginsVars.vars {k = k} {ty = ty} h d) = inr (ty, terminal_type k ty h)
vars_or (BeginsVars.end {ty = ty} d) = inr (ty, vars_start d)

-- ---- the first clause of a `for`

clause_act : {r : ℕ} {a b : Tokens} → Begins Expression r a b → (x : Bool) → starting (lookahead a) ≡ x → Within b (descent.clause r a)
clause_act {r} {a} {b} d false e = within_more (begins_stops d e) (clause_within r a)
clause_act {r} {a} {b} d true e =
    subst (Within b) (sym (starting_first (lookahead a) r a e))
    (within_then (pass_value d) (λ t m c. within_then (expected_within is_semicolon m c) (λ e n x. stays)))

clause_vars : {r : ℕ} {a b : Tokens} → BeginsVars r a b → ((a ≡ b) ⊎ ((ty : Ty) × (lookahead a ≡ terminal.Type ty))) → Within b (descent.clause r a)
clause_vars {r} {a} {b} d (inl e) = subst (λ b. Within b (descent.clause r a)) e (clause_within r a)
clause_vars {r} {a} {b} d (inr x) = subst (λ l. Within b (descent.clause_by l r a)) (sym x.1) (within_then (pass_vars d) (λ v m c. stays))

pub pass_clause : {r : ℕ} {a b : Tokens} → BeginsClause r a b → Within b (descent.clause r a)
pass_clause (BeginsClause.act {r} {a} {b} d) = clause_act d (starting (lookahead a)) refl
pass_clause (BeginsClause.vars d) = clause_vars d (vars_or d)
pass_clause (BeginsClause.end d) = arrives (complete_clause d)
