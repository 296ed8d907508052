-- What the descent reads as declarations, and as the parts of statements that hold no statement, is derived; where it stops, what comes
-- before begins one.
use Rattle.std.proofs.Common.{◌≡◌, ℕ, ℤ, zero, suc, Bool, true, false, List, ◌∷◌, Option, Some, None, refl, ap, arith}
use Rattle.c_lex.specs.declared.token.TokenKind.TheVariants as kind
use Rattle.c_lex.specs.declared.token.Punct.TheVariants as mark
use Rattle.c_tree.specs.declared.place.Span.{Span}
use Rattle.c_tree.specs.declared.stmt.Shape.TheVariants.{Array}
use Rattle.c_tree.specs.Tree as tree
use Rattle.c_tree.specs.Tree.{Tree, Variable, First}
use Rattle.c_grammar.specs.declared.terminal.Terminal.{Terminal}
use Rattle.c_grammar.specs.declared.terminal.Terminal.TheVariants as terminal
use Rattle.c_grammar.specs.declared.nonterminal.Nonterminal.{Nonterminal}
use Rattle.c_grammar.specs.declared.nonterminal.Nonterminal.TheVariants.{Expression, Assignment}
use Rattle.c_grammar.specs.Grammar.{Tokens, over, Reads, Begins}
use Rattle.c_grammar.specs.Terminals.{lookahead, is_constant, is_close_paren, is_open_bracket, is_close_brace, is_semicolon, is_assign, never}
use Rattle.c_grammar.specs.Programs.{variable, Length, Elements, Declarator, Declarators, Vars, Clause, Optional, BeginsLength, BeginsElements, BeginsDeclarator, BeginsDeclarators, BeginsVars, BeginsClause}
use Rattle.c_grammar.specs.ProgramDescent.{value, bound_by, bracketed, elements, list_by, array, scalar_by, declared_by, declarator, declarators, vars, tested, optional_by, optional, first_act, clause_by, clause, clauses}
use Rattle.c_grammar.proofs.ExpressionBasics.{reads_lift, reads_begun}
use Rattle.c_grammar.proofs.ProgramBasics.{length_lift, elements_begun, declarator_lift, declarators_begun, clause_lift, optional_lift, optional_begun}
use Rattle.c_grammar.proofs.Fits.{Fits, Kept, part_fits, kept_fits, lookahead_is, token_fits, name_opens, constant_opens, type_opens, enters, close_paren, open_paren, open_bracket, close_bracket, open_brace, close_brace, semicolon, assign}
use Rattle.c_grammar.proofs.ListFits.{Listing, listed_fits}
use Rattle.c_grammar.proofs.ExpressionSound.{run_ok}

-- an expression, whatever the room after it
pub record Valued (N : Nonterminal) (r : ℕ) (a : Tokens) (t : Tree) (b : Tokens) : Type 0 where
  pub left : ℕ
  pub reads : Reads N r a left b t

pub value_ok : (N : Nonterminal) (r : ℕ) (a : Tokens) → Fits (Begins N r a) (Begins N (suc r) a) (Kept r (Valued N r a)) (value N r a)
value_ok N r a = part_fits (run_ok (suc r) N r a (omega arith)) (λ b v. v) (λ b v. v)
    (λ t m b d. Fits.finds (record { same = refl; is = record { left = m; reads = d.reads } }))

-- ---- declarations

-- what may stand between the brackets after an array's name
data Bound : Tokens → Option ℤ → Tokens → Type 0 where
  bare : {a : Tokens} → Bound a None a
  constant : {a : Tokens} {n : ℤ} {w : List ℕ} {s : Span} → Bound ((kind.Const n w, s) ∷ a) (Some n) a

bound_begins : {r : ℕ} {a b : Tokens} {n : Option ℤ} {o : Span} → Bound a n b → BeginsLength (suc r) ((kind.Punct mark.OpenBracket, o) ∷ a) b
bound_begins Bound.bare = BeginsLength.bracket
bound_begins Bound.constant = BeginsLength.constant

bound_length : {r : ℕ} {a b : Tokens} {n : Option ℤ} {o e : Span} → Bound a n ((kind.Punct mark.CloseBracket, e) ∷ b)
    → Length (suc r) ((kind.Punct mark.OpenBracket, o) ∷ a) b n e
bound_length Bound.bare = Length.bare
bound_length Bound.constant = Length.constant

bound_by_ok : (x : Bool) (r m : ℕ) (o : Span) (a : Tokens)
    → Fits (BeginsLength (suc r) ((kind.Punct mark.OpenBracket, o) ∷ a)) (BeginsLength (suc (suc r)) ((kind.Punct mark.OpenBracket, o) ∷ a)) (Kept m (Bound a))
    (bound_by x m a)
bound_by_ok true r m o a =
    constant_opens (λ z. BeginsLength (suc r) ((kind.Punct mark.OpenBracket, o) ∷ z)) (λ z. BeginsLength (suc (suc r)) ((kind.Punct mark.OpenBracket, o) ∷ z))
    (λ z. Kept m (Bound z)) _ m a
    BeginsLength.bracket (λ n w s c. Fits.finds (record { same = refl; is = Bound.constant }))
bound_by_ok false r m o a = Fits.finds (record { same = refl; is = Bound.bare })

pub bracketed_ok : (r : ℕ) (o : Span) (a : Tokens)
    → Fits (BeginsLength r ((kind.Punct mark.OpenBracket, o) ∷ a)) (BeginsLength (suc r) ((kind.Punct mark.OpenBracket, o) ∷ a))
    (Kept r (λ x b. Length r ((kind.Punct mark.OpenBracket, o) ∷ a) b x.0 x.1))
    (bracketed r ((kind.Punct mark.OpenBracket, o) ∷ a))
bracketed_ok zero o a = Fits.sinks BeginsLength.none BeginsLength.bracket
bracketed_ok (suc r) o a =
    part_fits (bound_by_ok (is_constant (lookahead a)) r r o a) (λ b v. v) (λ b v. v)
    (λ n m b d. token_fits close_bracket (λ z. Bound a n z) _ (suc r) b (bound_begins d.is) d.is (λ e c g. Fits.finds (record { same = refl; is = bound_length g })))

-- an initialiser list with its braces
data Braced : ℕ → Tokens → List Tree → Tokens → Type 0 where
  braces : {r : ℕ} {a b : Tokens} {p q : Span} {ts : List Tree} → Elements r a ((kind.Punct mark.CloseBrace, q) ∷ b) ts
      → Braced (suc r) ((kind.Punct mark.OpenBrace, p) ∷ a) ts b

-- what begins an initialiser list
data BeginsBraced : ℕ → Tokens → Tokens → Type 0 where
  none : {r : ℕ} {a : Tokens} → BeginsBraced r a a
  brace : {r : ℕ} {a b : Tokens} {p : Span} → BeginsElements r a b → BeginsBraced (suc r) ((kind.Punct mark.OpenBrace, p) ∷ a) b
  end : {r : ℕ} {a b : Tokens} {ts : List Tree} → Braced r a ts b → BeginsBraced r a b

element_lists : (r : ℕ) → Listing is_close_brace (Valued Assignment r) (λ a ts b. Elements r a b ts) (Begins Assignment r) (Begins Assignment (suc r))
    (BeginsElements r) (BeginsElements (suc r))
element_lists r =
    record {
      none = λ a. BeginsElements.last Begins.none;
      last = λ d. Elements.last d.reads;
      last_comma = λ e d. Elements.last_comma d.reads;
      more = λ d x. Elements.more d.reads x;
      begins_last = λ v. BeginsElements.last v;
      deeper_last = λ v. BeginsElements.last v;
      begins_more = λ d v. BeginsElements.more d.reads v;
      deeper_more = λ d v. BeginsElements.more (reads_lift d.reads) v;
    }

elements_ok : (r : ℕ) (a : Tokens) → Fits (BeginsBraced r a) (BeginsBraced (suc r) a) (Kept r (Braced r a)) (elements r a)
elements_ok =
    enters open_brace BeginsBraced (λ m z. Kept m (Braced m z)) _ (λ m c. BeginsBraced.none) (λ s m c. BeginsBraced.brace (BeginsElements.last Begins.none))
    (λ s m c. part_fits (listed_fits (element_lists m) (value Assignment m) m (value_ok Assignment m) _ c) (λ b v. BeginsBraced.brace v)
    (λ b v. BeginsBraced.brace v)
    (λ ts n b d. token_fits close_brace (λ z. Elements m c z ts) _ (suc m) b (BeginsBraced.brace (elements_begun d.is)) d.is
    (λ i z g. Fits.finds (record { same = refl; is = Braced.braces g }))))

list_begins : {r : ℕ} {a b c : Tokens} {w : List ℕ} {s e o : Span} {n : Option ℤ} → Length r a ((kind.Punct mark.Assign, o) ∷ b) n e → BeginsBraced r b c
    → BeginsDeclarator r ((kind.Name w, s) ∷ a) c
list_begins d BeginsBraced.none = BeginsDeclarator.array_start d
list_begins d (BeginsBraced.brace v) = BeginsDeclarator.array_list d v
list_begins d (BeginsBraced.end (Braced.braces x)) = BeginsDeclarator.array_end d x

list_declares : {r : ℕ} {a b c : Tokens} {w : List ℕ} {s e o : Span} {n : Option ℤ} {ts : List Tree} → Length r a ((kind.Punct mark.Assign, o) ∷ b) n e
    → Braced r b ts c
    → Declarator r ((kind.Name w, s) ∷ a) c (variable w (over s e) (Array n) (tree.list_start ts))
list_declares d (Braced.braces x) = Declarator.array_list d x

list_by_ok : (x : Bool) (w : List ℕ) (s : Span) (r : ℕ) (a : Tokens) (n : Option ℤ × Span) (b : Tokens) → is_assign (lookahead b) ≡ x → Length r a b n.0 n.1
    → Fits (BeginsDeclarator r ((kind.Name w, s) ∷ a)) (BeginsDeclarator (suc r) ((kind.Name w, s) ∷ a)) (Kept r (λ v c. Declarator r ((kind.Name w, s) ∷ a) c v))
    (list_by x (w, s) n r b)
list_by_ok false w s r a n b e d = Fits.finds (record { same = refl; is = Declarator.array d })
list_by_ok true w s r a n b e d =
    lookahead_is assign (λ z. Length r a z n.0 n.1 → Fits (BeginsDeclarator r ((kind.Name w, s) ∷ a)) (BeginsDeclarator (suc r) ((kind.Name w, s) ∷ a))
    (Kept r (λ v c. Declarator r ((kind.Name w, s) ∷ a) c v))
    (list_by true (w, s) n r z)) b e
    (λ o c g. kept_fits _ (elements_ok r c) (λ x v. list_begins g v) (λ x v. list_begins (length_lift g) v)
    (λ ts x k. Fits.finds (record { same = refl; is = list_declares g k }))) d

array_ok : (w : List ℕ) (s : Span) (r : ℕ) (o : Span) (a : Tokens)
    → Fits (BeginsDeclarator r ((kind.Name w, s) ∷ (kind.Punct mark.OpenBracket, o) ∷ a))
    (BeginsDeclarator (suc r) ((kind.Name w, s) ∷ (kind.Punct mark.OpenBracket, o) ∷ a))
    (Kept r (λ v c. Declarator r ((kind.Name w, s) ∷ (kind.Punct mark.OpenBracket, o) ∷ a) c v)) (array (w, s) r ((kind.Punct mark.OpenBracket, o) ∷ a))
array_ok w s r o a =
    kept_fits _ (bracketed_ok r o a) (λ b v. BeginsDeclarator.array v) (λ b v. BeginsDeclarator.array v)
    (λ n b d. list_by_ok (is_assign (lookahead b)) w s r ((kind.Punct mark.OpenBracket, o) ∷ a) n b refl d)

scalar_by_ok : (x : Bool) (w : List ℕ) (s : Span) (r : ℕ) (a : Tokens) → is_assign (lookahead a) ≡ x
    → Fits (BeginsDeclarator r ((kind.Name w, s) ∷ a)) (BeginsDeclarator (suc r) ((kind.Name w, s) ∷ a)) (Kept r (λ v c. Declarator r ((kind.Name w, s) ∷ a) c v))
    (scalar_by x (w, s) r a)
scalar_by_ok false w s r a e = Fits.finds (record { same = refl; is = Declarator.scalar })
scalar_by_ok true w s r a e =
    lookahead_is assign (λ z. Fits (BeginsDeclarator r ((kind.Name w, s) ∷ z)) (BeginsDeclarator (suc r) ((kind.Name w, s) ∷ z))
    (Kept r (λ v c. Declarator r ((kind.Name w, s) ∷ z) c v)) (scalar_by true (w, s) r z)) a e
    (λ o c. kept_fits _ (value_ok Assignment r c) (λ b v. BeginsDeclarator.scalar_start v) (λ b v. BeginsDeclarator.scalar_start v)
    (λ t b d. Fits.finds (record { same = refl; is = Declarator.scalar_start d.reads })))

declared_by_ok : (x : Bool) (w : List ℕ) (s : Span) (r : ℕ) (a : Tokens) → is_open_bracket (lookahead a) ≡ x
    → Fits (BeginsDeclarator r ((kind.Name w, s) ∷ a)) (BeginsDeclarator (suc r) ((kind.Name w, s) ∷ a)) (Kept r (λ v c. Declarator r ((kind.Name w, s) ∷ a) c v))
    (declared_by x (w, s) r a)
declared_by_ok false w s r a e = scalar_by_ok (is_assign (lookahead a)) w s r a refl
declared_by_ok true w s r a e =
    lookahead_is open_bracket (λ z. Fits (BeginsDeclarator r ((kind.Name w, s) ∷ z)) (BeginsDeclarator (suc r) ((kind.Name w, s) ∷ z))
    (Kept r (λ v c. Declarator r ((kind.Name w, s) ∷ z) c v)) (array (w, s) r z)) a e
    (λ o c. array_ok w s r o c)

declarator_ok : (r : ℕ) (a : Tokens) → Fits (BeginsDeclarator r a) (BeginsDeclarator (suc r) a) (Kept r (λ v b. Declarator r a b v)) (declarator r a)
declarator_ok r a =
    name_opens (BeginsDeclarator r) (BeginsDeclarator (suc r)) (λ z. Kept r (λ v b. Declarator r z b v)) _ r a BeginsDeclarator.none
    (λ w s c. declared_by_ok (is_open_bracket (lookahead c)) w s r c refl)

declarator_lists : (r : ℕ)
    → Listing never (λ a v b. Declarator r a b v) (λ a vs b. Declarators r a b vs) (BeginsDeclarator r) (BeginsDeclarator (suc r)) (BeginsDeclarators r)
    (BeginsDeclarators (suc r))
declarator_lists r =
    record {
      none = λ a. BeginsDeclarators.last BeginsDeclarator.none;
      last = λ d. Declarators.last d;
      last_comma = λ e d. absurd (cc (e));
      more = λ d x. Declarators.more d x;
      begins_last = λ v. BeginsDeclarators.last v;
      deeper_last = λ v. BeginsDeclarators.last v;
      begins_more = λ d v. BeginsDeclarators.more d v;
      deeper_more = λ d v. BeginsDeclarators.more (declarator_lift d) v;
    }

declarators_ok : (r : ℕ) (a : Tokens) → Fits (BeginsDeclarators r a) (BeginsDeclarators (suc r) a) (Kept r (λ vs b. Declarators r a b vs)) (declarators r a)
declarators_ok r a = listed_fits (declarator_lists r) (declarator r) r (declarator_ok r) _ a

pub vars_ok : (r : ℕ) (a : Tokens) → Fits (BeginsVars r a) (BeginsVars (suc r) a) (Kept r (λ x b. Vars r a b x.0 x.1)) (vars r a)
vars_ok r a =
    type_opens (BeginsVars r) (BeginsVars (suc r)) (λ z. Kept r (λ x b. Vars r z b x.0 x.1)) _ r a BeginsVars.none
    (λ k ty s c q. kept_fits _ (declarators_ok r c) (λ b v. BeginsVars.vars q v) (λ b v. BeginsVars.vars q v)
    (λ vs b d. token_fits semicolon (λ z. Declarators r c z vs) _ r b (BeginsVars.vars q (declarators_begun d)) d
    (λ e z g. Fits.finds (record { same = refl; is = Vars.vars q g }))))

-- ---- parts of statements

-- an expression in parentheses
pub data Tested : ℕ → Tokens → Tree → Tokens → Type 0 where
  test : {r m : ℕ} {a b : Tokens} {p e : Span} {t : Tree} → Reads Expression r a m ((kind.Punct mark.CloseParen, e) ∷ b) t
      → Tested (suc r) ((kind.Punct mark.OpenParen, p) ∷ a) t b

-- what begins an expression in parentheses
pub data BeginsTested : ℕ → Tokens → Tokens → Type 0 where
  none : {r : ℕ} {a : Tokens} → BeginsTested r a a
  test : {r : ℕ} {a b : Tokens} {p : Span} → Begins Expression r a b → BeginsTested (suc r) ((kind.Punct mark.OpenParen, p) ∷ a) b
  end : {r : ℕ} {a b : Tokens} {t : Tree} → Tested r a t b → BeginsTested r a b

pub tested_lift : {r : ℕ} {a b : Tokens} {t : Tree} → Tested r a t b → Tested (suc r) a t b
tested_lift (Tested.test d) = Tested.test (reads_lift d)

pub tested_ok : (r : ℕ) (a : Tokens) → Fits (BeginsTested r a) (BeginsTested (suc r) a) (Kept r (Tested r a)) (tested r a)
tested_ok =
    enters open_paren BeginsTested (λ m z. Kept m (Tested m z)) _ (λ m c. BeginsTested.none) (λ s m c. BeginsTested.test Begins.none)
    (λ s m c. part_fits (value_ok Expression m c) (λ b v. BeginsTested.test v) (λ b v. BeginsTested.test v)
    (λ t n b d. token_fits close_paren (λ z. Valued Expression m c t z) _ (suc m) b (BeginsTested.test (reads_begun d.is.reads)) d.is
    (λ i z g. Fits.finds (record { same = refl; is = Tested.test g.reads }))))

optional_by_ok : (x : Bool) (r : ℕ) (a : Tokens) → Fits (Begins Expression r a) (Begins Expression (suc r) a) (Kept r (λ t b. Optional r a b t)) (optional_by x r a)
optional_by_ok true r a = Fits.finds (record { same = refl; is = Optional.absent })
optional_by_ok false r a = part_fits (value_ok Expression r a) (λ b v. v) (λ b v. v)
    (λ t m b d. Fits.finds (record { same = d.same; is = Optional.present d.is.reads }))

pub optional_ok : (ends : Terminal → Bool) (r : ℕ) (a : Tokens) → Fits (Begins Expression r a) (Begins Expression (suc r) a) (Kept r (λ t b. Optional r a b t))
    (optional ends r a)
optional_ok ends r a = optional_by_ok (ends (lookahead a)) r a

first_act_ok : (r : ℕ) (a : Tokens) → Fits (BeginsClause r a) (BeginsClause (suc r) a) (Kept r (λ i b. Clause r a b i)) (first_act r a)
first_act_ok r a =
    kept_fits _ (value_ok Expression r a) (λ b v. BeginsClause.act v) (λ b v. BeginsClause.act v)
    (λ t b d. token_fits semicolon (Valued Expression r a t) _ r b (BeginsClause.act (reads_begun d.reads)) d
    (λ e c g. Fits.finds (record { same = refl; is = Clause.act g.reads })))

clause_by_ok : (l : Terminal) (r : ℕ) (a : Tokens) → lookahead a ≡ l → Fits (BeginsClause r a) (BeginsClause (suc r) a) (Kept r (λ i b. Clause r a b i)) (clause_by l r a)
clause_by_ok terminal.Semicolon r a e =
    lookahead_is semicolon (λ z. Fits (BeginsClause r z) (BeginsClause (suc r) z) (Kept r (λ i b. Clause r z b i)) (clause_by terminal.Semicolon r z)) a (ap is_semicolon e)
    (λ s c. Fits.finds (record { same = refl; is = Clause.empty }))
clause_by_ok (terminal.Type ty) r a e = part_fits (vars_ok r a) (λ b v. BeginsClause.vars v) (λ b v. BeginsClause.vars v)
    (λ x m b d. Fits.finds (record { same = d.same; is = Clause.vars d.is }))
clause_by_ok _ r a e = first_act_ok r a

clause_ok : (r : ℕ) (a : Tokens) → Fits (BeginsClause r a) (BeginsClause (suc r) a) (Kept r (λ i b. Clause r a b i)) (clause r a)
clause_ok r a = clause_by_ok (lookahead a) r a refl

-- the clauses of a `for` in their parentheses
pub data Clauses : ℕ → Tokens → First → Option Tree → Option Tree → Tokens → Type 0 where
  parens : {r : ℕ} {a b c d : Tokens} {p e q : Span} {i : First} {t u : Option Tree} → Clause r a b i → Optional r b ((kind.Punct mark.Semicolon, e) ∷ c) t
      → Optional r c ((kind.Punct mark.CloseParen, q) ∷ d) u
      → Clauses (suc r) ((kind.Punct mark.OpenParen, p) ∷ a) i t u d

-- what begins the clauses of a `for`
pub data BeginsClauses : ℕ → Tokens → Tokens → Type 0 where
  none : {r : ℕ} {a : Tokens} → BeginsClauses r a a
  first : {r : ℕ} {a b : Tokens} {p : Span} → BeginsClause r a b → BeginsClauses (suc r) ((kind.Punct mark.OpenParen, p) ∷ a) b
  test : {r : ℕ} {a b c : Tokens} {p : Span} {i : First} → Clause r a b i → Begins Expression r b c → BeginsClauses (suc r) ((kind.Punct mark.OpenParen, p) ∷ a) c
  step : {r : ℕ} {a b c d : Tokens} {p e : Span} {i : First} {t : Option Tree} → Clause r a b i → Optional r b ((kind.Punct mark.Semicolon, e) ∷ c) t
      → Begins Expression r c d
      → BeginsClauses (suc r) ((kind.Punct mark.OpenParen, p) ∷ a) d
  end : {r : ℕ} {a b : Tokens} {i : First} {t u : Option Tree} → Clauses r a i t u b → BeginsClauses r a b

pub clauses_lift : {r : ℕ} {a b : Tokens} {i : First} {t u : Option Tree} → Clauses r a i t u b → Clauses (suc r) a i t u b
clauses_lift (Clauses.parens x y z) = Clauses.parens (clause_lift x) (optional_lift y) (optional_lift z)

pub clauses_ok : (r : ℕ) (a : Tokens) → Fits (BeginsClauses r a) (BeginsClauses (suc r) a) (Kept r (λ h b. Clauses r a h.0 h.1 h.2 b)) (clauses r a)
clauses_ok =
    enters open_paren BeginsClauses (λ m z. Kept m (λ h b. Clauses m z h.0 h.1 h.2 b)) _ (λ m c. BeginsClauses.none)
    (λ s m c. BeginsClauses.first (BeginsClause.act Begins.none))
    (λ s m a. kept_fits _ (clause_ok m a) (λ b v. BeginsClauses.first v) (λ b v. BeginsClauses.first v)
    (λ i b x. kept_fits _ (optional_ok is_semicolon m b) (λ c v. BeginsClauses.test x v) (λ c v. BeginsClauses.test (clause_lift x) v)
    (λ t c y. token_fits semicolon (λ z. Optional m b z t) _ m c (BeginsClauses.test x (optional_begun y)) y
    (λ p c y. kept_fits _ (optional_ok is_close_paren m c) (λ d v. BeginsClauses.step x y v) (λ d v. BeginsClauses.step (clause_lift x) (optional_lift y) v)
    (λ u d z. token_fits close_paren (λ k. Optional m c k u) _ (suc m) d (BeginsClauses.step x y (optional_begun z)) z
    (λ q f z. Fits.finds (record { same = refl; is = Clauses.parens x y z })))))))
