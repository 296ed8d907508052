-- The scanner finds the nesting of declarations, statements and what stands at file scope.
use Rattle.std.proofs.Common.{◌≡◌, ℕ, ℤ, suc, ◌≤◌, ◌+◌, ◌-◌, Bool, true, false, List, [], ◌∷◌, Option, Some, refl, ap, ◌∙◌, arith, length}
use Rattle.c_lex.specs.declared.token.Keyword.{Keyword}
use Rattle.c_lex.specs.declared.token.TokenKind.{TokenKind}
use Rattle.c_tree.specs.declared.place.Span.{Span}
use Rattle.c_tree.specs.declared.program.Param.{Param}
use Rattle.c_tree.specs.declared.stmt.Ty.{Ty}
use Rattle.c_tree.specs.Tree.{Tree, Variable, First, Code, Body, Outer}
use Rattle.c_grammar.specs.declared.terminal.Terminal.{Terminal}
use Rattle.c_grammar.specs.declared.terminal.Terminal.TheVariants as terminal
use Rattle.c_grammar.specs.declared.nonterminal.Nonterminal.{Nonterminal}
use Rattle.c_grammar.specs.declared.nonterminal.Nonterminal.TheVariants.{Expression}
use Rattle.c_grammar.specs.Grammar.{Tokens, Reads}
use Rattle.c_grammar.specs.Terminals.{lookahead, is_else, keyword_terminal, terminal_of, result_at, rest}
use Rattle.c_grammar.specs.Operators.{result_word}
use Rattle.c_grammar.specs.Nesting.{Opener, ending, openers, length_openers, elements_openers, elements_ending, declarator_openers, declarators_openers, vars_openers, clause_openers, optional_openers, optional_ending, items_ending, statement_openers, items_openers, parameter_openers, parameters_openers, signature_openers, signature_ending, external_openers}
use Rattle.c_grammar.specs.Programs.{Length, Elements, Declarator, Declarators, Vars, Clause, Optional, Statement, Items, Parameter, Parameters, Signature, External}
use Rattle.c_grammar.proofs.ExpressionBasics.{room, reads_shorter}
use Rattle.c_grammar.proofs.ProgramBasics.{length_shorter, elements_shorter, declarators_shorter, clause_shorter, optional_shorter, statement_shorter, items_shorter, parameters_shorter}
use Rattle.c_grammar.proofs.Terminals.{terminal_type, terminal_result}
use Rattle.c_grammar.proofs.ExpressionFirstSets.{starting, starts, starting_no_else}
use Rattle.c_grammar.proofs.Scanner.{Frame, group, list, start, test, again, first, second, third, act, branch, body, turn, block, State, fresh, ended, operand, operated, declared, head, of_test, depth, vars_end, shut, by_else, at_operand, at_fresh, at_ended, step}
use Rattle.c_grammar.proofs.ScannedParts.{Part, nothing, before, opened, after, close, finish, join, enter}
use Rattle.c_grammar.proofs.ExpressionScan.{Free, reads_part}

-- an expression, with the nesting after it
pub reads_from : {N : Nonterminal} {r m : ℕ} {a b : Tokens} {t : Tree} (d : Reads N r a m b t) (end : Tokens)
    → length end ≤ length b → (n : ℕ) (k : List Frame) → Free N k
    → Part r m (length end) n (operand n k) a (operated (n + r - m) k) b (openers d end)
reads_from {r = r} {m = m} d end h n k f = let y = room d in reads_part d end h n (n + r - m) (omega arith) k f

-- ---- declarations

pub length_part : {r : ℕ} {a b : Tokens} {v : Option ℤ} {e : Span} (d : Length r a b v e) (n : ℕ) (k : List Frame) (z : ℕ)
    → z ≤ length b → Part r r z n (declared n k) a (declared n k) b (length_openers d)
length_part {a = a} (Length.bare {r = r}) n k z h =
    close (opened refl refl (rest a) (nothing r (length (rest a)) (suc n) (declared (suc n) (group n ∷ k)) (rest a) (omega arith))) refl refl h
length_part {a = a} (Length.constant {r = r}) n k z h =
    let c = rest (rest a) in
    close (opened refl refl c (before refl refl (nothing r (length c) (suc n) (declared (suc n) (group n ∷ k)) c (omega arith)))) refl refl h

-- the elements of an initialiser list, up to its `}`
pub record Listed (r z n : ℕ) (k : List Frame) (a b : Tokens) (l : List Opener) : Type 0 where
  pub final : State
  pub closes : step final terminal.CloseBrace ≡ operated n k
  pub part : Part r r z (suc n) (operand (suc n) (list n ∷ k)) a final b l

pub elements_part : {r : ℕ} {a b : Tokens} {ts : List Tree} (d : Elements r a b ts) (n : ℕ) (k : List Frame) (z : ℕ)
    → z ≤ length b → Listed r z n k a b (elements_openers d)
elements_part {r = r} (Elements.last {m = m} d) n k z h =
    record { final = operated (suc n + r - m) (list n ∷ k); closes = refl; part = finish (reads_from d (ending d) (omega arith) (suc n) (list n ∷ k) tt) h }
elements_part (Elements.last_comma d) n k z h = record {
  final = operand (suc n) (list n ∷ k);
  closes = refl;
  part = after (finish (reads_from d (ending d) (omega arith) (suc n) (list n ∷ k) tt) (omega arith)) refl refl h;
}
elements_part (Elements.more d e) n k z h =
    let y = elements_shorter e in
    let q = elements_part e n k z h in
    record {
      final = q.final;
      closes = q.closes;
      part = join {l = elements_openers e} (after (finish (reads_from d (ending d) (omega arith) (suc n) (list n ∷ k) tt) (omega arith)) refl refl (omega arith)) q.part refl;
    }

-- a declared variable, up to the comma or the `;` after it
pub record Declared (r z n : ℕ) (k : List Frame) (a b : Tokens) (l : List Opener) : Type 0 where
  pub final : State
  pub comma : step final terminal.Comma ≡ declared n k
  pub semicolon : step final terminal.Semicolon ≡ vars_end k n
  pub part : Part r r z n (declared n k) a final b l

pub declarator_part : {r : ℕ} {a b : Tokens} {v : Variable} (d : Declarator r a b v) (n : ℕ) (k : List Frame) (z : ℕ)
    → z ≤ length b → Declared r z n k a b (declarator_openers d)
declarator_part {r = r} {b = b} Declarator.scalar n k z h =
    record { final = declared n k; comma = refl; semicolon = refl; part = before refl refl (nothing r z n (declared n k) b h) }
declarator_part {r = r} {b = b} (Declarator.scalar_start {m = m} d) n k z h = record {
  final = operated (n + r - m) (start n ∷ k);
  comma = refl;
  semicolon = refl;
  part = before refl refl (before refl refl (finish (reads_from d b (omega arith) n (start n ∷ k) tt) h));
}
declarator_part (Declarator.array d) n k z h =
    record { final = declared n k; comma = refl; semicolon = refl; part = before refl refl (length_part d n k z h) }
declarator_part {b = b} (Declarator.array_list d e) n k z h =
    let x = elements_shorter e in
    let y = length_shorter d in
    let c = elements_ending e in
    let q = elements_part e n (start n ∷ k) (length c) (omega arith) in
    record {
      final = operated n (start n ∷ k);
      comma = refl;
      semicolon = refl;
      part = before refl refl (join (length_part d n k z (omega arith)) (before refl refl (close (opened refl refl c q.part) q.closes refl h)) refl);
    }

pub declarators_part : {r : ℕ} {a b : Tokens} {vs : List Variable} (d : Declarators r a b vs) (n : ℕ) (k : List Frame) (z : ℕ)
    → z ≤ length b → Declared r z n k a b (declarators_openers d)
declarators_part (Declarators.last d) n k z h = declarator_part d n k z h
declarators_part (Declarators.more d e) n k z h =
    let y = declarators_shorter e in
    let p = declarator_part d n k z (omega arith) in
    let q = declarators_part e n k z h in
    record { final = q.final; comma = q.comma; semicolon = q.semicolon; part = join (after p.part p.comma refl (omega arith)) q.part refl }

vars_depth : (k : List Frame) (n : ℕ) → depth (vars_end k n) ≡ n
vars_depth [] n = refl
vars_depth (first m ∷ k) n = refl
vars_depth (_ ∷ k) n = refl

-- a declaration, from where a type begins one
pub vars_part : {r : ℕ} {a b : Tokens} {ty : Ty} {vs : List Variable} (d : Vars r a b ty vs) (σ : State) (n : ℕ) (k : List Frame)
    → ((t : Ty) → step σ (terminal.Type t) ≡ declared n k) → (z : ℕ) → z ≤ length b
    → Part r r z n σ a (vars_end k n) b (vars_openers d)
vars_part {r = r} (Vars.vars {k = w} {ty = ty} i d) σ n k o z h =
    let p = declarators_part d n k z (omega arith) in
    before (ap (step σ) (terminal_type w ty i) ∙ o ty) refl (after p.part p.semicolon (ap (λ j. j + r) (vars_depth k n)) h)

-- ---- parts of statements

pub clause_part : {r : ℕ} {a b : Tokens} {i : First} (d : Clause r a b i) (n : ℕ) (k : List Frame) (z : ℕ)
    → z ≤ length b
    → Part r r z (suc n) (operand (suc n) (first n ∷ k)) a (operand (suc n) (second n ∷ k)) b (clause_openers d)
clause_part {r = r} {b = b} Clause.empty n k z h = before refl refl (nothing r z (suc n) (operand (suc n) (second n ∷ k)) b h)
clause_part (Clause.act d) n k z h = close (reads_from d (ending d) (omega arith) (suc n) (first n ∷ k) (λ j. refl)) refl refl h
clause_part (Clause.vars d) n k z h = vars_part d (operand (suc n) (first n ∷ k)) (suc n) (first n ∷ k) (λ t. refl) z h

-- an expression that may be absent, up to the `;` or the `)` after it
pub record Opted (r e n : ℕ) (k : List Frame) (a b : Tokens) (l : List Opener) : Type 0 where
  pub left : ℕ
  pub until : ℕ
  pub final : State
  pub semicolon : step final terminal.Semicolon ≡ shut k until
  pub paren : step final terminal.CloseParen ≡ shut k until
  pub deep : until + left ≡ n + r
  pub part : Part r left e n (operand n k) a final b l

pub optional_part : {r : ℕ} {a b : Tokens} {t : Option Tree} (d : Optional r a b t) (end : Tokens)
    → length end ≤ length b → (n : ℕ) (k : List Frame) → Free Expression k
    → Opted r (length end) n k a b (optional_openers d end)
optional_part {r = r} {b = b} Optional.absent end h n k f =
    record { left = r; until = n; final = operand n k; semicolon = refl; paren = refl; deep = refl; part = nothing r (length end) n (operand n k) b h }
optional_part {r = r} (Optional.present {m = m} d) end h n k f =
    let y = room d in
    record {
      left = m;
      until = n + r - m;
      final = operated (n + r - m) k;
      semicolon = refl;
      paren = refl;
      deep = omega arith;
      part = reads_from d end h n k f;
    }

-- ---- statements

-- the scanner goes on as where a statement may begin
abbrev pub Opens : State → ℕ → List Frame → Type 0
Opens σ n k = (l : Terminal) → is_else l ≡ false → step σ l ≡ at_fresh l n k

-- a statement, after which the scanner goes on as where one has ended. Where o is true an `else` after it belongs to it.
pub record Ended (o : Bool) (r z n : ℕ) (σ : State) (a b : Tokens) (k : List Frame) (l : List Opener) : Type 0 where
  pub final : State
  pub goes_on : (x : Terminal) → (o ≡ true → is_else x ≡ false) → step final x ≡ at_ended k x
  pub part : Part r r z n σ a final b l

-- items of a block
pub record Itemed (r z n : ℕ) (σ : State) (a b : Tokens) (k : List Frame) (l : List Opener) : Type 0 where
  pub final : State
  pub opens : Opens final (suc n) (block n ∷ k)
  pub part : Part r r z (suc n) σ a final b l

pub fresh_operand : (l : Terminal) (n : ℕ) (k : List Frame) → starting l ≡ true
    → at_fresh l n k ≡ at_operand l n (act ∷ k)
fresh_operand terminal.Semicolon n k e = absurd (cc (e))
fresh_operand terminal.OpenBrace n k e = absurd (cc (e))
fresh_operand terminal.CloseBrace n k e = absurd (cc (e))
fresh_operand terminal.If n k e = absurd (cc (e))
fresh_operand terminal.While n k e = absurd (cc (e))
fresh_operand terminal.Do n k e = absurd (cc (e))
fresh_operand terminal.For n k e = absurd (cc (e))
fresh_operand terminal.Return n k e = absurd (cc (e))
fresh_operand terminal.Break n k e = absurd (cc (e))
fresh_operand terminal.Continue n k e = absurd (cc (e))
fresh_operand (terminal.Type ty) n k e = absurd (cc (e))
fresh_operand terminal.Void n k e = absurd (cc (e))
fresh_operand _ n k e = refl

by_else_false : (x : Bool) (n : ℕ) (k : List Frame) (σ : State) → x ≡ false → by_else x n k σ ≡ σ
by_else_false true n k σ e = absurd (cc (e))
by_else_false false n k σ e = refl

-- `( expression )` after `if` or `while`
pub test_part : {r m n : ℕ} {x y : TokenKind × Span} {a b : Tokens} {k : List Frame} {t : Tree}
    → terminal_of x.0 ≡ terminal.OpenParen → terminal_of y.0 ≡ terminal.CloseParen
    → (d : Reads Expression r a m (y ∷ b) t) (z : ℕ) → z ≤ length b
    → Part (suc r) (suc r) z n (head of_test n k) (x ∷ a) (fresh n k) b ((x ∷ a, y ∷ b) ∷ openers d (y ∷ b))
test_part {n = n} {y = y} {b = b} {k = k} i j d z h =
    close (opened (ap (step (head of_test n k)) i) refl (y ∷ b) (reads_from d (y ∷ b) (omega arith) (suc n) (test n ∷ k) (λ o. refl)))
    (ap (step (operated _ (test n ∷ k))) j) refl h

mutual
  pub statement_part : {o : Bool} {r : ℕ} {a b : Tokens} {x : Code} (d : Statement o r a b x) (σ : State) (n : ℕ) (k : List Frame)
      → Opens σ n k → (z : ℕ) → z ≤ length b → Ended o r z n σ a b k (statement_openers d)
  statement_part {r = r} {b = b} Statement.empty σ n k g z h =
      record { final = ended n k; goes_on = λ l i. refl; part = before (g terminal.Semicolon refl) refl (nothing r z n (ended n k) b h) }
  statement_part {r = r} {a = a} {b = b} (Statement.act {m = m} d) σ n k g z h =
      let y = room d in
      let s = starts d in
      let l = reads_shorter d in
      let q : step σ (lookahead a) ≡ at_operand (lookahead a) n (act ∷ k) = g (lookahead a) (starting_no_else (lookahead a) s) ∙ fresh_operand (lookahead a) n k s in
      record {
        final = ended (n + r - m) k;
        goes_on = λ l i. refl;
        part = finish (after (enter σ (reads_from d b (omega arith) n (act ∷ k) (λ j. refl)) (omega arith) q) refl (omega arith) (omega arith)) h;
      }
  statement_part (Statement.block d) σ n k g z h =
      let c = items_ending d in
      let p = items_part d (fresh (suc n) (block n ∷ k)) n k (λ l i. refl) (length c) (omega arith) in
      record { final = ended n k; goes_on = λ l i. refl; part = close (opened (g terminal.OpenBrace refl) refl c p.part) (p.opens terminal.CloseBrace refl) refl h }
  statement_part {b = b} (Statement.if_then d e) σ n k g z h =
      let x = statement_shorter e in
      let q = statement_part e (fresh (suc n) (branch n ∷ k)) (suc n) (branch n ∷ k) (λ l i. refl) (length b) (omega arith) in
      record {
        final = q.final;
        goes_on = λ l i. q.goes_on l (λ j. i refl) ∙ by_else_false (is_else l) n k (at_ended k l) (i refl);
        part = finish (opened (g terminal.If refl) refl b (join (test_part refl refl d (length b) (omega arith)) q.part refl)) h;
      }
  statement_part {b = b} (Statement.if_else d e f) σ n k g z h =
      let x = statement_shorter e in
      let y = statement_shorter f in
      let p = statement_part e (fresh (suc n) (branch n ∷ k)) (suc n) (branch n ∷ k) (λ l i. refl) (length b) (omega arith) in
      let q = statement_part f (fresh (suc n) (body n ∷ k)) (suc n) (body n ∷ k) (λ l i. refl) (length b) (omega arith) in
      let s = after p.part (p.goes_on terminal.Else (λ j. absurd (cc (j)))) refl (omega arith) in
      record {
        final = q.final;
        goes_on = q.goes_on;
        part = finish (opened (g terminal.If refl) refl b (join (join (test_part refl refl d (length b) (omega arith)) s refl) q.part refl)) h;
      }
  statement_part {b = b} (Statement.while d e) σ n k g z h =
      let x = statement_shorter e in
      let q = statement_part e (fresh (suc n) (body n ∷ k)) (suc n) (body n ∷ k) (λ l i. refl) (length b) (omega arith) in
      record {
        final = q.final;
        goes_on = q.goes_on;
        part = finish (opened (g terminal.While refl) refl b (join (test_part refl refl d (length b) (omega arith)) q.part refl)) h;
      }
  statement_part {b = b} (Statement.do_while d e) σ n k g z h =
      let x = statement_shorter d in
      let y = reads_shorter e in
      let p = statement_part d (fresh (suc n) (turn n ∷ k)) (suc n) (turn n ∷ k) (λ l i. refl) (length b) (omega arith) in
      let t = reads_from e (ending e) (omega arith) (suc (suc n)) (again (suc n) ∷ k) (λ j. refl) in
      let q = before (p.goes_on terminal.While (λ j. refl)) refl (close {d = length b} (opened refl refl (ending e) t) refl refl (omega arith)) in
      record {
        final = ended (suc n) k;
        goes_on = λ l i. refl;
        part = finish (opened (g terminal.Do refl) refl b (after (join p.part q refl) refl refl (omega arith))) h;
      }
  statement_part {b = b} (Statement.for d e f v) σ n k g z h =
      let w = clause_shorter d in
      let x = optional_shorter e in
      let y = optional_shorter f in
      let u = statement_shorter v in
      let c = optional_ending f in
      let i = clause_part d (suc n) (body n ∷ k) (length c) (omega arith) in
      let p = optional_part e (optional_ending e) (omega arith) (suc (suc n)) (second (suc n) ∷ body n ∷ k) (λ j. refl) in
      let t = optional_part f c (omega arith) (suc (suc n)) (third (suc n) ∷ body n ∷ k) (λ j. refl) in
      let q = statement_part v (fresh (suc n) (body n ∷ k)) (suc n) (body n ∷ k) (λ l j. refl) (length b) (omega arith) in
      let s = close {d = length b} (opened refl refl c (join (join i (close p.part p.semicolon refl (omega arith)) refl) t.part refl)) t.paren refl (omega arith) in
      record {
        final = q.final;
        goes_on = q.goes_on;
        part = finish (opened (g terminal.For refl) refl b (join s q.part refl)) h;
      }
  statement_part {b = b} (Statement.give d) σ n k g z h =
      let p = optional_part d b (omega arith) n (act ∷ k) (λ j. refl) in
      record {
        final = ended p.until k;
        goes_on = λ l i. refl;
        part = before (g terminal.Return refl) refl (finish (after p.part p.semicolon p.deep (omega arith)) h);
      }
  statement_part {r = r} {b = b} Statement.break σ n k g z h =
      record { final = ended n k; goes_on = λ l i. refl; part = before (g terminal.Break refl) refl (before refl refl (nothing r z n (ended n k) b h)) }
  statement_part {r = r} {b = b} Statement.continue σ n k g z h =
      record { final = ended n k; goes_on = λ l i. refl; part = before (g terminal.Continue refl) refl (before refl refl (nothing r z n (ended n k) b h)) }

  pub items_part : {r : ℕ} {a b : Tokens} {x : Body} (d : Items r a b x) (σ : State) (n : ℕ) (k : List Frame)
      → Opens σ (suc n) (block n ∷ k) → (z : ℕ) → z ≤ length b → Itemed r z n σ a b k (items_openers d)
  items_part {r = r} {b = b} Items.none σ n k g z h = record { final = σ; opens = g; part = nothing r z (suc n) σ b h }
  items_part (Items.vars d e) σ n k g z h =
      let y = items_shorter e in
      let p = vars_part d σ (suc n) (block n ∷ k) (λ t. g (terminal.Type t) refl) z (omega arith) in
      let q = items_part e (fresh (suc n) (block n ∷ k)) n k (λ l i. refl) z h in
      record { final = q.final; opens = q.opens; part = join p q.part refl }
  items_part (Items.statement d e) σ n k g z h =
      let y = items_shorter e in
      let p = statement_part d σ (suc n) (block n ∷ k) g z (omega arith) in
      let q = items_part e p.final n k (λ l i. p.goes_on l (λ j. i)) z h in
      record { final = q.final; opens = q.opens; part = join p.part q.part refl }

-- ---- what stands at file scope

pub parameter_part : {r : ℕ} {a b : Tokens} {x : Param} (d : Parameter r a b x) (n : ℕ) (k : List Frame) (z : ℕ)
    → z ≤ length b → Part r r z n (declared n k) a (declared n k) b (parameter_openers d)
parameter_part {r = r} {b = b} (Parameter.scalar {k = w} {ty = ty} i) n k z h =
    before (ap (step (declared n k)) (terminal_type w ty i)) refl (before refl refl (nothing r z n (declared n k) b h))
parameter_part (Parameter.array {k = w} {ty = ty} i d) n k z h =
    before (ap (step (declared n k)) (terminal_type w ty i)) refl (before refl refl (length_part d n k z h))

pub parameters_part : {r : ℕ} {a b : Tokens} {xs : List Param} (d : Parameters r a b xs) (n : ℕ) (k : List Frame) (z : ℕ)
    → z ≤ length b → Part r r z n (declared n k) a (declared n k) b (parameters_openers d)
parameters_part (Parameters.last d) n k z h = parameter_part d n k z h
parameters_part (Parameters.more d e) n k z h =
    let y = parameters_shorter e in
    join (after (parameter_part d n k z (omega arith)) refl refl (omega arith)) (parameters_part e n k z h) refl

pub signature_part : {r : ℕ} {a b : Tokens} {xs : List Param} (d : Signature r a b xs) (n : ℕ) (k : List Frame) (z : ℕ)
    → z ≤ length b → Part r r z n (declared n k) a (declared n k) b (signature_openers d)
signature_part {r = r} {b = b} Signature.empty n k z h = nothing r z n (declared n k) b h
signature_part {r = r} {b = b} Signature.void n k z h = before refl refl (nothing r z n (declared n k) b h)
signature_part (Signature.parameters d) n k z h = parameters_part d n k z h

result_fresh : (l : Terminal) (ret : Option Ty) → result_at l ≡ Some ret → at_fresh l 0 [] ≡ declared 0 []
result_fresh (terminal.Type ty) ret e = refl
result_fresh terminal.Void ret e = refl
result_fresh _ ret e = absurd (cc (e))

result_else : (l : Terminal) (ret : Option Ty) → result_at l ≡ Some ret → is_else l ≡ false
result_else terminal.Else ret e = absurd (cc (e))
result_else _ ret e = refl

-- the word of a function's result
pub result_opens : (k : Keyword) (ret : Option Ty) (σ : State) → Opens σ 0 [] → result_word k ≡ Some ret
    → step σ (keyword_terminal k) ≡ declared 0 []
result_opens k ret σ g e =
    let l = keyword_terminal k in
    let i = terminal_result k ret e in
    g l (result_else l ret i) ∙ result_fresh l ret i

-- a declaration, a prototype or a definition
pub record Standing (r z : ℕ) (σ : State) (a b : Tokens) (l : List Opener) : Type 0 where
  pub final : State
  pub opens : Opens final 0 []
  pub part : Part r r z 0 σ a final b l

pub external_part : {r : ℕ} {a b : Tokens} {x : Outer} (d : External r a b x) (σ : State) → Opens σ 0 [] → (z : ℕ)
    → z ≤ length b → Standing r z σ a b (external_openers d)
external_part (External.vars d) σ g z h =
    record { final = fresh 0 []; opens = λ l i. refl; part = vars_part d σ 0 [] (λ t. g (terminal.Type t) refl) z h }
external_part (External.prototype {k = w} {ret = ret} i d) σ g z h =
    let c = signature_ending d in
    let p = close {d = z} (opened refl refl c (signature_part d 1 (group 0 ∷ []) (length c) (omega arith))) refl refl (omega arith) in
    record { final = fresh 0 []; opens = λ l j. refl; part = after (before (result_opens w ret σ g i) refl (before refl refl p)) refl refl h }
external_part (External.definition {k = w} {ret = ret} i d e) σ g z h =
    let y = items_shorter e in
    let c = signature_ending d in
    let q = items_ending e in
    let s = items_part e (fresh 1 (block 0 ∷ [])) 0 [] (λ l j. refl) (length q) (omega arith) in
    let p = close {d = z} (opened refl refl c (signature_part d 1 (group 0 ∷ []) (length c) (omega arith))) refl refl (omega arith) in
    let t = close (opened refl refl q s.part) (s.opens terminal.CloseBrace refl) refl h in
    record { final = ended 0 []; opens = λ l j. refl; part = join (before (result_opens w ret σ g i) refl (before refl refl p)) t refl }
