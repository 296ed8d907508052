-- Each production of statements and programs, by the kinds of its tokens alone.
use Rattle.std.proofs.Common.{◌≡◌, ℕ, suc, ◌+◌, ◌≤◌, Bool, true, false, List, [], ◌∷◌, ◌++◌, map, Option, Some, None, refl, sym, ap, ◌∙◌, subst, arith, append_assoc}
use Rattle.std.proofs.lemmas.List.{append-nil}
use Rattle.c_lex.specs.declared.token.TokenKind.{TokenKind}
use Rattle.c_lex.specs.declared.token.TokenKind.TheVariants as kind
use Rattle.c_lex.specs.declared.token.Keyword.{Keyword}
use Rattle.c_lex.specs.declared.token.Keyword.TheVariants as key
use Rattle.c_lex.specs.declared.token.Punct.TheVariants as mark
use Rattle.c_tree.specs.declared.place.Span.{Span}
use Rattle.c_tree.specs.declared.stmt.Ty.{Ty}
use Rattle.c_tree.specs.declared.program.Param.{Param}
use Rattle.c_tree.specs.Parts.{span_of, span_of_code}
use Rattle.c_tree.specs.Tree as tree
use Rattle.c_tree.specs.Tree.{Tree, Variable, First, Code, Body, Outer, bare, bare_option, bare_variable, bare_first, bare_code, bare_body, bare_param, bare_maybe, bare_outer, bare_program, no_span}
use Rattle.c_grammar.specs.declared.nonterminal.Nonterminal.TheVariants.{Expression}
use Rattle.c_grammar.specs.Operators.{result_word}
use Rattle.c_grammar.specs.Grammar.{Tokens, over, Reads}
use Rattle.c_grammar.specs.Programs.{function, Clause, Optional, Statement, Items, Signature, External, Derives}
use Rattle.c_lex.specs.Lexemes.{kinds}
use Rattle.c_replace.specs.Shapes.{Shaped}
use Rattle.c_replace.specs.Forms.{Formed, ShapedProgram}
use Rattle.c_replace.proofs.Splits.{at_suc, headed, none_left}
use Rattle.c_replace.proofs.NextToken.{got_end, got_then}
use Rattle.c_replace.proofs.Forms.{VarsIn, bare_vars}

-- two openers more
two_suc : (P : ℕ → Type 0) (n r : ℕ) → suc (suc n) ≤ r → ((q : ℕ) → n ≤ q → P (suc (suc q))) → P r
two_suc P n r l f = at_suc P (suc n) r l (λ q low. at_suc (λ i. P (suc i)) n q low f)

-- ---- statements

-- `;`
pub empty : Formed (Statement false) bare_code (kind.Punct mark.Semicolon ∷ []) (tree.empty no_span)
empty = record {
  each = λ ls a e.
      let h = headed a (kind.Punct mark.Semicolon) ls e in
      record {
        rest = h.tail;
        rest_kinds = h.tail_kinds;
        need = 0;
        found = tree.empty h.span;
        is_bare = refl;
        reads = λ r l. subst (λ q. Statement false r q h.tail (tree.empty h.span))
            (sym h.consists) Statement.empty;
      };
}

-- an expression and `;`
pub act : {ks : List TokenKind} {t : Tree} → Shaped Expression ks t
    → Formed (Statement false) bare_code (ks ++ kind.Punct mark.Semicolon ∷ []) (tree.act t no_span)
act {ks} x = record {
  each = λ ls a e.
      let g = got_end (kind.Punct mark.Semicolon) ls a x
      (e ∙ append_assoc ks (kind.Punct mark.Semicolon ∷ []) ls) in
      record {
        rest = g.rest;
        rest_kinds = g.rest_kinds;
        need = g.need;
        found = tree.act g.found (over (span_of g.found) g.span);
        is_bare = ap (λ q. tree.act q no_span) g.is_bare;
        reads = λ r l. Statement.act (g.reads r l).2;
      };
}

-- a block
pub block : {ks : List TokenKind} {body : Body} → Formed Items bare_body ks body
    → Formed (Statement false) bare_code (kind.Punct mark.OpenBrace ∷
    (ks ++ kind.Punct mark.CloseBrace ∷ [])) (tree.block body no_span)
block {ks} x = record {
  each = λ ls a e.
      let h = headed a (kind.Punct mark.OpenBrace) ((ks ++ kind.Punct mark.CloseBrace ∷ []) ++ ls) e in
      let g = got_then (kind.Punct mark.CloseBrace) ls h.tail x
      (h.tail_kinds ∙ append_assoc ks (kind.Punct mark.CloseBrace ∷ []) ls) in
      let c = tree.block g.found (over h.span g.span) in
      record {
        rest = g.rest;
        rest_kinds = g.rest_kinds;
        need = suc g.need;
        found = c;
        is_bare = ap (λ q. tree.block q no_span) g.is_bare;
        reads = λ r l. subst (λ q. Statement false r q g.rest c) (sym h.consists)
            (at_suc (λ i. Statement false i ((kind.Punct mark.OpenBrace, h.span) ∷ h.tail) g.rest c)
            g.need r l (λ q low. Statement.block (g.reads q low)));
      };
}

-- a word, `(`, an expression, `)` and a statement
record GotTested (o : Bool) (k : Keyword) (ls : List TokenKind) (a : Tokens) (t : Tree)
    (y : Code) : Type 0 where
  word : Span
  open_span : Span
  inner : Tokens
  consists : a ≡ (kind.Word k, word) ∷ (kind.Punct mark.OpenParen, open_span) ∷ inner
  close : Span
  middle : Tokens
  need : ℕ
  test : Tree
  test_bare : bare test ≡ t
  reads_test : (r : ℕ) → need ≤ r → (m : ℕ)
      × Reads Expression r inner m ((kind.Punct mark.CloseParen, close) ∷ middle) test
  rest : Tokens
  rest_kinds : kinds rest ≡ ls
  body : Code
  body_bare : bare_code body ≡ y
  reads_body : (r : ℕ) → need ≤ r → Statement o r middle rest body

-- tokens of these kinds begin with such a part
got_tested : {o : Bool} {ks js : List TokenKind} {t : Tree} {y : Code} (k : Keyword)
    (ls : List TokenKind) (a : Tokens) → Shaped Expression ks t → Formed (Statement o) bare_code js y
    → kinds a ≡ (kind.Word k ∷ kind.Punct mark.OpenParen ∷ (ks ++ kind.Punct mark.CloseParen ∷ js))
    ++ ls → GotTested o k ls a t y
got_tested {o} {ks} {js} {t} {y} k ls a x s e =
    let g = headed a (kind.Word k) (kind.Punct mark.OpenParen ∷
    ((ks ++ kind.Punct mark.CloseParen ∷ js) ++ ls)) e in
    let h = headed g.tail (kind.Punct mark.OpenParen)
    ((ks ++ kind.Punct mark.CloseParen ∷ js) ++ ls) g.tail_kinds in
    let c = got_end (kind.Punct mark.CloseParen) (js ++ ls) h.tail x
    (h.tail_kinds ∙ append_assoc ks (kind.Punct mark.CloseParen ∷ js) ls) in
    let d = s.each ls c.rest c.rest_kinds in
    record {
      word = g.span;
      open_span = h.span;
      inner = h.tail;
      consists = g.consists ∙ ap (λ q. (kind.Word k, g.span) ∷ q) h.consists;
      close = c.span;
      middle = c.rest;
      need = c.need + d.need;
      test = c.found;
      test_bare = c.is_bare;
      reads_test = λ r l. let d = c.reads r (omega arith) in (d.0, d.2);
      rest = d.rest;
      rest_kinds = d.rest_kinds;
      body = d.found;
      body_bare = d.is_bare;
      reads_body = λ r l. d.reads r (omega arith);
    }

-- an `if` without `else`
pub if_then : {o : Bool} {ks js : List TokenKind} {t : Tree} {y : Code} → Shaped Expression ks t
    → Formed (Statement o) bare_code js y
    → Formed (Statement true) bare_code (kind.Word key.If ∷ kind.Punct mark.OpenParen ∷
    (ks ++ kind.Punct mark.CloseParen ∷ js)) (tree.if_then t y no_span)
if_then {t = t} {y = y} x s = record {
  each = λ ls a e.
      let g = got_tested key.If ls a x s e in
      let c = tree.if_then g.test g.body (over g.word (span_of_code g.body)) in
      record {
        rest = g.rest;
        rest_kinds = g.rest_kinds;
        need = suc (suc g.need);
        found = c;
        is_bare = ap (λ q. tree.if_then q (bare_code g.body) no_span) g.test_bare
            ∙ ap (λ q. tree.if_then t q no_span) g.body_bare;
        reads = λ r l. subst (λ q. Statement true r q g.rest c) (sym g.consists)
            (two_suc (λ i. Statement true i ((kind.Word key.If, g.word) ∷
            (kind.Punct mark.OpenParen, g.open_span) ∷ g.inner) g.rest c) g.need r l
            (λ q low. Statement.if_then (g.reads_test q low).1 (g.reads_body (suc q) (omega arith))));
      };
}

-- a `while`
pub while : {o : Bool} {ks js : List TokenKind} {t : Tree} {y : Code} → Shaped Expression ks t
    → Formed (Statement o) bare_code js y
    → Formed (Statement o) bare_code (kind.Word key.While ∷ kind.Punct mark.OpenParen ∷
    (ks ++ kind.Punct mark.CloseParen ∷ js)) (tree.while t y no_span)
while {o} {t = t} {y = y} x s = record {
  each = λ ls a e.
      let g = got_tested key.While ls a x s e in
      let c = tree.while g.test g.body (over g.word (span_of_code g.body)) in
      record {
        rest = g.rest;
        rest_kinds = g.rest_kinds;
        need = suc (suc g.need);
        found = c;
        is_bare = ap (λ q. tree.while q (bare_code g.body) no_span) g.test_bare
            ∙ ap (λ q. tree.while t q no_span) g.body_bare;
        reads = λ r l. subst (λ q. Statement o r q g.rest c) (sym g.consists)
            (two_suc (λ i. Statement o i ((kind.Word key.While, g.word) ∷
            (kind.Punct mark.OpenParen, g.open_span) ∷ g.inner) g.rest c) g.need r l
            (λ q low. Statement.while (g.reads_test q low).1 (g.reads_body (suc q) (omega arith))));
      };
}

-- an `if` with `else`
pub if_else : {o : Bool} {ks js is : List TokenKind} {t : Tree} {y z : Code} → Shaped Expression ks t
    → Formed (Statement false) bare_code js y → Formed (Statement o) bare_code is z
    → Formed (Statement o) bare_code (kind.Word key.If ∷ kind.Punct mark.OpenParen ∷
    (ks ++ kind.Punct mark.CloseParen ∷ (js ++ kind.Word key.Else ∷ is)))
    (tree.if_else t y z no_span)
if_else {o} {ks} {js} {is} {t} {y} {z} x s v = record {
  each = λ ls a e.
      let g = headed a (kind.Word key.If) (kind.Punct mark.OpenParen ∷
      ((ks ++ kind.Punct mark.CloseParen ∷ (js ++ kind.Word key.Else ∷ is)) ++ ls)) e in
      let h = headed g.tail (kind.Punct mark.OpenParen)
      ((ks ++ kind.Punct mark.CloseParen ∷ (js ++ kind.Word key.Else ∷ is)) ++ ls) g.tail_kinds in
      let c = got_end (kind.Punct mark.CloseParen) ((js ++ kind.Word key.Else ∷ is) ++ ls) h.tail x
      (h.tail_kinds ∙ append_assoc ks (kind.Punct mark.CloseParen ∷ (js ++ kind.Word key.Else ∷ is))
      ls) in
      let d = got_then (kind.Word key.Else) (is ++ ls) c.rest s
      (c.rest_kinds ∙ append_assoc js (kind.Word key.Else ∷ is) ls) in
      let f = v.each ls d.rest d.rest_kinds in
      let found = tree.if_else c.found d.found f.found (over g.span (span_of_code f.found)) in
      let need = c.need + d.need + f.need in
      record {
        rest = f.rest;
        rest_kinds = f.rest_kinds;
        need = suc (suc need);
        found = found;
        is_bare = ap (λ q. tree.if_else q (bare_code d.found) (bare_code f.found) no_span) c.is_bare
            ∙ ap (λ q. tree.if_else t q (bare_code f.found) no_span) d.is_bare
            ∙ ap (λ q. tree.if_else t y q no_span) f.is_bare;
        reads = λ r l. subst (λ q. Statement o r q f.rest found)
            (sym (g.consists ∙ ap (λ q. (kind.Word key.If, g.span) ∷ q) h.consists))
            (two_suc (λ i. Statement o i ((kind.Word key.If, g.span) ∷
            (kind.Punct mark.OpenParen, h.span) ∷ h.tail) f.rest found) need r l
            (λ q low. Statement.if_else (c.reads q (omega arith)).2 (d.reads (suc q) (omega arith))
            (f.reads (suc q) (omega arith))));
      };
}

-- a `do`
pub do_while : {o : Bool} {ks js : List TokenKind} {t : Tree} {y : Code}
    → Formed (Statement o) bare_code js y → Shaped Expression ks t
    → Formed (Statement false) bare_code (kind.Word key.Do ∷
    (js ++ kind.Word key.While ∷ kind.Punct mark.OpenParen ∷
    (ks ++ kind.Punct mark.CloseParen ∷ kind.Punct mark.Semicolon ∷ [])))
    (tree.do_while y t no_span)
do_while {o} {ks} {js} {t} {y} s x = record {
  each = λ ls a e.
      let end = kind.Punct mark.CloseParen ∷ kind.Punct mark.Semicolon ∷ [] in
      let g = headed a (kind.Word key.Do)
      ((js ++ kind.Word key.While ∷ kind.Punct mark.OpenParen ∷ (ks ++ end)) ++ ls) e in
      let c = got_then (kind.Word key.While) (kind.Punct mark.OpenParen ∷ ((ks ++ end) ++ ls)) g.tail s
      (g.tail_kinds ∙ append_assoc js (kind.Word key.While ∷ kind.Punct mark.OpenParen ∷
      (ks ++ end)) ls) in
      let h = headed c.rest (kind.Punct mark.OpenParen) ((ks ++ end) ++ ls) c.rest_kinds in
      let d = got_end (kind.Punct mark.CloseParen) (kind.Punct mark.Semicolon ∷ ls) h.tail x
      (h.tail_kinds ∙ append_assoc ks end ls) in
      let f = headed d.rest (kind.Punct mark.Semicolon) ls d.rest_kinds in
      let found = tree.do_while c.found d.found (over g.span f.span) in
      record {
        rest = f.tail;
        rest_kinds = f.tail_kinds;
        need = suc (suc (c.need + d.need));
        found = found;
        is_bare = ap (λ q. tree.do_while q (bare d.found) no_span) c.is_bare
            ∙ ap (λ q. tree.do_while y q no_span) d.is_bare;
        reads = λ r l. subst (λ q. Statement false r q f.tail found) (sym g.consists)
            (two_suc (λ i. Statement false i ((kind.Word key.Do, g.span) ∷ g.tail) f.tail found)
            (c.need + d.need) r l
            (λ q low. Statement.do_while
            (subst (λ p. Statement o (suc q) g.tail ((kind.Word key.While, c.span) ∷ p) c.found)
            h.consists (c.reads (suc q) (omega arith)))
            (let w = d.reads q (omega arith) in subst
            (λ p. Reads Expression q h.tail w.0 ((kind.Punct mark.CloseParen, d.span) ∷ p) d.found)
            f.consists w.2)));
      };
}

-- a `for`
pub for : {o : Bool} {is ks js vs : List TokenKind} {i : First} {t u : Option Tree} {y : Code}
    → Formed Clause bare_first is i → Formed Optional bare_option ks t
    → Formed Optional bare_option js u → Formed (Statement o) bare_code vs y
    → Formed (Statement o) bare_code (kind.Word key.For ∷ kind.Punct mark.OpenParen ∷
    (is ++ (ks ++ kind.Punct mark.Semicolon ∷ (js ++ kind.Punct mark.CloseParen ∷ vs))))
    (tree.for i t u y no_span)
for {o} {is} {ks} {js} {vs} {i} {t} {u} {y} p x w s = record {
  each = λ ls a e.
      let third = js ++ kind.Punct mark.CloseParen ∷ vs in
      let second = ks ++ kind.Punct mark.Semicolon ∷ third in
      let g = headed a (kind.Word key.For) (kind.Punct mark.OpenParen ∷ ((is ++ second) ++ ls)) e in
      let h = headed g.tail (kind.Punct mark.OpenParen) ((is ++ second) ++ ls) g.tail_kinds in
      let c = p.each (second ++ ls) h.tail (h.tail_kinds ∙ append_assoc is second ls) in
      let d = got_then (kind.Punct mark.Semicolon) (third ++ ls) c.rest x
      (c.rest_kinds ∙ append_assoc ks (kind.Punct mark.Semicolon ∷ third) ls) in
      let f = got_then (kind.Punct mark.CloseParen) (vs ++ ls) d.rest w
      (d.rest_kinds ∙ append_assoc js (kind.Punct mark.CloseParen ∷ vs) ls) in
      let b = s.each ls f.rest f.rest_kinds in
      let found = tree.for c.found d.found f.found b.found (over g.span (span_of_code b.found)) in
      let need = c.need + d.need + f.need + b.need in
      record {
        rest = b.rest;
        rest_kinds = b.rest_kinds;
        need = suc (suc need);
        found = found;
        is_bare = ap (λ q. tree.for q (bare_option d.found) (bare_option f.found)
            (bare_code b.found) no_span) c.is_bare
            ∙ ap (λ q. tree.for i q (bare_option f.found) (bare_code b.found) no_span) d.is_bare
            ∙ ap (λ q. tree.for i t q (bare_code b.found) no_span) f.is_bare
            ∙ ap (λ q. tree.for i t u q no_span) b.is_bare;
        reads = λ r l. subst (λ q. Statement o r q b.rest found)
            (sym (g.consists ∙ ap (λ q. (kind.Word key.For, g.span) ∷ q) h.consists))
            (two_suc (λ j. Statement o j ((kind.Word key.For, g.span) ∷
            (kind.Punct mark.OpenParen, h.span) ∷ h.tail) b.rest found) need r l
            (λ q low. Statement.for (c.reads q (omega arith)) (d.reads q (omega arith))
            (f.reads q (omega arith)) (b.reads (suc q) (omega arith))));
      };
}

-- a `return`
pub give : {ks : List TokenKind} {t : Option Tree} → Formed Optional bare_option ks t
    → Formed (Statement false) bare_code (kind.Word key.Return ∷ (ks ++ kind.Punct mark.Semicolon ∷ []))
    (tree.give t no_span)
give {ks} x = record {
  each = λ ls a e.
      let h = headed a (kind.Word key.Return) ((ks ++ kind.Punct mark.Semicolon ∷ []) ++ ls) e in
      let g = got_then (kind.Punct mark.Semicolon) ls h.tail x
      (h.tail_kinds ∙ append_assoc ks (kind.Punct mark.Semicolon ∷ []) ls) in
      let found = tree.give g.found (over h.span g.span) in
      record {
        rest = g.rest;
        rest_kinds = g.rest_kinds;
        need = g.need;
        found = found;
        is_bare = ap (λ q. tree.give q no_span) g.is_bare;
        reads = λ r l. subst (λ q. Statement false r q g.rest found) (sym h.consists)
            (Statement.give (g.reads r l));
      };
}

-- a `break`
pub break : Formed (Statement false) bare_code (kind.Word key.Break ∷ kind.Punct mark.Semicolon ∷ [])
    (tree.break no_span)
break = record {
  each = λ ls a e.
      let g = headed a (kind.Word key.Break) (kind.Punct mark.Semicolon ∷ ls) e in
      let h = headed g.tail (kind.Punct mark.Semicolon) ls g.tail_kinds in
      let found = tree.break (over g.span h.span) in
      record {
        rest = h.tail;
        rest_kinds = h.tail_kinds;
        need = 0;
        found = found;
        is_bare = refl;
        reads = λ r l. subst (λ q. Statement false r q h.tail found)
            (sym (g.consists ∙ ap (λ q. (kind.Word key.Break, g.span) ∷ q) h.consists)) Statement.break;
      };
}

-- a `continue`
pub continue : Formed (Statement false) bare_code
    (kind.Word key.Continue ∷ kind.Punct mark.Semicolon ∷ []) (tree.continue no_span)
continue = record {
  each = λ ls a e.
      let g = headed a (kind.Word key.Continue) (kind.Punct mark.Semicolon ∷ ls) e in
      let h = headed g.tail (kind.Punct mark.Semicolon) ls g.tail_kinds in
      let found = tree.continue (over g.span h.span) in
      record {
        rest = h.tail;
        rest_kinds = h.tail_kinds;
        need = 0;
        found = found;
        is_bare = refl;
        reads = λ r l. subst (λ q. Statement false r q h.tail found)
            (sym (g.consists ∙ ap (λ q. (kind.Word key.Continue, g.span) ∷ q) h.consists))
            Statement.continue;
      };
}

-- ---- blocks

-- no items
pub none : Formed Items bare_body [] tree.done
none = record {
  each = λ ls a e. record {
    rest = a;
    rest_kinds = e;
    need = 0;
    found = tree.done;
    is_bare = refl;
    reads = λ r l. Items.none;
  };
}

-- a declaration before other items
pub vars_item : {ks js : List TokenKind} {ty : Ty} {vs : List Variable} {body : Body}
    → Formed VarsIn bare_vars ks (ty, vs) → Formed Items bare_body js body
    → Formed Items bare_body (ks ++ js) (tree.vars ty vs body)
vars_item {ks} {js} {ty} {vs} x y = record {
  each = λ ls a e.
      let g = x.each (js ++ ls) a (e ∙ append_assoc ks js ls) in
      let h = y.each ls g.rest g.rest_kinds in
      record {
        rest = h.rest;
        rest_kinds = h.rest_kinds;
        need = g.need + h.need;
        found = tree.vars g.found.0 g.found.1 h.found;
        is_bare = ap (λ q. tree.vars q.0 q.1 (bare_body h.found)) g.is_bare
            ∙ ap (tree.vars ty vs) h.is_bare;
        reads = λ r l. Items.vars (g.reads r (omega arith)) (h.reads r (omega arith));
      };
}

-- a statement before other items
pub statement_item : {o : Bool} {ks js : List TokenKind} {c : Code} {body : Body}
    → Formed (Statement o) bare_code ks c → Formed Items bare_body js body
    → Formed Items bare_body (ks ++ js) (tree.next c body)
statement_item {ks = ks} {js = js} {c = c} x y = record {
  each = λ ls a e.
      let g = x.each (js ++ ls) a (e ∙ append_assoc ks js ls) in
      let h = y.each ls g.rest g.rest_kinds in
      record {
        rest = h.rest;
        rest_kinds = h.rest_kinds;
        need = g.need + h.need;
        found = tree.next g.found h.found;
        is_bare = ap (λ q. tree.next q (bare_body h.found)) g.is_bare ∙ ap (tree.next c) h.is_bare;
        reads = λ r l. Items.statement (g.reads r (omega arith)) (h.reads r (omega arith));
      };
}

-- ---- programs

-- variables at file scope
pub outer_vars : {ks : List TokenKind} {ty : Ty} {vs : List Variable}
    → Formed VarsIn bare_vars ks (ty, vs) → Formed External bare_outer ks (tree.outer_vars ty vs)
outer_vars x = record {
  each = λ ls a e.
      let g = x.each ls a e in
      record {
        rest = g.rest;
        rest_kinds = g.rest_kinds;
        need = g.need;
        found = tree.outer_vars g.found.0 g.found.1;
        is_bare = ap (λ q. tree.outer_vars q.0 q.1) g.is_bare;
        reads = λ r l. External.vars (g.reads r l);
      };
}

-- a prototype
pub prototype : {ks : List TokenKind} {ps : List Param} (k : Keyword) (w : List ℕ) (ret : Option Ty)
    → result_word k ≡ Some ret → Formed Signature (map bare_param) ks ps
    → Formed External bare_outer (kind.Word k ∷ kind.Name w ∷ kind.Punct mark.OpenParen ∷
    (ks ++ kind.Punct mark.CloseParen ∷ kind.Punct mark.Semicolon ∷ []))
    (function w no_span ret ps None)
prototype {ks} {ps} k w ret f x = record {
  each = λ ls a e.
      let end = kind.Punct mark.CloseParen ∷ kind.Punct mark.Semicolon ∷ [] in
      let g = headed a (kind.Word k) (kind.Name w ∷ kind.Punct mark.OpenParen ∷ ((ks ++ end) ++ ls)) e
      in
      let h = headed g.tail (kind.Name w) (kind.Punct mark.OpenParen ∷ ((ks ++ end) ++ ls)) g.tail_kinds
      in
      let i = headed h.tail (kind.Punct mark.OpenParen) ((ks ++ end) ++ ls) h.tail_kinds in
      let c = got_then (kind.Punct mark.CloseParen) (kind.Punct mark.Semicolon ∷ ls) i.tail x
      (i.tail_kinds ∙ append_assoc ks end ls) in
      let d = headed c.rest (kind.Punct mark.Semicolon) ls c.rest_kinds in
      let found = function w (over h.span d.span) ret c.found None in
      record {
        rest = d.tail;
        rest_kinds = d.tail_kinds;
        need = suc c.need;
        found = found;
        is_bare = ap (λ q. function w no_span ret q None) c.is_bare;
        reads = λ r l. subst (λ q. External r q d.tail found)
            (sym (g.consists ∙ ap (λ q. (kind.Word k, g.span) ∷ q)
            (h.consists ∙ ap (λ q. (kind.Name w, h.span) ∷ q) i.consists)))
            (at_suc (λ j. External j ((kind.Word k, g.span) ∷ (kind.Name w, h.span) ∷
            (kind.Punct mark.OpenParen, i.span) ∷ i.tail) d.tail found) c.need r l
            (λ q low. External.prototype f
            (subst (λ p. Signature q i.tail ((kind.Punct mark.CloseParen, c.span) ∷ p) c.found)
            d.consists (c.reads q low))));
      };
}

-- a definition
pub definition : {ks js : List TokenKind} {ps : List Param} {body : Body} (k : Keyword) (w : List ℕ)
    (ret : Option Ty) → result_word k ≡ Some ret → Formed Signature (map bare_param) ks ps
    → Formed Items bare_body js body
    → Formed External bare_outer (kind.Word k ∷ kind.Name w ∷ kind.Punct mark.OpenParen ∷
    (ks ++ kind.Punct mark.CloseParen ∷ kind.Punct mark.OpenBrace ∷
    (js ++ kind.Punct mark.CloseBrace ∷ []))) (function w no_span ret ps (Some body))
definition {ks} {js} {ps} {body} k w ret f x y = record {
  each = λ ls a e.
      let block = js ++ kind.Punct mark.CloseBrace ∷ [] in
      let end = kind.Punct mark.CloseParen ∷ kind.Punct mark.OpenBrace ∷ block in
      let g = headed a (kind.Word k) (kind.Name w ∷ kind.Punct mark.OpenParen ∷ ((ks ++ end) ++ ls)) e
      in
      let h = headed g.tail (kind.Name w) (kind.Punct mark.OpenParen ∷ ((ks ++ end) ++ ls)) g.tail_kinds
      in
      let i = headed h.tail (kind.Punct mark.OpenParen) ((ks ++ end) ++ ls) h.tail_kinds in
      let c = got_then (kind.Punct mark.CloseParen) (kind.Punct mark.OpenBrace ∷ (block ++ ls)) i.tail x
      (i.tail_kinds ∙ append_assoc ks end ls) in
      let d = headed c.rest (kind.Punct mark.OpenBrace) (block ++ ls) c.rest_kinds in
      let b = got_then (kind.Punct mark.CloseBrace) ls d.tail y
      (d.tail_kinds ∙ append_assoc js (kind.Punct mark.CloseBrace ∷ []) ls) in
      let found = function w (over h.span b.span) ret c.found (Some b.found) in
      record {
        rest = b.rest;
        rest_kinds = b.rest_kinds;
        need = suc (c.need + b.need);
        found = found;
        is_bare = ap (λ q. function w no_span ret q (Some (bare_body b.found))) c.is_bare
            ∙ ap (λ q. function w no_span ret ps (Some q)) b.is_bare;
        reads = λ r l. subst (λ q. External r q b.rest found)
            (sym (g.consists ∙ ap (λ q. (kind.Word k, g.span) ∷ q)
            (h.consists ∙ ap (λ q. (kind.Name w, h.span) ∷ q) i.consists)))
            (at_suc (λ j. External j ((kind.Word k, g.span) ∷ (kind.Name w, h.span) ∷
            (kind.Punct mark.OpenParen, i.span) ∷ i.tail) b.rest found) (c.need + b.need) r l
            (λ q low. External.definition f
            (subst (λ p. Signature q i.tail ((kind.Punct mark.CloseParen, c.span) ∷ p) c.found)
            d.consists (c.reads q (omega arith))) (b.reads q (omega arith))));
      };
}

-- a program of one declaration, prototype or definition
pub last : {ks : List TokenKind} {x : Outer} → Formed External bare_outer ks x
    → ShapedProgram ks (x ∷ [])
last {ks} x = record {
  each = λ a e.
      let g = x.each [] a (e ∙ sym (append-nil ks)) in
      record {
        need = g.need;
        found = g.found ∷ [];
        is_bare = ap (λ q. q ∷ []) g.is_bare;
        derives = λ r l. Derives.last (subst (λ q. External r a q g.found)
            (none_left g.rest g.rest_kinds) (g.reads r l));
      };
}

-- one before the others
pub more : {ks js : List TokenKind} {x : Outer} {p : List Outer} → Formed External bare_outer ks x
    → ShapedProgram js p → ShapedProgram (ks ++ js) (x ∷ p)
more {ks} {js} {x} v w = record {
  each = λ a e.
      let g = v.each js a e in
      let h = w.each g.rest g.rest_kinds in
      record {
        need = g.need + h.need;
        found = g.found ∷ h.found;
        is_bare = ap (λ q. q ∷ bare_program h.found) g.is_bare ∙ ap (λ q. x ∷ q) h.is_bare;
        derives = λ r l. Derives.more (g.reads r (omega arith)) (h.derives r (omega arith));
      };
}
