-- Each production of expressions, by the kinds of its tokens alone.
use Rattle.std.proofs.Common.{◌≡◌, ℕ, ℤ, suc, ◌+◌, ◌≤◌, Bool, true, false, List, [], ◌∷◌, ◌++◌, map, Option, Some, refl, sym, ap, ◌∙◌, subst, arith, append_assoc}
use Rattle.c_lex.specs.declared.token.TokenKind.{TokenKind}
use Rattle.c_lex.specs.declared.token.TokenKind.TheVariants as kind
use Rattle.c_lex.specs.declared.token.Keyword.{Keyword}
use Rattle.c_lex.specs.declared.token.Punct.{Punct}
use Rattle.c_lex.specs.declared.token.Punct.TheVariants as mark
use Rattle.c_tree.specs.declared.expr.BinOp.{BinOp}
use Rattle.c_tree.specs.declared.expr.UnOp.{UnOp}
use Rattle.c_tree.specs.declared.place.Span.{Span}
use Rattle.c_tree.specs.declared.stmt.Slot.TheVariants.{Unset}
use Rattle.c_tree.specs.declared.stmt.Ty.{Ty}
use Rattle.c_tree.specs.Parts.{span_of}
use Rattle.c_tree.specs.Tree as tree
use Rattle.c_tree.specs.Tree.{Tree, bare, bare_args, no_span}
use Rattle.c_grammar.specs.declared.nonterminal.Nonterminal.{Nonterminal}
use Rattle.c_grammar.specs.declared.nonterminal.Nonterminal.TheVariants.{Expression, Assignment, Conditional, Binary, Cast, Unary, Postfix, Primary}
use Rattle.c_grammar.specs.Operators.{binary_operator, rank, weakest, prefix_operator, bump_operator, assignment_operator, type_word}
use Rattle.c_grammar.specs.Grammar.{Tokens, over, wrapped, prefixed, joined, chosen, assigned, followed, Given, by_value, by_format, by_address, args, Reads, Argument, Arguments}
use Rattle.c_lex.specs.Lexemes.{kinds}
use Rattle.c_replace.specs.Shapes.{GotTree, Shaped}
use Rattle.c_replace.specs.Forms.{Formed, bare_given}
use Rattle.c_replace.proofs.Splits.{at_suc, headed}
use Rattle.c_replace.proofs.NextToken.{got_end, got_then}

-- ---- forms of productions

-- the same expression as one of another kind
up : {N M : Nonterminal} {ks : List TokenKind} {t : Tree}
    → ((r m : ℕ) (a b : Tokens) (u : Tree) → Reads N r a m b u → Reads M r a m b u)
    → Shaped N ks t → Shaped M ks t
up f x = record {
  each = λ ls a e.
      let g = x.each ls a e in
      record {
        rest = g.rest;
        rest_kinds = g.rest_kinds;
        need = g.need;
        found = g.found;
        is_bare = g.is_bare;
        reads = λ r l. let d = g.reads r l in (d.0, d.1, f r d.0 a g.rest g.found d.2);
      };
}

-- a token before a part
terminal : {N M : Nonterminal} {ks : List TokenKind} {t : Tree} (k : TokenKind) (u : Tree) (f : Span → Tree → Tree)
    → ((s : Span) (r m : ℕ) (a b : Tokens) (v : Tree) → Reads N r a m b v
    → Reads M (suc r) ((k, s) ∷ a) m b (f s v))
    → ((s : Span) (v : Tree) → bare v ≡ t → bare (f s v) ≡ u) → Shaped N ks t → Shaped M (k ∷ ks) u
terminal {N} {M} {ks} k u f step same x = record {
  each = λ ls a e.
      let h = headed a k (ks ++ ls) e in
      let g = x.each ls h.tail h.tail_kinds in
      let found = f h.span g.found in
      subst (λ q. GotTree M ls q u) (sym h.consists)
      (record {
        rest = g.rest;
        rest_kinds = g.rest_kinds;
        need = suc g.need;
        found = found;
        is_bare = same h.span g.found g.is_bare;
        reads = λ r l.
            at_suc (λ i. (m : ℕ) × (i ≤ m + suc g.need)
            × Reads M i ((k, h.span) ∷ h.tail) m g.rest found)
            g.need r l
            (λ q j. let d = g.reads q j in
            (d.0, omega (arith, d.1), step h.span q d.0 h.tail g.rest g.found d.2));
      });
}

-- a token after a part
trail : {N M : Nonterminal} {ks : List TokenKind} {t : Tree} (k : TokenKind) (u : Tree)
    (f : Span → Tree → Tree)
    → ((s : Span) (r m : ℕ) (a b : Tokens) (v : Tree) → Reads N r a m ((k, s) ∷ b) v
    → Reads M r a m b (f s v))
    → ((s : Span) (v : Tree) → bare v ≡ t → bare (f s v) ≡ u) → Shaped N ks t
    → Shaped M (ks ++ k ∷ []) u
trail {ks = ks} k u f step same x = record {
  each = λ ls a e.
      let g = got_end k ls a x (e ∙ append_assoc ks (k ∷ []) ls) in
      record {
        rest = g.rest;
        rest_kinds = g.rest_kinds;
        need = g.need;
        found = f g.span g.found;
        is_bare = same g.span g.found g.is_bare;
        reads = λ r l. let d = g.reads r l in (d.0, d.1, step g.span r d.0 a g.rest g.found d.2);
      };
}

-- a token between two parts, which takes room
between : {N K M : Nonterminal} {ks js : List TokenKind} {t v : Tree} (k : TokenKind) (u : Tree)
    (f : Tree → Tree → Tree)
    → ((s : Span) (r m n : ℕ) (a b c : Tokens) (x y : Tree) → Reads N r a (suc m) ((k, s) ∷ b) x
    → Reads K m b n c y → Reads M r a n c (f x y))
    → ((x y : Tree) → bare x ≡ t → bare y ≡ v → bare (f x y) ≡ u) → Shaped N ks t → Shaped K js v
    → Shaped M (ks ++ k ∷ js) u
between {N} {K} {M} {ks} {js} k u f step same x y = record {
  each = λ ls a e.
      let g = got_end k (js ++ ls) a x (e ∙ append_assoc ks (k ∷ js) ls) in
      let p = y.each ls g.rest g.rest_kinds in
      let found = f g.found p.found in
      let need = g.need + suc p.need in
      record {
        rest = p.rest;
        rest_kinds = p.rest_kinds;
        need = need;
        found = found;
        is_bare = same g.found p.found g.is_bare p.is_bare;
        reads = λ r l.
            let d = g.reads r (omega arith) in
            at_suc (λ i. (r ≤ i + g.need) → Reads N r a i ((k, g.span) ∷ g.rest) g.found
            → (m : ℕ) × (r ≤ m + need) × Reads M r a m p.rest found) p.need d.0 (omega (arith, d.1, l))
            (λ i j low b. let c = p.reads i j in
            (c.0, omega (arith, low, c.1), step g.span r i c.0 a g.rest p.rest g.found p.found b c.2))
            d.1 d.2;
      };
}

-- ---- primaries

-- a constant
pub constant : (n : ℤ) (w : List ℕ) → Shaped Primary (kind.Const n w ∷ []) (tree.constant n [] no_span)
constant n w = record {
  each = λ ls a e.
      let h = headed a (kind.Const n w) ls e in
      subst (λ q. GotTree Primary ls q (tree.constant n [] no_span)) (sym h.consists)
      (record {
        rest = h.tail;
        rest_kinds = h.tail_kinds;
        need = 0;
        found = tree.constant n w h.span;
        is_bare = refl;
        reads = λ r l. (r, omega arith, Reads.constant);
      });
}

-- a name
pub name : (w : List ℕ) → Shaped Primary (kind.Name w ∷ []) (tree.name w Unset no_span)
name w = record {
  each = λ ls a e.
      let h = headed a (kind.Name w) ls e in
      subst (λ q. GotTree Primary ls q (tree.name w Unset no_span)) (sym h.consists)
      (record {
        rest = h.tail;
        rest_kinds = h.tail_kinds;
        need = 0;
        found = tree.name w Unset h.span;
        is_bare = refl;
        reads = λ r l. (r, omega arith, Reads.name);
      });
}

-- the same expression with another text
pub bare_wrapped : (s : Span) (t : Tree) → bare (wrapped s t) ≡ bare t
bare_wrapped s (tree.constant n w e) = refl
bare_wrapped s (tree.name w v e) = refl
bare_wrapped s (tree.index w v t e) = refl
bare_wrapped s (tree.call w x e) = refl
bare_wrapped s (tree.unary f t e) = refl
bare_wrapped s (tree.cast ty t e) = refl
bare_wrapped s (tree.binary f t u e) = refl
bare_wrapped s (tree.choice t u v e) = refl
bare_wrapped s (tree.assign f t u e) = refl
bare_wrapped s (tree.bump before up t e) = refl
bare_wrapped s (tree.comma t u e) = refl
bare_wrapped s tree.hole = refl
bare_wrapped s (tree.hole_after t) = refl

-- an expression in parentheses
pub paren : {ks : List TokenKind} {t : Tree} → Shaped Expression ks t
    → Shaped Primary (kind.Punct mark.OpenParen ∷ (ks ++ kind.Punct mark.CloseParen ∷ [])) t
paren {ks} {t} x = record {
  each = λ ls a e.
      let end = kind.Punct mark.CloseParen ∷ [] in
      let h = headed a (kind.Punct mark.OpenParen) ((ks ++ end) ++ ls) e in
      let g = got_end (kind.Punct mark.CloseParen) ls h.tail x
      (h.tail_kinds ∙ append_assoc ks end ls) in
      let found = wrapped (over h.span g.span) g.found in
      subst (λ q. GotTree Primary ls q t) (sym h.consists)
      (record {
        rest = g.rest;
        rest_kinds = g.rest_kinds;
        need = suc g.need;
        found = found;
        is_bare = bare_wrapped (over h.span g.span) g.found ∙ g.is_bare;
        reads = λ r l.
            at_suc (λ i. (m : ℕ) × (i ≤ m + suc g.need)
            × Reads Primary i ((kind.Punct mark.OpenParen, h.span) ∷ h.tail) m g.rest found) g.need r l
            (λ q low. (suc q, omega arith, Reads.paren (g.reads q low).2));
      });
}

-- a name and an opening bracket
record Opened (w : List ℕ) (p : Punct) (ks : List TokenKind) (a : Tokens) : Type 0 where
  name_span : Span
  open_span : Span
  tail : Tokens
  consists : a ≡ (kind.Name w, name_span) ∷ (kind.Punct p, open_span) ∷ tail
  tail_kinds : kinds tail ≡ ks

-- tokens of these kinds begin with a name and an opening bracket
opened : (w : List ℕ) (p : Punct) (ks : List TokenKind) (a : Tokens)
    → kinds a ≡ kind.Name w ∷ kind.Punct p ∷ ks → Opened w p ks a
opened w p ks a e =
    let g = headed a (kind.Name w) (kind.Punct p ∷ ks) e in
    let h = headed g.tail (kind.Punct p) ks g.tail_kinds in
    record {
      name_span = g.span;
      open_span = h.span;
      tail = h.tail;
      consists = g.consists ∙ ap (λ q. (kind.Name w, g.span) ∷ q) h.consists;
      tail_kinds = h.tail_kinds;
    }

-- a name and an expression in brackets
pub index : {ks : List TokenKind} {t : Tree} (w : List ℕ) → Shaped Expression ks t
    → Shaped Primary (kind.Name w ∷ kind.Punct mark.OpenBracket ∷
    (ks ++ kind.Punct mark.CloseBracket ∷ []))
    (tree.index w Unset t no_span)
index {ks} {t} w x = record {
  each = λ ls a e.
      let end = kind.Punct mark.CloseBracket ∷ [] in
      let h = opened w mark.OpenBracket ((ks ++ end) ++ ls) a e in
      let g = got_end (kind.Punct mark.CloseBracket) ls h.tail x
      (h.tail_kinds ∙ append_assoc ks end ls) in
      let found = tree.index w Unset g.found (over h.name_span g.span) in
      let own : Tokens = (kind.Name w, h.name_span) ∷
      (kind.Punct mark.OpenBracket, h.open_span) ∷ h.tail in
      subst (λ q. GotTree Primary ls q (tree.index w Unset t no_span)) (sym h.consists)
      (record {
        rest = g.rest;
        rest_kinds = g.rest_kinds;
        need = suc g.need;
        found = found;
        is_bare = ap (λ q. tree.index w Unset q no_span) g.is_bare;
        reads = λ r l.
            at_suc (λ i. (m : ℕ) × (i ≤ m + suc g.need) × Reads Primary i own m g.rest found) g.need r l
            (λ q low. (suc q, omega arith, Reads.index (g.reads q low).2));
      });
}

-- a call with no arguments
pub call_bare : (w : List ℕ)
    → Shaped Primary (kind.Name w ∷ kind.Punct mark.OpenParen ∷ kind.Punct mark.CloseParen ∷ [])
    (tree.call w tree.no_args no_span)
call_bare w = record {
  each = λ ls a e.
      let h = opened w mark.OpenParen (kind.Punct mark.CloseParen ∷ ls) a e in
      let g = headed h.tail (kind.Punct mark.CloseParen) ls h.tail_kinds in
      let found = tree.call w tree.no_args (over h.name_span g.span) in
      let start : Tokens → Tokens = λ q. (kind.Name w, h.name_span) ∷
      (kind.Punct mark.OpenParen, h.open_span) ∷ q in
      let own : Tokens = start ((kind.Punct mark.CloseParen, g.span) ∷ g.tail) in
      subst (λ q. GotTree Primary ls q (tree.call w tree.no_args no_span))
      (sym (h.consists ∙ ap start g.consists))
      (record {
        rest = g.tail;
        rest_kinds = g.tail_kinds;
        need = 1;
        found = found;
        is_bare = refl;
        reads = λ r l.
            at_suc (λ i. (m : ℕ) × (i ≤ m + 1) × Reads Primary i own m g.tail found) 0 r l
            (λ q low. (suc q, omega arith, Reads.call_bare));
      });
}

-- arguments without spans, slots and the spelling of constants, one by one
pub bare_each : (gs : List Given) → bare_args (args gs) ≡ args (map bare_given gs)
bare_each [] = refl
bare_each (by_value t ∷ gs) = ap (tree.value (bare t)) (bare_each gs)
bare_each (by_format w s ∷ gs) = ap (tree.format w no_span) (bare_each gs)
bare_each (by_address t ∷ gs) = ap (tree.address (bare t)) (bare_each gs)

-- a call with arguments
pub call : {ks : List TokenKind} {gs : List Given} (w : List ℕ)
    → Formed Arguments (map bare_given) ks gs
    → Shaped Primary (kind.Name w ∷ kind.Punct mark.OpenParen ∷ (ks ++ kind.Punct mark.CloseParen ∷ []))
    (tree.call w (args gs) no_span)
call {ks} {gs} w x = record {
  each = λ ls a e.
      let end = kind.Punct mark.CloseParen ∷ [] in
      let h = opened w mark.OpenParen ((ks ++ end) ++ ls) a e in
      let g = got_then (kind.Punct mark.CloseParen) ls h.tail x
      (h.tail_kinds ∙ append_assoc ks end ls) in
      let found = tree.call w (args g.found) (over h.name_span g.span) in
      let own : Tokens = (kind.Name w, h.name_span) ∷
      (kind.Punct mark.OpenParen, h.open_span) ∷ h.tail in
      subst (λ q. GotTree Primary ls q (tree.call w (args gs) no_span)) (sym h.consists)
      (record {
        rest = g.rest;
        rest_kinds = g.rest_kinds;
        need = suc g.need;
        found = found;
        is_bare = ap (λ q. tree.call w q no_span) (bare_each g.found ∙ ap args g.is_bare);
        reads = λ r l.
            at_suc (λ i. (m : ℕ) × (i ≤ m + suc g.need) × Reads Primary i own m g.rest found) g.need r l
            (λ q low. (suc q, omega arith, Reads.call (g.reads q low)));
      });
}

-- ---- operators

-- what needs no `++` or `--` after it
pub postfix : {ks : List TokenKind} {t : Tree} → Shaped Primary ks t → Shaped Postfix ks t
postfix x = up (λ r m a b u d. Reads.postfix d) x

-- `++` or `--` after a place
pub bump_after : {ks : List TokenKind} {t : Tree} (p : Punct) (more : Bool)
    → bump_operator p ≡ Some more → Shaped Primary ks t
    → Shaped Postfix (ks ++ kind.Punct p ∷ []) (tree.bump false more t no_span)
bump_after p more e x = trail (kind.Punct p) _ (λ s v. tree.bump false more v (over (span_of v) s))
    (λ s r m a b v d. Reads.bump_after e d) (λ s v i. ap (λ q. tree.bump false more q no_span) i) x

-- what needs no operator before it
pub unary : {ks : List TokenKind} {t : Tree} → Shaped Postfix ks t → Shaped Unary ks t
unary x = up (λ r m a b u d. Reads.unary d) x

-- `++` or `--` before a place
pub bump_before : {ks : List TokenKind} {t : Tree} (p : Punct) (more : Bool)
    → bump_operator p ≡ Some more → Shaped Unary ks t
    → Shaped Unary (kind.Punct p ∷ ks) (tree.bump true more t no_span)
bump_before p more e x = terminal (kind.Punct p) _ (λ s v. tree.bump true more v (over s (span_of v)))
    (λ s r m a b v d. Reads.bump_before e d) (λ s v i. ap (λ q. tree.bump true more q no_span) i) x

-- an operator before its operand
pub prefix : {ks : List TokenKind} {t : Tree} (p : Punct) (f : UnOp) → prefix_operator p ≡ Some f
    → Shaped Cast ks t → Shaped Unary (kind.Punct p ∷ ks) (tree.unary f t no_span)
prefix p f e x = terminal (kind.Punct p) _ (λ s v. prefixed f s v) (λ s r m a b v d. Reads.prefix e d)
    (λ s v i. ap (λ q. tree.unary f q no_span) i) x

-- what needs no cast
pub cast : {ks : List TokenKind} {t : Tree} → Shaped Unary ks t → Shaped Cast ks t
cast x = up (λ r m a b u d. Reads.cast d) x

-- a cast
pub cast_to : {ks : List TokenKind} {t : Tree} (k : Keyword) (ty : Ty) → type_word k ≡ Some ty
    → Shaped Cast ks t
    → Shaped Cast (kind.Punct mark.OpenParen ∷ kind.Word k ∷ kind.Punct mark.CloseParen ∷ ks)
    (tree.cast ty t no_span)
cast_to {ks} {t} k ty f x = record {
  each = λ ls a e.
      let o = headed a (kind.Punct mark.OpenParen)
      (kind.Word k ∷ kind.Punct mark.CloseParen ∷ (ks ++ ls)) e in
      let h = headed o.tail (kind.Word k) (kind.Punct mark.CloseParen ∷ (ks ++ ls)) o.tail_kinds in
      let i = headed h.tail (kind.Punct mark.CloseParen) (ks ++ ls) h.tail_kinds in
      let g = x.each ls i.tail i.tail_kinds in
      let found = tree.cast ty g.found (over o.span (span_of g.found)) in
      let own : Tokens = (kind.Punct mark.OpenParen, o.span) ∷ (kind.Word k, h.span) ∷
      (kind.Punct mark.CloseParen, i.span) ∷ i.tail in
      let whole : a ≡ own = o.consists ∙ ap (λ q. (kind.Punct mark.OpenParen, o.span) ∷ q)
      (h.consists ∙ ap (λ q. (kind.Word k, h.span) ∷ q) i.consists) in
      subst (λ q. GotTree Cast ls q (tree.cast ty t no_span)) (sym whole)
      (record {
        rest = g.rest;
        rest_kinds = g.rest_kinds;
        need = suc g.need;
        found = found;
        is_bare = ap (λ q. tree.cast ty q no_span) g.is_bare;
        reads = λ r l.
            at_suc (λ j. (m : ℕ) × (j ≤ m + suc g.need) × Reads Cast j own m g.rest found) g.need r l
            (λ q low. let d = g.reads q low in (d.0, omega (arith, d.1), Reads.cast_to f d.2));
      });
}

-- an operand of the strongest operators
pub operand : {ks : List TokenKind} {t : Tree} → Shaped Cast ks t → Shaped (Binary 0) ks t
operand x = up (λ r m a b u d. Reads.operand d) x

-- an operand of weaker operators
pub weaker : {j : ℕ} {ks : List TokenKind} {t : Tree} → Shaped (Binary j) ks t
    → Shaped (Binary (suc j)) ks t
weaker x = up (λ r m a b u d. Reads.weaker d) x

-- an operator between its operands
pub binary : {j : ℕ} {ks ls : List TokenKind} {t u : Tree} (p : Punct) (f : BinOp)
    → binary_operator p ≡ Some f → rank f ≡ suc j → Shaped (Binary (suc j)) ks t
    → Shaped (Binary j) ls u
    → Shaped (Binary (suc j)) (ks ++ kind.Punct p ∷ ls) (tree.binary f t u no_span)
binary {t = t} {u = u} p f e i x y = between (kind.Punct p) _ (λ v w. joined f v w)
    (λ s r m n a b c v w d1 d2. Reads.binary e i d1 d2)
    (λ v w g h. ap (λ q. tree.binary f q (bare w) no_span) g
    ∙ ap (λ q. tree.binary f t q no_span) h) x y

-- what needs no `?`
pub conditional : {ks : List TokenKind} {t : Tree} → Shaped (Binary weakest) ks t
    → Shaped Conditional ks t
conditional x = up (λ r m a b u d. Reads.conditional d) x

-- what needs no assignment
pub assignment : {ks : List TokenKind} {t : Tree} → Shaped Conditional ks t → Shaped Assignment ks t
assignment x = up (λ r m a b u d. Reads.assignment d) x

-- an assignment
pub assign : {ks ls : List TokenKind} {t u : Tree} (p : Punct) (f : Option BinOp)
    → assignment_operator p ≡ Some f → Shaped Unary ks t → Shaped Assignment ls u
    → Shaped Assignment (ks ++ kind.Punct p ∷ ls) (tree.assign f t u no_span)
assign {t = t} {u = u} p f e x y = between (kind.Punct p) _ (λ v w. assigned f v w)
    (λ s r m n a b c v w d1 d2. Reads.assign e d1 d2)
    (λ v w g h. ap (λ q. tree.assign f q (bare w) no_span) g
    ∙ ap (λ q. tree.assign f t q no_span) h) x y

-- what needs no comma
pub expression : {ks : List TokenKind} {t : Tree} → Shaped Assignment ks t → Shaped Expression ks t
expression x = up (λ r m a b u d. Reads.expression d) x

-- two expressions with a comma between them
pub comma : {ks ls : List TokenKind} {t u : Tree} → Shaped Expression ks t → Shaped Assignment ls u
    → Shaped Expression (ks ++ kind.Punct mark.Comma ∷ ls) (tree.comma t u no_span)
comma {t = t} {u = u} x y = between (kind.Punct mark.Comma) _ (λ v w. followed v w)
    (λ s r m n a b c v w d1 d2. Reads.comma d1 d2)
    (λ v w g h. ap (λ q. tree.comma q (bare w) no_span) g ∙ ap (λ q. tree.comma t q no_span) h) x y

-- `test ? yes : no`
pub choose : {ks is js : List TokenKind} {t u v : Tree} → Shaped (Binary weakest) ks t
    → Shaped Expression is u → Shaped Conditional js v
    → Shaped Conditional (ks ++ kind.Punct mark.Question ∷ (is ++ kind.Punct mark.Colon ∷ js))
    (tree.choice t u v no_span)
choose {ks} {is} {js} {t} {u} {v} x y w = record {
  each = λ ls a e.
      let tail = is ++ kind.Punct mark.Colon ∷ js in
      let g = got_end (kind.Punct mark.Question) (tail ++ ls) a x
      (e ∙ append_assoc ks (kind.Punct mark.Question ∷ tail) ls) in
      let p = got_end (kind.Punct mark.Colon) (js ++ ls) g.rest y
      (g.rest_kinds ∙ append_assoc is (kind.Punct mark.Colon ∷ js) ls) in
      let o = w.each ls p.rest p.rest_kinds in
      let found = chosen g.found p.found o.found in
      let need = g.need + suc (p.need + o.need) in
      record {
        rest = o.rest;
        rest_kinds = o.rest_kinds;
        need = need;
        found = found;
        is_bare = ap (λ q. tree.choice q (bare p.found) (bare o.found) no_span) g.is_bare
            ∙ ap (λ q. tree.choice t q (bare o.found) no_span) p.is_bare
            ∙ ap (λ q. tree.choice t u q no_span) o.is_bare;
        reads = λ r l.
            let d = g.reads r (omega arith) in
            at_suc (λ j. (r ≤ j + g.need) → Reads (Binary weakest) r a j
            ((kind.Punct mark.Question, g.span) ∷ g.rest) g.found
            → (m : ℕ) × (r ≤ m + need) × Reads Conditional r a m o.rest found) (p.need + o.need) d.0
            (omega (arith, d.1, l))
            (λ j low b f.
            let d2 = p.reads j (omega arith) in
            let d3 = o.reads d2.0 (omega (arith, d2.1, low)) in
            (d3.0, omega (arith, b, d2.1, d3.1), Reads.choose f d2.2 d3.2)) d.1 d.2;
      };
}

-- ---- arguments

-- an argument by value
pub argument_value : {ks : List TokenKind} {t : Tree} → Shaped Assignment ks t
    → Formed Argument bare_given ks (by_value t)
argument_value x = record {
  each = λ ls a e.
      let g = x.each ls a e in
      record {
        rest = g.rest;
        rest_kinds = g.rest_kinds;
        need = g.need;
        found = by_value g.found;
        is_bare = ap by_value g.is_bare;
        reads = λ r l. Argument.value (g.reads r l).2;
      };
}

-- a format
pub argument_format : (w : List ℕ) → Formed Argument bare_given (kind.Str w ∷ []) (by_format w no_span)
argument_format w = record {
  each = λ ls a e.
      let h = headed a (kind.Str w) ls e in
      record {
        rest = h.tail;
        rest_kinds = h.tail_kinds;
        need = 0;
        found = by_format w h.span;
        is_bare = refl;
        reads = λ r l. subst (λ q. Argument r q h.tail (by_format w h.span))
            (sym h.consists) Argument.format;
      };
}

-- the address of a place
pub argument_address : {ks : List TokenKind} {t : Tree} → Shaped Unary ks t
    → Formed Argument bare_given (kind.Punct mark.And ∷ ks) (by_address t)
argument_address {ks} x = record {
  each = λ ls a e.
      let h = headed a (kind.Punct mark.And) (ks ++ ls) e in
      let g = x.each ls h.tail h.tail_kinds in
      record {
        rest = g.rest;
        rest_kinds = g.rest_kinds;
        need = suc g.need;
        found = by_address g.found;
        is_bare = ap by_address g.is_bare;
        reads = λ r l. subst (λ q. Argument r q g.rest (by_address g.found)) (sym h.consists)
            (at_suc (λ i. Argument i ((kind.Punct mark.And, h.span) ∷ h.tail) g.rest
            (by_address g.found)) g.need r l
            (λ q low. Argument.address (g.reads q low).2));
      };
}

-- the last argument
pub arguments_last : {ks : List TokenKind} {g : Given} → Formed Argument bare_given ks g
    → Formed Arguments (map bare_given) ks (g ∷ [])
arguments_last x = record {
  each = λ ls a e.
      let g = x.each ls a e in
      record {
        rest = g.rest;
        rest_kinds = g.rest_kinds;
        need = g.need;
        found = g.found ∷ [];
        is_bare = ap (λ q. q ∷ []) g.is_bare;
        reads = λ r l. Arguments.last (g.reads r l);
      };
}

-- an argument, a comma and others
pub arguments_more : {ks js : List TokenKind} {g : Given} {gs : List Given}
    → Formed Argument bare_given ks g
    → Formed Arguments (map bare_given) js gs
    → Formed Arguments (map bare_given) (ks ++ kind.Punct mark.Comma ∷ js) (g ∷ gs)
arguments_more {ks} {js} {g = given} x y = record {
  each = λ ls a e.
      let g = got_then (kind.Punct mark.Comma) (js ++ ls) a x
      (e ∙ append_assoc ks (kind.Punct mark.Comma ∷ js) ls) in
      let h = y.each ls g.rest g.rest_kinds in
      record {
        rest = h.rest;
        rest_kinds = h.rest_kinds;
        need = g.need + h.need;
        found = g.found ∷ h.found;
        is_bare = ap (λ q. q ∷ map bare_given h.found) g.is_bare ∙ ap (λ q. given ∷ q) h.is_bare;
        reads = λ r l. Arguments.more (g.reads r (omega arith)) (h.reads r (omega arith));
      };
}
