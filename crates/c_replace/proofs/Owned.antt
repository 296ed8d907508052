-- What is read as an expression has tokens of its own, and all tokens of their kinds are the same
-- expression.
use Rattle.std.proofs.Common.{◌≡◌, ℕ, Bool, true, false, List, [], ◌∷◌, ◌++◌, map, Some, refl, sym, ap, ◌∙◌, subst, append_assoc}
use Rattle.c_lex.specs.declared.token.TokenKind.{TokenKind}
use Rattle.c_lex.specs.declared.token.TokenKind.TheVariants as kind
use Rattle.c_lex.specs.declared.token.Punct.{Punct}
use Rattle.c_lex.specs.declared.token.Punct.TheVariants as mark
use Rattle.c_tree.specs.declared.place.Span.{Span}
use Rattle.c_lex.specs.declared.token.Keyword.{Keyword}
use Rattle.c_tree.specs.declared.stmt.Slot.TheVariants.{Unset}
use Rattle.c_tree.specs.declared.stmt.Ty.{Ty}
use Rattle.c_grammar.specs.Operators.{type_word, weakest, bump_operator}
use Rattle.c_tree.specs.Parts.{span_of}
use Rattle.c_tree.specs.Tree as tree
use Rattle.c_tree.specs.Tree.{Tree, Args, bare, bare_args}
use Rattle.c_grammar.specs.declared.nonterminal.Nonterminal.{Nonterminal}
use Rattle.c_grammar.specs.declared.nonterminal.Nonterminal.TheVariants.{Expression, Conditional, Binary, Cast, Primary}
use Rattle.c_grammar.specs.Grammar.{Tokens, over, wrapped, Given, args, Reads, Argument, Arguments}
use Rattle.c_lex.specs.Lexemes.{kinds, Covers, is_other, is_no_question}
use Rattle.c_replace.specs.Shapes.{Shaped, is_whole, Own}
use Rattle.c_replace.specs.Forms.{Formed, OwnPart, bare_given}
use Rattle.c_replace.proofs.Splits.{kinds_append, covers_one, covers_join, covers_before, settled_append}
use Rattle.c_replace.proofs.Shapes as shape

-- an expression in parentheses has their text
whole_wrapped : (s : Span) (t : Tree) → is_whole t ≡ true → (is_whole (wrapped s t) ≡ true)
    × (span_of (wrapped s t) ≡ s)
whole_wrapped s (tree.constant n w e) h = (refl, refl)
whole_wrapped s (tree.name w v e) h = (refl, refl)
whole_wrapped s (tree.index w v t e) h = (refl, refl)
whole_wrapped s (tree.call w x e) h = (refl, refl)
whole_wrapped s (tree.unary f t e) h = (refl, refl)
whole_wrapped s (tree.cast ty t e) h = (refl, refl)
whole_wrapped s (tree.binary f t u e) h = (refl, refl)
whole_wrapped s (tree.choice t u v e) h = (refl, refl)
whole_wrapped s (tree.assign f t u e) h = (refl, refl)
whole_wrapped s (tree.bump before up t e) h = (refl, refl)
whole_wrapped s (tree.comma t u e) h = (refl, refl)
whole_wrapped s tree.hole h = absurd (cc)
whole_wrapped s (tree.hole_after t) h = absurd (cc)

-- `++` and `--` are no `?`
bump_other : (p : Punct) (up : Bool) → bump_operator p ≡ Some up → is_no_question p ≡ true
bump_other mark.Question up e = absurd (cc)
bump_other _ up e = refl

-- ---- forms

-- the same tokens for a looser part
raise : {N M : Nonterminal} {a b : Tokens} {t : Tree} → Own N a b t
    → ((ks : List TokenKind) → Shaped N ks (bare t) → Shaped M ks (bare t)) → Own M a b t
raise o f = record {
  own = o.own;
  splits = o.splits;
  shaped = f (kinds o.own) o.shaped;
  covers = o.covers;
  whole = o.whole;
  settled = o.settled;
}

-- a token before
first : {N M : Nonterminal} {a b : Tokens} {t : Tree} (k : TokenKind) (s : Span) (u : Tree)
    → span_of u ≡ over s (span_of t) → is_whole u ≡ true → Own N a b t
    → ((ks : List TokenKind) → Shaped N ks (bare t) → Shaped M (k ∷ ks) (bare u))
    → Own M ((k, s) ∷ a) b u
first k s u e w o f = record {
  own = (k, s) ∷ o.own;
  splits = ap (λ q. (k, s) ∷ q) o.splits;
  shaped = f (kinds o.own) o.shaped;
  covers = subst (Covers ((k, s) ∷ o.own)) (sym e) (covers_before k s o.covers);
  whole = w;
  settled = settled_append ((k, s) ∷ []) o.own o.settled;
}

-- a token after
after : {N M : Nonterminal} {a b : Tokens} {t : Tree} (k : TokenKind) (s : Span) (u : Tree) → is_other k ≡ true
    → span_of u ≡ over (span_of t) s → is_whole u ≡ true → Own N a ((k, s) ∷ b) t
    → ((ks : List TokenKind) → Shaped N ks (bare t) → Shaped M (ks ++ k ∷ []) (bare u)) → Own M a b u
after {M = M} {b = b} k s u i e w o f = record {
  own = o.own ++ (k, s) ∷ [];
  splits = o.splits ∙ sym (append_assoc o.own ((k, s) ∷ []) b);
  shaped = subst (λ q. Shaped M q (bare u)) (sym (kinds_append o.own ((k, s) ∷ [])))
      (f (kinds o.own) o.shaped);
  covers = subst (Covers (o.own ++ (k, s) ∷ [])) (sym e) (covers_join o.covers (covers_one k s));
  whole = w;
  settled = settled_append o.own ((k, s) ∷ []) i;
}

-- a token between two parts
pair : {N K M : Nonterminal} {a b c : Tokens} {t u : Tree} (k : TokenKind) (s : Span) (v : Tree)
    → span_of v ≡ over (span_of t) (span_of u) → is_whole v ≡ true
    → Own N a ((k, s) ∷ b) t → Own K b c u →
    ((ks ls : List TokenKind) → Shaped N ks (bare t) → Shaped K ls (bare u)
    → Shaped M (ks ++ k ∷ ls) (bare v)) → Own M a c v
pair {M = M} {c = c} k s v e w o p f = record {
  own = o.own ++ (k, s) ∷ p.own;
  splits = o.splits ∙ ap (λ q. o.own ++ (k, s) ∷ q) p.splits
      ∙ sym (append_assoc o.own ((k, s) ∷ p.own) c);
  shaped = subst (λ q. Shaped M q (bare v)) (sym (kinds_append o.own ((k, s) ∷ p.own)))
      (f (kinds o.own) (kinds p.own) o.shaped p.shaped);
  covers = subst (Covers (o.own ++ (k, s) ∷ p.own)) (sym e)
      (covers_join o.covers (covers_before k s p.covers));
  whole = w;
  settled = settled_append o.own ((k, s) ∷ p.own) (settled_append ((k, s) ∷ []) p.own p.settled);
}

-- a token at the end of whatever
covers_end : (a : Tokens) (k : TokenKind) (e : Span) → (h : Span) × Covers (a ++ (k, e) ∷ []) (over h e)
covers_end [] k e = (e, covers_one k e)
covers_end (t ∷ a) k e = (t.1, covers_join (covers_one t.0 t.1) (covers_end a k e).1)

-- an element of an array
own_index : {a b : Tokens} {w : List ℕ} {s o e : Span} {t : Tree}
    → Own Expression a ((kind.Punct mark.CloseBracket, e) ∷ b) t
    → Own Primary ((kind.Name w, s) ∷ (kind.Punct mark.OpenBracket, o) ∷ a) b
    (tree.index w Unset t (over s e))
own_index {a} {b} {w} {s} {o} {e} {t} x = record {
  own = (kind.Name w, s) ∷ (kind.Punct mark.OpenBracket, o) ∷
      (x.own ++ (kind.Punct mark.CloseBracket, e) ∷ []);
  splits = ap (λ q. (kind.Name w, s) ∷ (kind.Punct mark.OpenBracket, o) ∷ q)
      (x.splits ∙ sym (append_assoc x.own ((kind.Punct mark.CloseBracket, e) ∷ []) b));
  shaped = subst (λ q. Shaped Primary (kind.Name w ∷ kind.Punct mark.OpenBracket ∷ q)
      (tree.index w Unset (bare t) tree.no_span))
      (sym (kinds_append x.own ((kind.Punct mark.CloseBracket, e) ∷ [])))
      (shape.index w x.shaped);
  covers = covers_before (kind.Name w) s (covers_before (kind.Punct mark.OpenBracket) o
      (covers_end x.own (kind.Punct mark.CloseBracket) e).1);
  whole = refl;
  settled = settled_append ((kind.Name w, s) ∷ (kind.Punct mark.OpenBracket, o) ∷ x.own)
      ((kind.Punct mark.CloseBracket, e) ∷ []) refl;
}

-- an expression in parentheses
own_paren : {a b : Tokens} {o e : Span} {t : Tree}
    → Own Expression a ((kind.Punct mark.CloseParen, e) ∷ b) t
    → Own Primary ((kind.Punct mark.OpenParen, o) ∷ a) b (wrapped (over o e) t)
own_paren {a} {b} {o} {e} {t} x =
    let w = whole_wrapped (over o e) t x.whole in
    record {
      own = (kind.Punct mark.OpenParen, o) ∷ (x.own ++ (kind.Punct mark.CloseParen, e) ∷ []);
      splits = ap (λ q. (kind.Punct mark.OpenParen, o) ∷ q)
          (x.splits ∙ sym (append_assoc x.own ((kind.Punct mark.CloseParen, e) ∷ []) b));
      shaped = subst
          (Shaped Primary
          (kinds ((kind.Punct mark.OpenParen, o) ∷ (x.own ++ (kind.Punct mark.CloseParen, e) ∷ []))))
          (sym (shape.bare_wrapped (over o e) t))
          (subst (λ q. Shaped Primary (kind.Punct mark.OpenParen ∷ q) (bare t))
          (sym (kinds_append x.own ((kind.Punct mark.CloseParen, e) ∷ []))) (shape.paren x.shaped));
      covers = subst
          (Covers ((kind.Punct mark.OpenParen, o) ∷ (x.own ++ (kind.Punct mark.CloseParen, e) ∷ [])))
          (sym w.1)
          (covers_before (kind.Punct mark.OpenParen) o
          (covers_end x.own (kind.Punct mark.CloseParen) e).1);
      whole = w.0;
      settled = settled_append ((kind.Punct mark.OpenParen, o) ∷ x.own)
          ((kind.Punct mark.CloseParen, e) ∷ []) refl;
    }

-- a cast
own_cast : {a b : Tokens} {o s e : Span} {t : Tree} (k : Keyword) (ty : Ty) → type_word k ≡ Some ty
    → Own Cast a b t
    → Own Cast ((kind.Punct mark.OpenParen, o) ∷ (kind.Word k, s) ∷ (kind.Punct mark.CloseParen, e) ∷ a)
    b (tree.cast ty t (over o (span_of t)))
own_cast {a} {b} {o} {s} {e} {t} k ty f x = record {
  own = (kind.Punct mark.OpenParen, o) ∷ (kind.Word k, s) ∷ (kind.Punct mark.CloseParen, e) ∷ x.own;
  splits = ap (λ q. (kind.Punct mark.OpenParen, o) ∷ (kind.Word k, s) ∷
      (kind.Punct mark.CloseParen, e) ∷ q) x.splits;
  shaped = shape.cast_to k ty f x.shaped;
  covers = covers_before (kind.Punct mark.OpenParen) o
      (covers_before (kind.Word k) s (covers_before (kind.Punct mark.CloseParen) e x.covers));
  whole = refl;
  settled = settled_append ((kind.Punct mark.OpenParen, o) ∷ (kind.Word k, s) ∷
      (kind.Punct mark.CloseParen, e) ∷ []) x.own x.settled;
}

-- `test ? yes : no`
own_choose : {a b c d : Tokens} {s o : Span} {t u v : Tree}
    → Own (Binary weakest) a ((kind.Punct mark.Question, s) ∷ b) t
    → Own Expression b ((kind.Punct mark.Colon, o) ∷ c) u → Own Conditional c d v
    → Own Conditional a d (tree.choice t u v (over (span_of t) (span_of v)))
own_choose {a} {b} {c} {d} {s} {o} {t} {u} {v} x y z =
    let quest : TokenKind × Span = (kind.Punct mark.Question, s) in
    let colon : TokenKind × Span = (kind.Punct mark.Colon, o) in
    let tail = y.own ++ colon ∷ z.own in
    record {
      own = x.own ++ quest ∷ tail;
      splits = x.splits ∙ ap (λ q. x.own ++ quest ∷ q)
          (y.splits ∙ ap (λ q. y.own ++ colon ∷ q) z.splits
          ∙ sym (append_assoc y.own (colon ∷ z.own) d))
          ∙ sym (append_assoc x.own (quest ∷ tail) d);
      shaped = subst (λ q. Shaped Conditional q (tree.choice (bare t) (bare u) (bare v) tree.no_span))
          (sym (kinds_append x.own (quest ∷ tail) ∙ ap
          (λ q. kinds x.own ++ kind.Punct mark.Question ∷ q) (kinds_append y.own (colon ∷ z.own))))
          (shape.choose x.shaped y.shaped z.shaped);
      covers = covers_join x.covers (covers_before (kind.Punct mark.Question) s
          (covers_join y.covers (covers_before (kind.Punct mark.Colon) o z.covers)));
      whole = refl;
      settled = settled_append x.own (quest ∷ tail)
          (settled_append (quest ∷ y.own) (colon ∷ z.own)
          (settled_append (colon ∷ []) z.own z.settled));
    }

-- a call with arguments
own_call : {a b : Tokens} {w : List ℕ} {s o e : Span} {gs : List Given}
    → OwnPart Arguments (map bare_given) a ((kind.Punct mark.CloseParen, e) ∷ b) gs
    → Own Primary ((kind.Name w, s) ∷ (kind.Punct mark.OpenParen, o) ∷ a) b
    (tree.call w (args gs) (over s e))
own_call {a} {b} {w} {s} {o} {e} {gs} x = record {
  own = (kind.Name w, s) ∷ (kind.Punct mark.OpenParen, o) ∷
      (x.own ++ (kind.Punct mark.CloseParen, e) ∷ []);
  splits = ap (λ q. (kind.Name w, s) ∷ (kind.Punct mark.OpenParen, o) ∷ q)
      (x.splits ∙ sym (append_assoc x.own ((kind.Punct mark.CloseParen, e) ∷ []) b));
  shaped = subst (λ q. Shaped Primary (kinds ((kind.Name w, s) ∷ (kind.Punct mark.OpenParen, o) ∷
      (x.own ++ (kind.Punct mark.CloseParen, e) ∷ []))) (tree.call w q tree.no_span))
      (sym (shape.bare_each gs))
      (subst (λ q. Shaped Primary (kind.Name w ∷ kind.Punct mark.OpenParen ∷ q)
      (tree.call w (args (map bare_given gs)) tree.no_span))
      (sym (kinds_append x.own ((kind.Punct mark.CloseParen, e) ∷ [])))
      (shape.call w x.formed));
  covers = covers_before (kind.Name w) s (covers_before (kind.Punct mark.OpenParen) o
      (covers_end x.own (kind.Punct mark.CloseParen) e).1);
  whole = refl;
  settled = settled_append ((kind.Name w, s) ∷ (kind.Punct mark.OpenParen, o) ∷ x.own)
      ((kind.Punct mark.CloseParen, e) ∷ []) refl;
}

mutual
  -- what is read has tokens of its own
  pub owned : {N : Nonterminal} {r m : ℕ} {a b : Tokens} {t : Tree} → Reads N r a m b t → Own N a b t
  owned (Reads.constant {n = n} {w = w} {s = s}) = record {
    own = (kind.Const n w, s) ∷ [];
    splits = refl;
    shaped = shape.constant n w;
    covers = covers_one (kind.Const n w) s;
    whole = refl;
    settled = refl;
  }
  owned (Reads.name {w = w} {s = s}) = record {
    own = (kind.Name w, s) ∷ [];
    splits = refl;
    shaped = shape.name w;
    covers = covers_one (kind.Name w) s;
    whole = refl;
    settled = refl;
  }
  owned (Reads.index {w = w} {s = s} {o = o} {e = e} {t = t} d) = own_index (owned d)
  owned (Reads.call_bare {w = w} {s = s} {o = o} {e = e}) = record {
    own = (kind.Name w, s) ∷ (kind.Punct mark.OpenParen, o) ∷ (kind.Punct mark.CloseParen, e) ∷ [];
    splits = refl;
    shaped = shape.call_bare w;
    covers = record {
      first = (kind.Name w, s);
      others = (kind.Punct mark.OpenParen, o) ∷ (kind.Punct mark.CloseParen, e) ∷ [];
      consists = refl;
      begins = refl;
      ends = refl;
    };
    whole = refl;
    settled = refl;
  }
  owned (Reads.call d) = own_call (owned_arguments d)
  owned (Reads.paren d) = own_paren (owned d)
  owned (Reads.postfix d) = raise (owned d) (λ ks x. shape.postfix x)
  owned (Reads.bump_after {t = t} {p = p} {s = s} {up = up} e d) =
      after (kind.Punct p) s (tree.bump false up t (over (span_of t) s)) (bump_other p up e) refl refl
      (owned d) (λ ks x. shape.bump_after p up e x)
  owned (Reads.unary d) = raise (owned d) (λ ks x. shape.unary x)
  owned (Reads.bump_before {t = t} {p = p} {s = s} {up = up} e d) =
      first (kind.Punct p) s (tree.bump true up t (over s (span_of t))) refl refl (owned d)
      (λ ks x. shape.bump_before p up e x)
  owned (Reads.prefix {t = t} {p = p} {s = s} {f = f} e d) =
      first (kind.Punct p) s (tree.unary f t (over s (span_of t))) refl refl (owned d)
      (λ ks x. shape.prefix p f e x)
  owned (Reads.cast d) = raise (owned d) (λ ks x. shape.cast x)
  owned (Reads.cast_to {t = t} {k = k} {o = o} {s = s} {e = e} {ty = ty} f d) =
      own_cast k ty f (owned d)
  owned (Reads.operand d) = raise (owned d) (λ ks x. shape.operand x)
  owned (Reads.weaker d) = raise (owned d) (λ ks x. shape.weaker x)
  owned (Reads.binary {t = t} {u = u} {p = p} {s = s} {f = f} e i d1 d2) =
      pair (kind.Punct p) s (tree.binary f t u (over (span_of t) (span_of u))) refl refl (owned d1)
      (owned d2) (λ ks ls x y. shape.binary p f e i x y)
  owned (Reads.conditional d) = raise (owned d) (λ ks x. shape.conditional x)
  owned (Reads.choose d1 d2 d3) = own_choose (owned d1) (owned d2) (owned d3)
  owned (Reads.assignment d) = raise (owned d) (λ ks x. shape.assignment x)
  owned (Reads.assign {t = t} {u = u} {p = p} {s = s} {f = f} e d1 d2) =
      pair (kind.Punct p) s (tree.assign f t u (over (span_of t) (span_of u))) refl refl (owned d1)
      (owned d2) (λ ks ls x y. shape.assign p f e x y)
  owned (Reads.expression d) = raise (owned d) (λ ks x. shape.expression x)
  owned (Reads.comma {t = t} {u = u} {s = s} d1 d2) =
      pair (kind.Punct mark.Comma) s (tree.comma t u (over (span_of t) (span_of u))) refl refl
      (owned d1) (owned d2) (λ ks ls x y. shape.comma x y)

  -- the same of an argument
  owned_argument : {r : ℕ} {a b : Tokens} {g : Given} → Argument r a b g
      → OwnPart Argument bare_given a b g
  owned_argument (Argument.value d) = let o = owned d in record {
    own = o.own;
    splits = o.splits;
    formed = shape.argument_value o.shaped;
  }
  owned_argument (Argument.format {w = w} {s = s}) = record {
    own = (kind.Str w, s) ∷ [];
    splits = refl;
    formed = shape.argument_format w;
  }
  owned_argument (Argument.address {s = s} d) =
      let o = owned d in
      record {
        own = (kind.Punct mark.And, s) ∷ o.own;
        splits = ap (λ q. (kind.Punct mark.And, s) ∷ q) o.splits;
        formed = shape.argument_address o.shaped;
      }

  -- the same of arguments
  owned_arguments : {r : ℕ} {a b : Tokens} {gs : List Given} → Arguments r a b gs
      → OwnPart Arguments (map bare_given) a b gs
  owned_arguments (Arguments.last d) =
      let o = owned_argument d in
      record { own = o.own; splits = o.splits; formed = shape.arguments_last o.formed }
  owned_arguments (Arguments.more {c = c} {g = g} {gs = gs} {s = s} d e) =
      let o = owned_argument d in
      let p = owned_arguments e in
      record {
        own = o.own ++ (kind.Punct mark.Comma, s) ∷ p.own;
        splits = o.splits ∙ ap (λ q. o.own ++ (kind.Punct mark.Comma, s) ∷ q) p.splits
            ∙ sym (append_assoc o.own ((kind.Punct mark.Comma, s) ∷ p.own) c);
        formed = subst (λ q. Formed Arguments (map bare_given) q (map bare_given (g ∷ gs)))
            (sym (kinds_append o.own ((kind.Punct mark.Comma, s) ∷ p.own)))
            (shape.arguments_more o.formed p.formed);
      }
