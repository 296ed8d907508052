-- What is read has tokens of its own, which cover its text.
use Rattle.std.proofs.Common.{◌≡◌, ℕ, Bool, [], ◌∷◌, ◌++◌, refl, sym, ap, ◌∙◌, subst, append_assoc}
use Rattle.c_lex.specs.declared.token.TokenKind.{TokenKind}
use Rattle.c_lex.specs.declared.token.TokenKind.TheVariants as kind
use Rattle.c_lex.specs.Lexemes.{end_of, Covers}
use Rattle.c_tree.specs.declared.place.Span.{Span}
use Rattle.c_tree.specs.Parts.{span_of, span_of_code}
use Rattle.c_tree.specs.Tree as tree
use Rattle.c_tree.specs.Tree.{Tree, Code}
use Rattle.c_grammar.specs.declared.nonterminal.Nonterminal.{Nonterminal}
use Rattle.c_grammar.specs.Grammar.{Tokens, over, wrapped, Reads}
use Rattle.c_grammar.specs.Programs.{Statement}
use Rattle.c_grammar.specs.Texts.{OwnTokens}
use Rattle.c_grammar.proofs.ExpressionPrefixes.{Tail, all, later, join, next, tail_reads, tail_arguments}
use Rattle.c_grammar.proofs.ProgramPrefixes.{tail_clause, tail_optional, tail_statement, tail_items}

-- ---- tokens and the text that they cover

end_append : (t : TokenKind × Span) (a : Tokens) (u : TokenKind × Span) (b : Tokens)
    → end_of t (a ++ u ∷ b) ≡ end_of u b
end_append t [] u b = refl
end_append t (v ∷ a) u b = end_append v a u b

-- the tokens of two texts, with others between them
covers_between : {x y : Tokens} {s e : Span} → Covers x s → (z : Tokens) → Covers y e
    → Covers (x ++ (z ++ y)) (over s e)
covers_between {x} {y} c z d = record {
  first = c.first;
  others = c.others ++ ((z ++ d.first ∷ d.others));
  consists = ap (λ q. q ++ (z ++ y)) c.consists ∙ ap (λ q. c.first ∷ (c.others ++ (z ++ q))) d.consists;
  begins = c.begins;
  ends =
      ap (end_of c.first) (sym (append_assoc c.others z (d.first ∷ d.others))) ∙ end_append c.first (c.others ++ z) d.first d.others ∙ d.ends;
}

-- the tokens before a tail
record Before (a b : Tokens) : Type 0 where
  own : Tokens
  splits : a ≡ own ++ b

before : {a b : Tokens} → Tail a b → Before a b
before all = record { own = []; splits = refl }
before (later {x = x} t) = let p = before t in record { own = x ∷ p.own; splits = ap (λ q. x ∷ q) p.splits }

-- a token alone
alone : (k : TokenKind) (s : Span) (a : Tokens) → OwnTokens ((k, s) ∷ a) a s
alone k s a =
    record { own = (k, s) ∷ []; splits = refl; covers = record { first = (k, s); others = []; consists = refl; begins = refl; ends = refl } }

-- two parts, with other tokens between them
pair : {a b c d : Tokens} {s e : Span} → OwnTokens a b s → Tail b c → OwnTokens c d e → OwnTokens a d (over s e)
pair {d = d} x t y =
    let p = before t in
    record {
      own = x.own ++ (p.own ++ y.own);
      splits = x.splits ∙ ap (λ q. x.own ++ q) (p.splits ∙ ap (λ q. p.own ++ q) y.splits ∙ sym (append_assoc p.own y.own d))
          ∙ sym (append_assoc x.own (p.own ++ y.own) d);
      covers = covers_between x.covers p.own y.covers;
    }

-- ---- expressions

-- an expression with parentheses round it twice
wrapped_twice : (s e : Span) (t : Tree) → wrapped s (wrapped e t) ≡ wrapped s t
wrapped_twice s e (tree.constant n w o) = refl
wrapped_twice s e (tree.name w v o) = refl
wrapped_twice s e (tree.index w v t o) = refl
wrapped_twice s e (tree.call w x o) = refl
wrapped_twice s e (tree.unary f t o) = refl
wrapped_twice s e (tree.cast ty t o) = refl
wrapped_twice s e (tree.binary f t u o) = refl
wrapped_twice s e (tree.choice t u v o) = refl
wrapped_twice s e (tree.assign f t u o) = refl
wrapped_twice s e (tree.bump b up t o) = refl
wrapped_twice s e (tree.comma t u o) = refl
wrapped_twice s e tree.hole = refl
wrapped_twice s e (tree.hole_after t) = refl

-- what is read has a text, which parentheses widen
text_wrapped : {N : Nonterminal} {r m : ℕ} {a b : Tokens} {t : Tree} (s : Span) → Reads N r a m b t
    → span_of (wrapped s t) ≡ s
text_wrapped s Reads.constant = refl
text_wrapped s Reads.name = refl
text_wrapped s (Reads.index d) = refl
text_wrapped s Reads.call_bare = refl
text_wrapped s (Reads.call d) = refl
text_wrapped s (Reads.paren {o = o} {e = e} {t = t} d) = ap span_of (wrapped_twice s (over o e) t) ∙ text_wrapped s d
text_wrapped s (Reads.postfix d) = text_wrapped s d
text_wrapped s (Reads.bump_after e d) = refl
text_wrapped s (Reads.unary d) = text_wrapped s d
text_wrapped s (Reads.bump_before e d) = refl
text_wrapped s (Reads.prefix e d) = refl
text_wrapped s (Reads.cast d) = text_wrapped s d
text_wrapped s (Reads.cast_to e d) = refl
text_wrapped s (Reads.operand d) = text_wrapped s d
text_wrapped s (Reads.weaker d) = text_wrapped s d
text_wrapped s (Reads.binary e h d1 d2) = refl
text_wrapped s (Reads.conditional d) = text_wrapped s d
text_wrapped s (Reads.choose d1 d2 d3) = refl
text_wrapped s (Reads.assignment d) = text_wrapped s d
text_wrapped s (Reads.assign e d1 d2) = refl
text_wrapped s (Reads.expression d) = text_wrapped s d
text_wrapped s (Reads.comma d1 d2) = refl

owns : {N : Nonterminal} {r m : ℕ} {a b : Tokens} {t : Tree} → Reads N r a m b t → OwnTokens a b (span_of t)
owns (Reads.constant {a = a} {n = n} {w = w} {s = s}) = alone (kind.Const n w) s a
owns (Reads.name {a = a} {w = w} {s = s}) = alone (kind.Name w) s a
owns (Reads.index {a = a} {w = w} {s = s} d) = pair (alone _ s _) (later (tail_reads d)) (alone _ _ _)
owns (Reads.call_bare {s = s}) = pair (alone _ s _) (later all) (alone _ _ _)
owns (Reads.call {s = s} d) = pair (alone _ s _) (later (tail_arguments d)) (alone _ _ _)
owns {a = a} {b = b} (Reads.paren {o = o} {e = e} {t = t} d) =
    subst (OwnTokens a b) (sym (text_wrapped (over o e) d)) (pair (alone _ o _) (tail_reads d) (alone _ e _))
owns (Reads.postfix d) = owns d
owns (Reads.bump_after {s = s} e d) = pair (owns d) all (alone _ s _)
owns (Reads.unary d) = owns d
owns (Reads.bump_before {s = s} e d) = pair (alone _ s _) all (owns d)
owns (Reads.prefix {s = s} e d) = pair (alone _ s _) all (owns d)
owns (Reads.cast d) = owns d
owns (Reads.cast_to {o = o} e d) = pair (alone _ o _) (later (later all)) (owns d)
owns (Reads.operand d) = owns d
owns (Reads.weaker d) = owns d
owns (Reads.binary e h d1 d2) = pair (owns d1) (later all) (owns d2)
owns (Reads.conditional d) = owns d
owns (Reads.choose d1 d2 d3) = pair (owns d1) (later (next (tail_reads d2))) (owns d3)
owns (Reads.assignment d) = owns d
owns (Reads.assign e d1 d2) = pair (owns d1) (later all) (owns d2)
owns (Reads.expression d) = owns d
owns (Reads.comma d1 d2) = pair (owns d1) (later all) (owns d2)

-- what is read has tokens of its own
pub expression_owns : (N : Nonterminal) (r m : ℕ) (a b : Tokens) (t : Tree) → Reads N r a m b t → OwnTokens a b (span_of t)
expression_owns N r m a b t d = owns d

-- ---- statements

code_owns : {o : Bool} {r : ℕ} {a b : Tokens} {x : Code} → Statement o r a b x → OwnTokens a b (span_of_code x)
code_owns (Statement.empty {s = s}) = alone _ s _
code_owns (Statement.act {e = e} d) = pair (owns d) all (alone _ e _)
code_owns (Statement.block {s = s} {e = e} d) = pair (alone _ s _) (tail_items d) (alone _ e _)
code_owns (Statement.if_then {s = s} d f) = pair (alone _ s _) (later (next (tail_reads d))) (code_owns f)
code_owns (Statement.if_else {s = s} d f g) =
    pair (alone _ s _) (later (join (next (tail_reads d)) (next (tail_statement f)))) (code_owns g)
code_owns (Statement.while {s = s} d f) = pair (alone _ s _) (later (next (tail_reads d))) (code_owns f)
code_owns (Statement.do_while {s = s} {q = q} d f) =
    pair (alone _ s _) (join (next (next (tail_statement d))) (next (tail_reads f))) (alone _ q _)
code_owns (Statement.for {s = s} d e f g) =
    pair (alone _ s _) (later (join (tail_clause d) (join (next (tail_optional e)) (next (tail_optional f))))) (code_owns g)
code_owns (Statement.give {s = s} {e = e} d) = pair (alone _ s _) (tail_optional d) (alone _ e _)
code_owns (Statement.break {s = s} {e = e}) = pair (alone _ s _) all (alone _ e _)
code_owns (Statement.continue {s = s} {e = e}) = pair (alone _ s _) all (alone _ e _)

-- a statement has tokens of its own
pub statement_owns : (o : Bool) (r : ℕ) (a b : Tokens) (x : Code) → Statement o r a b x
    → OwnTokens a b (span_of_code x)
statement_owns o r a b x d = code_owns d
