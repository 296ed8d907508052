-- The openers of an expression are the same however it is derived, and whatever the room.
use Rattle.std.proofs.Common.{◌≡◌, ℕ, zero, suc, ◌≤◌, ◌<◌, ◌+◌, Bool, true, false, List, [], ◌∷◌, ◌++◌, Some, refl, ap, sym, ◌∙◌, arith, length, subst, append-nil, append_assoc}
use Rattle.c_lex.specs.declared.token.TokenKind.TheVariants as kind
use Rattle.c_lex.specs.declared.token.Punct.{Punct}
use Rattle.c_lex.specs.declared.token.Punct.TheVariants as mark
use Rattle.c_tree.specs.declared.expr.BinOp.{BinOp}
use Rattle.c_tree.specs.declared.expr.UnOp.{UnOp}
use Rattle.c_tree.specs.declared.place.Span.{Span}
use Rattle.c_tree.specs.Tree.{Tree}
use Rattle.c_grammar.specs.declared.terminal.Terminal.{Terminal}
use Rattle.c_grammar.specs.declared.terminal.Terminal.TheVariants as terminal
use Rattle.c_grammar.specs.declared.nonterminal.Nonterminal.{Nonterminal}
use Rattle.c_grammar.specs.declared.nonterminal.Nonterminal.TheVariants.{Expression, Assignment, Conditional, Binary, Cast, Unary, Postfix, Primary}
use Rattle.c_grammar.specs.Operators.{binary_operator, rank, weakest}
use Rattle.c_grammar.specs.Grammar.{Tokens, Given, Reads, Argument, Arguments}
use Rattle.c_grammar.specs.Terminals.{lookahead, punct_terminal, is_type, type_at, prefix_at, rest}
use Rattle.c_grammar.specs.Descent.{run}
use Rattle.c_grammar.specs.Nesting.{Opener, ◌until◌, arguments_ending, openers, argument_openers, arguments_openers}
use Rattle.c_grammar.proofs.Terminals.{terminal_binary, terminal_bump, terminal_assignment, terminal_prefix, terminal_type}
use Rattle.c_grammar.proofs.ExpressionBasics.{reads_lift, reads_shorter, argument_shorter}
use Rattle.c_grammar.proofs.ExpressionFirstSets.{starting, starts, arguments_no_close, not_cast}
use Rattle.c_grammar.proofs.ExpressionComplete.{loose, loose_at, reach, complete}

-- ---- where an expression ends

-- with more room the same is read
pub reads_raise : {N : Nonterminal} {r m : ℕ} {a b : Tokens} {t : Tree} (x : ℕ) → Reads N r a m b t → Reads N (x + r) a (x + m) b t
reads_raise {r = r} {m = m} zero d = let e : 0 + r ≡ r = omega arith in let h : 0 + m ≡ m = omega arith in rw e (rw h d)
reads_raise {r = r} {m = m} (suc x) d =
    let e : suc x + r ≡ suc (x + r) = omega arith in let h : suc x + m ≡ suc (x + m) = omega arith in rw e (rw h (reads_lift (reads_raise x d)))

-- an expression ends at one place, where what follows doesn't go on with it
pub reads_end : {N : Nonterminal} {r m s n : ℕ} {a b e c : Tokens} {t u : Tree} → a ≡ e → Reads N r a m b t → Reads N s e n c u → reach N < loose_at b → reach N < loose_at c → b ≡ c
reads_end {N} {r} {m} {s} {n} {a} {b} {e} {c} {t} {u} q d f h i =
    let x = complete (s + r) (reads_raise s d) (omega arith) h in
    let y = complete (s + r) (reads_raise r f) (omega arith) i in
    let j : r + s ≡ s + r = omega arith in
    let z : run (suc (s + r)) N (s + r) a ≡ run (suc (s + r)) N (r + s) e = ap (λ k. run (suc (s + r)) N k a) (sym j) ∙ ap (run (suc (s + r)) N (r + s)) q in
    let w = sym x.1 ∙ (z ∙ y.1) in
    cc (w)

-- ---- openers of parts that follow one another

closing : {N M : Nonterminal} {r m s n : ℕ} {a b e c : Tokens} {t u : Tree} (d : Reads N r a m b t) (f : Reads M s e n c u) → b ≡ c
    → ((end : Tokens) → openers d end ≡ openers f end) → openers d b ≡ openers f c
closing {b = b} d f q g = g b ∙ ap (openers f) q

pub bracketed : {N M : Nonterminal} {r m s n : ℕ} {a b e c : Tokens} {t u : Tree} (o : Tokens) (d : Reads N r a m b t) (f : Reads M s e n c u) → b ≡ c
    → ((end : Tokens) → openers d end ≡ openers f end) → (o until b) ∷ openers d b ≡ (o until c) ∷ openers f c
bracketed {b = b} o d f q g = ap (λ k. (o until b) ∷ k) (g b) ∙ ap (λ z. (o until z) ∷ openers f z) q

-- openers, an opener, and openers
pieces : {k l i j : List Opener} {a c : Tokens} (end : Tokens) → k ≡ i → a ≡ c → l ≡ j → k ++ (a until end) ∷ l ≡ i ++ (c until end) ∷ j
pieces {k} {l} {i} {j} {a} {c} end x y z = ap (λ w. w ++ (a until end) ∷ l) x ∙ (ap (λ w. i ++ (w until end) ∷ l) y ∙ ap (λ w. i ++ (c until end) ∷ w) z)

pub joined : {k l i j : List Opener} → k ≡ i → l ≡ j → k ++ l ≡ i ++ j
joined {k} {l} {i} {j} x y = ap (λ w. w ++ l) x ∙ ap (λ w. i ++ w) y

-- ---- operands with operators between them

-- what follows the first operand: operators of a kind, each with the operand after it
data Chain (N : Nonterminal) (P : Punct → Type 0) : ℕ → Tokens → ℕ → Tokens → Type 0 where
  done : {r : ℕ} {a : Tokens} → Chain N P r a r a
  step : {m n q : ℕ} {b c d : Tokens} {p : Punct} {s : Span} {u : Tree} → P p → Reads N m b n c u → Chain N P n c q d → Chain N P (suc m) ((kind.Punct p, s) ∷ b) q d

abbrev chain_openers : {N : Nonterminal} {P : Punct → Type 0} {r m : ℕ} {a b : Tokens} → Chain N P r a m b → Tokens → List Opener
chain_openers Chain.done end = []
chain_openers {a = a} (Chain.step x d f) end = ((a until end) ∷ openers d end) ++ chain_openers f end

-- one more operator and operand
chain_end : {N : Nonterminal} {P : Punct → Type 0} {r m n : ℕ} {a b c : Tokens} {p : Punct} {s : Span} {u : Tree} → Chain N P r a (suc m) ((kind.Punct p, s) ∷ b) → P p → Reads N m b n c u
    → Chain N P r a n c
chain_end Chain.done x d = Chain.step x d Chain.done
chain_end (Chain.step y e f) x d = Chain.step y e (chain_end f x d)

chain_end_openers : {N : Nonterminal} {P : Punct → Type 0} {r m n : ℕ} {a b c : Tokens} {p : Punct} {s : Span} {u : Tree} (f : Chain N P r a (suc m) ((kind.Punct p, s) ∷ b)) (x : P p)
    (d : Reads N m b n c u) (end : Tokens) → chain_openers (chain_end f x d) end ≡ chain_openers f end ++ ((((kind.Punct p, s) ∷ b) until end) ∷ openers d end)
unfolding chain_end
chain_end_openers {b = b} {p = p} {s = s} Chain.done x d end = append-nil ((((kind.Punct p, s) ∷ b) until end) ∷ openers d end)
chain_end_openers {a = a} {b = b} {p = p} {s = s} (Chain.step y e f) x d end =
    ap (λ k. ((a until end) ∷ openers e end) ++ k) (chain_end_openers f x d end)
    ∙ sym (append_assoc ((a until end) ∷ openers e end) (chain_openers f end) ((((kind.Punct p, s) ∷ b) until end) ∷ openers d end))

-- an expression as its first operand and what follows
record Unrolled (N : Nonterminal) (P : Punct → Type 0) (r : ℕ) (a : Tokens) (m : ℕ) (b : Tokens) (k : Tokens → List Opener) : Type 0 where
  left : ℕ
  at : Tokens
  tree : Tree
  head : Reads N r a left at tree
  tail : Chain N P left at m b
  same : (end : Tokens) → k end ≡ openers head end ++ chain_openers tail end

unrolled_one : {N : Nonterminal} (P : Punct → Type 0) {r m : ℕ} {a b : Tokens} {t : Tree} (d : Reads N r a m b t) → Unrolled N P r a m b (openers d)
unrolled_one P {m = m} {b = b} {t = t} d = record { left = m; at = b; tree = t; head = d; tail = Chain.done; same = λ end. sym (append-nil (openers d end)) }

unrolled_more : {N : Nonterminal} {P : Punct → Type 0} {r m n : ℕ} {a b c : Tokens} {p : Punct} {s : Span} {u : Tree} {k : Tokens → List Opener}
    → Unrolled N P r a (suc m) ((kind.Punct p, s) ∷ b) k → P p → (d : Reads N m b n c u)
    → Unrolled N P r a n c (λ end. k end ++ ((((kind.Punct p, s) ∷ b) until end) ∷ openers d end))
unrolled_more {b = b} {p = p} {s = s} g x d = record {
  left = g.left;
  at = g.at;
  tree = g.tree;
  head = g.head;
  tail = chain_end g.tail x d;
  same = λ end.
      ap (λ k. k ++ ((((kind.Punct p, s) ∷ b) until end) ∷ openers d end)) (g.same end)
      ∙ (append_assoc (openers g.head end) (chain_openers g.tail end) ((((kind.Punct p, s) ∷ b) until end) ∷ openers d end)
      ∙ ap (λ k. openers g.head end ++ k) (sym (chain_end_openers g.tail x d end)));
}

-- the operators of a rank
abbrev Ranked : ℕ → Punct → Type 0
Ranked j p = (f : BinOp) × (binary_operator p ≡ Some f) × (rank f ≡ suc j)

unroll_binary : {j r m : ℕ} {a b : Tokens} {t : Tree} (d : Reads (Binary (suc j)) r a m b t) → Unrolled (Binary j) (Ranked j) r a m b (openers d)
unroll_binary {j = j} (Reads.weaker d) = unrolled_one (Ranked j) d
unroll_binary (Reads.binary {f = f} e h d1 d2) = unrolled_more (unroll_binary d1) (f, e, h) d2

unroll_comma : {r m : ℕ} {a b : Tokens} {t : Tree} (d : Reads Expression r a m b t) → Unrolled Assignment (λ p. p ≡ mark.Comma) r a m b (openers d)
unroll_comma (Reads.expression d) = unrolled_one (λ p. p ≡ mark.Comma) d
unroll_comma (Reads.comma d1 d2) = unrolled_more (unroll_comma d1) refl d2

-- ---- parts with fewer tokens

-- the openers of an expression that has fewer tokens than this are the same however it is derived
record Below (k : ℕ) : Type 0 where
  same : {N : Nonterminal} {r m s n : ℕ} {a b c : Tokens} {t u : Tree} (d : Reads N r a m b t) (e : Reads N s a n c u) → length a < k → reach N < loose_at b → reach N < loose_at c
      → (end : Tokens) → openers d end ≡ openers e end

same_at : {N : Nonterminal} {k r m s n : ℕ} {a b e c : Tokens} {t u : Tree} → Below k → a ≡ e → (d : Reads N r a m b t) (f : Reads N s e n c u) → length a < k
    → reach N < loose_at b → reach N < loose_at c → (end : Tokens) → openers d end ≡ openers f end
same_at {N} {k} {r} {m} {s} {n} {a} {b} {e} {c} {t} {u} ih q d f x y z end =
    subst (λ w. (g : Reads N s w n c u) → openers d end ≡ openers g end) q (λ g. ih.same d g x y z end) f

-- what follows an operand is looser
chain_loose : {N : Nonterminal} {P : Punct → Type 0} {r m l : ℕ} {a b : Tokens} → ((p : Punct) → P p → loose (punct_terminal p) ≡ l) → Chain N P r a m b → reach N < l → l < loose_at b → reach N < loose_at a
chain_loose h Chain.done x y = omega arith
chain_loose h (Chain.step {p = p} v d f) x y = let w = h p v in omega arith

chain_same : {N : Nonterminal} {P : Punct → Type 0} (k l : ℕ) {r m s n : ℕ} {a b e c : Tokens} → Below k → ((p : Punct) → P p → loose (punct_terminal p) ≡ l) → reach N < l → a ≡ e
    → (f : Chain N P r a m b) (g : Chain N P s e n c) → length a ≤ k → l < loose_at b → l < loose_at c → (end : Tokens) → chain_openers f end ≡ chain_openers g end
chain_same k l ih h i q Chain.done Chain.done x y z end = refl
chain_same k l ih h i q Chain.done (Chain.step {p = p} v d f) x y z end = let w = h p v in let u = ap loose_at q in absurd (omega arith)
chain_same k l ih h i q (Chain.step {p = p} v d f) Chain.done x y z end = let w = h p v in let u = ap loose_at q in absurd (omega arith)
chain_same {N} {P} k l {a = a} {e = e} ih h i q (Chain.step {b = b} {c = c} v d f) (Chain.step {b = b2} {c = c2} v2 d2 f2) x y z end =
    let start : b ≡ b2 = cc (q) in
    let lo = chain_loose h f i y in
    let lo2 = chain_loose h f2 i z in
    let w = reads_shorter d in
    let back = reads_end start d d2 lo lo2 in
    let one = same_at ih start d d2 (omega arith) lo lo2 end in
    let others = chain_same k l ih h i back f f2 (omega arith) y z end in
    joined (ap (λ w. (w until end) ∷ openers d end) q ∙ ap (λ w. (e until end) ∷ w) one) others

-- the openers of an expression that begins here are the same however it is derived
record Alike (N : Nonterminal) (a : Tokens) : Type 0 where
  same : {r m s n : ℕ} {b c : Tokens} {t u : Tree} (d : Reads N r a m b t) (e : Reads N s a n c u) → reach N < loose_at b → reach N < loose_at c
      → (end : Tokens) → openers d end ≡ openers e end

unrolled_same : {N : Nonterminal} {P : Punct → Type 0} (k l : ℕ) {r m s n : ℕ} {a b c : Tokens} {v w : Tokens → List Opener} → Below k → Alike N a
    → ((p : Punct) → P p → loose (punct_terminal p) ≡ l) → reach N < l
    → Unrolled N P r a m b v → Unrolled N P s a n c w → length a ≤ k → l < loose_at b → l < loose_at c → (end : Tokens) → v end ≡ w end
unrolled_same k l ih like h i g o x y z end =
    let lo = chain_loose h g.tail i y in
    let lo2 = chain_loose h o.tail i z in
    let back = reads_end refl g.head o.head lo lo2 in
    let u = reads_shorter g.head in
    g.same end ∙ (joined (like.same g.head o.head lo lo2 end) (chain_same k l ih h i back g.tail o.tail (omega arith) y z end) ∙ sym (o.same end))

-- ---- arguments

-- an argument ends at one place, and its openers are the same however it is derived
argument_same : {k r s : ℕ} {a b e c : Tokens} {g h : Given} → Below k → a ≡ e → (d : Argument r a b g) (f : Argument s e c h) → length a < k → 13 < loose_at b → 13 < loose_at c
    → (b ≡ c) × (argument_openers d ≡ argument_openers f)
argument_same ih q (Argument.value d) (Argument.value f) x y z =
    let w = reads_end q d f y z in (w, closing d f w (λ end. same_at ih q d f x y z end))
argument_same ih q (Argument.value d) Argument.format x y z = let w = sym (starts d) ∙ ap (λ v. starting (lookahead v)) q in absurd (cc (w))
argument_same ih q (Argument.value d) (Argument.address f) x y z = let w = sym (starts d) ∙ ap (λ v. starting (lookahead v)) q in absurd (cc (w))
argument_same ih q Argument.format (Argument.value f) x y z = let w = sym (starts f) ∙ ap (λ v. starting (lookahead v)) (sym q) in absurd (cc (w))
argument_same ih q Argument.format Argument.format x y z = (cc (q), refl)
argument_same ih q Argument.format (Argument.address f) x y z = let w = ap lookahead q in absurd (cc (w))
argument_same ih q (Argument.address d) (Argument.value f) x y z = let w = sym (starts f) ∙ ap (λ v. starting (lookahead v)) (sym q) in absurd (cc (w))
argument_same ih q (Argument.address d) Argument.format x y z = let w = ap lookahead q in absurd (cc (w))
argument_same {a = a} {b = b} {e = e} {c = c} ih q (Argument.address {a = v} d) (Argument.address {a = w} f) x y z =
    let p : v ≡ w = cc (q) in
    let back = reads_end p d f (omega arith) (omega arith) in
    (back, ap (λ i. (i until b) ∷ openers d b) q ∙ bracketed e d f back (λ end. same_at ih p d f (omega arith) (omega arith) (omega arith) end))

arguments_same : {k r s : ℕ} {a b e c : Tokens} {gs hs : List Given} → Below k → a ≡ e → (d : Arguments r a b gs) (f : Arguments s e c hs) → length a < k → 14 < loose_at b → 14 < loose_at c
    → (b ≡ c) × (arguments_openers d ≡ arguments_openers f)
arguments_same ih q (Arguments.last d) (Arguments.last f) x y z = argument_same ih q d f x (omega arith) (omega arith)
arguments_same ih q (Arguments.last d) (Arguments.more f g) x y z =
    let w = argument_same ih q d f x (omega arith) (omega arith) in let v = ap loose_at w.0 in absurd (omega arith)
arguments_same ih q (Arguments.more d g) (Arguments.last f) x y z =
    let w = argument_same ih q d f x (omega arith) (omega arith) in let v = ap loose_at w.0 in absurd (omega arith)
arguments_same ih q (Arguments.more {b = v} d g) (Arguments.more {b = w} f h) x y z =
    let i = argument_same ih q d f x (omega arith) (omega arith) in
    let p : v ≡ w = let j = i.0 in cc (j) in
    let l = argument_shorter d in
    let o = arguments_same ih p g h (omega arith) y z in
    (o.0, joined i.1 o.1)

-- ---- each part

primary_same : {k r m s n : ℕ} {a b c : Tokens} {t u : Tree} → Below k → (d : Reads Primary r a m b t) (e : Reads Primary s a n c u) → length a ≤ k → 0 < loose_at b → 0 < loose_at c
    → (end : Tokens) → openers d end ≡ openers e end
primary_same ih Reads.constant Reads.constant x y z end = refl
primary_same ih Reads.name Reads.name x y z end = refl
primary_same ih Reads.name (Reads.index e) x y z end = absurd (omega arith)
primary_same ih Reads.name Reads.call_bare x y z end = absurd (omega arith)
primary_same ih Reads.name (Reads.call e) x y z end = absurd (omega arith)
primary_same ih (Reads.index d) Reads.name x y z end = absurd (omega arith)
primary_same {a = a} ih (Reads.index d) (Reads.index e) x y z end =
    bracketed (rest a) d e (reads_end refl d e (omega arith) (omega arith)) (λ end. ih.same d e (omega arith) (omega arith) (omega arith) end)
primary_same ih Reads.call_bare Reads.name x y z end = absurd (omega arith)
primary_same ih Reads.call_bare Reads.call_bare x y z end = refl
primary_same ih Reads.call_bare (Reads.call e) x y z end = let w = arguments_no_close e in absurd (cc (w))
primary_same ih (Reads.call d) Reads.name x y z end = absurd (omega arith)
primary_same ih (Reads.call d) Reads.call_bare x y z end = let w = arguments_no_close d in absurd (cc (w))
primary_same {a = a} ih (Reads.call d) (Reads.call e) x y z end =
    let w = arguments_same ih refl d e (omega arith) (omega arith) (omega arith) in
    ap (λ v. (rest a until v) ∷ arguments_openers d) w.0 ∙ ap (λ v. (rest a until arguments_ending e) ∷ v) w.1
primary_same {a = a} ih (Reads.paren d) (Reads.paren e) x y z end =
    bracketed a d e (reads_end refl d e (omega arith) (omega arith)) (λ end. ih.same d e (omega arith) (omega arith) (omega arith) end)

postfix_same : {k r m s n : ℕ} {a b c : Tokens} {t u : Tree} → Below k → (d : Reads Postfix r a m b t) (e : Reads Postfix s a n c u) → length a ≤ k → 1 < loose_at b → 1 < loose_at c
    → (end : Tokens) → openers d end ≡ openers e end
postfix_same ih (Reads.postfix d) (Reads.postfix e) x y z end = primary_same ih d e x (omega arith) (omega arith) end
postfix_same ih (Reads.postfix d) (Reads.bump_after {p = p} {up = up} v e) x y z end =
    let l = ap loose (terminal_bump p up v) in
    let w = ap loose_at (reads_end refl d e (omega arith) (omega arith)) in absurd (omega arith)
postfix_same ih (Reads.bump_after {p = p} {up = up} v d) (Reads.postfix e) x y z end =
    let l = ap loose (terminal_bump p up v) in
    let w = ap loose_at (reads_end refl d e (omega arith) (omega arith)) in absurd (omega arith)
postfix_same ih (Reads.bump_after {p = p} {up = up} v d) (Reads.bump_after {p = q} {up = down} w e) x y z end =
    let l = ap loose (terminal_bump p up v) in
    let i = ap loose (terminal_bump q down w) in
    primary_same ih d e x (omega arith) (omega arith) end

-- what a postfix expression begins with
abbrev bare : Terminal → Bool
bare terminal.Name = true
bare terminal.Constant = true
bare terminal.OpenParen = true
bare _ = false

primary_bare : {r m : ℕ} {a b : Tokens} {t : Tree} → Reads Primary r a m b t → bare (lookahead a) ≡ true
primary_bare Reads.constant = refl
primary_bare Reads.name = refl
primary_bare (Reads.index d) = refl
primary_bare Reads.call_bare = refl
primary_bare (Reads.call d) = refl
primary_bare (Reads.paren d) = refl

postfix_bare : {r m : ℕ} {a b : Tokens} {t : Tree} → Reads Postfix r a m b t → bare (lookahead a) ≡ true
postfix_bare (Reads.postfix d) = primary_bare d
postfix_bare (Reads.bump_after v d) = primary_bare d

prefix_no_bare : (l : Terminal) (f : UnOp) → prefix_at l ≡ Some f → bare l ≡ false
prefix_no_bare terminal.Name f e = absurd (cc (e))
prefix_no_bare terminal.Constant f e = absurd (cc (e))
prefix_no_bare terminal.OpenParen f e = absurd (cc (e))
prefix_no_bare _ f e = refl

unary_same : {k r m s n : ℕ} {a b c : Tokens} {t u : Tree} → Below k → (d : Reads Unary r a m b t) (e : Reads Unary s a n c u) → length a ≤ k → 1 < loose_at b → 1 < loose_at c
    → (end : Tokens) → openers d end ≡ openers e end
unary_same ih (Reads.unary d) (Reads.unary e) x y z end = postfix_same ih d e x y z end
unary_same ih (Reads.unary d) (Reads.bump_before {p = p} {up = up} v e) x y z end =
    let w = sym (postfix_bare d) ∙ ap bare (terminal_bump p up v) in absurd (cc (w))
unary_same ih (Reads.unary d) (Reads.prefix {p = p} {f = f} v e) x y z end =
    let w = sym (postfix_bare d) ∙ prefix_no_bare (punct_terminal p) f (terminal_prefix p f v) in absurd (cc (w))
unary_same ih (Reads.bump_before {p = p} {up = up} v d) (Reads.unary e) x y z end =
    let w = sym (postfix_bare e) ∙ ap bare (terminal_bump p up v) in absurd (cc (w))
unary_same {a = a} ih (Reads.bump_before v d) (Reads.bump_before w e) x y z end = ap (λ i. (a until end) ∷ i) (ih.same d e (omega arith) y z end)
unary_same ih (Reads.bump_before {p = p} {up = up} v d) (Reads.prefix {f = f} w e) x y z end =
    let i = sym (ap prefix_at (terminal_bump p up v)) ∙ terminal_prefix p f w in absurd (cc (i))
unary_same ih (Reads.prefix {p = p} {f = f} v d) (Reads.unary e) x y z end =
    let w = sym (postfix_bare e) ∙ prefix_no_bare (punct_terminal p) f (terminal_prefix p f v) in absurd (cc (w))
unary_same ih (Reads.prefix {p = p} {f = f} v d) (Reads.bump_before {up = up} w e) x y z end =
    let i = sym (ap prefix_at (terminal_bump p up w)) ∙ terminal_prefix p f v in absurd (cc (i))
unary_same {a = a} ih (Reads.prefix v d) (Reads.prefix w e) x y z end = ap (λ i. (a until end) ∷ i) (ih.same d e (omega arith) y z end)

cast_same : {k r m s n : ℕ} {a b c : Tokens} {t u : Tree} → Below k → (d : Reads Cast r a m b t) (e : Reads Cast s a n c u) → length a ≤ k → 1 < loose_at b → 1 < loose_at c
    → (end : Tokens) → openers d end ≡ openers e end
cast_same ih (Reads.cast d) (Reads.cast e) x y z end = unary_same ih d e x y z end
cast_same ih (Reads.cast d) (Reads.cast_to {k = k} {ty = ty} v e) x y z end =
    let w = sym (not_cast d) ∙ ap (λ l. is_type (type_at l)) (terminal_type k ty v) in absurd (cc (w))
cast_same ih (Reads.cast_to {k = k} {ty = ty} v d) (Reads.cast e) x y z end =
    let w = sym (not_cast e) ∙ ap (λ l. is_type (type_at l)) (terminal_type k ty v) in absurd (cc (w))
cast_same {a = a} ih (Reads.cast_to v d) (Reads.cast_to w e) x y z end = ap (λ i. (a until end) ∷ i) (ih.same d e (omega arith) y z end)

-- the operators of a rank are as loose as it says
ranked_loose : (j : ℕ) (p : Punct) → Ranked j p → loose (punct_terminal p) ≡ suc (suc j)
ranked_loose j p (f, e, h) = ap loose (terminal_binary p f e) ∙ ap suc h

operand_same : {k r m s n : ℕ} {a b c : Tokens} {t u : Tree} → Below k → (d : Reads (Binary 0) r a m b t) (e : Reads (Binary 0) s a n c u) → length a ≤ k → 1 < loose_at b → 1 < loose_at c
    → (end : Tokens) → openers d end ≡ openers e end
operand_same ih (Reads.operand d) (Reads.operand e) x y z end = cast_same ih d e x y z end

binary_alike : {k : ℕ} {a : Tokens} → Below k → (j : ℕ) → length a ≤ k → Alike (Binary j) a
binary_alike ih zero x = record { same = λ d e y z end. operand_same ih d e x y z end }
binary_alike {k} ih (suc j) x = record {
  same = λ d e y z end.
      unrolled_same k (suc (suc j)) ih (binary_alike ih j x) (ranked_loose j) (omega arith) (unroll_binary d) (unroll_binary e) x y z end;
}

conditional_same : {k r m s n : ℕ} {a b c : Tokens} {t u : Tree} → Below k → (d : Reads Conditional r a m b t) (e : Reads Conditional s a n c u) → length a ≤ k → 12 < loose_at b → 12 < loose_at c
    → (end : Tokens) → openers d end ≡ openers e end
conditional_same ih (Reads.conditional d) (Reads.conditional e) x y z end = (binary_alike ih weakest x).same d e (omega arith) (omega arith) end
conditional_same ih (Reads.conditional d) (Reads.choose e1 e2 e3) x y z end = let w = ap loose_at (reads_end refl d e1 (omega arith) (omega arith)) in absurd (omega arith)
conditional_same ih (Reads.choose d1 d2 d3) (Reads.conditional e) x y z end = let w = ap loose_at (reads_end refl d1 e (omega arith) (omega arith)) in absurd (omega arith)
conditional_same ih (Reads.choose {b = b} {c = c} d1 d2 d3) (Reads.choose {b = b2} {c = c2} e1 e2 e3) x y z end =
    let q = reads_end refl d1 e1 (omega arith) (omega arith) in
    let p : b ≡ b2 = cc (q) in
    let v = reads_end p d2 e2 (omega arith) (omega arith) in
    let w : c ≡ c2 = cc (v) in
    let i = reads_shorter d1 in
    let j = reads_shorter d2 in
    let f = (binary_alike ih weakest x).same d1 e1 (omega arith) (omega arith) end in
    let g = same_at ih p d2 e2 (omega arith) (omega arith) (omega arith) end in
    let h = same_at ih w d3 e3 (omega arith) y z end in
    joined (pieces end f q g) h

-- a unary expression is a conditional one
up : {r m : ℕ} {a b : Tokens} {t : Tree} → Reads Unary r a m b t → Reads Conditional r a m b t
up d = Reads.conditional (Reads.weaker (Reads.weaker (Reads.weaker (Reads.weaker (Reads.weaker (Reads.weaker (Reads.weaker (Reads.weaker (Reads.weaker (Reads.weaker (Reads.operand (Reads.cast d))))))))))))

assignment_same : {k r m s n : ℕ} {a b c : Tokens} {t u : Tree} → Below k → (d : Reads Assignment r a m b t) (e : Reads Assignment s a n c u) → length a ≤ k → 13 < loose_at b → 13 < loose_at c
    → (end : Tokens) → openers d end ≡ openers e end
assignment_same ih (Reads.assignment d) (Reads.assignment e) x y z end = conditional_same ih d e x (omega arith) (omega arith) end
assignment_same ih (Reads.assignment d) (Reads.assign {p = p} {f = f} v e1 e2) x y z end =
    let l = ap loose (terminal_assignment p f v) in
    let w = ap loose_at (reads_end refl d (up e1) (omega arith) (omega arith)) in absurd (omega arith)
assignment_same ih (Reads.assign {p = p} {f = f} v d1 d2) (Reads.assignment e) x y z end =
    let l = ap loose (terminal_assignment p f v) in
    let w = ap loose_at (reads_end refl (up d1) e (omega arith) (omega arith)) in absurd (omega arith)
assignment_same ih (Reads.assign {b = b} {p = p} {f = f} v d1 d2) (Reads.assign {b = b2} {p = p2} {f = f2} v2 e1 e2) x y z end =
    let l = ap loose (terminal_assignment p f v) in
    let l2 = ap loose (terminal_assignment p2 f2 v2) in
    let q = reads_end refl d1 e1 (omega arith) (omega arith) in
    let w : b ≡ b2 = cc (q) in
    let i = reads_shorter d1 in
    pieces end (unary_same ih d1 e1 x (omega arith) (omega arith) end) q (same_at ih w d2 e2 (omega arith) y z end)

assignment_alike : {k : ℕ} {a : Tokens} → Below k → length a ≤ k → Alike Assignment a
assignment_alike ih x = record { same = λ d e y z end. assignment_same ih d e x y z end }

comma_loose : (p : Punct) → p ≡ mark.Comma → loose (punct_terminal p) ≡ 14
comma_loose p e = ap (λ q. loose (punct_terminal q)) e

alike : {k : ℕ} {a : Tokens} → Below k → (N : Nonterminal) → length a ≤ k → Alike N a
alike {k} ih Expression x = record {
  same = λ d e y z end.
      unrolled_same k 14 ih (assignment_alike ih x) comma_loose (omega arith) (unroll_comma d) (unroll_comma e) x y z end;
}
alike ih Assignment x = assignment_alike ih x
alike ih Conditional x = record { same = λ d e y z end. conditional_same ih d e x y z end }
alike ih (Binary j) x = binary_alike ih j x
alike ih Cast x = record { same = λ d e y z end. cast_same ih d e x y z end }
alike ih Unary x = record { same = λ d e y z end. unary_same ih d e x y z end }
alike ih Postfix x = record { same = λ d e y z end. postfix_same ih d e x y z end }
alike ih Primary x = record { same = λ d e y z end. primary_same ih d e x y z end }

below : (k : ℕ) → Below k
below zero = record { same = λ d e x y z end. absurd (omega arith) }
below (suc k) = record { same = λ {N} d e x y z end. (alike (below k) N (omega arith)).same d e y z end }

-- the openers of an expression are the same however it is derived
pub reads_unique : {N : Nonterminal} {r m s n : ℕ} {a b e c : Tokens} {t u : Tree} → a ≡ e → (d : Reads N r a m b t) (f : Reads N s e n c u) → reach N < loose_at b → reach N < loose_at c
    → (end : Tokens) → openers d end ≡ openers f end
reads_unique {a = a} q d f y z end = same_at (below (suc (length a))) q d f (omega arith) y z end
