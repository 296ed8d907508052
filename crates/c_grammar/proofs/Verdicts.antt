-- The verdict of the descent is the grammar's, and no other verdict is.
use Rattle.std.proofs.Common.{◌≡◌, ℕ, zero, suc, ◌+◌, List, [], ◌∷◌, refl, ap, subst, ◌⊎◌, inl, inr, arith}
use Rattle.c_lex.specs.declared.token.TokenKind.{TokenKind}
use Rattle.c_tree.specs.declared.place.Span.{Span}
use Rattle.c_tree.specs.Tree.{Outer}
use Rattle.c_grammar.specs.Grammar.{Tokens}
use Rattle.c_grammar.specs.Programs.{Derives, Viable}
use Rattle.c_grammar.specs.Descent.{Reading, found, unexpected, too_deep}
use Rattle.c_grammar.specs.ProgramDescent as descent
use Rattle.c_grammar.specs.Judge.{Verdict, good, unexpected_at, too_deep_at, Judged, verdict, judge}
use Rattle.c_grammar.proofs.ProgramBasics.{derives_lift, viable_lift}
use Rattle.c_grammar.proofs.ExpressionPrefixes.{Tail, all, later, next, seam, tail_end}
use Rattle.c_grammar.proofs.ProgramPrefixes.{tail_viable, derives_prefix, viable_prefix}
use Rattle.c_grammar.proofs.ExpressionConsumption.{Far}
use Rattle.c_grammar.proofs.ExpressionMonotone.{Same}
use Rattle.c_grammar.proofs.ProgramSound.{ProgramSound, program_ok}
use Rattle.c_grammar.proofs.ProgramComplete.{program_complete}
use Rattle.c_grammar.proofs.ProgramViable.{program_passed}
use Rattle.c_grammar.proofs.ProgramMonotone.{same_program}

-- ---- any number of openers more

derives_lifts : {r : ℕ} {a : Tokens} {p : List Outer} (k : ℕ) → Derives r a p → Derives (k + r) a p
derives_lifts {r} {a} {p} zero d = let e : r ≡ zero + r = omega arith in subst (λ s. Derives s a p) e d
derives_lifts {r} {a} {p} (suc k) d = let e : suc (k + r) ≡ suc k + r = omega arith in subst (λ s. Derives s a p) e (derives_lift (derives_lifts k d))

viable_lifts : {r : ℕ} {a b : Tokens} (k : ℕ) → Viable r a b → Viable (k + r) a b
viable_lifts {r} {a} {b} zero d = let e : r ≡ zero + r = omega arith in subst (λ s. Viable s a b) e d
viable_lifts {r} {a} {b} (suc k) d = let e : suc (k + r) ≡ suc k + r = omega arith in subst (λ s. Viable s a b) e (viable_lift (viable_lifts k d))

-- the same list of tokens is one program alone, at whatever nesting
pub one : (r s : ℕ) (a : Tokens) (p q : List Outer) → Derives r a p → Derives s a q → p ≡ q
one r s a p q d e =
    let x = program_complete (derives_lifts s d) in
    let y = program_complete (derives_lifts r e) in
    let h : r + s ≡ s + r = omega arith in
    let g : descent.program (s + r) a ≡ found q y.0 [] = subst (λ s. descent.program s a ≡ found q y.0 []) h y.1 in
    cc (x.1, g)

-- ---- a token that isn't expected isn't with more room

refused_same : (b : Tokens) (o p : Reading (List Outer)) → Same o p → o ≡ unexpected b → p ≡ unexpected b
refused_same b (found x m c) p s e = absurd (cc (e))
refused_same b (unexpected c) p s e = cc (s, e)
refused_same b (too_deep c) p s e = absurd (cc (e))

refused_more : (r : ℕ) (a b : Tokens) (k : ℕ) → descent.program r a ≡ unexpected b → descent.program (k + r) a ≡ unexpected b
refused_more r a b zero e = let h : r ≡ zero + r = omega arith in subst (λ s. descent.program s a ≡ unexpected b) h e
refused_more r a b (suc k) e =
    let h : suc (k + r) ≡ suc k + r = omega arith in
    subst (λ s. descent.program s a ≡ unexpected b) h (refused_same b (descent.program (k + r) a) (descent.program (suc (k + r)) a) (same_program (k + r) a)
    (refused_more r a b k e))

no_end : (r : ℕ) (a : Tokens) → descent.program r a ≡ unexpected [] → (s : ℕ) (p : List Outer) → Derives s a p → ⊥
no_end r a e s p d =
    let x = program_complete (derives_lifts r d) in
    let h : s + r ≡ r + s = omega arith in
    let g : descent.program (r + s) a ≡ unexpected [] = subst (λ s. descent.program s a ≡ unexpected []) h (refused_more r a [] s e) in
    absurd (cc (x.1, g))

no_token : (r : ℕ) (x : TokenKind × Span) (a c : Tokens) → descent.program r a ≡ unexpected (x ∷ c) → (s : ℕ) → Viable s a c → ⊥
no_token r x a c e s d =
    let y = program_passed (viable_lifts r d) in
    let h : s + r ≡ r + s = omega arith in
    let g : descent.program (r + s) a ≡ unexpected (x ∷ c) = subst (λ s. descent.program s a ≡ unexpected (x ∷ c)) h (refused_more r a (x ∷ c) s e) in
    let f = subst (Far c) g y in
    omega (arith, f)

no_room : (r : ℕ) (x : TokenKind × Span) (a c : Tokens) → descent.program r a ≡ too_deep (x ∷ c) → Viable r a c → ⊥
no_room r x a c e d = let f = subst (Far c) e (program_passed d) in omega (arith, f)

judged : (r : ℕ) (a : Tokens) (o : Reading (List Outer)) → descent.program r a ≡ o → ProgramSound r a o → Judged r a (verdict o)
judged r a (found p m b) e s = s.0
judged r a (unexpected []) e s = (s, no_end r a e)
judged r a (unexpected (x ∷ c)) e s = (s, no_token r x a c e)
judged r a (too_deep []) e s = absurd (cc (s.1.2))
judged r a (too_deep (x ∷ c)) e s =
    let q : s.1.1 ≡ c = cc (s.1.2) in
    (s.0, (subst (Viable (suc r) a) q s.1.3, no_room r x a c e))

-- what the descent comes to is what the grammar says
pub judge_ok : (r : ℕ) (a : Tokens) → Judged r a (judge r a)
unfolding judge
judge_ok r a = judged r a (descent.program r a) refl (program_ok r a)

-- ---- there is one verdict

-- the place at which tokens stop to begin a program is one place
one_place : {r : ℕ} {x y : TokenKind × Span} {a c d : Tokens} → Viable r a (x ∷ c) → Viable r a (y ∷ d) → (Viable r a c → ⊥) → (Viable r a d → ⊥) → x ∷ c ≡ y
    ∷ d
one_place {r} {x} {y} {a} {c} {d} b e f g = go (seam (tail_viable b) (tail_viable e))
  where
    on : {k : Tokens} → Tail (x ∷ c) k → k ≡ y ∷ d → x ∷ c ≡ y ∷ d
    on all q = q
    on (later z) q = absurd (f (viable_prefix e (next (tail_viable b)) (subst (Tail c) q z)))

    go : (Tail (x ∷ c) (y ∷ d) ⊎ Tail d (x ∷ c)) → x ∷ c ≡ y ∷ d
    go (inl z) = on z refl
    go (inr z) = absurd (g (viable_prefix b (next (tail_viable e)) z))

-- what is a program begins one at each place
at_each : {r : ℕ} {x : TokenKind × Span} {a c : Tokens} {p : List Outer} → Derives r a p → Viable r a (x ∷ c) → Viable r a c
at_each {r} {x} {a} {c} {p} d e = derives_prefix d (next (tail_viable e)) (tail_end c)

-- what goes on to the end begins a program at each place
to_end : {r : ℕ} {x : TokenKind × Span} {a c : Tokens} → Viable r a [] → Viable r a (x ∷ c) → Viable r a c
to_end {r} {x} {a} {c} d e = viable_prefix d (next (tail_viable e)) (tail_end c)

one_verdict : (r : ℕ) (a : Tokens) (v w : Verdict) → Judged r a v → Judged r a w → v ≡ w
one_verdict r a (good p) (good q) x y = ap good (one r r a p q x y)
one_verdict r a (good p) (unexpected_at []) x y = absurd (y.1 r p x)
one_verdict r a (good p) (unexpected_at (o ∷ c)) x y = absurd (y.1 r (at_each x y.0))
one_verdict r a (good p) (too_deep_at []) x y = absurd y.1
one_verdict r a (good p) (too_deep_at (o ∷ c)) x y = absurd (y.1.1 (at_each x y.0))
one_verdict r a (unexpected_at []) (good q) x y = absurd (x.1 r q y)
one_verdict r a (unexpected_at (o ∷ c)) (good q) x y = absurd (x.1 r (at_each y x.0))
one_verdict r a (unexpected_at []) (unexpected_at []) x y = refl
one_verdict r a (unexpected_at []) (unexpected_at (o ∷ c)) x y = absurd (y.1 r (to_end x.0 y.0))
one_verdict r a (unexpected_at (o ∷ c)) (unexpected_at []) x y = absurd (x.1 r (to_end y.0 x.0))
one_verdict r a (unexpected_at (o ∷ c)) (unexpected_at (q ∷ d)) x y = ap unexpected_at (one_place x.0 y.0 (x.1 r) (y.1 r))
one_verdict r a (unexpected_at []) (too_deep_at []) x y = absurd y.1
one_verdict r a (unexpected_at []) (too_deep_at (o ∷ c)) x y = absurd (y.1.1 (to_end x.0 y.0))
one_verdict r a (unexpected_at (o ∷ c)) (too_deep_at []) x y = absurd y.1
one_verdict r a (unexpected_at (o ∷ c)) (too_deep_at (q ∷ d)) x y =
    let e : o ∷ c ≡ q ∷ d = one_place x.0 y.0 (x.1 r) y.1.1 in
    let f : d ≡ c = cc (e) in
    absurd (x.1 (suc r) (subst (Viable (suc r) a) f y.1.0))
one_verdict r a (too_deep_at []) w x y = absurd x.1
one_verdict r a (too_deep_at (o ∷ c)) (good q) x y = absurd (x.1.1 (at_each y x.0))
one_verdict r a (too_deep_at (o ∷ c)) (unexpected_at []) x y = absurd (x.1.1 (to_end y.0 x.0))
one_verdict r a (too_deep_at (o ∷ c)) (unexpected_at (q ∷ d)) x y =
    let e : q ∷ d ≡ o ∷ c = one_place y.0 x.0 (y.1 r) x.1.1 in
    let f : c ≡ d = cc (e) in
    absurd (y.1 (suc r) (subst (Viable (suc r) a) f x.1.0))
one_verdict r a (too_deep_at (o ∷ c)) (too_deep_at []) x y = absurd y.1
one_verdict r a (too_deep_at (o ∷ c)) (too_deep_at (q ∷ d)) x y = ap too_deep_at (one_place x.0 y.0 x.1.1 y.1.1)

-- so the verdict is the one that the grammar gives
pub judge_is : (r : ℕ) (a : Tokens) (v : Verdict) → Judged r a v → judge r a ≡ v
judge_is r a v h = one_verdict r a (judge r a) v (judge_ok r a) h
