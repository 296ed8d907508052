-- A token is too deep exactly where the nesting first passes the room.
use Rattle.std.proofs.Common.{◌≡◌, ℕ, suc, ◌≤◌, ◌<◌, ◌+◌, List, [], ◌∷◌, ◌++◌, ◌⊎◌, inl, inr, refl, ap, sym, subst, arith, length, All}
use Rattle.std.proofs.lemmas.List.Elements.{All-nil, All-cons}
use Rattle.c_lex.specs.declared.token.TokenKind.{TokenKind}
use Rattle.c_tree.specs.declared.place.Span.{Span}
use Rattle.c_grammar.specs.Grammar.{Tokens}
use Rattle.c_grammar.specs.Judge.{too_deep_at, Judged}
use Rattle.c_grammar.specs.Nesting.{Opener, nesting}
use Rattle.c_grammar.specs.BegunNesting.{viable_openers, PassesAt, Passes}
use Rattle.c_grammar.specs.Programs.{Viable}
use Rattle.c_grammar.specs.Rooms.{Along}
use Rattle.c_grammar.proofs.Nested.{larger}
use Rattle.c_grammar.proofs.ExpressionPrefixes.{Tail, all, later}
use Rattle.c_grammar.proofs.ProgramPrefixes.{tail_viable, viable_prefix}
use Rattle.c_grammar.proofs.ViableNesting.{viable_fit, viable_nesting_within}
use Rattle.c_grammar.proofs.BegunLowered.{viable_nesting_suffices}
use Rattle.c_grammar.proofs.NestingAt.{nesting_length, one_nesting}

-- ---- tokens before others

tail_of : (w b : Tokens) → Tail (w ++ b) b
tail_of [] b = all
tail_of (x ∷ w) b = later (tail_of w b)

record Split (a b : Tokens) : Type 0 where
  earlier : Tokens
  splits : a ≡ earlier ++ b

split : {a b : Tokens} → Tail a b → Split a b
split all = record { earlier = []; splits = refl }
split (later {x = x} t) = let p = split t in record { earlier = x ∷ p.earlier; splits = ap (λ q. x ∷ q) p.splits }

-- ---- where the nesting is no more than a number

-- what holds at every token before the last j holds at the openers
all_along : (l : List Opener) (r : ℕ) {i j s : ℕ} → ((c : Tokens) → j < length c → nesting l c ≤ r)
    → {k : List Opener} {q : List ℕ}
    → Along (λ o n. (j < length o.0) × (length o.0 ≤ i) × (nesting l o.0 + n ≡ s)) k q
    → All (λ o. nesting l o.0 ≤ r) k
all_along l r h Along.none = All-nil (λ o. nesting l o.0 ≤ r)
all_along l r h (Along.also {o = o} {k = k} x y) = All-cons (λ p. nesting l p.0 ≤ r) o k (h o.0 x.0) (all_along l r h y)

-- what nests nowhere deeper than r begins a program with room r
enough : {s : ℕ} {a b : Tokens} (r : ℕ) (d : Viable s a b)
    → ((c : Tokens) → length b < length c → nesting (viable_openers d) c ≤ r) → Viable r a b
enough {s} {a} {b} r d h = let g = viable_fit d in viable_nesting_suffices r s a b d (all_along (viable_openers d) r h g.fits.along)

-- at a token, or before it
up_to : (r : ℕ) (x : TokenKind × Span) (b : Tokens) (l : List Opener) → nesting l (x ∷ b) ≤ r
    → ((e : Tokens) → length (x ∷ b) < length e → nesting l e ≤ r) → (c : Tokens) → length b < length c
    → nesting l c ≤ r
up_to r x b l h g c i = elim (larger (length c) (length (x ∷ b))) [
  | inl j ↦ let q = nesting_length l c (x ∷ b) (omega arith) in omega arith
  | inr j ↦ g c j
]

-- ---- the law

-- where a token is too deep, the nesting first passes the room
pub deep_passes : (r : ℕ) (a b : Tokens) → Judged r a (too_deep_at b) → Passes r a b
deep_passes r a [] h = absurd h.1
deep_passes r a (x ∷ c) h =
    let v = h.0 in
    let d = h.1.0 in
    let p = split (tail_viable v) in
    record { earlier = p.earlier; splits = p.splits; room = suc r; begins = d; deeper = deeper (larger (nesting (viable_openers d) (x ∷ c)) r); within = within }
  where
    within : (e : Tokens) → length (x ∷ c) < length e → nesting (viable_openers h.1.0) e ≤ r
    within e i =
        let q = one_nesting (suc r) r a c (x ∷ c) h.1.0 h.0 e (omega arith) i in
        let w = viable_nesting_within r a (x ∷ c) h.0 e in
        omega arith

    deeper : (nesting (viable_openers h.1.0) (x ∷ c) ≤ r) ⊎ (r < nesting (viable_openers h.1.0) (x ∷ c))
        → nesting (viable_openers h.1.0) (x ∷ c) ≡ suc r
    deeper (inl i) = absurd (h.1.1 (enough r h.1.0 (up_to r x c (viable_openers h.1.0) i within)))
    deeper (inr i) = let w = viable_nesting_within (suc r) a c h.1.0 (x ∷ c) in omega arith

passed_deep : (r : ℕ) (a : Tokens) (x : TokenKind × Span) (c : Tokens) → PassesAt r a x c
    → Judged r a (too_deep_at (x ∷ c))
passed_deep r a x c h = (earlier, (begun, refused))
  where
    begun : Viable (suc r) a c
    begun =
        enough (suc r) h.begins (up_to (suc r) x c (viable_openers h.begins) (let q = h.deeper in omega arith) (λ e i. let w = h.within e i in omega arith))

    refused : Viable r a c → ⊥
    refused d =
        let q = one_nesting r h.room a c c d h.begins (x ∷ c) (omega arith) (omega arith) in
        let w = viable_nesting_within r a c d (x ∷ c) in
        let y = h.deeper in
        omega arith

    earlier : Viable r a (x ∷ c)
    earlier =
        let t : Tail a (x ∷ c) = subst (λ z. Tail z (x ∷ c)) (sym h.splits) (tail_of h.earlier (x ∷ c)) in
        let v : Viable h.room a (x ∷ c) = viable_prefix h.begins t (later all) in
        enough r v (λ e i.
        let q = one_nesting h.room h.room a (x ∷ c) c v h.begins e i (omega arith) in
        let w = h.within e i in
        omega arith)

-- and where it first passes the room, a token is too deep
pub passes_deep : (r : ℕ) (a b : Tokens) → Passes r a b → Judged r a (too_deep_at b)
passes_deep r a [] h = absurd h
passes_deep r a (x ∷ c) h = passed_deep r a x c h
