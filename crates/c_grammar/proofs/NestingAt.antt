-- The nesting at a token is the same in every derivation of what begins a program.
use Rattle.std.proofs.Common.{◌≡◌, ℕ, suc, ◌<◌, ◌+◌, Bool, ◌&&◌, List, [], ◌∷◌, inl, inr, refl, ap, sym, ◌∙◌, arith, length, if◌then◌else◌, nat_le, nat_lt}
use Rattle.c_tree.specs.Tree.{Outer}
use Rattle.c_grammar.specs.Grammar.{Tokens}
use Rattle.c_grammar.specs.Nesting.{Opener, is_open, nesting, program_openers}
use Rattle.c_grammar.specs.BegunNesting.{viable_openers}
use Rattle.c_grammar.specs.Programs.{Derives, Viable}
use Rattle.c_grammar.proofs.Nested.{larger}
use Rattle.c_grammar.proofs.Scanner.{State, fresh, Counts, scans_agree}
use Rattle.c_grammar.proofs.ScannedParts.{Start, whole, start_join}
use Rattle.c_grammar.proofs.ProgramScan.{Opens, external_part}
use Rattle.c_grammar.proofs.BegunScan.{viable_part}

-- the nesting depends on where the token stands alone
pub nesting_length : (k : List Opener) (c d : Tokens) → length c ≡ length d → nesting k c ≡ nesting k d
nesting_length [] c d h = refl
nesting_length ((a, b) ∷ k) c d h =
    let q : is_open (a, b) c ≡ is_open (a, b) d = ap (λ (i : ℕ). nat_le i (length a) && nat_lt (length b) i) h in
    ap (λ (x : Bool). if x then suc (nesting k c) else nesting k c) q ∙ ap (λ i. if is_open (a, b) d then suc i else i) (nesting_length k c d h)

counts : (k : List Opener) → Counts (λ c. 0 + nesting k c)
counts k = record { same = λ c d h. ap (λ i. 0 + i) (nesting_length k c d h) }

-- two parts that the scanner goes over from one state
agree : {r s : ℕ} {σ : State} {a b e : Tokens} {k l : List Opener} → Start r 0 σ a b k → Start s 0 σ a e l
    → (c : Tokens) → length b < length c → length e < length c → nesting k c ≡ nesting l c
agree {a = a} {k = k} {l = l} p q c h i =
    let f = p.part.fits in
    let g = q.part.fits in
    elim (larger (length c) (length a)) [
      | inl j ↦ let w = scans_agree (counts k) (counts l) p.part.scans q.part.scans c h i j in omega arith
      | inr j ↦ f.before c j ∙ sym (g.before c j)
    ]

pub one_nesting : (r s : ℕ) (a b e : Tokens) (d : Viable r a b) (f : Viable s a e) (c : Tokens) → length b < length c
    → length e < length c → nesting (viable_openers d) c ≡ nesting (viable_openers f) c
one_nesting r s a b e d f c h i = agree (viable_part d (fresh 0 []) (λ l j. refl)) (viable_part f (fresh 0 []) (λ l j. refl)) c h i

program_part : {r : ℕ} {a : Tokens} {p : List Outer} (d : Derives r a p) (σ : State) → Opens σ 0 []
    → Start r 0 σ a [] (program_openers d)
program_part (Derives.last d) σ g = let p = external_part d σ g 0 (omega arith) in whole p.part
program_part (Derives.more d e) σ g = let p = external_part d σ g 0 (omega arith) in start_join p.part (program_part e p.final p.opens) refl

-- it is that of the program
pub program_nesting : (r s : ℕ) (a e : Tokens) (p : List Outer) (d : Derives r a p) (f : Viable s a e) (c : Tokens)
    → length e < length c → nesting (program_openers d) c ≡ nesting (viable_openers f) c
program_nesting r s a e p d f c h =
    agree (program_part d (fresh 0 []) (λ l j. refl)) (viable_part f (fresh 0 []) (λ l j. refl)) c (omega arith) h
