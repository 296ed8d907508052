-- The bits of two's complement in words of 64 bits.
use Rattle.std.proofs.Common.{◌≡◌, ℕ, ◌^◌, ◌<◌, min, ℤ, pos, negsuc, sym, ap, ◌∙◌, arith, w64, to_z, of_z, FitsSigned}
use Rattle.std.specs.Prelude.{bit_and, bit_or, bit_xor}
use Rattle.std.specs.Int.{bit_at, bit_not}
use Rattle.std.specs.Int.Bits.{and_lt, or_lt, xor_lt}
use Rattle.std.proofs.lemmas.Int.{ints, to_z-of_z}
use Rattle.std.proofs.lemmas.Nat.Bits.{bit_at_and, bit_at_or, bit_at_xor, bit_at_not, bit_at-lt, same_from_bits_below}
use Rattle.c_arith.specs.Arith.{without, bits_of_both, bits_of_either, bits_of_one}
use Rattle.c_arith.proofs.TwosComplement.{bit_at_without}

-- what is below 2 to the 64 when all bits are turned
not_lt : (n : ℕ) → n < 2 ^ 64 → bit_not w64 n < 2 ^ 64
not_lt n h = omega arith

and_not : (a b : ℕ) → a < 2 ^ 64 → b < 2 ^ 64 → bit_and a (bit_not w64 b) ≡ without a b
and_not a b p q = same_from_bits_below 64 _ _ (and_lt 64 a _ p (not_lt b q)) (xor_lt 64 a _ p (and_lt 64 a b p q))
    (λ i lt. let h = bit_at_and a (bit_not w64 b) i in let k = bit_at_not w64 b i q lt in let l = bit_at_without a b i in h ∙ ap (min (bit_at a i)) k ∙ sym l)

not_and : (a b : ℕ) → a < 2 ^ 64 → b < 2 ^ 64 → bit_and (bit_not w64 a) b ≡ without b a
not_and a b p q = same_from_bits_below 64 _ _ (and_lt 64 _ b (not_lt a p) q) (xor_lt 64 b _ q (and_lt 64 b a q p))
    (λ i lt. let h = bit_at_and (bit_not w64 a) b i in let k = bit_at_not w64 a i p lt in let l = bit_at_without b a i in omega arith)

not_and_not : (a b : ℕ) → a < 2 ^ 64 → b < 2 ^ 64 → bit_and (bit_not w64 a) (bit_not w64 b) ≡ bit_not w64 (bit_or a b)
not_and_not a b p q = same_from_bits_below 64 _ _ (and_lt 64 _ _ (not_lt a p) (not_lt b q)) (not_lt _ (or_lt 64 a b p q))
    (λ i lt.
    let h = bit_at_and (bit_not w64 a) (bit_not w64 b) i in
    let k = bit_at_not w64 a i p lt in
    let l = bit_at_not w64 b i q lt in
    let m = bit_at_not w64 (bit_or a b) i (or_lt 64 a b p q) lt in
    let n = bit_at_or a b i in
    let x = bit_at-lt a i in
    let y = bit_at-lt b i in
    omega arith)

or_not : (a b : ℕ) → a < 2 ^ 64 → b < 2 ^ 64 → bit_or a (bit_not w64 b) ≡ bit_not w64 (without b a)
or_not a b p q =
    let small : without b a < 2 ^ 64 = xor_lt 64 b _ q (and_lt 64 b a q p) in
    same_from_bits_below 64 _ _ (or_lt 64 a _ p (not_lt b q)) (not_lt _ small)
    (λ i lt.
    let h = bit_at_or a (bit_not w64 b) i in
    let l = bit_at_not w64 b i q lt in
    let m = bit_at_not w64 (without b a) i small lt in
    let n = bit_at_without b a i in
    let x = bit_at-lt a i in
    let y = bit_at-lt b i in
    omega arith)

not_or : (a b : ℕ) → a < 2 ^ 64 → b < 2 ^ 64 → bit_or (bit_not w64 a) b ≡ bit_not w64 (without a b)
not_or a b p q =
    let small : without a b < 2 ^ 64 = xor_lt 64 a _ p (and_lt 64 a b p q) in
    same_from_bits_below 64 _ _ (or_lt 64 _ b (not_lt a p) q) (not_lt _ small)
    (λ i lt.
    let h = bit_at_or (bit_not w64 a) b i in
    let l = bit_at_not w64 a i p lt in
    let m = bit_at_not w64 (without a b) i small lt in
    let n = bit_at_without a b i in
    let x = bit_at-lt a i in
    let y = bit_at-lt b i in
    omega arith)

not_or_not : (a b : ℕ) → a < 2 ^ 64 → b < 2 ^ 64 → bit_or (bit_not w64 a) (bit_not w64 b) ≡ bit_not w64 (bit_and a b)
not_or_not a b p q =
    same_from_bits_below 64 _ _ (or_lt 64 _ _ (not_lt a p) (not_lt b q)) (not_lt _ (and_lt 64 a b p q))
    (λ i lt.
    let h = bit_at_or (bit_not w64 a) (bit_not w64 b) i in
    let k = bit_at_not w64 a i p lt in
    let l = bit_at_not w64 b i q lt in
    let m = bit_at_not w64 (bit_and a b) i (and_lt 64 a b p q) lt in
    let n = bit_at_and a b i in
    let x = bit_at-lt a i in
    let y = bit_at-lt b i in
    omega arith)

xor_not : (a b : ℕ) → a < 2 ^ 64 → b < 2 ^ 64 → bit_xor a (bit_not w64 b) ≡ bit_not w64 (bit_xor a b)
xor_not a b p q =
    same_from_bits_below 64 _ _ (xor_lt 64 a _ p (not_lt b q)) (not_lt _ (xor_lt 64 a b p q))
    (λ i lt.
    let h = bit_at_xor a (bit_not w64 b) i in
    let l = bit_at_not w64 b i q lt in
    let m = bit_at_not w64 (bit_xor a b) i (xor_lt 64 a b p q) lt in
    let n = bit_at_xor a b i in
    let x = bit_at-lt a i in
    let y = bit_at-lt b i in
    omega arith)

not_xor : (a b : ℕ) → a < 2 ^ 64 → b < 2 ^ 64 → bit_xor (bit_not w64 a) b ≡ bit_not w64 (bit_xor a b)
not_xor a b p q =
    same_from_bits_below 64 _ _ (xor_lt 64 _ b (not_lt a p) q) (not_lt _ (xor_lt 64 a b p q))
    (λ i lt.
    let h = bit_at_xor (bit_not w64 a) b i in
    let l = bit_at_not w64 a i p lt in
    let m = bit_at_not w64 (bit_xor a b) i (xor_lt 64 a b p q) lt in
    let n = bit_at_xor a b i in
    let x = bit_at-lt a i in
    let y = bit_at-lt b i in
    omega arith)

not_xor_not : (a b : ℕ) → a < 2 ^ 64 → b < 2 ^ 64 → bit_xor (bit_not w64 a) (bit_not w64 b) ≡ bit_xor a b
not_xor_not a b p q =
    same_from_bits_below 64 _ _ (xor_lt 64 _ _ (not_lt a p) (not_lt b q)) (xor_lt 64 a b p q)
    (λ i lt.
    let h = bit_at_xor (bit_not w64 a) (bit_not w64 b) i in
    let k = bit_at_not w64 a i p lt in
    let l = bit_at_not w64 b i q lt in
    let n = bit_at_xor a b i in
    let x = bit_at-lt a i in
    let y = bit_at-lt b i in
    omega arith)

-- a number that fits, as a word
turned : (n : ℕ) → of_z w64 (negsuc n) ≡ bit_not w64 n
turned n = omega arith

as_pos : (n : ℕ) → n < 2 ^ 63 → to_z w64 n ≡ pos n
as_pos n h = omega (arith, ints)

as_negsuc : (n : ℕ) → n < 2 ^ 63 → to_z w64 (bit_not w64 n) ≡ negsuc n
as_negsuc n h = ap (to_z w64) (sym (turned n)) ∙ to_z-of_z w64 (negsuc n) (record { sfits = h })

wide : (n : ℕ) → n < 2 ^ 63 → n < 2 ^ 64
wide n h = omega arith

without_lt : (a b : ℕ) → a < 2 ^ 63 → b < 2 ^ 63 → without a b < 2 ^ 63
without_lt a b p q = xor_lt 63 a _ p (and_lt 63 a b p q)

-- what the code computes
pub and_word : (a b : ℤ) → FitsSigned w64 a → FitsSigned w64 b → to_z w64 (bit_and (of_z w64 a) (of_z w64 b)) ≡ bits_of_both a b
and_word (pos a) (pos b) f g = as_pos _ (and_lt 63 a b f.sfits g.sfits)
and_word (pos a) (negsuc b) f g = ap (λ x. to_z w64 (bit_and a x)) (turned b) ∙ ap (to_z w64) (and_not a b (wide a f.sfits) (wide b g.sfits)) ∙ as_pos _ (without_lt a b f.sfits g.sfits)
and_word (negsuc a) (pos b) f g = ap (λ x. to_z w64 (bit_and x b)) (turned a) ∙ ap (to_z w64) (not_and a b (wide a f.sfits) (wide b g.sfits)) ∙ as_pos _ (without_lt b a g.sfits f.sfits)
and_word (negsuc a) (negsuc b) f g =
    ap (λ x. to_z w64 (bit_and x (of_z w64 (negsuc b)))) (turned a) ∙ ap (λ x. to_z w64 (bit_and (bit_not w64 a) x)) (turned b) ∙ ap (to_z w64) (not_and_not a b (wide a f.sfits) (wide b g.sfits)) ∙ as_negsuc _ (or_lt 63 a b f.sfits g.sfits)

pub or_word : (a b : ℤ) → FitsSigned w64 a → FitsSigned w64 b → to_z w64 (bit_or (of_z w64 a) (of_z w64 b)) ≡ bits_of_either a b
or_word (pos a) (pos b) f g = as_pos _ (or_lt 63 a b f.sfits g.sfits)
or_word (pos a) (negsuc b) f g = ap (λ x. to_z w64 (bit_or a x)) (turned b) ∙ ap (to_z w64) (or_not a b (wide a f.sfits) (wide b g.sfits)) ∙ as_negsuc _ (without_lt b a g.sfits f.sfits)
or_word (negsuc a) (pos b) f g = ap (λ x. to_z w64 (bit_or x b)) (turned a) ∙ ap (to_z w64) (not_or a b (wide a f.sfits) (wide b g.sfits)) ∙ as_negsuc _ (without_lt a b f.sfits g.sfits)
or_word (negsuc a) (negsuc b) f g =
    ap (λ x. to_z w64 (bit_or x (of_z w64 (negsuc b)))) (turned a) ∙ ap (λ x. to_z w64 (bit_or (bit_not w64 a) x)) (turned b) ∙ ap (to_z w64) (not_or_not a b (wide a f.sfits) (wide b g.sfits)) ∙ as_negsuc _ (and_lt 63 a b f.sfits g.sfits)

pub xor_word : (a b : ℤ) → FitsSigned w64 a → FitsSigned w64 b → to_z w64 (bit_xor (of_z w64 a) (of_z w64 b)) ≡ bits_of_one a b
xor_word (pos a) (pos b) f g = as_pos _ (xor_lt 63 a b f.sfits g.sfits)
xor_word (pos a) (negsuc b) f g = ap (λ x. to_z w64 (bit_xor a x)) (turned b) ∙ ap (to_z w64) (xor_not a b (wide a f.sfits) (wide b g.sfits)) ∙ as_negsuc _ (xor_lt 63 a b f.sfits g.sfits)
xor_word (negsuc a) (pos b) f g = ap (λ x. to_z w64 (bit_xor x b)) (turned a) ∙ ap (to_z w64) (not_xor a b (wide a f.sfits) (wide b g.sfits)) ∙ as_negsuc _ (xor_lt 63 a b f.sfits g.sfits)
xor_word (negsuc a) (negsuc b) f g =
    ap (λ x. to_z w64 (bit_xor x (of_z w64 (negsuc b)))) (turned a) ∙ ap (λ x. to_z w64 (bit_xor (bit_not w64 a) x)) (turned b) ∙ ap (to_z w64) (not_xor_not a b (wide a f.sfits) (wide b g.sfits)) ∙ as_pos _ (xor_lt 63 a b f.sfits g.sfits)
