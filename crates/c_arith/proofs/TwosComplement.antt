-- The bits of two's complement.
use Rattle.std.proofs.Common.{◌≡◌, ℕ, ◌+◌, ◌-◌, ◌%◌, min, max, ℤ, pos, negsuc, refl, arith}
use Rattle.std.specs.Prelude.{bit_and}
use Rattle.std.specs.Int.{bit_at}
use Rattle.std.proofs.lemmas.Nat.Bits.{bit_at_and, bit_at_or, bit_at_xor, bit_at-lt}
use Rattle.c_arith.specs.Arith.{complement, without, bits_of_both, bits_of_either, bits_of_one}
use Rattle.c_arith.specs.Laws.{bit_of, BitsAreThose}

-- the bits of a number without those of another
pub bit_at_without : (a b i : ℕ) → bit_at (without a b) i ≡ min (bit_at a i) (1 - bit_at b i)
bit_at_without a b i = let h = bit_at_xor a (bit_and a b) i in let k = bit_at_and a b i in let p = bit_at-lt a i in let q = bit_at-lt b i in omega arith

pub bits_are_those : BitsAreThose
bits_are_those = record {
  of_complement = complements;
  of_and = commons;
  of_or = alls;
  of_xor = others;
}
  where
    complements : (a : ℤ) (i : ℕ) → bit_of (complement a) i ≡ 1 - bit_of a i
    complements (pos n) i = refl
    complements (negsuc n) i = let h = bit_at-lt n i in omega arith

    commons : (a b : ℤ) (i : ℕ) → bit_of (bits_of_both a b) i ≡ min (bit_of a i) (bit_of b i)
    commons (pos a) (pos b) i = bit_at_and a b i
    commons (pos a) (negsuc b) i = bit_at_without a b i
    commons (negsuc a) (pos b) i = let h = bit_at_without b a i in omega arith
    commons (negsuc a) (negsuc b) i = let h = bit_at_or a b i in let p = bit_at-lt a i in let q = bit_at-lt b i in omega arith

    alls : (a b : ℤ) (i : ℕ) → bit_of (bits_of_either a b) i ≡ max (bit_of a i) (bit_of b i)
    alls (pos a) (pos b) i = bit_at_or a b i
    alls (pos a) (negsuc b) i = let h = bit_at_without b a i in let p = bit_at-lt a i in let q = bit_at-lt b i in omega arith
    alls (negsuc a) (pos b) i = let h = bit_at_without a b i in let p = bit_at-lt a i in let q = bit_at-lt b i in omega arith
    alls (negsuc a) (negsuc b) i = let h = bit_at_and a b i in let p = bit_at-lt a i in let q = bit_at-lt b i in omega arith

    others : (a b : ℤ) (i : ℕ) → bit_of (bits_of_one a b) i ≡ (bit_of a i + bit_of b i) % 2
    others (pos a) (pos b) i = bit_at_xor a b i
    others (pos a) (negsuc b) i = let h = bit_at_xor a b i in let p = bit_at-lt a i in let q = bit_at-lt b i in omega arith
    others (negsuc a) (pos b) i = let h = bit_at_xor a b i in let p = bit_at-lt a i in let q = bit_at-lt b i in omega arith
    others (negsuc a) (negsuc b) i = let h = bit_at_xor a b i in let p = bit_at-lt a i in let q = bit_at-lt b i in omega arith
