-- Laws of arithmetic.
use Rattle.std.specs.Prelude.{◌≡◌, ℕ, ◌-◌, min, max, ◌+◌, ◌%◌, ◌<◌, ℤ, pos, negsuc, ◌+ℤ◌, ◌*ℤ◌, unsigned_abs, IsTrue, Some}
use Rattle.std.specs.Int.{bit_at}
use Rattle.c_tree.specs.declared.stmt.Ty.{Ty}
use Rattle.c_tree.specs.declared.expr.BinOp.TheVariants.{Div, Rem}
use Rattle.c_arith.specs.Arith.{in_range, count_of, convert, op, complement, bits_of_both, bits_of_either, bits_of_one}

-- a converted number is a value of the type
abbrev pub ConversionFits : Type 0
ConversionFits = (ty : Ty) (z : ℤ) → IsTrue (in_range ty (convert ty z))

-- it equals the number modulo the number of the type's values
abbrev pub ConversionIsModulo : Type 0
ConversionIsModulo = (ty : Ty) (z : ℤ) → (k : ℤ) × (z ≡ convert ty z +ℤ k *ℤ count_of ty)

-- no other value of the type does
abbrev pub ConversionIsUnique : Type 0
ConversionIsUnique =
    (ty : Ty) (z v k : ℤ) → IsTrue (in_range ty v) → z ≡ v +ℤ k *ℤ count_of ty → convert ty z ≡ v

-- where `/` and `%` have values, the quotient times the divisor and the remainder are the number (C11 6.5.5 p6)
abbrev pub DivisionIsWhole : Type 0
DivisionIsWhole =
    (ty : Ty) (a b q r : ℤ) → op ty Div a b ≡ Some q → op ty Rem a b ≡ Some r → q *ℤ b +ℤ r ≡ a

-- a remainder is nearer to 0 than the divisor
abbrev pub RemaindersAreLess : Type 0
RemaindersAreLess = (ty : Ty) (a b r : ℤ) → op ty Rem a b ≡ Some r → unsigned_abs r < unsigned_abs b

-- a bit of two's complement, 0 or 1, where the lowest is bit 0
abbrev pub bit_of : ℤ → ℕ → ℕ
bit_of (pos n) i = bit_at n i
bit_of (negsuc n) i = 1 - bit_at n i

-- each bit of the results of `~`, `&`, `|` and `^`
pub record BitsAreThose : Type 0 where
  pub of_complement : (a : ℤ) (i : ℕ) → bit_of (complement a) i ≡ 1 - bit_of a i
  pub of_and : (a b : ℤ) (i : ℕ) → bit_of (bits_of_both a b) i ≡ min (bit_of a i) (bit_of b i)
  pub of_or : (a b : ℤ) (i : ℕ) → bit_of (bits_of_either a b) i ≡ max (bit_of a i) (bit_of b i)
  pub of_xor : (a b : ℤ) (i : ℕ) → bit_of (bits_of_one a b) i ≡ (bit_of a i + bit_of b i) % 2
