-- A conversion gives the one value of its type that equals a number modulo the number of the type's values.
use Rattle.std.proofs.Common.{◌≡◌, suc, ◌-◌, ◌/◌, ◌%◌, ℤ, pos, negsuc, ◌+ℤ◌, ◌-ℤ◌, ◌*ℤ◌, neg_ℤ, Bool, true, false, cond, int_le, IsTrue, sym, ◌∙◌, arith}
use Rattle.std.proofs.lemmas.Int.{ints}
use Rattle.c_tree.specs.declared.stmt.Ty.{Ty}
use Rattle.c_tree.specs.declared.stmt.Ty.TheVariants.{Int, Char}
use Rattle.c_arith.specs.Arith.{greatest, in_range, count_of, reduced, convert}
use Rattle.c_arith.specs.Laws.{ConversionFits, ConversionIsModulo, ConversionIsUnique}

pub conversion_fits : ConversionFits
conversion_fits Int (pos n) = grind (arith, ints)
conversion_fits Int (negsuc n) = grind (arith, ints)
conversion_fits Char (pos n) = grind (arith, ints)
conversion_fits Char (negsuc n) = grind (arith, ints)

-- a remainder, or that less the divisor
either : (z rest count q more : ℤ) → z ≡ rest +ℤ q *ℤ count → z ≡ (rest -ℤ count) +ℤ more *ℤ count → (b : Bool) → (k : ℤ) × (z ≡ cond b rest (rest -ℤ count) +ℤ k *ℤ count)
either z rest count q more h g true = (q, h)
either z rest count q more h g false = (more, g)

-- what is outside of the type differs by whole multiples
reduced_modulo : (ty : Ty) (z : ℤ) → (k : ℤ) × (z ≡ reduced ty z +ℤ k *ℤ count_of ty)
reduced_modulo Char (pos n) = either (pos n) (pos (n % 256)) (pos 256) (pos (n / 256)) (pos (suc (n / 256))) (omega (arith, ints)) (omega (arith, ints)) (int_le (pos (n % 256)) (greatest Char))
reduced_modulo Char (negsuc n) = either (negsuc n) (pos (255 - n % 256)) (pos 256) (negsuc (n / 256)) (neg_ℤ (pos (n / 256))) (omega (arith, ints)) (omega (arith, ints)) (int_le (pos (255 - n % 256)) (greatest Char))
reduced_modulo Int (pos n) = either (pos n) (pos (n % 4294967296)) (pos 4294967296) (pos (n / 4294967296)) (pos (suc (n / 4294967296))) (omega (arith, ints)) (omega (arith, ints)) (int_le (pos (n % 4294967296)) (greatest Int))
reduced_modulo Int (negsuc n) = either (negsuc n) (pos (4294967295 - n % 4294967296)) (pos 4294967296) (negsuc (n / 4294967296)) (neg_ℤ (pos (n / 4294967296))) (omega (arith, ints)) (omega (arith, ints)) (int_le (pos (4294967295 - n % 4294967296)) (greatest Int))

-- no multiple added
nothing_added : (z count : ℤ) → z ≡ z +ℤ pos 0 *ℤ count
nothing_added z count = omega (arith, ints)

kept_or : (z other count : ℤ) → (k : ℤ) × (z ≡ other +ℤ k *ℤ count) → (b : Bool) → (k : ℤ) × (z ≡ cond b z other +ℤ k *ℤ count)
kept_or z other count h true = (pos 0, nothing_added z count)
kept_or z other count h false = h

pub conversion_modulo : ConversionIsModulo
conversion_modulo ty z = kept_or z (reduced ty z) (count_of ty) (reduced_modulo ty z) (in_range ty z)

-- two values of a type that differ by whole multiples are one
same_value : (ty : Ty) (c v j k : ℤ) → IsTrue (in_range ty c) → IsTrue (in_range ty v) → c +ℤ j *ℤ count_of ty ≡ v +ℤ k *ℤ count_of ty → c ≡ v
same_value Int c v j k p q e = grind (arith, ints)
same_value Char c v j k p q e = grind (arith, ints)

pub conversion_unique : ConversionIsUnique
conversion_unique ty z v k h e = let m = conversion_modulo ty z in same_value ty (convert ty z) v m.0 k (conversion_fits ty z) h (sym m.1 ∙ e)
