-- Arithmetic on the values of a type of numbers, on whole numbers without a width (C11 6.2.5, 6.3.1.3, 6.5.3.3,
-- 6.5.5 to 6.5.14).
use Rattle.std.specs.Prelude.{ℕ, ◌/◌, ◌^◌, ℤ, pos, negsuc, ◌+ℤ◌, ◌-ℤ◌, ◌*ℤ◌, neg_ℤ, Option, Some, None, Bool, not, ◌&&◌, ◌||◌, if◌then◌else◌, int_le, int_lt, int_div, int_rem, unsigned_abs, bit_and, bit_or, bit_xor}
use Rattle.std.specs.Int.{int_rem_euclid}
use Rattle.std.specs.Ordering.{int_eq}
use Rattle.c_tree.specs.declared.stmt.Ty.{Ty}
use Rattle.c_tree.specs.declared.stmt.Ty.TheVariants.{Int, Char}
use Rattle.c_tree.specs.declared.expr.BinOp.{BinOp}
use Rattle.c_tree.specs.declared.expr.BinOp.TheVariants.{Mul, Div, Rem, Add, Sub, Shl, Shr, Lt, Le, Gt, Ge, Eq, Ne, BitAnd, BitXor, BitOr, Both, Either}
use Rattle.c_tree.specs.declared.expr.UnOp.{UnOp}
use Rattle.c_tree.specs.declared.expr.UnOp.TheVariants.{Plus, Minus, Flip, Compl}

-- ---- the values of a type

-- the least value of a type (C11 5.2.4.2.1)
abbrev pub least : Ty → ℤ
least Int = negsuc 2147483647
least Char = negsuc 127

-- the greatest value of a type (C11 5.2.4.2.1)
abbrev pub greatest : Ty → ℤ
greatest Int = pos 2147483647
greatest Char = pos 127

-- the number of bits of a type, its sign bit among them (C11 6.2.6.2)
abbrev pub width : Ty → ℕ
width Int = 32
width Char = 8

-- the number of values of a type
abbrev pub count_of : Ty → ℤ
count_of ty = pos (2 ^ width ty)

-- a number is a value of the type
abbrev pub in_range : Ty → ℤ → Bool
in_range ty z = int_le (least ty) z && int_le z (greatest ty)

-- the result of an operator, or none where it is outside of the type (C11 6.5 p5)
abbrev pub fitting : Ty → ℤ → Option ℤ
fitting ty z = if in_range ty z then Some z else None

-- the least number from 0 on that equals a number modulo the number of the type's values, or where that is too large
-- for the type, that number less the number of the type's values
abbrev pub reduced : Ty → ℤ → ℤ
reduced ty z =
    let rest = int_rem_euclid z (count_of ty) in
    if int_le rest (greatest ty) then rest else rest -ℤ count_of ty

-- the value of the type that equals a number modulo the number of the type's values; a value of the type is unchanged
-- (C11 6.3.1.3)
abbrev pub convert : Ty → ℤ → ℤ
convert ty z = if in_range ty z then z else reduced ty z

-- the byte that equals a number modulo 256
abbrev pub byte_of : ℤ → ℕ
byte_of z = unsigned_abs (int_rem_euclid z (pos 256))

-- ---- truth

-- 1 for true and 0 for false (C11 6.5.8 p6, 6.5.9 p3)
abbrev pub truth : Bool → ℤ
truth b = if b then pos 1 else pos 0

-- a number is 0
abbrev pub is_zero : ℤ → Bool
is_zero a = int_eq a (pos 0)

-- ---- bits of two's complement: a number from 0 on has its own, and -1 - n has each bit that n doesn't have

-- the number with each bit that a number doesn't have
abbrev pub complement : ℤ → ℤ
complement (pos n) = negsuc n
complement (negsuc n) = pos n

-- the bits of a that b doesn't have
abbrev pub without : ℕ → ℕ → ℕ
without a b = bit_xor a (bit_and a b)

-- the bits of both
abbrev pub bits_of_both : ℤ → ℤ → ℤ
bits_of_both (pos a) (pos b) = pos (bit_and a b)
bits_of_both (pos a) (negsuc b) = pos (without a b)
bits_of_both (negsuc a) (pos b) = pos (without b a)
bits_of_both (negsuc a) (negsuc b) = negsuc (bit_or a b)

-- the bits of one or both
abbrev pub bits_of_either : ℤ → ℤ → ℤ
bits_of_either (pos a) (pos b) = pos (bit_or a b)
bits_of_either (pos a) (negsuc b) = negsuc (without b a)
bits_of_either (negsuc a) (pos b) = negsuc (without a b)
bits_of_either (negsuc a) (negsuc b) = negsuc (bit_and a b)

-- the bits of one alone
abbrev pub bits_of_one : ℤ → ℤ → ℤ
bits_of_one (pos a) (pos b) = pos (bit_xor a b)
bits_of_one (pos a) (negsuc b) = negsuc (bit_xor a b)
bits_of_one (negsuc a) (pos b) = negsuc (bit_xor a b)
bits_of_one (negsuc a) (negsuc b) = pos (bit_xor a b)

-- ---- shifts

-- a shift by so many bits has a value (C11 6.5.7 p3)
abbrev pub may_shift : Ty → ℤ → Bool
may_shift ty b = int_le (pos 0) b && int_lt b (pos (width ty))

-- a number times 2 to the n
abbrev pub times_power : ℤ → ℕ → ℤ
times_power a n = a *ℤ pos (2 ^ n)

-- a number divided by 2 to the n, rounded down
abbrev pub over_power : ℤ → ℕ → ℤ
over_power (pos a) n = pos (a / 2 ^ n)
over_power (negsuc a) n = negsuc (a / 2 ^ n)

-- ---- operators

-- the value of an operator between two values of a type, or none where it is undefined (C11 6.5.5 to 6.5.14)
abbrev pub op : Ty → BinOp → ℤ → ℤ → Option ℤ
op ty Mul a b = fitting ty (a *ℤ b)
op ty Div a b = if is_zero b then None else fitting ty (int_div a b)
op ty Rem a b =
    if is_zero b then None else (if in_range ty (int_div a b) then Some (int_rem a b) else None)
op ty Add a b = fitting ty (a +ℤ b)
op ty Sub a b = fitting ty (a -ℤ b)
op ty Shl a b =
    if may_shift ty b && int_le (pos 0) a then fitting ty (times_power a (unsigned_abs b)) else None
op ty Shr a b = if may_shift ty b then Some (over_power a (unsigned_abs b)) else None
op ty Lt a b = Some (truth (int_lt a b))
op ty Le a b = Some (truth (int_le a b))
op ty Gt a b = Some (truth (int_lt b a))
op ty Ge a b = Some (truth (int_le b a))
op ty Eq a b = Some (truth (int_eq a b))
op ty Ne a b = Some (truth (not (int_eq a b)))
op ty BitAnd a b = Some (bits_of_both a b)
op ty BitXor a b = Some (bits_of_one a b)
op ty BitOr a b = Some (bits_of_either a b)
op ty Both a b = Some (truth (not (is_zero a) && not (is_zero b)))
op ty Either a b = Some (truth (not (is_zero a) || not (is_zero b)))

-- the value of a prefix operator at a value of a type, or none where it is undefined (C11 6.5.3.3)
abbrev pub prefix : Ty → UnOp → ℤ → Option ℤ
prefix ty Plus a = Some a
prefix ty Minus a = fitting ty (neg_ℤ a)
prefix ty Flip a = Some (truth (is_zero a))
prefix ty Compl a = Some (complement a)
