-- The number that digits write, up to a largest one.
use Rattle.std.proofs.Common.{◌≡◌, true, ℕ, ◌+◌, ◌*◌, ◌<◌, ◌≤◌, min, Bool, List, length, take, get_or, get_or-take, length-take, subst, sym, ap, ◌∙◌, arith}
use Rattle.std.specs.Char.{digit_value, is_ascii_digit}
use Rattle.std.specs.Str.Parse.{digits_value, without_leading_sign}
use Rattle.std.specs.List.{prefix_len}
use Rattle.std.proofs.lemmas.List.Sums.{prefix_len-le-length, prefix_len_passes}
use Rattle.c_stdio.specs.Scanning.{AreDigits, digits_of}
use Rattle.std.proofs.lemmas.Int.Digits.{digits_value_more}

pub prefix_le : (p : ℕ → Bool) (xs : List ℕ) → prefix_len p xs ≤ length xs
prefix_le p xs = prefix_len-le-length p xs

-- one more digit of a number that is already above the largest leaves it so
capped : (n d : ℕ) → min (min n 10000000000 * 10 + d) 10000000000 ≡ min (n * 10 + d) 10000000000
capped n d = omega arith

pub one_more : (ds : List ℕ) (i number next : ℕ) → i < length ds → number ≡ min (digits_value 10 (take i ds)) 10000000000 → next ≡ min (number * 10 + digit_value (get_or ds i 0)) 10000000000 → next ≡ min (digits_value 10 (take (i + 1) ds)) 10000000000
one_more ds i number next here is more =
    let d = digit_value (get_or ds i 0) in
    more ∙ ap (λ n. min (n * 10 + d) 10000000000) is ∙ capped (digits_value 10 (take i ds)) d ∙ ap (λ n. min n 10000000000) (sym (digits_value_more 10 ds i here))

-- the digits that a text begins with are digits
pub digits_are : (text digits : List ℕ) → digits ≡ digits_of text → AreDigits digits
digits_are text digits e = subst AreDigits (sym e) (λ i here. at i here)
  where
    t : List ℕ
    t = without_leading_sign text

    at : (i : ℕ) → i < length (take (prefix_len is_ascii_digit t) t) → is_ascii_digit (get_or (take (prefix_len is_ascii_digit t) t) i 0) ≡ true
    at i here = let lt : i < prefix_len is_ascii_digit t = omega (arith, length-take (prefix_len is_ascii_digit t) t) in rw get_or-take (prefix_len_passes is_ascii_digit t i 0 lt)
