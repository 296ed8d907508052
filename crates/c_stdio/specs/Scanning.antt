-- What `scanf` reads at `%d` (C11 7.21.6.2).
use Rattle.std.specs.Prelude.{◌≡◌, ℕ, ◌<◌, slice_index, true, ◌==◌, ◌&&◌, ◌||◌, nat_le, ℤ, pos, neg_ℤ, Bool, List, [], ◌∷◌, length, drop, take_while, if◌then◌else◌}
use Rattle.std.specs.List.{prefix_len}
use Rattle.std.specs.Char.{is_ascii_digit}
use Rattle.std.specs.Str.Parse.{digits_value, starts_with_minus, without_leading_sign}
use Rattle.c_tree.specs.declared.stmt.Ty.TheVariants.{Int}
use Rattle.c_arith.specs.Arith.{in_range}
use Rattle.c_stdio.specs.declared.scan.Scan.{Scan}
use Rattle.c_stdio.specs.declared.scan.Scan.TheVariants.{Number, End, NoNumber, TooWide}

-- white space: space, tab, line feed, vertical tab, form feed and carriage return (C11 7.4.1.10)
abbrev pub is_white : ℕ → Bool
is_white byte = byte == 32 || (nat_le 9 byte && nat_le byte 13)

-- the input without the white space that it begins with
abbrev pub after_white : List ℕ → List ℕ
after_white input = drop (prefix_len is_white input) input

-- each byte is a digit
abbrev pub AreDigits : List ℕ → Type 0
AreDigits text = (i : ℕ) → i < length text → is_ascii_digit (slice_index text i) ≡ true

-- the digits that a text begins with, after its sign if it has one
abbrev pub digits_of : List ℕ → List ℕ
digits_of text = take_while is_ascii_digit (without_leading_sign text)

-- what follows these digits
abbrev pub after_digits : List ℕ → List ℕ
after_digits text =
    drop (prefix_len is_ascii_digit (without_leading_sign text)) (without_leading_sign text)

-- the number that the sign and the digits write
abbrev pub number_of : List ℕ → ℤ
number_of text =
    if starts_with_minus text then neg_ℤ (pos (digits_value 10 (digits_of text)))
    else pos (digits_value 10 (digits_of text))

-- what is read of a text that doesn't begin with white space: nothing where the input ends there, no number where there
-- is no digit, a number that is too wide for `int`, or an `int`
abbrev pub read_of : List ℕ → Scan
read_of [] = End
read_of (byte ∷ text) =
    if length (digits_of (byte ∷ text)) == 0 then NoNumber
    else if in_range Int (number_of (byte ∷ text)) then Number (number_of (byte ∷ text)) else TooWide

-- what is read of an input
abbrev pub scanned : List ℕ → Scan
scanned input = read_of (after_white input)

-- what is unread then: white space, a sign and digits are taken wherever they stand there
abbrev pub input_after : List ℕ → List ℕ
input_after input = after_digits (after_white input)
