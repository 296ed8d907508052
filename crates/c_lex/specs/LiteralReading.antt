-- How the digits, literals and characters at the start of a text are read.
use Rattle.std.specs.Prelude.{◌≡◌, ℕ, pos, zero, suc, ◌+◌, ◌<◌, ◌≤◌, Bool, false, ◌&&◌, ◌||◌, ◌==◌, nat_le, if◌then◌else◌, [], ◌∷◌, length, take, Option, Some, None, codes}
use Prim.Native.Char.{code}
use Rattle.std.specs.Char.{is_digit}
use Rattle.std.specs.Str.Parse.{digits_value}
use Rattle.c_lex.specs.declared.constant.Constant.{Constant}
use Rattle.c_lex.specs.declared.constant.Constant.TheVariants.{Value, TooLarge, Bad}
use Rattle.c_lex.specs.declared.character.FirstCharacter.{FirstCharacter}
use Rattle.c_lex.specs.Bytes.{Bytes, is_one_of}
use Rattle.c_lex.specs.Constants.{int_limit, HasDigits, HasValue, is_bare, simple_escape}

-- ---- integer constants

-- w is one digit of the base or more, and v is their value, or the limit of an `int` where that is
-- smaller
pub record HasSmallDigits (base : ℕ) (w : Bytes) (v : ℕ) : Type 0 where
  pub digits : HasDigits base w (digits_value base w)
  pub small : digits_value base w < int_limit → v ≡ digits_value base w
  pub large : int_limit ≤ digits_value base w → v ≡ int_limit

-- whether `0x` or `0X` begins the word
abbrev pub begins_hexadecimal : Bytes → Bool
begins_hexadecimal (b ∷ c ∷ w) = b == code "0" && is_one_of (codes "xX") c
begins_hexadecimal _ = false

-- whether a 0 begins the word
abbrev pub begins_zero : Bytes → Bool
begins_zero [] = false
begins_zero (b ∷ w) = b == code "0"

-- what is answered of some digits of a base
abbrev pub AnswersDigits : ℕ → Bytes → Constant → Type 0
AnswersDigits base w (Value v) = (n : ℕ) × HasDigits base w n × (n < int_limit) × (v ≡ pos n)
AnswersDigits base w TooLarge = (n : ℕ) × HasDigits base w n × (int_limit ≤ n)
AnswersDigits base w Bad = (n : ℕ) → HasDigits base w n → ⊥

-- what is answered of a word: a value that an `int` of 32 bits holds, one that it doesn't hold, or
-- that the word has no value
abbrev pub Answers : Bytes → Constant → Type 0
Answers w (Value v) = (n : ℕ) × HasValue w n × (n < int_limit) × (v ≡ pos n)
Answers w TooLarge = (n : ℕ) × HasValue w n × (int_limit ≤ n)
Answers w Bad = (n : ℕ) → HasValue w n → ⊥

-- ---- literals

-- the place after the closing quote of a literal, of which z is what stands from the place `at` on
abbrev pub literal_end : ℕ → Bool → ℕ → Bytes → Option ℕ
literal_end quote passed at [] = None
literal_end quote passed at (b ∷ z) =
    if b == code "\n" then None
    else if passed then literal_end quote false (at + 1) z
    else if b == quote then Some (at + 1)
    else literal_end quote (b == code "\\") (at + 1) z

-- ---- characters

-- how many digits of the base begin the bytes, up to `most`
abbrev pub digit_count : ℕ → ℕ → Bytes → ℕ
digit_count base zero z = 0
digit_count base (suc most) [] = 0
digit_count base (suc most) (b ∷ z) = if is_digit b base then suc (digit_count base most z) else 0

-- the character that the first `count` bytes of z write as digits, after the `before` bytes that
-- begin its escape
abbrev pub by_digits : ℕ → ℕ → ℕ → Bytes → Option FirstCharacter
by_digits base before count z =
    if nat_le 1 count && nat_le (digits_value base (take count z)) 255
    then Some (record { value = digits_value base (take count z); len = before + count })
    else None

-- a numeric escape with up to `most` digits
unfoldable pub numeric_escape : ℕ → ℕ → ℕ → Bytes → Option FirstCharacter
numeric_escape base most before z = by_digits base before (digit_count base most z) z

-- the escape of the byte b and what follows, by the value of a simple escape
abbrev pub escape_by : Option ℕ → ℕ → Bytes → Option FirstCharacter
escape_by (Some value) b z = Some (record { value = value; len = 2 })
escape_by None b z =
    if b == code "x" then numeric_escape 16 (length z) 2 z else numeric_escape 8 3 1 (b ∷ z)

-- the escape after a backslash
unfoldable pub escape : Bytes → Option FirstCharacter
escape [] = None
escape (b ∷ z) = escape_by (simple_escape b) b z

-- the first character between quotes
unfoldable pub first_character : ℕ → Bytes → Option FirstCharacter
first_character quote [] = None
first_character quote (b ∷ z) =
    if b == code "\\" then escape z
    else if is_bare quote b then Some (record { value = b; len = 1 })
    else None
