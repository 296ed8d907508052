-- The values of integer constants, character constants and string literals (C11 6.4.4.1, 6.4.4.4,
-- 6.4.5).
use Rattle.std.specs.Prelude.{◌≡◌, ◌≢◌, ◌⊎◌, ℕ, ℤ, pos, ◌-ℤ◌, ◌-◌, ◌^◌, ◌≤◌, Bool, true, false, not, ◌&&◌, ◌||◌, ◌==◌, nat_le, if◌then◌else◌, List, [], ◌∷◌, ◌++◌, length, get_or, take, drop, Option, Some, None, codes}
use Prim.Native.Char.{code}
use Rattle.std.specs.Char.{is_digit}
use Rattle.std.specs.Str.Parse.{AllDigits, digits_value}
use Rattle.c_lex.specs.Bytes.{Bytes, is_one_of}

-- ---- integer constants

-- one more than the largest value that an `int` of 32 bits holds
abbrev pub int_limit : ℕ
int_limit = 2 ^ 31

-- w is one digit of the base or more, and they write the value
pub record HasDigits (base : ℕ) (w : Bytes) (value : ℕ) : Type 0 where
  pub some : 1 ≤ length w
  pub digits : AllDigits base w
  pub is_value : value ≡ digits_value base w

-- w has the form of an integer constant without a suffix, and that value, of whatever size (C11
-- 6.4.4.1)
pub data HasValue : Bytes → ℕ → Type 0 where
  decimal : {w : Bytes} {value : ℕ} → get_or w 0 0 ≢ code "0" → HasDigits 10 w value
      → HasValue w value
  octal : {w : Bytes} {value : ℕ} → get_or w 0 0 ≡ code "0" → HasDigits 8 w value
      → HasValue w value
  hexadecimal : {w : Bytes} {value : ℕ} (digits : Bytes)
      → (w ≡ codes "0x" ++ digits) ⊎ (w ≡ codes "0X" ++ digits) → HasDigits 16 digits value
      → HasValue w value

-- ---- whole literals

-- z is what follows an opening quote: its last byte is the closing quote, and it has no line feed.
-- A byte that a backslash passes over doesn't close, and passes over nothing; `passed` says that
-- the first byte is one
abbrev pub closes : ℕ → Bool → Bytes → Bool
closes quote passed [] = false
closes quote passed (b ∷ z) =
    if b == code "\n" then false
    else if passed then closes quote false z
    else if b == quote then length z == 0
    else closes quote (b == code "\\") z

-- the quote of a character constant
abbrev pub single_quote : ℕ
single_quote = code "'"

-- the quote of a string literal
abbrev pub double_quote : ℕ
double_quote = code "\""

-- w is a whole literal, from its opening quote to its closing quote
abbrev pub is_quoted : ℕ → Bytes → Bool
is_quoted quote [] = false
is_quoted quote (b ∷ z) = b == quote && closes quote false z

-- what stands between the quotes of a literal
abbrev pub between_quotes : Bytes → Bytes
between_quotes w = take (length w - 2) (drop 1 w)

-- ---- characters

-- a byte that prints in ASCII
abbrev pub prints : ℕ → Bool
prints b = nat_le (code " ") b && nat_le b (code "~")

-- whether the byte stands for itself between quotes; between `'` only printing ASCII and a tab do
abbrev pub is_bare : ℕ → ℕ → Bool
is_bare quote b =
    not (b == quote) && not (b == code "\\") && not (b == code "\n")
    && (not (quote == single_quote) || b == code "\t" || prints b)

-- the value of a backslash and one of ' " ? \ a b f n r t v (C11 6.4.4.4, 5.2.2)
unfoldable pub simple_escape : ℕ → Option ℕ
simple_escape b =
    if is_one_of (codes "'\"?\\") b then Some b
    else if b == code "a" then Some 7
    else if b == code "b" then Some 8
    else if b == code "f" then Some 12
    else if b == code "n" then Some 10
    else if b == code "r" then Some 13
    else if b == code "t" then Some 9
    else if b == code "v" then Some 11
    else None

-- whether a digit of the base begins the bytes
abbrev pub begins_digit : ℕ → Bytes → Bool
begins_digit base [] = false
begins_digit base (b ∷ z) = is_digit b base

-- z begins with one character of a literal, which has the value, and the rest stands after it (C11
-- 6.4.4.4, 6.4.5): a byte that stands for itself, or a backslash and a letter or sign, or one to
-- three octal digits, or `x` and hexadecimal digits, of each as many as stand there
pub data Character : ℕ → Bytes → ℕ → Bytes → Type 0 where
  bare : {quote b : ℕ} {rest : Bytes} → is_bare quote b ≡ true → Character quote (b ∷ rest) b rest
  simple : {quote value : ℕ} {z rest : Bytes} (b : ℕ) → z ≡ code "\\" ∷ b ∷ rest
      → simple_escape b ≡ Some value → Character quote z value rest
  octal : {quote value : ℕ} {z rest : Bytes} (w : Bytes) → z ≡ code "\\" ∷ w ++ rest
      → HasDigits 8 w value → length w ≤ 3 → (length w ≡ 3) ⊎ (begins_digit 8 rest ≡ false)
      → value ≤ 255 → Character quote z value rest
  hexadecimal : {quote value : ℕ} {z rest : Bytes} (w : Bytes)
      → z ≡ code "\\" ∷ code "x" ∷ w ++ rest → HasDigits 16 w value
      → begins_digit 16 rest ≡ false → value ≤ 255 → Character quote z value rest

-- z is those characters, with these values
pub data Characters : ℕ → Bytes → List ℕ → Type 0 where
  done : {quote : ℕ} → Characters quote [] []
  more : {quote value : ℕ} {z rest : Bytes} {values : List ℕ} → Character quote z value rest
      → Characters quote rest values → Characters quote z (value ∷ values)

-- a value of 0 to 255 as a `char` of 8 bits with a sign (C11 6.3.1.3)
abbrev pub char_value : ℕ → ℤ
char_value value = if nat_le value 127 then pos value else pos value -ℤ pos 256
