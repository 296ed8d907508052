-- What `printf` writes (C11 7.21.6.1).
use Rattle.std.specs.Prelude.{ℕ, suc, ◌==◌, ◌||◌, ℤ, Bool, List, [], ◌∷◌, ◌++◌, drop, Option, Some, None, option_map, if◌then◌else◌}
use Rattle.std.specs.Fmt.{signed_decimal}
use Rattle.c_arith.specs.Arith.{byte_of}

-- `%`, which begins a conversion
abbrev pub percent : ℕ
percent = 37

-- `d`, which converts an argument to decimal text
abbrev pub decimal_specifier : ℕ
decimal_specifier = 100

-- `c`, which converts an argument to one byte
abbrev pub character_specifier : ℕ
character_specifier = 99

-- an argument is converted at this specifier
abbrev pub takes_argument : ℕ → Bool
takes_argument specifier = specifier == decimal_specifier || specifier == character_specifier

abbrev mutual
  -- how many conversions of a format take an argument; none where it is no format: it has a zero byte, or a `%` that
  -- isn't followed by `d`, `c` or `%`
  pub conversions : List ℕ → Option ℕ
  conversions [] = Some 0
  conversions (byte ∷ format) =
      if byte == 0 then None
      else if byte == percent then conversions_after format else conversions format

  -- the same of what follows a `%`
  pub conversions_after : List ℕ → Option ℕ
  conversions_after [] = None
  conversions_after (specifier ∷ format) =
      if takes_argument specifier then option_map suc (conversions format)
      else if specifier == percent then conversions format else None

-- the text of an argument at its specifier: the number in decimal, with `-` where it is negative, or the one byte that
-- it is modulo 256 (C11 7.21.6.1 p8)
abbrev pub converted : ℕ → ℤ → List ℕ
converted specifier value =
    if specifier == decimal_specifier then signed_decimal value else byte_of value ∷ []

-- the text of the first of some arguments
abbrev pub first_converted : ℕ → List ℤ → List ℕ
first_converted specifier [] = []
first_converted specifier (value ∷ args) = converted specifier value

abbrev mutual
  -- the bytes of a format, with `%` in place of each `%%`, and in place of each other conversion the text of the next
  -- argument
  pub text : List ℕ → List ℤ → List ℕ
  text [] args = []
  text (byte ∷ format) args =
      if byte == percent then text_after format args else byte ∷ text format args

  -- the same of what follows a `%`
  pub text_after : List ℕ → List ℤ → List ℕ
  text_after [] args = []
  text_after (specifier ∷ format) args =
      if specifier == percent then percent ∷ text format args
      else first_converted specifier args ++ text format (drop 1 args)
