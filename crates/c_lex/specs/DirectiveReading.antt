-- How the parts of a directive are found in its line.
use Rattle.std.specs.Prelude.{◌≡◌, ◌≢◌, ℕ, ◌+◌, ◌-◌, Bool, true, false, ◌&&◌, ◌==◌, nat_lt, if◌then◌else◌, [], ◌∷◌, length, get_or, take, drop, Option, Some, None, codes}
use Rattle.c_lex.specs.declared.form.DefineParts.{DefineParts}
use Rattle.c_lex.specs.declared.token.Keyword.{Keyword}
use Rattle.c_lex.specs.Bytes.{Bytes, is_letter}
use Rattle.c_lex.specs.Spellings.{keyword_spelling}
use Rattle.c_lex.specs.Pieces.{goes_on_word}
use Rattle.c_lex.specs.Places.{begins}
use Rattle.c_lex.specs.Directives.{is_blank, Definition}
use Rattle.c_lex.specs.Reading.{chain_len}

-- what stands after the blanks at the start
abbrev pub skip : Bytes → Bytes
skip [] = []
skip (b ∷ z) = if is_blank b then skip z else b ∷ z

-- what stands after these bytes, where z begins with them
abbrev pub strip : Bytes → Bytes → Option Bytes
strip w z = if begins w z then Some (drop (length w) z) else None

-- what stands after a word at the start, where there is no `#` before it
abbrev pub strip_in : Bytes → Option Bytes → Option Bytes
strip_in w None = None
strip_in w (Some z) = strip w (skip z)

-- what stands after the name of a directive
abbrev pub body_of : Bytes → Bytes → Option Bytes
body_of name line = strip_in name (strip (codes "#") line)

-- how many bytes the word at the start has; a first byte is taken whatever it is
abbrev pub word_len : Bytes → ℕ
word_len z = if length z == 0 then 0 else 1 + chain_len goes_on_word (get_or z 0 0) (drop 1 z)

-- what stands after the word at the start
abbrev pub after_word : Bytes → Bytes
after_word z = drop (word_len z) z

-- whether there are blanks alone
abbrev pub is_blank_only : Bytes → Bool
is_blank_only z = length (skip z) == 0

-- a header that may be included begins z, and blanks alone follow
abbrev pub is_header : Bytes → Bool
is_header z =
    if begins (codes "<stdio.h>") z then is_blank_only (drop 9 z)
    else if begins (codes "<stdlib.h>") z then is_blank_only (drop 10 z)
    else false

-- whether the line includes a header, by what stands after `include`
abbrev pub is_include_by : Option Bytes → Bool
is_include_by None = false
is_include_by (Some z) = is_header (skip z)

-- whether the line includes a header
abbrev pub is_include : Bytes → Bool
is_include line = is_include_by (body_of (codes "include") line)

-- a value from its sign or number on
abbrev pub inside : Bytes → Bytes
inside z = if begins (codes "(") z then skip (drop 1 z) else z

-- a value from its number on
abbrev pub number_of : Bytes → Bytes
number_of z = if begins (codes "-") z then skip (drop 1 z) else z

-- whether z ends a value that began with a parenthesis, or with none
abbrev pub ends_value : Bool → Bytes → Bool
ends_value true z = begins (codes ")") (skip z) && is_blank_only (drop 1 (skip z))
ends_value false z = is_blank_only z

-- the parts of a line, by what stands after `define`
abbrev pub parts_by : ℕ → Bytes → Option DefineParts
parts_by len body =
    let name = skip body in
    let value = skip (after_word name) in
    let number = number_of (inside value) in
    if nat_lt (length name) (length body) && nat_lt (length value) (length (after_word name))
    && ends_value (begins (codes "(") value) (after_word number)
    then Some (record {
      name_at = len - length name;
      name_len = word_len name;
      negative = begins (codes "-") (inside value);
      number_at = len - length number;
      number_len = word_len number;
    })
    else None

-- the parts of a line, if it has the form of a definition but for its name and number
abbrev pub parts_in : ℕ → Option Bytes → Option DefineParts
parts_in len None = None
parts_in len (Some body) = parts_by len body

-- the parts of a line
abbrev pub parts_of : Bytes → Option DefineParts
parts_of line = parts_in (length line) (body_of (codes "define") line)

-- what a line with these parts defines, where their bytes are a name and a number
abbrev pub definition_of : Bytes → DefineParts → Definition
definition_of line parts = record {
  name = take parts.name_len (drop parts.name_at line);
  name_at = parts.name_at;
  negative = parts.negative;
  number = take parts.number_len (drop parts.number_at line);
  number_at = parts.number_at;
}

-- a word begins as a name does, and is no keyword
abbrev pub BeginsName : Bytes → Type 0
BeginsName word = (is_letter (get_or word 0 0) ≡ true) × ((k : Keyword) → word ≢ keyword_spelling k)
