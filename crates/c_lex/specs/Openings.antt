-- What a text begins with, by its first two bytes.
use Rattle.std.specs.Prelude.{ℕ, ◌==◌, if◌then◌else◌, get_or, codes}
use Prim.Native.Char.{code}
use Rattle.std.specs.Char.{is_ascii_digit}
use Rattle.c_lex.specs.declared.opening.Opening.{Opening}
use Rattle.c_lex.specs.declared.opening.Opening.TheVariants as opening
use Rattle.c_lex.specs.declared.opening.LinePart.{LinePart}
use Rattle.c_lex.specs.declared.opening.LinePart.TheVariants as part
use Rattle.c_lex.specs.Bytes.{Bytes, is_space, is_letter}
use Rattle.c_lex.specs.Constants.{single_quote, double_quote}
use Rattle.c_lex.specs.Places.{begins, is_line_end, is_digraph}

-- what a text begins with whose first byte is no white space, letter, digit, `#` or quote
abbrev pub other_opening : Bytes → Opening
other_opening z =
    if begins (codes "//") z then opening.LineComment
    else if begins (codes "/*") z then opening.BlockComment
    else if is_digraph z then opening.Digraph
    else opening.Other

-- what the text z with the first byte b begins with
abbrev pub opening_by : ℕ → Bytes → Opening
opening_by b z =
    if is_space b then opening.Space
    else if is_letter b then opening.Letter
    else if is_ascii_digit b then opening.Digit
    else if b == code "#" then opening.Hash
    else if b == single_quote then opening.Character
    else if b == double_quote then opening.Text
    else other_opening z

-- what a text begins with
abbrev pub opening_of : Bytes → Opening
opening_of z = opening_by (get_or z 0 0) z

-- what the text of a directive goes on with
abbrev pub line_part : Bytes → LinePart
line_part z =
    if is_line_end z then part.End
    else if begins (codes "//") z then part.LineComment
    else if begins (codes "/*") z then part.BlockComment
    else part.Byte
