-- The line that says what a patch changes, and the lines and columns of a source.
use Rattle.std.specs.Prelude.{ℕ, ◌+◌, ◌-◌, ◌==◌, not, List, ◌++◌, take, codes, decimal}
use Rattle.std.specs.List.{count_by, suffix_len}
use Rattle.c_tree.specs.declared.place.Span.{Span}
use Rattle.c_tree.specs.Tree.{Tree}
use Rattle.patch_text.specs.Printed.{printed, parenthesized}
use Rattle.patch_text.specs.declared.line.Form.{Form}
use Rattle.patch_text.specs.declared.line.Form.TheVariants.{Replace, And, Or, Guard}

-- the line of a place: 1, and the line feeds before it
abbrev pub line_of : List ℕ → ℕ → ℕ
line_of bytes place = 1 + count_by (λ b. b == 10) (take place bytes)

-- the column of a place: 1, and the bytes since the last line feed before it
abbrev pub column_of : List ℕ → ℕ → ℕ
column_of bytes place = 1 + suffix_len (λ b. not (b == 10)) (take place bytes)

-- the word of a form of change
abbrev pub word_of : Form → List ℕ
word_of Replace = codes "replace"
word_of And = codes "and"
word_of Or = codes "or"
word_of Guard = codes "guard"

-- where a span is: LINE:COLUMN+LENGTH
abbrev pub place_of : List ℕ → Span → List ℕ
place_of source at =
    decimal (line_of source at.from) ++ codes ":" ++ decimal (column_of source at.from)
    ++ codes "+" ++ decimal (at.to - at.from)

-- the line of a change: where its span is, its cost, its form, and the new expression in
-- parentheses
abbrev pub edit_line : List ℕ → Span → ℕ → Form → Tree → List ℕ
edit_line source at cost form e =
    place_of source at ++ codes " cost " ++ decimal cost ++ codes " " ++ word_of form
    ++ codes " " ++ parenthesized (printed e) ++ codes "\n"
