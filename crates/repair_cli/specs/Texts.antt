-- The messages of a call: each is one line.
use Rattle.std.specs.Prelude.{ℕ, List, ◌++◌, Option, Some, None, codes, decimal}
use Rattle.patch_text.specs.Lines.{line_of, column_of}

-- the words are no command
abbrev pub usage : List ℕ
usage = codes "usage: f1x repair PROGRAM SUITE [--limit=N] [--max-patches=N] [--edit]\n"

-- the line and the column of a place
abbrev pub position_of : List ℕ → ℕ → ℕ × ℕ
position_of bytes place = (line_of bytes place, column_of bytes place)

-- these words are said of the file of this name
abbrev pub said_of : List ℕ → List ℕ → List ℕ
said_of name words = name ++ codes ": " ++ words ++ codes "\n"

-- these words are said of a line and a column in it
abbrev pub located : List ℕ → ℕ → ℕ → List ℕ → List ℕ
located name line column words =
    name ++ codes ":" ++ decimal line ++ codes ":" ++ decimal column
    ++ codes ": " ++ words ++ codes "\n"

-- these words are said of the file, with the line and the column, if there is a place
abbrev pub faulty : List ℕ → Option (ℕ × ℕ) → List ℕ → List ℕ
faulty name None words = said_of name words
faulty name (Some at) words = located name at.0 at.1 words

-- these words are said of a test in it, by its number
abbrev pub said_of_test : List ℕ → ℕ → List ℕ → List ℕ
said_of_test name number words =
    name ++ codes ": test " ++ decimal number ++ codes ": " ++ words ++ codes "\n"

-- these words are said of the suite of this name, or of a test in it, if one is at fault
abbrev pub faulty_suite : List ℕ → Option ℕ → List ℕ → List ℕ
faulty_suite name None words = said_of name words
faulty_suite name (Some number) words = said_of_test name number words

-- the file of this name could not be read
abbrev pub cannot_read : List ℕ → List ℕ
cannot_read name = codes "f1x: cannot read " ++ name ++ codes "\n"

-- the answer could not be written
abbrev pub cannot_write : List ℕ
cannot_write = codes "f1x: cannot write\n"

-- memory ran out
abbrev pub no_memory : List ℕ
no_memory = codes "f1x: no memory\n"
