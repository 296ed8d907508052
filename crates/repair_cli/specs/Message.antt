-- A message in pieces.
use Rattle.std.specs.Prelude.{ℕ, List, [], ◌++◌, Option, Some, None, codes, decimal}
use Rattle.repair_cli.specs.declared.refusal.Message.{Message}
use Rattle.repair_cli.specs.declared.refusal.Place.{Place}
use Rattle.repair_cli.specs.declared.refusal.Place.TheVariants.{Position, Test}

-- a number after a colon
abbrev pub number_text : ℕ → List ℕ
number_text n = codes ":" ++ decimal n

-- a line and a column
abbrev pub position_text : ℕ → ℕ → List ℕ
position_text line column = number_text line ++ number_text column

-- the number of a test
abbrev pub test_text : ℕ → List ℕ
test_text n = codes ": test " ++ decimal n

-- a place in a file, if there is one
abbrev pub place_text : Option Place → List ℕ
place_text None = []
place_text (Some (Position line column)) = position_text line column
place_text (Some (Test number)) = test_text number

-- the whole message
abbrev pub text_of : Message → List ℕ
text_of m =
    (m.before.now ++ m.name.now) ++ place_text m.at ++ (m.between.now ++ m.words.now) ++ m.end.now
