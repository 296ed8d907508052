-- The words of a call: a command, two names, and options anywhere after the command, each at most
-- once.
use Rattle.std.specs.Prelude.{ℕ, List, [], ◌∷◌, length, take, drop, map, filter, filter_map, Bool, false, not, ◌==◌, ◌&&◌, ◌||◌, nat_le, is_some, if◌then◌else◌, Option, Some, None, option_map, unwrap_or, String, string_bytes, codes}
use Rattle.std.specs.declared.alloc.Global.{Global}
use Rattle.std.specs.List.{list_all}
use Rattle.std.specs.Str.{bytes_eq, all_ascii_digits}
use Rattle.std.specs.Str.Parse.{digits_value}
use Rattle.repair_job.specs.declared.answer.Shown.{Shown}
use Rattle.repair_job.specs.declared.answer.Shown.TheVariants.{Source, Line}
use Rattle.repair_cli.specs.Limits.{default_patches, most_patches, most_units, most_digits}
use Rattle.repair_cli.specs.declared.words.Options as chosen
use Rattle.repair_cli.specs.declared.words.Asked as spoken
use Rattle.repair_cli.specs.declared.words.Command as parsed
use Rattle.repair_cli.specs.declared.words.Command.TheVariants.{Repair}

-- the bytes of each word
abbrev pub words_of : List (String Global) → List (List ℕ)
words_of words = map (λ word. string_bytes word) words

-- ---- what is asked for

-- what may be said of a repair: how many units each test may take, which goes before what the suite
-- says; how many patches are tried at most; and what an answer shows of a patch
pub record Options : Type 0 where
  pub limit : Option ℕ
  pub patches : ℕ
  pub shown : Shown

-- what is asked for: the repair of the program of this name over the suite of this name
pub record Asked : Type 0 where
  pub program : List ℕ
  pub suite : List ℕ
  pub options : Options

-- a command
pub data Command : Type 0 where
  repair : Asked → Command

-- ---- numbers

-- one to ten decimal digits; zeros may stand first
abbrev pub is_numeral : List ℕ → Bool
is_numeral text =
    nat_le 1 (length text) && nat_le (length text) most_digits && all_ascii_digits text

-- from 1 to this
abbrev pub is_within : ℕ → ℕ → Bool
is_within most number = nat_le 1 number && nat_le number most

-- the number from 1 to this that a text is
abbrev pub number_to : ℕ → List ℕ → Option ℕ
number_to most text =
    if is_numeral text && is_within most (digits_value 10 text) then Some (digits_value 10 text)
    else None

-- ---- options

-- an option begins with `-`
abbrev pub is_option : List ℕ → Bool
is_option [] = false
is_option (first ∷ rest) = first == 45

-- what stands after this spelling in a word that begins with it
abbrev pub after : List ℕ → List ℕ → Option (List ℕ)
after spelling word =
    if bytes_eq (take (length spelling) word) spelling then Some (drop (length spelling) word)
    else None

-- the texts that words give the option of this spelling
abbrev pub given : List ℕ → List (List ℕ) → List (List ℕ)
given spelling words = filter_map (after spelling) words

-- the number, from 1 to this, of an option that is given at most once
abbrev pub number_given : ℕ → List (List ℕ) → Option (Option ℕ)
number_given most [] = Some None
number_given most (text ∷ []) = option_map Some (number_to most text)
number_given most _ = None

-- how many units each test may take
abbrev pub limit_spelling : List ℕ
limit_spelling = codes "--limit="

-- how many patches are tried at most
abbrev pub patches_spelling : List ℕ
patches_spelling = codes "--max-patches="

-- the line of a patch is wanted, in place of the patched source
abbrev pub edit_spelling : List ℕ
edit_spelling = codes "--edit"

-- the word is no option, or begins as one of a repair
abbrev pub is_known : List ℕ → Bool
is_known word =
    not (is_option word) || is_some (after limit_spelling word)
    || is_some (after patches_spelling word) || is_some (after edit_spelling word)

-- how many units each test may take, if it is said
abbrev pub limit_in : List (List ℕ) → Option (Option ℕ)
limit_in words = number_given most_units (given limit_spelling words)

-- how many patches are tried at most, as it is said, or the default
abbrev pub patches_in : List (List ℕ) → Option ℕ
patches_in words =
    option_map (λ n. unwrap_or n default_patches)
    (number_given most_patches (given patches_spelling words))

-- what is shown of a patch, by the texts after `--edit`: the line where it stands there once, with
-- nothing after it
abbrev pub shown_by : List (List ℕ) → Option Shown
shown_by [] = Some Source
shown_by ([] ∷ []) = Some Line
shown_by _ = None

-- the options that these make, if none of the three is faulty
abbrev pub options_from : Option (Option ℕ) → Option ℕ → Option Shown → Option Options
options_from (Some limit) (Some patches) (Some shown) =
    Some (record { limit = limit; patches = patches; shown = shown })
options_from _ _ _ = None

-- the options among the words, if each is one of a repair
abbrev pub options_in : List (List ℕ) → Option Options
options_in words =
    if list_all is_known words
    then options_from (limit_in words) (patches_in words) (shown_by (given edit_spelling words))
    else None

-- ---- names and commands

-- the words that are no options
abbrev pub names : List (List ℕ) → List (List ℕ)
names words = filter (λ word. not (is_option word)) words

-- just two names, neither of which is empty
abbrev pub two : List (List ℕ) → Option (List ℕ × List ℕ)
two ((a ∷ program) ∷ (b ∷ suite) ∷ []) = Some (a ∷ program, b ∷ suite)
two _ = None

-- the repair that two names and options ask for
abbrev pub repair_of : Option (List ℕ × List ℕ) → Option Options → Option Command
repair_of (Some both) (Some options) =
    Some (repair (record { program = both.0; suite = both.1; options = options }))
repair_of _ _ = None

-- the command that the words are: `repair`, and then two names and options, in any order
abbrev pub command_in : List (List ℕ) → Option Command
command_in [] = None
command_in (word ∷ rest) =
    if bytes_eq word (codes "repair") then repair_of (two (names rest)) (options_in rest) else None

-- ---- what contracts see of commands

-- the options
abbrev pub options_of : chosen.Options → Options
options_of o = record { limit = o.limit; patches = o.patches; shown = o.shown }

-- what is asked for
abbrev pub asked_of : spoken.Asked → Asked
asked_of a = record { program = a.program.now; suite = a.suite.now; options = options_of a.options }

-- the command
abbrev pub command_of : parsed.Command → Command
command_of (Repair a) = repair (asked_of a)
