-- Why a source is refused: its first fault, with its place and its words, and the message that
-- these give.
use Rattle.std.specs.Prelude.{◌≡◌, ◌≢◌, ℕ, ◌<◌, List, length, Option, None, Err, option_map, codes}
use Rattle.c_tree.specs.Tree.{Outer}
use Rattle.c_lex.specs.declared.fault.LexFault.{LexFault}
use Rattle.c_lex.specs.declared.fault.LexFault.TheVariants as lex
use Rattle.c_lex.specs.FaultWords as lexer
use Rattle.c_lex.specs.Tokens.{Lexes}
use Rattle.c_grammar.specs.Grammar.{Tokens}
use Rattle.c_location.specs.Faults as located
use Rattle.c_location.specs.Locations.{locations}
use Rattle.c_location.specs.declared.fault.LocFault.TheVariants.{TooMany}
use Rattle.c_parse.specs.declared.fault.ParseFault.{ParseFault}
use Rattle.c_parse.specs.declared.fault.ParseFault.TheVariants as parse
use Rattle.c_parse.specs.FaultWords as parser
use Rattle.c_parse.specs.Results.{IsFirstFault}
use Rattle.c_types.specs.declared.fault.TypeFault.{TypeFault}
use Rattle.c_types.specs.declared.fault.TypeFault.TheVariants as kinds
use Rattle.c_types.specs.FaultWords as checker
use Rattle.c_types.specs.Least.{Causes as CausedBy}
use Rattle.c_types.specs.Programs.{program_faults}
use Rattle.c_types.specs.Slots.{resolved}
use Rattle.repair_cli.specs.Accepted.{IsShort, IsCut, IsRead, IsWellTyped}
use Rattle.repair_cli.specs.Limits.{source_limit}
use Rattle.repair_cli.specs.Texts.{position_of, faulty}
use Rattle.repair_cli.specs.declared.fault.ProgramFault.{ProgramFault}
use Rattle.repair_cli.specs.declared.fault.ProgramFault.TheVariants.{TooLong, Lex, Parse, Kinds, TooManyLocations, NoMemory}

-- the place of a fault in the source, if it has one
abbrev pub fault_place : ProgramFault → Option ℕ
fault_place TooLong = None
fault_place (Lex f) = lexer.place_of f
fault_place (Parse f) = parser.fault_place f
fault_place (Kinds f) = checker.place_of f
fault_place (TooManyLocations n) = None
fault_place NoMemory = None

-- its words
abbrev pub fault_words : ProgramFault → List ℕ
fault_words TooLong = codes "too long"
fault_words (Lex f) = lexer.words_of f
fault_words (Parse f) = parser.fault_words f
fault_words (Kinds f) = checker.words_of f
fault_words (TooManyLocations n) = codes "too many locations"
fault_words NoMemory = codes "out of memory"

-- a program has more locations than its patches are listed for: this is their number, or the
-- largest `u32` where they are more than that
abbrev pub HasManyLocations : ℕ → List Outer → Type 0
HasManyLocations n program = located.Causes (TooMany n) (locations program)

-- the first fault of a source
pub data IsFault (bytes : List ℕ) : ProgramFault → Type 0 where
  too_long : source_limit < length bytes → IsFault bytes TooLong
  of_text : (f : LexFault) → f ≢ lex.NoMemory
      → IsShort bytes → Lexes bytes (Err f) → IsFault bytes (Lex f)
  of_tokens : (f : ParseFault) (tokens : Tokens) → f ≢ parse.NoMemory
      → IsCut bytes tokens → IsFirstFault (length bytes) tokens f → IsFault bytes (Parse f)
  of_kinds : (f : TypeFault) (tree : List Outer) → f ≢ kinds.NoMemory
      → IsRead bytes tree → CausedBy f (program_faults tree (length bytes))
      → IsFault bytes (Kinds f)
  of_size : (n : ℕ) (tree : List Outer) → IsRead bytes tree → IsWellTyped (length bytes) tree
      → HasManyLocations n (resolved tree) → IsFault bytes (TooManyLocations n)

-- the message that the source of this name, with these bytes, has this fault
abbrev pub fault_message : List ℕ → List ℕ → ProgramFault → List ℕ
fault_message name bytes f =
    faulty name (option_map (position_of bytes) (fault_place f)) (fault_words f)

-- the source of this name, with these bytes, states no program: this is the message of its first
-- fault
pub record Refuses (name bytes text : List ℕ) : Type 0 where
  pub fault : ProgramFault
  pub is_first : IsFault bytes fault
  pub message : text ≡ fault_message name bytes fault
