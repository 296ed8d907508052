-- Which programs and suites are accepted.
use Rattle.std.specs.Prelude.{◌≡◌, ℕ, ◌≤◌, List, [], length, Ok}
use Rattle.c_tree.specs.Tree.{Outer}
use Rattle.c_lex.specs.Tokens.{Lexes}
use Rattle.c_grammar.specs.Grammar.{Tokens}
use Rattle.c_grammar.specs.Programs.{Derives, max_nesting}
use Rattle.c_types.specs.Programs.{program_faults}
use Rattle.c_types.specs.Slots.{resolved}
use Rattle.c_stdio.specs.declared.test.Test.{Test}
use Rattle.test_suite.specs.Suite.{stated}
use Rattle.repair_job.specs.Patches.{HasFewLocations}
use Rattle.repair_cli.specs.Limits.{source_limit, suite_limit}

-- a source is no longer than one may be
abbrev pub IsShort : List ℕ → Type 0
IsShort bytes = length bytes ≤ source_limit

-- a source has these tokens: it is short, and is cut into them
pub record IsCut (bytes : List ℕ) (tokens : Tokens) : Type 0 where
  pub short : IsShort bytes
  pub cut : Lexes bytes (Ok tokens)

-- a source has this tree: its tokens derive it with nesting at most 64
pub record IsRead (bytes : List ℕ) (tree : List Outer) : Type 0 where
  pub tokens : Tokens
  pub cut : IsCut bytes tokens
  pub derived : Derives max_nesting tokens tree

-- a tree, of a source of that length, keeps the rules of scopes and kinds (C11 6.2, 6.5 to 6.9)
abbrev pub IsWellTyped : ℕ → List Outer → Type 0
IsWellTyped end tree = program_faults tree end ≡ []

-- a tree, of a source of that length, is that program: it keeps the rules of scopes and kinds, and
-- the program is the tree with the variable that each name denotes; it has few locations
pub record IsRunnable (end : ℕ) (tree program : List Outer) : Type 0 where
  pub typed : IsWellTyped end tree
  pub is_resolved : program ≡ resolved tree
  pub few : HasFewLocations program

-- a source states a program: it has a tree that is the program
pub record IsProgram (bytes : List ℕ) (program : List Outer) : Type 0 where
  pub tree : List Outer
  pub read : IsRead bytes tree
  pub runnable : IsRunnable (length bytes) tree program

-- these bytes, which are not too many, state these tests, each of which may take so many units
pub record IsSuite (bytes : List ℕ) (tests : List Test) (limit : ℕ) : Type 0 where
  pub short : length bytes ≤ suite_limit
  pub states : stated bytes ≡ Ok (record { tests = tests; limit = limit })
