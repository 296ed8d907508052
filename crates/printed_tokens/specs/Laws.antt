-- What holds of the text of a printed expression, and of the words of a program.
use Rattle.std.specs.Prelude.{◌≡◌, ℕ, true, List}
use Rattle.c_lex.specs.Tokens.{Macros}
use Rattle.c_tree.specs.Tree.{Tree, Outer, bare, is_pure}
use Rattle.c_grammar.specs.declared.nonterminal.Nonterminal.{Nonterminal}
use Rattle.c_grammar.specs.declared.nonterminal.Nonterminal.TheVariants.{Expression}
use Rattle.c_grammar.specs.Grammar.{Tokens, Reads}
use Rattle.c_grammar.specs.Programs.{Derives}
use Rattle.patch_text.specs.Printed.{printed}
use Rattle.c_splice.specs.Seams.{IsTight}
use Rattle.c_splice.specs.Words.{AllWorded}
use Rattle.c_replace.specs.Shapes.{Shaped}
use Rattle.printed_tokens.specs.PrintedKinds.{printed_kinds, Printable}
use Rattle.printed_tokens.specs.Safe.{IsSafe}
use Rattle.printed_tokens.specs.Sourced.{Sourced, SourcedProgram}

-- the text of a printable expression is cut into its tokens before a seam
abbrev pub CutIntoItsTokens : Type 0
CutIntoItsTokens = (m : Macros) (t : Tree) → Printable m t → IsTight m (printed t) (printed_kinds t)

-- it isn't empty, holds no trigraph and no line splice, and makes none with what follows it
abbrev pub MakesNoTrigraph : Type 0
MakesNoTrigraph = (m : Macros) (t : Tree) → Printable m t → IsSafe (printed t)

-- all tokens of its kinds derive it, but for spans, slots and the spelling of constants
abbrev pub TokensDeriveIt : Type 0
TokensDeriveIt =
    (m : Macros) (t : Tree) → Printable m t → Shaped Expression (printed_kinds t) (bare t)

-- the words of an expression are words of the tokens that it is derived from
abbrev pub ExpressionsSourced : Type 0
ExpressionsSourced = (m : Macros) (N : Nonterminal) (r q : ℕ) (a b : Tokens) (t : Tree)
    → Reads N r a q b t → AllWorded m a → Sourced m t

-- the words of a program are words of the tokens that it is derived from
abbrev pub ProgramsSourced : Type 0
ProgramsSourced = (m : Macros) (r : ℕ) (a : Tokens) (p : List Outer)
    → Derives r a p → AllWorded m a → SourcedProgram m p

-- a pure expression whose words are each its token is printable
abbrev pub PurePrints : Type 0
PurePrints = (m : Macros) (t : Tree) → is_pure t ≡ true → Sourced m t → Printable m t
