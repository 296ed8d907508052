-- Where a fault of a text stands, and what is said of it.
use Rattle.std.specs.Prelude.{ℕ, List, Option, Some, None, codes}
use Rattle.c_lex.specs.declared.fault.LexFault.{LexFault}
use Rattle.c_lex.specs.declared.fault.LexFault.TheVariants as fault

-- its place in the text; out of memory has none
abbrev pub place_of : LexFault → Option ℕ
place_of (fault.StrayByte place) = Some place
place_of (fault.OpenComment place) = Some place
place_of (fault.OpenLiteral place) = Some place
place_of (fault.BadConstant place) = Some place
place_of (fault.ConstantTooLarge place) = Some place
place_of (fault.DirectiveLate place) = Some place
place_of (fault.DirectiveUnknown place) = Some place
place_of (fault.MacroTwice place) = Some place
place_of (fault.Digraph place) = Some place
place_of (fault.LineSplice place) = Some place
place_of (fault.Trigraph place) = Some place
place_of fault.NoMemory = None

-- its words
abbrev pub words_of : LexFault → List ℕ
words_of (fault.StrayByte place) = codes "stray byte"
words_of (fault.OpenComment place) = codes "comment is not closed"
words_of (fault.OpenLiteral place) = codes "literal is not closed"
words_of (fault.BadConstant place) = codes "bad constant"
words_of (fault.ConstantTooLarge place) = codes "constant too large"
words_of (fault.DirectiveLate place) = codes "directive after the first declaration"
words_of (fault.DirectiveUnknown place) = codes "unknown directive"
words_of (fault.MacroTwice place) = codes "macro defined twice"
words_of (fault.Digraph place) = codes "digraph"
words_of (fault.LineSplice place) = codes "line splice"
words_of (fault.Trigraph place) = codes "trigraph"
words_of fault.NoMemory = codes "out of memory"
