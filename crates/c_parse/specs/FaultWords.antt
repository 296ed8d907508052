-- Where a fault of a list of tokens stands, and what is said of it.
use Rattle.std.specs.Prelude.{ℕ, List, Option, Some, None, codes}
use Rattle.c_parse.specs.declared.fault.ParseFault.{ParseFault}
use Rattle.c_parse.specs.declared.fault.ParseFault.TheVariants.{Unexpected, TooDeep, NoMemory}

-- its place in the source; out of memory has none
abbrev pub fault_place : ParseFault → Option ℕ
fault_place (Unexpected place) = Some place
fault_place (TooDeep place) = Some place
fault_place NoMemory = None

-- its words
abbrev pub fault_words : ParseFault → List ℕ
fault_words (Unexpected place) = codes "unexpected token"
fault_words (TooDeep place) = codes "nested too deep"
fault_words NoMemory = codes "out of memory"
