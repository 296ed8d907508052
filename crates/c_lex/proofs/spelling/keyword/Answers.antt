-- Each entry of the table has its spelling, and each spelling its entry.
use Rattle.std.proofs.Common.{map, sym}
use Rattle.c_lex.specs.declared.spelling.TheConstants.{KEYWORDS}
use Rattle.c_lex.specs.Spellings.{keyword_spelling}
use Rattle.c_lex.proofs.Spelled.{looked_up, keywords_spelled, keyword_listed}
use Rattle.c_lex.proofs.spelling.keyword.Goals as goal

pub returns : goal.returns
returns c = looked_up keyword_spelling (map (λ entry. (entry.0.now, entry.1)) KEYWORDS) c.args.word.now c.lookup.result keywords_spelled keyword_listed (sym c.lookup.ensures)
