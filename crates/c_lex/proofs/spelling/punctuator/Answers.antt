-- Each entry of the table has its spelling, and each spelling its entry.
use Rattle.std.proofs.Common.{map, sym}
use Rattle.c_lex.specs.declared.spelling.TheConstants.{PUNCTUATORS}
use Rattle.c_lex.specs.Spellings.{punct_spelling}
use Rattle.c_lex.proofs.Spelled.{looked_up, punctuators_spelled, punctuator_listed}
use Rattle.c_lex.proofs.spelling.punctuator.Goals as goal

pub returns : goal.returns
returns c = looked_up punct_spelling (map (λ entry. (entry.0.now, entry.1)) PUNCTUATORS) c.args.word.now c.lookup.result punctuators_spelled punctuator_listed (sym c.lookup.ensures)
