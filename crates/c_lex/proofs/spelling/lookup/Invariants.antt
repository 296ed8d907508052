-- The answer lies in the rest of the table.
use Rattle.std.proofs.Common.{◌≡◌, map, drop}
use Rattle.c_lex.specs.Spellings.{lookup}
use Rattle.c_lex.proofs.spelling.lookup.Given as goal

abbrev pub invariant-loop-entry : goal.invariant-loop-entry
invariant-loop-entry g l = lookup (map (λ entry. (entry.0.now, entry.1)) (drop l.entry-index l.table)) l.word ≡ lookup (map (λ entry. (entry.0.now, entry.1)) l.table) l.word
