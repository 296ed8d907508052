-- So many spaces stand after the line already.
use Rattle.std.proofs.Common.{◌≡◌, ◌++◌}
use Rattle.c_lex.specs.Directives.{spaces}
use Rattle.c_lex.proofs.line.push_spaces.Given as goal

abbrev pub invariant-loop : goal.invariant-loop
invariant-loop l = l.line.items ≡ l.initial.line.items ++ spaces l.counter
