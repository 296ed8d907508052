use Rattle.std.proofs.Common.{◌-◌}
use Rattle.c_grammar.specs.ProgramDescent.{program}
use Rattle.c_parse.specs.Gives.{outers}
use Rattle.c_parse.proofs.Turns.{ExternalsRead}
use Rattle.c_parse.proofs.program.parse_externals.Given as goal

abbrev pub invariant-loop-turn : goal.invariant-loop-turn
invariant-loop-turn l =
    ExternalsRead (program l.fn.cursor.room l.fn.cursor.rest.now) (outers l.externals) (l._turn-end - l._turn) l.cursor.room l.cursor.rest.now
