use Rattle.std.proofs.Common.{◌-◌}
use Rattle.c_grammar.specs.Terminals.{never}
use Rattle.c_grammar.specs.Descent.{all_listed}
use Rattle.c_grammar.specs.ProgramDescent.{param}
use Rattle.c_parse.proofs.Turns.{ListRead}
use Rattle.c_parse.proofs.program.parse_parameter_list.Given as goal

abbrev pub invariant-loop-turn : goal.invariant-loop-turn
invariant-loop-turn l =
    ListRead never (param l.fn.cursor.room) (all_listed never (param l.fn.cursor.room) l.fn.cursor.room l.fn.cursor.rest.now) l.params.items
    (l._turn-end - l._turn) l.cursor.room l.cursor.rest.now
