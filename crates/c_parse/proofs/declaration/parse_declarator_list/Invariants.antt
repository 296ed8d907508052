use Rattle.std.proofs.Common.{◌-◌, map}
use Rattle.c_tree.specs.Views.{variable}
use Rattle.c_grammar.specs.Terminals.{never}
use Rattle.c_grammar.specs.Descent.{all_listed}
use Rattle.c_grammar.specs.ProgramDescent.{declarator}
use Rattle.c_parse.proofs.Turns.{ListRead}
use Rattle.c_parse.proofs.declaration.parse_declarator_list.Given as goal

abbrev pub invariant-loop-turn : goal.invariant-loop-turn
invariant-loop-turn l =
    ListRead never (declarator l.fn.cursor.room) (all_listed never (declarator l.fn.cursor.room) l.fn.cursor.room l.fn.cursor.rest.now)
    (map variable l.variables.items) (l._turn-end - l._turn) l.cursor.room l.cursor.rest.now
