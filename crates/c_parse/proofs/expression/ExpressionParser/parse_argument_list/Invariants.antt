use Rattle.std.proofs.Common.{◌-◌, map}
use Rattle.c_parse.specs.Gives.{given}
use Rattle.c_grammar.specs.Terminals.{never}
use Rattle.c_grammar.specs.Descent.{argument, run, all_listed}
use Rattle.c_parse.proofs.Turns.{ListRead}
use Rattle.c_parse.proofs.expression.ExpressionParser.parse_argument_list.Given as goal

abbrev pub invariant-loop-turn : goal.invariant-loop-turn
invariant-loop-turn g l =
    ListRead never (argument (run l.self.depth) l.fn.cursor.room)
    (all_listed never (argument (run l.self.depth) l.fn.cursor.room) l.fn.cursor.room l.fn.cursor.rest.now) (map given l.args.items) (l._turn-end - l._turn)
    l.cursor.room l.cursor.rest.now
