use Rattle.std.proofs.Common.{◌-◌}
use Rattle.c_tree.specs.Views.{tree}
use Rattle.c_grammar.specs.Descent.{run, commas}
use Rattle.c_parse.proofs.Turns.{CommasRead}
use Rattle.c_parse.proofs.expression.ExpressionParser.parse_comma_rest.Given as goal

abbrev pub invariant-loop-turn : goal.invariant-loop-turn
invariant-loop-turn g l =
    CommasRead (run l.self.depth) (commas (run l.self.depth) l.self.turns (tree l.fn.left, l.fn.unary) l.fn.cursor.room l.fn.cursor.rest.now)
    (l._turn-end - l._turn) (tree l.left, l.unary) l.cursor.room
    l.cursor.rest.now
