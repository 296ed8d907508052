use Rattle.std.proofs.Common.{◌-◌}
use Rattle.c_tree.specs.Views.{tree}
use Rattle.c_grammar.specs.Descent.{run, operators}
use Rattle.c_parse.proofs.Turns.{OperatorsRead}
use Rattle.c_parse.proofs.expression.ExpressionParser.parse_binary_rest.Given as goal

abbrev pub invariant-loop-turn : goal.invariant-loop-turn
invariant-loop-turn g l =
    OperatorsRead (run l.self.depth) l.below (operators (run l.self.depth) l.self.turns l.below (tree l.fn.left, l.fn.unary) l.fn.cursor.room
    l.fn.cursor.rest.now) (l._turn-end - l._turn) (tree l.left, l.unary) l.cursor.room
    l.cursor.rest.now
