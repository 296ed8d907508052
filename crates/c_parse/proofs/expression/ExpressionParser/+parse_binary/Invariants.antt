use Rattle.c_parse.proofs.expression.ExpressionParser.+parse_binary.Given as goal

abbrev pub decreases-parse_binary : goal.decreases-parse_binary
decreases-parse_binary g l = l.rank
