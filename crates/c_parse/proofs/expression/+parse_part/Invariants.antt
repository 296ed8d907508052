use Rattle.c_parse.proofs.expression.+parse_part.Given as goal

abbrev pub decreases-parse_part : goal.decreases-parse_part
decreases-parse_part l = l.depth
