use Rattle.c_parse.proofs.Shapes.{node-Call}
use Rattle.c_parse.proofs.tree.call_expr.Goals as goal

pub returns : goal.returns
returns c = node-Call c.args.word c.args.args c.args.span
