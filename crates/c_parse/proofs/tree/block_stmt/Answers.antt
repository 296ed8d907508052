use Rattle.std.proofs.Common.{ap, ◌∙◌}
use Rattle.c_tree.specs.Tree.{block}
use Rattle.c_tree.specs.Views.{body_of}
use Rattle.c_parse.proofs.Shapes.{node-Block}
use Rattle.c_parse.proofs.tree.block_stmt.Goals as goal

pub returns : goal.returns
returns c = node-Block c.args.items c.span_over.result ∙ ap (block (body_of c.args.items.items)) c.span_over.ensures
