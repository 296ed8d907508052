use Rattle.std.proofs.Common.{ap, ◌∙◌}
use Rattle.c_tree.specs.Tree.{next, done}
use Rattle.c_tree.specs.Views.{tree}
use Rattle.c_location.proofs.ChangeLemmas.{guarded_block}
use Rattle.c_location.proofs.change.guarded.Goals as goal

pub returns : goal.returns
returns c =
    guarded_block (tree c.args.test.now) c.args.node c.args.span c.in_ok-alone.field-0 (c.in_ok-alone.ensures ∙ ap (λ code. next code done) c.in_ok-node.ensures)
