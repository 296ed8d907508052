-- The line is that of the change that the patch of the rank makes.
use Rattle.std.proofs.Common.{◌≡◌, subst, IfOk}
use Rattle.c_types.specs.Shown.{tree_of}
use Rattle.patch_space.specs.Shown.{located_change}
use Rattle.patch_print.proofs.LineOfRank.{line_made}
use Rattle.patch_print.proofs.line.edit_line.Goals as goal

pub returns : goal.returns
returns c =
    subst (λ t. IfOk c.line_with_change.result (λ line. line ≡ t))
    (line_made c.args.source.now (tree_of c.args.program.now) c.args.space.now c.args.i
    c.patch.result.now (located_change c.in_ok-there.there) c.patch.ensures
    c.in_ok-there.ensures.made)
    c.line_with_change.ensures
