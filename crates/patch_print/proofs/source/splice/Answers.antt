-- The text with a candidate is read as the program with it.
use Rattle.std.proofs.Common.{◌≡◌, subst, IfOk}
use Rattle.c_types.specs.Shown.{tree_of}
use Rattle.patch_reread.specs.Texts.{text_with_change}
use Rattle.patch_print.proofs.Candidates.{given_reads}
use Rattle.patch_print.proofs.source.splice.Goals as goal

pub returns-clause-read_again : goal.returns-clause-read_again
returns-clause-read_again c =
    given_reads c.patches_read_again.ensures c.args.source.now (tree_of c.args.program.now)
    c.args.loc.now c.args.edit.now c.source_with.result
    (subst
    (λ o. IfOk c.source_with.result (λ text. text.items ≡ text_with_change c.args.source.now o))
    c.in_ok-there.ensures c.source_with.ensures)
