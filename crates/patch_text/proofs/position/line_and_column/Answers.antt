use Rattle.std.proofs.Common.{arith, take}
use Rattle.std.proofs.lemmas.List.{length-take}
use Rattle.patch_text.proofs.Columns.{column_within}
use Rattle.patch_text.proofs.position.line_and_column.Goals as goal

pub overflow_add-column : goal.overflow_add-column
overflow_add-column c =
    let here = column_within (take c.min.result c.args.source.now) c.loop-i.i in
    let short = length-take c.min.result c.args.source.now in
    omega (arith, here, short, c.min.ensures, c.ranges.place.fits, c.loop-i.invariant.column, c.loop-i-test.true)
