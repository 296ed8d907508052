-- The number of bytes.
use Rattle.std.proofs.Common.{◌≡◌, ◌-◌, ◌<◌, ◌^◌, pos, length, ap, ◌∙◌, arith, w64}
use Rattle.std.proofs.lemmas.Int.{to_z_pos}
use Rattle.c_stdio.specs.Io.{Io}
use Rattle.c_stdio.specs.Output.{expected_after}
use Rattle.c_stdio.specs.Formats.{text}
use Rattle.c_stdio.proofs.Writing.{count}
use Rattle.c_stdio.proofs.io.TestIo.print.Goals as goal

pub returns-clause-count : goal.returns-clause-count
returns-clause-count c =
    let t = text c.args.format.now c.args.args.now in
    let first = c.args.self.now.expected in
    let before : c.self.inside.expected.now ≡ first = ap (λ (io : Io). io.expected) c.self.view_is in
    let after : c.self-2.inside.expected.now ≡ expected_after t first = ap (λ (io : Io). io.expected) c.self-2.view_is ∙ ap (λ (io : Io). io.expected) c.if-not-put_format.ensures.state in
    let small : length c.self.inside.expected.now - length c.self-2.inside.expected.now < 2 ^ 63 = omega arith in
    count t first c.self-2.inside.expected.now _ c.if-not-put_format.ensures.expected after (to_z_pos w64 _ small ∙ ap (λ e. pos (length e - length c.self-2.inside.expected.now)) before)
