use Rattle.std.proofs.Common.{◌≡◌, ℤ, w64, to_z, of_z, Bool, ◌∙◌, ap, pos, int_lt}
use Rattle.std.specs.Prelude.{◌||◌}
use Rattle.std.proofs.lemmas.Int.{to_z-of_z}
use Rattle.c_tree.specs.Views.{initial}
use Rattle.c_types.specs.declared.fault.FaultKind.TheVariants.{BadArrayLength}
use Rattle.c_types.specs.Least.{fault_if, least}
use Rattle.c_types.specs.Statements.{list_faults}
use Rattle.c_types.proofs.LeastLemmas.{joined}
use Rattle.c_types.proofs.declaration.written_faults.Goals as goal

pub returns : goal.returns
returns c =
    let same : to_z w64 (of_z w64 c.args.n) ≡ c.args.n = to_z-of_z w64 c.args.n c.ranges.n in
    let start = initial c.args.start.now in
    joined (fault_if (int_lt c.args.n (pos 1) || int_lt (pos 1048576) c.args.n) BadArrayLength c.args.span)
    (list_faults c.args.n start c.args.span)
    c.of_if-bad.result.fault c.list_faults.result.fault c.and.result.fault c.and.ensures
    (c.of_if-bad.ensures ∙ ap (λ (b : Bool). least (fault_if b BadArrayLength c.args.span))
    (c.is_bad_length.ensures ∙ ap (λ (z : ℤ). int_lt z (pos 1) || int_lt (pos 1048576) z) same))
    (c.list_faults.ensures ∙ ap (λ (z : ℤ). least (list_faults z start c.args.span)) same)
