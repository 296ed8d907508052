use Rattle.std.proofs.Common.{◌≡◌, ℕ, ℤ, w64, to_z, of_z, Bool, ◌∙◌, ap, pos, int_lt}
use Rattle.std.specs.Prelude.{◌&&◌}
use Rattle.std.proofs.lemmas.Int.{to_z-of_z}
use Rattle.c_tree.specs.Views.{initial}
use Rattle.c_types.specs.declared.fault.FaultKind.TheVariants.{WrongCount}
use Rattle.c_types.specs.Least.{fault_if, least}
use Rattle.c_types.specs.Statements.{is_list}
use Rattle.c_types.proofs.declaration.list_faults.Goals as goal

pub returns : goal.returns
returns c =
    let same : to_z w64 (of_z w64 c.args.n) ≡ c.args.n = to_z-of_z w64 c.args.n c.ranges.n in
    let start = initial c.args.start.now in
    c.of_if.ensures
    ∙ ap (λ (b : Bool). least (fault_if (b && c.is_below-below.result) WrongCount c.args.span)) c.is_list-list.ensures
    ∙ ap (λ (b : Bool). least (fault_if (is_list start && b) WrongCount c.args.span))
    (c.is_below-below.ensures ∙ ap (λ (z : ℤ). int_lt z (pos c.elements.result)) same
    ∙ ap (λ (k : ℕ). int_lt c.args.n (pos k)) c.elements.ensures)
