use Rattle.std.proofs.Common.{sym, refl, ◌∙◌}
use Rattle.c_types.specs.Shown.{tree_of}
use Rattle.patch_space.proofs.space.candidates_there.Goals as goal

pub returns : goal.returns
returns c =
    c.new.ensures.items
    ∙ sym (c.has_cost.ensures c.if-has_cost.false (tree_of c.args.program.now) c.args.location.now refl)
