use Rattle.std.proofs.Common.{ℕ, arith}
use Rattle.c_types.specs.Shown.{tree_of}
use Rattle.patch_space.specs.Space.{costs, patches_from}
use Rattle.patch_space.proofs.SpaceLemmas.{costs_more}
use Rattle.patch_space.proofs.space.first_patches.Goals as goal

pub loop-cost-preserved : goal.loop-cost-preserved
loop-cost-preserved c =
    costs_more c.args.max (λ (cost : ℕ). patches_from (tree_of c.args.program.now) cost 0 c.args.locations.now) costs c.loop-cost.cost-index 0
    c.loop-cost.patches.items c.add_patches.new.patches.items _ (omega arith) c.in_ok-add_patches.ensures c.loop-cost.invariant.1
