use Rattle.std.proofs.Common.{◌≡◌, ◌∙◌, ◌-◌, ◌++◌, ap, map, take, arith}
use Rattle.std.proofs.lemmas.Grind.{common_steps}
use Rattle.c_types.specs.Shown.{tree_of}
use Rattle.patch_space.specs.Space.{patch_of}
use Rattle.patch_space.proofs.SpaceLemmas.{take_room, patches_more}
use Rattle.patch_space.proofs.space.add_patches.Goals as goal

pub loop-i-preserved : goal.loop-i-preserved
loop-i-preserved c =
    let added : c.append.new.self.items ≡ take c.args.max (c.loop-i.patches.items ++ map (patch_of c.args.cost c.loop-i.i) c.in_ok-edits.edits.items) =
    c.in_ok-append.ensures.items ∙ ap (λ z. c.loop-i.patches.items ++ z) c.in_ok-more.ensures
    ∙ take_room (patch_of c.args.cost c.loop-i.i) c.args.max (c.args.max - c.len.result) c.loop-i.patches.items c.in_ok-edits.edits.items (omega arith) in (
      grind (arith, common_steps, added),
      patches_more c.args.max (tree_of c.args.program.now) c.args.cost c.args.locations.now c.loop-i.i _ c.in_ok-edits.edits.items c.loop-i.patches.items c.append.new.self.items _ (omega arith) c.in_ok-edits.ensures added c.loop-i.invariant.1,
    )
