use Rattle.std.proofs.Common.{subst, sym, arith}
use Rattle.std.specs.Prelude.{IsSome}
use Rattle.std.specs.List.{All}
use Rattle.c_types.specs.Shown.{tree_of}
use Rattle.schemas.specs.declared.edit.Edit.{Edit}
use Rattle.schemas.specs.Candidates.{made_at}
use Rattle.patching_tests.proofs.edits.made.Goals as goal

-- each candidate can be made, and the edit is the one of that number
pub edited-requires : goal.edited-requires
edited-requires c =
    let made = λ (edit : Edit). IsSome (made_at (tree_of c.args.program.now) c.args.loc.now edit) in
    let all = subst (All made) (sym c.in_ok-edits.ensures) (c.candidates_can_be_made.ensures (tree_of c.args.program.now) c.args.loc.now c.args.cost) in
    subst made (sym c.index.ensures)
    (all c.args.i c.index.result.now (omega arith))
