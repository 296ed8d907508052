use Rattle.patch_space.proofs.EditsApplied.{edited_is_applied, test_is_applied}
use Rattle.patch_space.proofs.laws.edits_are_applied.Goals as goal

pub returns-clause-expression : goal.returns-clause-expression
returns-clause-expression c = edited_is_applied

pub returns-clause-test : goal.returns-clause-test
returns-clause-test c = test_is_applied
