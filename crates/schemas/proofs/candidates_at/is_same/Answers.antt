use Rattle.std.proofs.lemmas.Bool.Decides.{same_from_decides}
use Rattle.c_tree.specs.Views.{tree}
use Rattle.schemas.proofs.SameLemmas.{same-Decides}
use Rattle.schemas.proofs.candidates_at.is_same.Goals as goal

pub returns : goal.returns
returns c = same_from_decides _ _ c.same_expr.ensures (same-Decides (tree c.args.a.now) (tree c.args.b.now))
