use Rattle.std.proofs.Common.{◌≡◌, rules, arith}
use Rattle.c_location.specs.Shown.{lent}
use Rattle.c_tree.specs.Views.{trees}
use Rattle.schemas.specs.Candidates.{edits_of, and_all_made}
use Rattle.schemas.proofs.CandidateLemmas.{costs_more}
use Rattle.schemas.proofs.candidates_at.before.Goals as goal

pub loop-lower-preserved : goal.loop-lower-preserved
loop-lower-preserved c =
    let made : trees c.add_all_made.new.seen.items ≡ and_all_made (lent c.args.part.now) (trees c.loop-lower.seen.items) (edits_of c.args.kind c.args.atoms.now (lent c.args.part.now) c.loop-lower.lower) = search rules in
    costs_more c.args.kind c.args.atoms.now (lent c.args.part.now) c.loop-lower.lower (trees c.loop-lower.seen.items) (trees c.add_all_made.new.seen.items) (omega arith) made c.loop-lower.invariant
