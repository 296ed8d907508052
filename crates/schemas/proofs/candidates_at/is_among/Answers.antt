use Rattle.std.proofs.Common.{ap, sym, ◌∙◌, option_map}
use Rattle.c_tree.specs.Views.{tree, trees}
use Rattle.schemas.specs.Candidates.{is_among}
use Rattle.schemas.specs.Same.{same}
use Rattle.schemas.proofs.CandidateLemmas.{any-map}
use Rattle.schemas.proofs.candidates_at.is_among.Goals as goal

pub returns-in-Some : goal.returns-in-Some
returns-in-Some c =
    c.is_same_as_one.ensures ∙ sym (any-map (same (tree c.in-Some.e)) tree c.args.seen.now)
    ∙ ap (λ o. is_among (option_map tree o) (trees c.args.seen.now)) (sym c.in-Some.is)
