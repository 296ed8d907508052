use Rattle.run_laws.proofs.NoHoles.{ordered-none, no-hole-met}
use Rattle.run_laws.proofs.laws.ordered_programs_have_no_hole.Goals as goal

pub returns : goal.returns
returns c = record { none = ordered-none; unmet = no-hole-met }
