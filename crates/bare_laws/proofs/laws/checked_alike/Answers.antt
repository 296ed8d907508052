use Rattle.bare_laws.proofs.Programs.{checked}
use Rattle.bare_laws.proofs.laws.checked_alike.Goals as goal

pub returns : goal.returns
returns c =
    checked c.same_faults.ensures.none c.resolved_is_checked.ensures c.resolving_changes_slots.ensures.bare
