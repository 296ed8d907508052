use Rattle.hole_laws.proofs.Shows.{runs_show, filled_show}
use Rattle.hole_laws.proofs.laws.waiting_states_show_what_is_visible.Goals as goal

pub returns : goal.returns
returns c =
    let runs =
    runs_show c.holed_is_checked.ensures c.holes_stand_at_locations.ensures c.names_are_resolved.ensures c.holes_are_typed.ensures.objects c.holes_are_typed.ensures.numbers c.typed_states_show_variables.ensures in
    record { runs = runs; filled = filled_show runs }
