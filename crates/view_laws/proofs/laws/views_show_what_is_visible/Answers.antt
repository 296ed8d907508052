use Rattle.view_laws.proofs.Views.{states_show, views_read}
use Rattle.view_laws.proofs.laws.views_show_what_is_visible.Goals as goal

pub returns : goal.returns
returns c =
    let states =
    states_show c.machines_follow.ensures c.waiting_states_show_what_is_visible.ensures.filled in
    record { states = states; views = views_read states }
