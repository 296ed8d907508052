use Rattle.hole_laws.proofs.Stands.{holes_stand}
use Rattle.hole_laws.proofs.laws.holes_stand_at_locations.Goals as goal

pub returns : goal.returns
returns c =
    holes_stand c.each_names_one_place.ensures c.locations_rise.ensures c.scopes_agree.ensures.spots
