use Rattle.c_location.specs.Locations.{located}
use Rattle.c_location.proofs.Rises.{rising}
use Rattle.c_location.proofs.InOrder.{sound_program}
use Rattle.c_location.proofs.laws.locations_rise.Goals as goal

pub returns : goal.returns
returns c = λ from to p h. rising (located p) (sound_program h).rises
