use Rattle.c_location.specs.Locations.{located, locations}
use Rattle.c_location.proofs.Rises.{rising, same_start}
use Rattle.c_location.proofs.InOrder.{sound_program}
use Rattle.c_location.proofs.laws.one_location_at_each_byte.Goals as goal

pub returns : goal.returns
returns c = λ from to p a b h in_a in_b same.
    same_start (locations p) a b in_a.0 in_b.0 (rising (located p) (sound_program h).rises) in_a.1 in_b.1 in_a.2 in_b.2 same
