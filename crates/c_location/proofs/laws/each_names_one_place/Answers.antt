use Rattle.c_location.proofs.Found.{names}
use Rattle.c_location.proofs.laws.each_names_one_place.Goals as goal

pub returns : goal.returns
returns c = λ from to p l h among. names p l h among
