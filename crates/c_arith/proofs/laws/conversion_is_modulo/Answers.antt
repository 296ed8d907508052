use Rattle.c_arith.proofs.Conversions.{conversion_fits, conversion_modulo, conversion_unique}
use Rattle.c_arith.proofs.laws.conversion_is_modulo.Goals as goal

pub returns : goal.returns
returns c = record { fits = conversion_fits; modulo = conversion_modulo; unique = conversion_unique }
