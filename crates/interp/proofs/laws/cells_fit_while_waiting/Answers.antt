use Rattle.interp.proofs.Filling.{filled_fits}
use Rattle.interp.proofs.laws.cells_fit_while_waiting.Goals as goal

pub returns : goal.returns
returns c = filled_fits
