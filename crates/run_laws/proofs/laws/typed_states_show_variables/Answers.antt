use Rattle.run_laws.proofs.Programs.{states-show}
use Rattle.run_laws.proofs.laws.typed_states_show_variables.Goals as goal

pub returns : goal.returns
returns c = states-show
