use Rattle.run_laws.proofs.Programs.{arrays-passed}
use Rattle.run_laws.proofs.laws.arrays_are_passed_by_name.Goals as goal

pub returns : goal.returns
returns c = arrays-passed
