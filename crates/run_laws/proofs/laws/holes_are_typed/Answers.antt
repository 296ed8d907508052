use Rattle.run_laws.proofs.Programs.{holes-typed, holes-fit}
use Rattle.run_laws.proofs.laws.holes_are_typed.Goals as goal

pub returns : goal.returns
returns c = record { objects = holes-typed; numbers = holes-fit }
