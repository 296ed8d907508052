-- The exit status of each way to end.
use Rattle.std.specs.Prelude.{ℕ}
use Rattle.repair_cli.specs.declared.status.Status.{Status}
use Rattle.repair_cli.specs.declared.status.Status.TheVariants.{Patched, Nothing, Sound, Usage, ProgramRefused, SuiteRefused, ReadFault, WriteFault, NoMemory}

-- the number of a status
abbrev pub number_of : Status → ℕ
number_of Patched = 0
number_of Nothing = 1
number_of Sound = 2
number_of Usage = 3
number_of ProgramRefused = 4
number_of SuiteRefused = 5
number_of ReadFault = 6
number_of WriteFault = 7
number_of NoMemory = 8
