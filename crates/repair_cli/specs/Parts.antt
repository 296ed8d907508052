-- What the parts of a call do: reading a file, writing an answer and writing a message.
use Rattle.std.specs.Prelude.{◌≡◌, ◌≢◌, ◌⊎◌, ℕ, List, []}
use Rattle.repair_job.specs.declared.answer.Answer.{Answer}
use Rattle.repair_cli.specs.Ends.{status_of_answer}
use Rattle.repair_cli.specs.Faults.{IsFault, Refuses}
use Rattle.repair_cli.specs.Sinks.{Seen, Takes, Breaks, TakesOrBreaks}
use Rattle.repair_cli.specs.Source.{File, IsUnreadable, HoldsNoProgram, HoldsNoSuite}
use Rattle.repair_cli.specs.SuiteFaults.{StatesNoSuite}
use Rattle.repair_cli.specs.Texts.{cannot_read, cannot_write, no_memory}
use Rattle.repair_cli.specs.declared.fault.ProgramFault.{ProgramFault}
use Rattle.repair_cli.specs.declared.fault.ProgramFault.TheVariants as fault
use Rattle.repair_cli.specs.declared.status.Status.{Status}
use Rattle.repair_cli.specs.declared.status.Status.TheVariants.{ProgramRefused, SuiteRefused, ReadFault, WriteFault, NoMemory}

-- this is the first fault of the source, unless memory ran out, which may come at any time
abbrev pub IsFaultUnless : List ℕ → ProgramFault → Type 0
IsFaultUnless bytes f = f ≢ fault.NoMemory → IsFault bytes f

-- the refusal of the source of this name, with these bytes; running out of memory has no cause
abbrev pub IsRefusal : List ℕ → List ℕ → Status → List ℕ → Type 0
IsRefusal name bytes ProgramRefused text = Refuses name bytes text
IsRefusal name bytes NoMemory text = text ≡ no_memory
IsRefusal name bytes _ text = ⊥

-- why the file gave no program, by the status, with its message
abbrev pub GivesNoProgram : File → Status → List ℕ → Type 0
GivesNoProgram file ReadFault text = IsUnreadable file × (text ≡ cannot_read file.name)
GivesNoProgram file ProgramRefused text = HoldsNoProgram file text
GivesNoProgram file NoMemory text = text ≡ no_memory
GivesNoProgram file _ text = ⊥

-- the refusal of the suite of this name, with these bytes; running out of memory has no cause
abbrev pub IsSuiteRefusal : List ℕ → List ℕ → Status → List ℕ → Type 0
IsSuiteRefusal name bytes SuiteRefused text = StatesNoSuite name bytes text
IsSuiteRefusal name bytes NoMemory text = text ≡ no_memory
IsSuiteRefusal name bytes _ text = ⊥

-- why the file gave no suite, by the status, with its message
abbrev pub GivesNoSuite : File → Status → List ℕ → Type 0
GivesNoSuite file ReadFault text = IsUnreadable file × (text ≡ cannot_read file.name)
GivesNoSuite file SuiteRefused text = HoldsNoSuite file text
GivesNoSuite file NoMemory text = text ≡ no_memory
GivesNoSuite file _ text = ⊥

-- the text was written, with this status, or its write failed
abbrev pub Writes : Seen → List ℕ → Status → Status → Type 0
Writes err text status result =
    ((result ≡ status) × Takes err text) ⊎ ((result ≡ WriteFault) × Breaks err text)

-- the text of an answer was written, and no message; or its write failed, and the message of that
-- was written, or not
abbrev pub Reports : Seen → Seen → Answer → List ℕ → Status → Type 0
Reports out err answer text result =
    ((result ≡ status_of_answer answer) × Takes out text × Takes err [])
    ⊎ ((result ≡ WriteFault) × Breaks out text × TakesOrBreaks err cannot_write)
