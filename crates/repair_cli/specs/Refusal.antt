-- The status and the message of each reason why there is no answer.
use Rattle.std.specs.Prelude.{ℕ, List}
use Rattle.repair_cli.specs.Faults.{fault_words}
use Rattle.repair_cli.specs.SuiteFaults.{suite_message}
use Rattle.repair_cli.specs.Texts.{usage, faulty, cannot_read, cannot_write, no_memory}
use Rattle.repair_cli.specs.declared.refusal.Refusal.{Refusal}
use Rattle.repair_cli.specs.declared.refusal.Refusal.TheVariants as reason
use Rattle.repair_cli.specs.declared.status.Status.{Status}
use Rattle.repair_cli.specs.declared.status.Status.TheVariants.{Usage, ProgramRefused, SuiteRefused, ReadFault, WriteFault, NoMemory}

-- the status
abbrev pub status_of : Refusal → Status
status_of reason.Usage = Usage
status_of (reason.Program name fault at) = ProgramRefused
status_of (reason.Suite name fault) = SuiteRefused
status_of (reason.Read name) = ReadFault
status_of reason.Write = WriteFault
status_of reason.Memory = NoMemory

-- the message
abbrev pub message_of : Refusal → List ℕ
message_of reason.Usage = usage
message_of (reason.Program name fault at) = faulty name.now at (fault_words fault)
message_of (reason.Suite name fault) = suite_message name.now fault
message_of (reason.Read name) = cannot_read name.now
message_of reason.Write = cannot_write
message_of reason.Memory = no_memory
