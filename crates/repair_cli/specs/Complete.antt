-- Where no call fails: the files are there, and the sinks have room.
use Rattle.std.specs.Prelude.{ℕ, ◌+◌, ◌≤◌, List, length, Option, Some, None}
use Rattle.fx_io.specs.Held.{Lacks}
use Rattle.repair_job.specs.declared.answer.Answer.{Answer}
use Rattle.repair_cli.specs.Ends.{IsAnswer}
use Rattle.repair_cli.specs.Source.{Files, Source}
use Rattle.repair_cli.specs.Texts.{usage}
use Rattle.repair_cli.specs.Words.{Command, repair, command_in}
use Rattle.repair_cli.specs.declared.refusal.Refusal.{Refusal}
use Rattle.repair_cli.specs.declared.refusal.Refusal.TheVariants as reason
use Rattle.repair_cli.specs.declared.status.Status.{Status}
use Rattle.repair_cli.specs.declared.status.Status.TheVariants as status

-- both files that a command names are there; no command names none
abbrev pub HasNamed : Option Files → Option Command → Type 0
HasNamed held None = Unit {0}
HasNamed held (Some (repair asked)) = ¬ Lacks held asked.program × ¬ Lacks held asked.suite

-- both files that the words name are there
abbrev pub HasFiles : Source → Type 0
HasFiles source = HasNamed source.held (command_in source.words)

-- so much room is enough for the text of the right answer, whichever it is
abbrev pub HasRoom : Source → ℕ → Type 0
HasRoom source room =
    (answer : Answer) (text : List ℕ) → IsAnswer source answer text → length text ≤ room

-- no message of a command is longer
abbrev pub longest_of : Option Command → ℕ
longest_of None = length usage
longest_of (Some (repair asked)) = 64 + length asked.program + length asked.suite

-- no message of a call with these words is longer
abbrev pub longest : Source → ℕ
longest source = longest_of (command_in source.words)

-- P, if the refusal is a failed read
abbrev pub OnRead : Refusal → Type 0 → Type 0
OnRead (reason.Read name) P = P
OnRead _ P = Unit {0}

-- neither a read nor a write failed
abbrev pub IsFaultless : Status → Type 0
IsFaultless status.ReadFault = ⊥
IsFaultless status.WriteFault = ⊥
IsFaultless _ = Unit {0}
