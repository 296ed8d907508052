-- How a call may end.
use Rattle.std.specs.Prelude.{◌⊎◌, ℕ, List, []}
use Rattle.repair_job.specs.Job.{Job}
use Rattle.repair_job.specs.Answers.{IsRight}
use Rattle.repair_job.specs.Texts.{IsText}
use Rattle.repair_job.specs.declared.answer.Answer.{Answer}
use Rattle.repair_job.specs.declared.answer.Answer.TheVariants as answer
use Rattle.repair_cli.specs.Sinks.{Seen, Takes, Breaks, TakesOrBreaks}
use Rattle.repair_cli.specs.Source.{Source, States, Cause}
use Rattle.repair_cli.specs.Texts.{cannot_write}
use Rattle.repair_cli.specs.declared.status.Status.{Status}
use Rattle.repair_cli.specs.declared.status.Status.TheVariants.{Patched, Nothing, Sound, Usage, ProgramRefused, SuiteRefused, ReadFault, WriteFault, NoMemory}

-- the words and the files state a job for which this answer is right, and this is its text
pub record IsAnswer (source : Source) (answer : Answer) (text : List ℕ) : Type 0 where
  pub job : Job
  pub stated : States source job
  pub right : IsRight job answer
  pub is_text : IsText job answer text

-- the status of an answer
abbrev pub status_of_answer : Answer → Status
status_of_answer answer.Sound = Sound
status_of_answer (answer.Patch rank) = Patched
status_of_answer answer.Nothing = Nothing

-- the right answer was written, and no message
pub record Answered (source : Source) (out err : Seen) (answer : Answer) : Type 0 where
  pub text : List ℕ
  pub right : IsAnswer source answer text
  pub written : Takes out text
  pub silent : Takes err []

-- there is no answer for this cause, and its message was written
pub record Refused (source : Source) (out err : Seen) (status : Status) : Type 0 where
  pub text : List ℕ
  pub cause : Cause source status text
  pub silent : Takes out []
  pub written : Takes err text

-- the write of the right answer failed, and the message of that was written, or its write failed
-- too
pub record AnswerBreaks (source : Source) (out err : Seen) : Type 0 where
  pub answer : Answer
  pub text : List ℕ
  pub right : IsAnswer source answer text
  pub broken : Breaks out text
  pub written : TakesOrBreaks err cannot_write

-- there is no answer for some cause, and the write of its message failed
pub record MessageBreaks (source : Source) (out err : Seen) : Type 0 where
  pub status : Status
  pub text : List ℕ
  pub cause : Cause source status text
  pub silent : Takes out []
  pub broken : Breaks err text

-- how a call may end, by its status
abbrev pub Ends : Source → Seen → Seen → Status → Type 0
Ends source out err Patched = (rank : ℕ) × Answered source out err (answer.Patch rank)
Ends source out err Nothing = Answered source out err answer.Nothing
Ends source out err Sound = Answered source out err answer.Sound
Ends source out err Usage = Refused source out err Usage
Ends source out err ProgramRefused = Refused source out err ProgramRefused
Ends source out err SuiteRefused = Refused source out err SuiteRefused
Ends source out err ReadFault = Refused source out err ReadFault
Ends source out err WriteFault = AnswerBreaks source out err ⊎ MessageBreaks source out err
Ends source out err NoMemory = Refused source out err NoMemory
