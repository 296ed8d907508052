-- That a job has one right answer at most, with one text.
use Rattle.std.specs.Prelude.{◌≡◌, ℕ, List}
use Rattle.repair_job.specs.Job.{Job}
use Rattle.repair_job.specs.Answers.{IsRight}
use Rattle.repair_job.specs.Texts.{IsText}
use Rattle.repair_job.specs.declared.answer.Answer.{Answer}

-- one answer at most is right for a job
abbrev pub OneAnswer : Type 0
OneAnswer = (job : Job) (a b : Answer) → IsRight job a → IsRight job b → a ≡ b

-- an answer has one text at most
abbrev pub OneText : Type 0
OneText = (job : Job) (a : Answer) (t u : List ℕ) → IsText job a t → IsText job a u → t ≡ u
