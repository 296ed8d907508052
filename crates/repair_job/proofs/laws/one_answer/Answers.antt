use Rattle.repair_job.proofs.OneAnswer.{one_right, one_text}
use Rattle.repair_job.proofs.laws.one_answer.Goals as goal

pub returns-clause-answer : goal.returns-clause-answer
returns-clause-answer c = one_right

pub returns-clause-text : goal.returns-clause-text
returns-clause-text c = one_text
