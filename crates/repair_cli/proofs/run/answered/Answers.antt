use Rattle.repair_cli.specs.Jobs.{job_of}
use Rattle.repair_cli.proofs.run.answered.Goals as goal

pub returns-in-Ok-settled-clause-answered : goal.returns-in-Ok-settled-clause-answered
returns-in-Ok-settled-clause-answered g c =
    let reply = c.in-Ok-settled.ensures in
    record { job = job_of c.in-Ok.job; stated = c.in-Ok.ensures.gathered.0; right = reply.right; is_text = reply.text }
