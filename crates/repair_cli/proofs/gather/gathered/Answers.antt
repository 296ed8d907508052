use Rattle.std.proofs.Common.{◌∙◌, Some, sym, ap}
use Rattle.repair_cli.specs.Jobs.{job_of}
use Rattle.repair_cli.specs.Words.{Command, asked_of, words_of}
use Rattle.repair_cli.proofs.Steps.{suite_fails, suite_held, job_states}
use Rattle.repair_cli.proofs.gather.gathered.Goals as goal

pub returns-in-Err-suite_named-clause-gathered : goal.returns-in-Err-suite_named-clause-gathered
returns-in-Err-suite_named-clause-gathered g c =
    let program = c.in-Ok.ensures in
    let valid = sym c.in-Some.ensures ∙ ap (λ (x : Command). Some x) c.asked_by-asked.ensures in
    suite_fails (words_of c.args.words.now) _ _ _ _ _ (asked_of c.asked_by-asked.result) _ _ _ _ valid program.program program.held program.faults c.in-Err-suite_named.ensures.refusal

pub returns-clause-gathered : goal.returns-clause-gathered
returns-clause-gathered g c =
    let program = c.in-Ok.ensures in
    let job = c.job_with.ensures in
    let valid = sym c.in-Some.ensures ∙ ap (λ (x : Command). Some x) c.asked_by-asked.ensures in
    job_states _ (asked_of c.asked_by-asked.result) (job_of c.job_with.result) _ _ _ _ valid program.program program.ordered
    (suite_held _ _ _ 0 0 0 _ _ program.held c.in-Ok-suite_named.ensures.suite)
    job.source job.program job.tests job.limit job.patches job.shown
