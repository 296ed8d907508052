use Rattle.std.proofs.Common.{rules, subst, sym, arith}
use Rattle.std.proofs.lemmas.List.{take_all}
use Rattle.std.proofs.lemmas.List.Elements.{All-more, All-same}
use Rattle.c_types.specs.Shown.{tree_of}
use Rattle.repair_job.specs.Job.{Passes}
use Rattle.repair_cli.specs.Jobs.{job_of}
use Rattle.repair_cli.proofs.search.passes_all.Goals as goal

pub tests-preserved : goal.tests-preserved
tests-preserved c =
    let job = job_of c.args.job.now in
    let program = tree_of c.args.program.now in
    let passed : Passes job program c.test-item.result = search rules in
    All-more (Passes job program) c.deref-tests.result.now c.tests.test-index c.test-item.result (omega arith) c.tests.invariant (subst (Passes job program) c.test-item.is passed)

pub returns : goal.returns
returns c =
    let job = job_of c.args.job.now in
    let all = All-same (Passes job (tree_of c.args.program.now)) c.deref-tests.result.now _ (sym (take_all c.tests.test-index c.deref-tests.result.now (omega arith))) c.tests.invariant in
    search rules
