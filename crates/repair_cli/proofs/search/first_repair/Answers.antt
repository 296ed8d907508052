use Rattle.std.proofs.Common.{rules, arith, sym, ap, length}
use Rattle.std.proofs.lemmas.List.{take_all}
use Rattle.std.proofs.lemmas.List.Elements.{All-same}
use Rattle.c_types.specs.Shown.{tree_of}
use Rattle.repair_job.specs.Answers.{Repairs}
use Rattle.repair_job.specs.Job.{PassesAll}
use Rattle.repair_job.specs.Patches.{patches}
use Rattle.repair_cli.specs.Jobs.{job_of}
use Rattle.repair_cli.proofs.Searching.{first_found, not_found_yet}
use Rattle.repair_cli.proofs.search.first_repair.Goals as goal

pub returns-then-branch : goal.returns-then-branch
returns-then-branch c =
    let job = job_of c.args.job.now in
    let passes : PassesAll job (tree_of c.in_ok-other.other) = c.in_ok-passes_all.ensures.0 c.if-branch.true in
    first_found job (tree_of c.in_ok-other.other) c.ranks.rank c.in_ok-other.ensures passes c.ranks.invariant

pub ranks-preserved : goal.ranks-preserved
ranks-preserved c =
    let job = job_of c.args.job.now in
    let fails : ¬ PassesAll job (tree_of c.in_ok-other.other) = search rules in
    not_found_yet job (tree_of c.in_ok-other.other) c.ranks.rank c.in_ok-other.ensures fails c.ranks.invariant

pub returns : goal.returns
returns c =
    let job = job_of c.args.job.now in
    let count = ap length c.requires.tried.ranked in
    let all = take_all c.ranks.rank (patches job) (omega (arith, count)) in
    All-same (λ patch. ¬ Repairs job patch) (patches job) _ (sym all) c.ranks.invariant
