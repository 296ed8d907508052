use Rattle.repair_cli.proofs.Judged.{every_source, every_suite}
use Rattle.repair_cli.proofs.laws.all_are_judged.Goals as goal

pub returns-clause-source : goal.returns-clause-source
returns-clause-source c = every_source

pub returns-clause-suite : goal.returns-clause-suite
returns-clause-suite c = every_suite
