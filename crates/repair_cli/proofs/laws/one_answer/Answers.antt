use Rattle.repair_cli.proofs.Accepting.{one_program, one_fault, one_refusal, never_both}
use Rattle.repair_cli.proofs.Agreeing.{one_reply, one_suite, one_suite_fault, one_suite_refusal, never_both_of_suite}
use Rattle.repair_cli.proofs.laws.one_answer.Goals as goal

pub returns-clause-program : goal.returns-clause-program
returns-clause-program c = one_program

pub returns-clause-fault : goal.returns-clause-fault
returns-clause-fault c = one_fault

pub returns-clause-refusal : goal.returns-clause-refusal
returns-clause-refusal c = one_refusal

pub returns-clause-either : goal.returns-clause-either
returns-clause-either c = never_both

pub returns-clause-suite_tests : goal.returns-clause-suite_tests
returns-clause-suite_tests c = one_suite

pub returns-clause-suite_fault : goal.returns-clause-suite_fault
returns-clause-suite_fault c = one_suite_fault

pub returns-clause-suite : goal.returns-clause-suite
returns-clause-suite c = one_suite_refusal

pub returns-clause-suite_either : goal.returns-clause-suite_either
returns-clause-suite_either c = never_both_of_suite

pub returns-clause-reply : goal.returns-clause-reply
returns-clause-reply c = one_reply
