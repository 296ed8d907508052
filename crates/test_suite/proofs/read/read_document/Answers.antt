use Rattle.std.proofs.Common.{Ok, Err, ◌∙◌, sym, ap, true≢false}
use Rattle.test_suite.specs.Suite.{value_in}
use Rattle.test_suite.proofs.Documents.{document-utf8, document-refused}
use Rattle.test_suite.proofs.Refusals.{is_fault}
use Rattle.test_suite.proofs.read.read_document.Goals as goal

pub returns-in-Ok-clause-ok : goal.returns-in-Ok-clause-ok
returns-in-Ok-clause-ok c = let found = c.in-Ok.ensures.ok in ap value_in (document-utf8 c.args.bytes.now found.0 ∙ found.1)

pub returns-in-Err-2-clause-err : goal.returns-in-Err-2-clause-err
returns-in-Err-2-clause-err c =
    let told = rw c.if-is_memory.false at c.is_memory.ensures in
    is_fault (ap value_in (document-refused c.args.bytes.now (c.in-Err.ensures.err (λ memory. true≢false (sym (told.1 memory))))))
