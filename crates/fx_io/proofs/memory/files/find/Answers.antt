use Rattle.std.proofs.Common.{sym, ◌∙◌}
use Rattle.std.proofs.lemmas.Slice.Eq.{bytes_eq-Decides}
use Rattle.fx_io.proofs.FileSearch.{found}
use Rattle.fx_io.proofs.memory.files.find.Goals as goal

pub returns-then-eq : goal.returns-then-eq
returns-then-eq c =
    let file = c.index-files-i.result in
    let same = (bytes_eq-Decides c.as_str.result.now c.args.name.now).0 (sym c.eq.ensures ∙ c.if-eq.true) in
    found c.args.files.now c.args.name.now c.each.i file
    c.each-test.true
    c.index-files-i.is
    (sym c.as_str.ensures.value ∙ same)
    c.each.invariant
