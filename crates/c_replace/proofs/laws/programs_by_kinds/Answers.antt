use Rattle.c_replace.proofs.Replaced.{program_by_kinds}
use Rattle.c_replace.proofs.laws.programs_by_kinds.Goals as goal

pub returns : goal.returns
returns c = λ r end a p d rise.
    program_by_kinds r end a p d rise
    (λ l among. c.each_names_one_place.ensures 0 end p l (c.text_order.ensures r end a p rise d) among)
    c.nothing_elsewhere.ensures
