use Rattle.c_replace.proofs.Replaced.{replaceable}
use Rattle.c_replace.proofs.laws.tokens_replaced.Goals as goal

pub returns : goal.returns
returns c = λ r end a p l d rise among.
    replaceable r end a p l d rise
    (c.each_names_one_place.ensures 0 end p l (c.text_order.ensures r end a p rise d) among)
