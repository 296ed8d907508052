use Rattle.std.proofs.Common.{length}
use Rattle.c_lex.proofs.Sources.{spans_rise}
use Rattle.c_reread.proofs.Again.{read_again}
use Rattle.c_reread.proofs.laws.texts_read_again.Goals as goal

pub returns : goal.returns
returns c = λ source tokens r p l lexes derives among.
    read_again c.cut_into_its_tokens.ensures c.makes_no_trigraph.ensures c.tokens_derive_it.ensures
    c.replaceable.ensures c.tokens_changed.ensures source tokens p l lexes
    (c.tokens_replaced.ensures r (length source) tokens p l derives
    (spans_rise source tokens lexes) among)
