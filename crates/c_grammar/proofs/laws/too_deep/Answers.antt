use Rattle.c_grammar.proofs.TooDeep.{deep_passes, passes_deep}
use Rattle.c_grammar.proofs.laws.too_deep.Goals as goal

pub returns : goal.returns
returns c = record { passes = deep_passes; refused = passes_deep }
