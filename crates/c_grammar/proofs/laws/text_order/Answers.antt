use Rattle.c_grammar.proofs.ProgramOrder.{program_in_order}
use Rattle.c_grammar.proofs.laws.text_order.Goals as goal

pub returns : goal.returns
returns c = program_in_order
