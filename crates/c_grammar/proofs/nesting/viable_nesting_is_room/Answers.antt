use Rattle.c_grammar.proofs.BegunLowered.{viable_nesting_suffices, viable_deep}
use Rattle.c_grammar.proofs.ViableNesting.{viable_room_used, viable_nesting_within}
use Rattle.c_grammar.proofs.NestingAt.{one_nesting, program_nesting}
use Rattle.c_grammar.proofs.nesting.viable_nesting_is_room.Goals as goal

pub returns : goal.returns
returns c = record { used = viable_room_used; within = viable_nesting_within; enough = viable_nesting_suffices; deeper = viable_deep; one = one_nesting; program = program_nesting }
