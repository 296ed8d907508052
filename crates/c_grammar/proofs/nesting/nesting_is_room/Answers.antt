use Rattle.c_grammar.proofs.ExpressionNesting.{nesting_after}
use Rattle.c_grammar.proofs.OpenerTerminals.{openers_open}
use Rattle.c_grammar.proofs.ProgramLowered.{nesting_suffices}
use Rattle.c_grammar.proofs.ProgramNesting.{room_used}
use Rattle.c_grammar.proofs.ProgramUnique.{program_unique, nesting_at_most}
use Rattle.c_grammar.proofs.nesting.nesting_is_room.Goals as goal

pub returns : goal.returns
returns c = record { used = room_used; one = program_unique; within = nesting_at_most; enough = nesting_suffices; opens = openers_open; after = nesting_after }
