use Rattle.std.proofs.Common.{◌+◌, ◌-◌, ◌*◌}
use Rattle.c_grammar.specs.ProgramDescent.{items, under}
use Rattle.c_parse.specs.Gives.{body}
use Rattle.c_parse.proofs.Turns.{ItemsRead}
use Rattle.c_parse.proofs.statement.+statement.Given as goal

abbrev pub decreases-parse_inner_statement : goal.decreases-parse_inner_statement
decreases-parse_inner_statement l = 8 * l.outside

abbrev pub decreases-parse_boxed_statement : goal.decreases-parse_boxed_statement
decreases-parse_boxed_statement l = 8 * l.outside + 1

abbrev pub decreases-parse_block_item : goal.decreases-parse_block_item
decreases-parse_block_item l = 8 * l.outside + 1

abbrev pub decreases-parse_block_items : goal.decreases-parse_block_items
decreases-parse_block_items l = 8 * l.outside + 2

abbrev pub decreases-parse_block : goal.decreases-parse_block
decreases-parse_block l = 8 * l.cursor.now.room + 3

abbrev pub decreases-parse_if : goal.decreases-parse_if
decreases-parse_if l = 8 * l.cursor.now.room + 3

abbrev pub decreases-parse_while : goal.decreases-parse_while
decreases-parse_while l = 8 * l.cursor.now.room + 3

abbrev pub decreases-parse_do : goal.decreases-parse_do
decreases-parse_do l = 8 * l.cursor.now.room + 3

abbrev pub decreases-parse_for : goal.decreases-parse_for
decreases-parse_for l = 8 * l.cursor.now.room + 3

abbrev pub decreases-parse_statement : goal.decreases-parse_statement
decreases-parse_statement l = 8 * l.cursor.now.room + 4

abbrev pub invariant-parse_block_items-loop-turn : goal.invariant-parse_block_items-loop-turn
invariant-parse_block_items-loop-turn l =
    ItemsRead (under l.outside) (items (under l.outside) l.fn.cursor.room l.fn.cursor.rest.now) (body l.items) (l._turn-end - l._turn) l.fn.cursor.room
    l.cursor.rest.now
