use Rattle.std.proofs.Common.{◌-◌, map}
use Rattle.c_tree.specs.Views.{tree}
use Rattle.c_grammar.specs.Terminals.{is_close_brace}
use Rattle.c_grammar.specs.declared.nonterminal.Nonterminal.TheVariants.{Assignment}
use Rattle.c_grammar.specs.Descent.{all_listed}
use Rattle.c_grammar.specs.ProgramDescent.{value}
use Rattle.c_parse.proofs.Turns.{ListRead}
use Rattle.c_parse.proofs.declaration.parse_initializer_list.Given as goal

abbrev pub invariant-loop-turn : goal.invariant-loop-turn
invariant-loop-turn l =
    ListRead is_close_brace (value Assignment l.fn.cursor.room)
    (all_listed is_close_brace (value Assignment l.fn.cursor.room) l.fn.cursor.room l.fn.cursor.rest.now) (map tree l.elements.items) (l._turn-end - l._turn)
    l.cursor.room l.cursor.rest.now
