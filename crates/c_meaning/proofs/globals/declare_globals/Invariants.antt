use Rattle.std.proofs.Common.{◌≡◌, drop}
use Rattle.c_tree.specs.Views.{variables}
use Rattle.c_meaning.specs.Own.{own_globals}
use Rattle.c_meaning.proofs.globals.declare_globals.Given as goal

-- what is left does the rest
abbrev pub invariant-loop-declarator : goal.invariant-loop-declarator
invariant-loop-declarator l = own_globals l.context l.ty (variables l.declarators) l.fn.state ≡ own_globals l.context l.ty (variables (drop l.declarator-index l.declarators)) l.state
