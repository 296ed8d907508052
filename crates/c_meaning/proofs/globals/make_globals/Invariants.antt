use Rattle.std.proofs.Common.{◌≡◌, map, drop}
use Rattle.c_tree.specs.Views.{outer}
use Rattle.c_meaning.specs.Meaning.{make_globals as globals_in, no_hole}
use Rattle.c_meaning.specs.Own.{outers, own_calls, own_make_globals}
use Rattle.c_meaning.proofs.globals.make_globals.Given as goal

-- what is left does the rest
abbrev pub invariant-loop-external : goal.invariant-loop-external
invariant-loop-external l = own_make_globals l.context l.fn.state ≡ globals_in no_hole (outers l.context) (own_calls l.context) (map outer (drop l.external-index l.context.externals.now)) l.state
