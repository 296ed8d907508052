use Rattle.std.proofs.Common.{◌≡◌, ◌+◌, map, drop}
use Rattle.c_tree.specs.Views.{outer}
use Rattle.interp_code.specs.Compile.{place_of as place_in}
use Rattle.interp_code.proofs.calls.place_of.Given as goal

-- it is counted from here on
abbrev pub invariant-loop-at : goal.invariant-loop-at
invariant-loop-at l = place_in l.word (map outer l.externals) ≡ l.at + place_in l.word (map outer (drop l.at l.externals))
