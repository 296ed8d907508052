use Rattle.std.proofs.Common.{◌≡◌, ◌-◌}
use Rattle.c_meaning.specs.Meaning.{store_zeros}
use Rattle.c_meaning.proofs.bind.store_zeros.Given as goal

-- the cells that are left get the zeros
abbrev pub invariant-loop-at : goal.invariant-loop-at
invariant-loop-at l = store_zeros l.slot l.from (l.to - l.from) l.fn.state ≡ store_zeros l.slot l.at (l.to - l.at) l.state
