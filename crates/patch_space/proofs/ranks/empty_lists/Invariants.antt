use Rattle.std.proofs.Common.{◌≡◌, ℕ, ◌<◌, [], Some, length}
use Rattle.std.specs.Prelude.{slice_get}
use Rattle.patch_space.specs.Ranks.{lists}
use Rattle.patch_space.proofs.ranks.empty_lists.Given as goal

-- so many lists are there, and each is empty
abbrev pub invariant-loop : goal.invariant-loop
invariant-loop l = (length l.at.items ≡ l.counter) × ((k : ℕ) → k < l.counter → slice_get (lists l.at.items) k ≡ Some [])
