-- Counts of failures, which are kept in a u64.
use Rattle.std.specs.Prelude.{◌⊎◌, ℕ, ◌+◌, ◌<◌, ◌≤◌, min}

-- the count rose: it is greater than it was, or it stands at the last value of a u64 and can rise no more
abbrev pub Rose : ℕ → ℕ → Type 0
Rose before now = (before < now) ⊎ (18446744073709551615 ≤ now)

-- one more, or the last value of a u64
abbrev pub one_more : ℕ → ℕ
one_more n = min (n + 1) 18446744073709551615
