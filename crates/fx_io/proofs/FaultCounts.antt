-- Counts of failures over several calls.
use Rattle.std.proofs.Common.{ℕ, ◌≤◌, inl, inr, arith}
use Rattle.fx_io.specs.Faults.{Rose}

-- a count that rose later has risen since an earlier time
pub Rose-later : (a b c : ℕ) → a ≤ b → Rose b c → Rose a c
Rose-later a b c le rose = elim rose [ inl more ↦ inl (omega arith) | inr last ↦ inr last ]

-- a count that rose and never falls stays risen
pub Rose-stays : (a b c : ℕ) → Rose a b → b ≤ c → Rose a c
Rose-stays a b c rose le = elim rose [ inl more ↦ inl (omega arith) | inr last ↦ inr (omega arith) ]
