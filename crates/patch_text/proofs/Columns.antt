-- The bounds of the line and the column of a place.
use Rattle.std.proofs.Common.{ℕ, ◌≤◌, ◌+◌, List, take, not, ◌==◌, arith}
use Rattle.std.proofs.lemmas.List.{length-take}
use Rattle.std.proofs.lemmas.List.Sums.{suffix_len-le-length}
use Rattle.patch_text.specs.Lines.{column_of}

-- no column is beyond the place
pub column_within : (bytes : List ℕ) (place : ℕ) → column_of bytes place ≤ place + 1
column_within bytes place =
    let behind = suffix_len-le-length (λ b. not (b == 10)) (take place bytes) in
    omega (arith, behind, length-take place bytes)
