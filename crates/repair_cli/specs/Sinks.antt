-- What a call leaves on a sink.
use Rattle.std.specs.Prelude.{◌≡◌, ◌⊎◌, ℕ, ◌<◌, List, length, take, Option}
use Rattle.fx_io.specs.Faults.{Rose}
use Rattle.fx_io.specs.Written.{appended}

-- what is seen of a sink before and after a call: its count of failures, and its bytes where they
-- are known
pub record Seen : Type 0 where
  pub faults : ℕ
  pub faults_after : ℕ
  pub bytes : Option (List ℕ)
  pub bytes_after : Option (List ℕ)

-- this is seen of a sink, by what gives its count and its bytes
abbrev pub seen : {S : Type 0} → (S → ℕ) → (S → Option (List ℕ)) → S → S → Seen
seen faults bytes before after =
    record {
      faults = faults before;
      faults_after = faults after;
      bytes = bytes before;
      bytes_after = bytes after;
    }

-- exactly these bytes were appended, where the sink's bytes are known
abbrev pub Appends : Seen → List ℕ → Type 0
Appends sink bytes = sink.bytes_after ≡ appended sink.bytes bytes

-- exactly these bytes were written: no write failed, and they were appended
pub record Takes (sink : Seen) (bytes : List ℕ) : Type 0 where
  pub steady : sink.faults_after ≡ sink.faults
  pub added : Appends sink bytes

-- a prefix of these bytes was appended, and not all, where the sink's bytes are known
abbrev pub AppendsPrefix : Seen → List ℕ → Type 0
AppendsPrefix sink bytes = (n : ℕ) × (n < length bytes) × Appends sink (take n bytes)

-- the write of these bytes failed: the count rose, and a prefix of them was appended, and not all
pub record Breaks (sink : Seen) (bytes : List ℕ) : Type 0 where
  pub rose : Rose sink.faults sink.faults_after
  pub some : AppendsPrefix sink bytes

-- these bytes were written, or their write failed
abbrev pub TakesOrBreaks : Seen → List ℕ → Type 0
TakesOrBreaks sink bytes = Takes sink bytes ⊎ Breaks sink bytes
