-- What the loop of a whole write keeps.
use Rattle.std.proofs.Common.{◌≡◌, ℕ, ◌+◌, ◌-◌, ◌<◌, ◌≤◌, List, ◌++◌, length, take, drop, refl, sym, ap, ◌∙◌, arith, append_assoc, length-drop}
use Rattle.std.specs.Prelude.{Option, Some, None}
use Rattle.std.proofs.Math.Seq.{take-add}
use Rattle.fx_io.specs.Written.{appended}

-- what was appended to appended bytes is appended to the first
appended-appended : (first : Option (List ℕ)) (a b : List ℕ) → appended (appended first a) b ≡ appended first (a ++ b)
appended-appended None a b = refl
appended-appended (Some w) a b = ap Some (append_assoc w a b)

-- the front of the bytes was appended, and no write failed
pub record WritesSoFar (first now : Option (List ℕ)) (faults faults_now room room_now : ℕ) (bytes : List ℕ) (from : ℕ) : Type 0 where
  pub within : from ≤ length bytes
  pub steady : faults_now ≡ faults
  pub written : now ≡ appended first (take from bytes)
  pub sure : length bytes ≤ room → room_now + from ≡ room

-- a write took n bytes of the rest
pub wrote : (first mid last : Option (List ℕ)) (bytes piece : List ℕ) (from n f0 f1 f2 r0 r1 r2 : ℕ) → piece ≡ drop from bytes → WritesSoFar first mid f0 f1 r0 r1 bytes from → from < length bytes → n ≤ length piece
    → last ≡ appended mid (take n piece) → f2 ≡ f1 → (0 < length piece → length piece ≤ r1 → r2 + n ≡ r1) → WritesSoFar first last f0 f2 r0 r2 bytes (from + n)
wrote first mid last bytes piece from n f0 f1 f2 r0 r1 r2 cut h lt le is steady sure =
    let len : length piece ≡ length bytes - from = ap length cut ∙ length-drop from bytes in
    record {
      within = omega (arith, len, h.within);
      steady = steady ∙ h.steady;
      written = is ∙ ap (λ m. appended m (take n piece)) h.written ∙ appended-appended first (take from bytes) (take n piece) ∙ ap (λ p. appended first (take from bytes ++ take n p)) cut ∙ ap (appended first) (sym (take-add from n bytes));
      sure = λ fits. let s = h.sure fits in let t = sure (omega (arith, len)) (omega (arith, len, s)) in omega (arith, s, t);
    }
