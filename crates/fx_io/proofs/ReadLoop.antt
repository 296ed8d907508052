-- What the loop of a whole read keeps, and what it comes to.
use Rattle.std.proofs.Common.{◌≡◌, ℕ, ◌<◌, ◌≤◌, List, ◌++◌, length, refl, ap, arith, length-append}
use Rattle.std.specs.Prelude.{Option, Some, None, IfSome}
use Rattle.fx_io.specs.Held.{IsLeft}

-- the files stay the same, and what was left at first is what was read and what is left now
pub record ReadsSoFar (is_same is_chosen : Type 0) (faults faults_now : ℕ) (was_sure is_sure : Type 0) (first now : Option (List ℕ)) (bytes : List ℕ) : Type 0 where
  pub same : is_same
  pub chosen : is_chosen
  pub later : faults ≤ faults_now
  pub sure : was_sure → is_sure
  pub left : IfSome first (λ whole. (rest : List ℕ) × (now ≡ Some rest) × (whole ≡ bytes ++ rest))

-- where more than cap bytes were read, what was left at first is longer
pub longer : (first now : Option (List ℕ)) (bytes : List ℕ) (cap : ℕ) → IfSome first (λ whole. (rest : List ℕ) × (now ≡ Some rest) × (whole ≡ bytes ++ rest)) → cap < length bytes → (all : List ℕ) × IsLeft first all × (cap < length all)
longer None now bytes cap left more = (bytes, tt, more)
longer (Some whole) now bytes cap left more = (whole, refl, omega (arith, ap length left.2, length-append bytes left.0))
