-- Refusals of steps that follow one another.
use Rattle.std.proofs.Common.{◌≡◌, ◌≢◌, ℕ, ◌+◌, Bool, true, false, cond, List, [], ◌∷◌, ◌++◌, Result, Ok, Err, refl, sym, ap, ◌∙◌, append_assoc}
use Rattle.test_suite.specs.Faults.{Causes}
use Rattle.test_suite.specs.Suite.{and_then, mapped}
use Rattle.test_suite.specs.declared.fault.SuiteFault.{SuiteFault}
use Rattle.test_suite.specs.declared.fault.SuiteFault.TheVariants.{NoMemory}

-- memory ran out
pub no_memory : {T : Type 0} {stated : Result T SuiteFault} {fault : SuiteFault} → fault ≡ NoMemory → Causes stated fault
no_memory e = record { is_stated = λ n. absurd (n e) }

-- the fault is the one that is stated
pub is_fault : {T : Type 0} {stated : Result T SuiteFault} {fault : SuiteFault} → stated ≡ Err fault → Causes stated fault
is_fault e = record { is_stated = λ _. e }

-- the same of what is stated in other words
pub same_fault : {T : Type 0} {first second : Result T SuiteFault} {fault : SuiteFault} → first ≡ second → Causes second fault → Causes first fault
same_fault e c = record { is_stated = λ n. e ∙ c.is_stated n }

module _ {A B : Type 0} (next : A → Result B SuiteFault) where
  -- the first step is refused
  pub first_refused : {x : Result A SuiteFault} {fault : SuiteFault} → Causes x fault → Causes (and_then x next) fault
  first_refused c = record { is_stated = λ n. ap (λ x. and_then x next) (c.is_stated n) }

  -- the first step gives something, and the next one is refused
  pub next_refused : {x : Result A SuiteFault} {a : A} {fault : SuiteFault} → x ≡ Ok a → Causes (next a) fault → Causes (and_then x next) fault
  next_refused e c = record { is_stated = λ n. ap (λ x. and_then x next) e ∙ c.is_stated n }

  -- the first step gives something, and so does the next one
  pub next_given : {x : Result A SuiteFault} {a : A} {y : Result B SuiteFault} → x ≡ Ok a → next a ≡ y → and_then x next ≡ y
  next_given e d = ap (λ x. and_then x next) e ∙ d

pub map_refused : {A B : Type 0} (change : A → B) {x : Result A SuiteFault} {fault : SuiteFault} → Causes x fault → Causes (mapped change x) fault
map_refused change c = record { is_stated = λ n. ap (mapped change) (c.is_stated n) }
