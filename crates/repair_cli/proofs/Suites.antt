-- The limit that a suite states is one that a run can have.
use Rattle.std.proofs.Common.{◌≡◌, ℕ, Bool, true, false, ◌||◌, ◌==◌, nat_lt, List, Option, Some, None, Result, Ok, Err, refl, ap, subst, arith}
use Rattle.std.specs.Prelude.{if◌then◌else◌, codes}
use Rattle.std.proofs.lemmas.Bool.Decides.{nat_tests}
use Rattle.c_stdio.specs.declared.test.Test.{Test}
use Rattle.test_suite.specs.Suite.{and_then, mapped, default_limit, valid_limit, limit_in, list_in, tests_from, has, number_at, value_in, document, Stated, stated_in, stated}
use Rattle.test_suite.specs.declared.fault.SuiteFault.{SuiteFault}
use Rattle.test_suite.specs.declared.fault.SuiteFault.TheVariants.{BadLimit}
use Rattle.repair_cli.specs.Jobs.{IsLimit}

-- two steps that came to something: so did the first, and the second after it
after_both : {A B : Type 0} (x : Result A SuiteFault) (next : A → Result B SuiteFault) (b : B) → and_then x next ≡ Ok b
    → (a : A) × (x ≡ Ok a) × (next a ≡ Ok b)
after_both (Ok a) next b e = (a, refl, e)
after_both (Err f) next b e = absurd (cc)

-- a step whose value was changed
changed : {A B : Type 0} (f : A → B) (x : Result A SuiteFault) (b : B) → mapped f x ≡ Ok b → (a : A) × (f a ≡ b)
changed f (Ok a) b e = (a, cc)
changed f (Err fault) b e = absurd (cc)

-- a number that isn't 0 and not above the most
in_range : (n : ℕ) → (n == 0 || nat_lt 10000000 n) ≡ false → IsLimit n
in_range n e = record { some = grind (arith, nat_tests); most = grind (arith, nat_tests) }

valid_range : (o : Option ℕ) (l : ℕ) → valid_limit o ≡ Ok l → IsLimit l
valid_range None l e = absurd (cc)
valid_range (Some n) l e = by_test (n == 0 || nat_lt 10000000 n) refl e
  where
    by_test : (b : Bool) → (n == 0 || nat_lt 10000000 n) ≡ b → (if b then Err BadLimit else Ok n) ≡ Ok l → IsLimit l
    by_test true is e = absurd (cc)
    by_test false is e = let same : n ≡ l = cc in subst IsLimit same (in_range n is)

same_number : (r : Result ℕ SuiteFault) (m n : ℕ) → r ≡ Ok m → r ≡ Ok n → m ≡ n
same_number r m n x y = cc

default_range : (r : Result ℕ SuiteFault) (l : ℕ) → r ≡ Ok default_limit → r ≡ Ok l → IsLimit l
default_range r l x e = let same : 100000 ≡ l = same_number r 100000 l x e in record { some = omega (arith, same); most = omega (arith, same) }

-- the limit of a suite that has one, or has none
limit_range : (b : Bool) (o : Option ℕ) (l : ℕ) → (if b then valid_limit o else Ok default_limit) ≡ Ok l → IsLimit l
limit_range true o l e = valid_range o l e
limit_range false o l e = default_range (Ok default_limit) l refl e

-- the limit of a suite that bytes state
pub stated_range : (bytes : List ℕ) (s : Stated) → stated bytes ≡ Ok s → IsLimit s.limit
stated_range bytes s e =
    let value = after_both (value_in (document bytes)) stated_in s e in
    let list = after_both (list_in value.0) (λ items. and_then (limit_in value.0) (λ limit. mapped (λ tests. record { tests = tests; limit = limit }) (tests_from 0 items))) s value.2 in
    let limit = after_both (limit_in value.0) (λ l. mapped (λ (tests : List Test). record { tests = tests; limit = l }) (tests_from 0 list.0)) s list.2 in
    let made = changed (λ (tests : List Test). record { tests = tests; limit = limit.0 }) (tests_from 0 list.0) s limit.2 in
    subst IsLimit (ap (λ (x : Stated). x.limit) made.1) (limit_range (has (codes "limit") value.0) (number_at (codes "limit") value.0) limit.0 limit.1)
